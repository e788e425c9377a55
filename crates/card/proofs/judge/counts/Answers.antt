-- The card has as many enums and functions as were found.
use Rattle.std.proofs.Common.{ℕ, ◌∙◌, ap₂}
use Rattle.numbering.specs.Views.{tokens_in}
use Rattle.numbering.proofs.Declared.{enums_counted, functions_counted}
use Rattle.card.specs.declared.fault.Counts.{Counts}
use Rattle.card.proofs.judge.counts.Goals as goal

pub returns : goal.returns
returns c t C read =
    let ws = tokens_in c.args.layout.now in
    let counts : ℕ → ℕ → Counts = λ m n. record { enums = m; functions = n } in
    ap₂ counts (c.enums.ensures ∙ enums_counted t ws C read) (c.functions.ensures ∙ functions_counted t ws C read)
