-- The header tells how many records there are, and where the text bytes begin.
use Rattle.std.proofs.Common.{◌≡◌, length, Some, ap, ◌∙◌, arith, rules}
use Rattle.std.proofs.lemmas.List.{places}
use Rattle.image.specs.Bytes.{records_from}
use Rattle.table.specs.Naming.{tokens_of}
use Rattle.numbering.proofs.Limits.{all_limited}
use Rattle.program.specs.Views.{spelled}
use Rattle.program.proofs.Cards.{got_ok, as_read, not_read}
use Rattle.program.proofs.Records.{all_known, one_unknown}
use Rattle.program.proofs.program.Program.read.Goals as goal
use Rattle.program.proofs.program.Program.read.Goals.{In_ok-header, In_ok-ok, After-from_residual-in_err-ok}

pub returns-in_err-ok : goal.returns-in_err-ok
returns-in_err-ok c =
    let told = rw (got_ok c.in_ok-header.ensures.value) at c.of.ensures in
    let n = c.in_ok-header.header.records in
    ap spelled c.from_residual-in_err-ok.ensures
    ∙ not_read c.args.image.now n told.verdict told.counts.0 (one_unknown c.args.image.now n (omega arith) _ _ _ c.new.ensures.0 c.new.ensures.1 (search (rules, places)) _ c.tokens_of.result c.tokens_of.ensures c.in_err-ok.ensures.value)

known : (c : goal.In_ok-ok) → tokens_of (records_from c.args.image.now 9 c.in_ok-header.header.records) ≡ Some c.tokens_of.new.tokens
known c =
    let told = rw (got_ok c.in_ok-header.ensures.value) at c.of.ensures in
    all_known c.args.image.now c.in_ok-header.header.records (omega arith) _ _ _ c.new.ensures.0 c.new.ensures.1 (search (rules, places)) _ c.tokens_of.result c.tokens_of.ensures c.in_ok-ok.ensures.value

pub invariant_of-on_card : goal.invariant_of-on_card
invariant_of-on_card c =
    let told = rw (got_ok c.in_ok-header.ensures.value) at c.of.ensures in
    let long : length c.tokens_of.new.tokens ≡ c.in_ok-header.header.records = c.tokens_of.auto.tokens ∙ search (rules, places) in
    record { few = omega arith; limited = ∣ all_limited (records_from c.args.image.now 9 c.in_ok-header.header.records) _ (known (goal.at.invariant_of-on_card c).In_ok-ok) ∣₁ }

pub returns : goal.returns
returns c =
    let told = rw (got_ok c.in_ok-header.ensures.value) at c.of.ensures in
    c.on_card.ensures ∙ as_read c.args.image.now c.in_ok-header.header.records told.verdict told.counts.0 _ (known (goal.at.returns c).In_ok-ok)
