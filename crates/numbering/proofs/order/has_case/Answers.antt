-- A case has a place where the card has it.
use Rattle.std.proofs.Common.{is_some, ap, ◌∙◌}
use Rattle.numbering.specs.Views.{tokens_in}
use Rattle.numbering.proofs.There.{matched_there}
use Rattle.numbering.proofs.Declared.{case_at}
use Rattle.numbering.proofs.order.has_case.Goals as goal

pub returns : goal.returns
returns c t C read = c.is_some.ensures ∙ ap is_some c.case.ensures ∙ matched_there (case_at t (tokens_in c.args.layout.now) C read c.args.k c.args.c)
