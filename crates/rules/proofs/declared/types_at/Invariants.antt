use Rattle.few.specs.Listed.{listed}
use Rattle.numbering.specs.Views.{tokens_in}
use Rattle.rules.proofs.Taken.{TakenAt}
use Rattle.rules.proofs.declared.types_at.Given as goal

abbrev pub invariant-loop-place : goal.invariant-loop-place
invariant-loop-place l = TakenAt (tokens_in l.card) l.from l.place (listed l.types)
