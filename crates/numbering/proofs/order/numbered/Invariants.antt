-- No record was out of order so far, and the counts are those of the tokens before.
use Rattle.std.proofs.Common.{◌≡◌, drop}
use Rattle.numbering.specs.Numbering.{none_seen, misnumbered}
use Rattle.numbering.specs.Views.{tokens_in, OnCard}
use Rattle.numbering.specs.Counts.{counted}
use Rattle.numbering.proofs.There.{Within}
use Rattle.numbering.proofs.order.numbered.Given as goal

abbrev pub invariant-loop-i : goal.invariant-loop-i
invariant-loop-i l =
    Within l.i (counted l.counts)
    × OnCard (tokens_in l.layout) (λ C. misnumbered C l.texts 0 none_seen (tokens_in l.layout) ≡ misnumbered C l.texts l.i (counted l.counts) (drop l.i l.tokens))
