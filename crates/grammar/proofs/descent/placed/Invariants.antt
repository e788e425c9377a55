-- The items so far changed nothing of what is misplaced in all.
use Rattle.std.proofs.Common.{◌≡◌, ◌-◌, ◌^◌, []}
use Rattle.grammar.specs.Grammar.{misplaced}
use Rattle.grammar.specs.Reading.{found_from}
use Rattle.grammar.proofs.descent.placed.Given as goal

abbrev pub invariant-loop-cursor : goal.invariant-loop-cursor
invariant-loop-cursor l = misplaced 0 [] l.tokens ≡ found_from l.cursor []

abbrev pub decreases-loop-cursor : goal.decreases-loop-cursor
decreases-loop-cursor l = 2 ^ 64 - l.cursor.at
