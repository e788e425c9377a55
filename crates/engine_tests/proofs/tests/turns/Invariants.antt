use Rattle.frames.specs.Views.{Sound}
use Rattle.engine_tests.proofs.tests.turns.Given as goal

abbrev pub invariant-loop : goal.invariant-loop
invariant-loop g l = Sound l.program l.run
