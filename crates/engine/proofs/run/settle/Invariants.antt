use Rattle.std.proofs.Common.{◌≡◌}
use Rattle.frames.specs.Trees.{setup}
use Rattle.frames.specs.Stacks.{held}
use Rattle.frames.specs.Views.{Carries, carry}
use Rattle.engine.proofs.run.settle.Given as goal

abbrev pub invariant-loop : goal.invariant-loop
invariant-loop g l =
    Carries l.program (held l.run.stack)
    × (g.S.Store.limit l.run.store ≡ g.S.Store.limit l.initial.run.store)
    × (carry l.program (setup l.program (g.S.Store.limit l.initial.run.store)) l.run.entries (held l.run.stack) l.run.units (g.S.Store.cells l.run.store)
    ≡ carry l.program (setup l.program (g.S.Store.limit l.initial.run.store)) l.initial.run.entries (held l.initial.run.stack) l.initial.run.units (g.S.Store.cells l.initial.run.store))

abbrev pub decreases-loop : goal.decreases-loop
decreases-loop g l = l.run.stack.count
