use Rattle.std.proofs.Common.{◌≡◌, ◌-◌}
use Rattle.machine.specs.Machine.{turn}
use Rattle.frames.specs.Trees.{setup}
use Rattle.frames.specs.Views.{Sound, view}
use Rattle.engine.proofs.run.advance.Given as goal

-- the units that are left make of the run what all of them made of it at the beginning
abbrev pub invariant-loop : goal.invariant-loop
invariant-loop g l =
    let S = setup l.program (g.S.Store.limit l.initial.run.store) in
    record {
      sound : Sound l.program l.run;
      most : g.S.Store.limit l.run.store ≡ g.S.Store.limit l.initial.run.store;
      does : turn S (l.units - l.counter) (view g.S.Store.cells l.program l.run) ≡ turn S l.units (view g.S.Store.cells l.program l.initial.run);
    }
