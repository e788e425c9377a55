use Rattle.std.proofs.Common.{◌+◌, ◌-◌, sym, refl, ◌∙◌}
use Rattle.frames.specs.Trees.{setup}
use Rattle.frames.specs.Stacks.{held}
use Rattle.frames.specs.Views.{view}
use Rattle.engine.proofs.Openings.{rests, turned}
use Rattle.engine.proofs.run.advance.Goals as goal

pub returns-then-not-step_once-clause-does : goal.returns-then-not-step_once-clause-does
returns-then-not-step_once-clause-does g c =
    let k = c.args.program.now in
    let r = c.step_once.new.run in
    let S = setup k (g.S.Store.limit c.args.run.now.store) in
    let e = rw c.loop.invariant.most at c.step_once.ensures.does in
    let a = c.if-not-step_once.ensures.rest refl in
    sym (rests k r.entries (held r.stack) r.units (g.S.Store.limit c.args.run.now.store) (g.S.Store.cells r.store) r.stage a (c.args.units - (c.loop.counter + 1)))
    ∙ turned S c.loop.counter c.args.units (view g.S.Store.cells k c.loop.run) _ c.loop-test.true e ∙ c.loop.invariant.does

pub loop-preserved : goal.loop-preserved
loop-preserved g c =
    let k = c.args.program.now in
    let S = setup k (g.S.Store.limit c.args.run.now.store) in
    let e = rw c.loop.invariant.most at c.step_once.ensures.does in
    record {
      sound = c.step_once.ensures.sound;
      most = c.step_once.ensures.most ∙ c.loop.invariant.most;
      does = turned S c.loop.counter c.args.units (view g.S.Store.cells k c.loop.run) _ c.loop-test.true e ∙ c.loop.invariant.does;
    }
