-- The frame of the judgement goes on, or the comparison has its answer or its fields.
use Rattle.std.proofs.Common.{[], ◌∙◌}
use Rattle.frames.specs.Stacks.{held}
use Rattle.engine.proofs.Levels.{ok_room}
use Rattle.engine.proofs.Openings.{enters}
use Rattle.engine.proofs.run.enter.Goals as goal

pub settle-requires : goal.settle-requires
settle-requires g c = (enters c.args.program.now c.args.run.now.entries (held c.args.run.now.stack) (held c.push.new.self) c.args.run.now.units 0 [] c.in-Of.job c.opened.result (rw c.in-Of.is at c.requires.ok) c.opened.ensures c.push.ensures.list).1

pub returns-in-Of-clause-does : goal.returns-in-Of-clause-does
returns-in-Of-clause-does g c =
    let e = (enters c.args.program.now c.args.run.now.entries (held c.args.run.now.stack) (held c.push.new.self) c.args.run.now.units (g.S.Store.limit c.args.run.now.store) (g.S.Store.cells c.args.run.now.store) c.in-Of.job c.opened.result (rw c.in-Of.is at c.requires.ok) c.opened.ensures c.push.ensures.list).0 in
    rw c.in-Of.is (c.settle.ensures.does ∙ e)

pub hand-requires : goal.hand-requires
hand-requires g c = let o = rw c.in-Same.is at c.requires.ok in ok_room c.args.program.now (held c.args.run.now.stack) o.0 o.1

pub settle-requires-then-hand : goal.settle-requires-then-hand
settle-requires-then-hand g c =
    let o = rw c.in-Same.is at c.requires.ok in
    (c.if-hand.ensures.does c.args.program.now 0 o.0 o.1).1

pub returns-else-hand-clause-sound : goal.returns-else-hand-clause-sound
returns-else-hand-clause-sound g c =
    let o = rw c.in-Same.is at c.requires.ok in
    (c.if-hand.ensures.does c.args.program.now (g.S.Store.limit c.args.run.now.store) o.0 o.1).1
