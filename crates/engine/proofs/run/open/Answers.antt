use Rattle.std.proofs.Common.{◌∙◌, arith}
use Rattle.frames.specs.Stacks.{held}
use Rattle.engine.proofs.Levels.{length_newest}
use Rattle.engine.proofs.Openings.{opens_deep, opens}
use Rattle.engine.proofs.run.open.Goals as goal

pub returns-then-run-eq256-clause-does : goal.returns-then-run-eq256-clause-does
returns-then-run-eq256-clause-does g c =
    let n = length_newest c.args.run.now.stack.frames c.args.run.now.stack.count in
    let a = c.at.ensures in
    rw a (opens_deep c.args.program.now c.args.run.now.entries (held c.args.run.now.stack) c.args.run.now.units (g.S.Store.limit c.args.run.now.store) (g.S.Store.cells c.args.run.now.store) c.args.judgement c.args.run.now.stage c.requires.going c.requires.sound (omega arith))

pub returns-clause-does : goal.returns-clause-does
returns-clause-does g c =
    let n = length_newest c.args.run.now.stack.frames c.args.run.now.stack.count in
    let few = c.args.run.now.stack.few in
    c.enter.ensures.does ∙ opens c.args.program.now c.args.run.now.entries (held c.args.run.now.stack) c.args.run.now.units (g.S.Store.limit c.args.run.now.store) (g.S.Store.cells c.args.run.now.store) c.args.judgement c.args.run.now.stage c.requires.going c.requires.sound (omega arith)
