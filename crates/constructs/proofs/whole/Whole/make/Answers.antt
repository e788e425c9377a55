use Rattle.battery.specs.Cell.{enum_cell}
use Rattle.frames.specs.Stacks.{vals}
use Rattle.constructs.proofs.Moves.{node_of}
use Rattle.constructs.proofs.Celled.{put_did}
use Rattle.constructs.proofs.whole.Whole.make.Goals as goal

pub returns-clause-does : goal.returns-clause-does
returns-clause-does g c es =
    let n = node_of c.requires.1 in
    put_did c.args.self.now.program.now c.args.self.now.wait.now (g.S.Store.limit c.args.store.now) c.args.self.now.wait.now.job.at (enum_cell c.args.of c.args.case (vals c.args.self.now.wait.now)) (g.S.Store.cells c.args.store.now) (g.S.Store.cells c.placed.new.store) c.placed.result es (rw n.1)
    c.placed.ensures.does c.placed.ensures.kept
