use Rattle.std.proofs.Common.{Some, None}
use Rattle.battery.specs.Cell.{text_cell}
use Rattle.cells.specs.Meaning.{text_of}
use Rattle.constructs.proofs.Moves.{node_of}
use Rattle.constructs.proofs.Celled.{put_did, text_there}
use Rattle.constructs.proofs.whole.Whole.string.Goals as goal

pub returns-in_err-text-clause-does : goal.returns-in_err-text-clause-does
returns-in_err-text-clause-does g c =
    let t = text_there c.args.self.now.program.now c.args.self.now.wait.now.job.at c.args.place c.args.bytes None c.requires.ready.start c.requires.head c.in_err-text.ensures in absurd (cc)

pub returns-clause-does : goal.returns-clause-does
returns-clause-does g c es =
    let n = node_of c.requires in
    let u = text_of c.in_ok-text.text in
    let t = text_there c.args.self.now.program.now c.args.self.now.wait.now.job.at c.args.place c.args.bytes (Some u) c.requires.ready.start c.requires.head c.in_ok-text.ensures in
    put_did c.args.self.now.program.now c.args.self.now.wait.now (g.S.Store.limit c.args.store.now) c.args.self.now.wait.now.job.at (text_cell u) (g.S.Store.cells c.args.store.now) (g.S.Store.cells c.placed.new.store) c.placed.result es (rw n (cc))
    c.placed.ensures.does c.placed.ensures.kept
