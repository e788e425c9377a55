-- The second part stands behind the first.
use Rattle.std.proofs.Common.{arith}
use Rattle.constructs.proofs.Moves.{node_of, behind_first, still, stuck_did}
use Rattle.constructs.proofs.whole.Whole.sequence.Goals as goal

pub returns-in_err-only : goal.returns-in_err-only
returns-in_err-only c most es cs =
    let n = node_of c.requires in
    stuck_did c.args.self.now.program.now c.args.self.now.wait.now most es cs _ c.from_residual.ensures (rw (n.1, ← c.in_err-only.ensures))

pub returns : goal.returns
returns c most es cs =
    let n = node_of c.requires in
    let e = behind_first c.args.self.now.program.now c.args.self.now.wait.now.job.at c.end.result c.end.ensures in
    still c.args.self.now.program.now c.args.self.now.wait.now most es cs _ (rw (n.1, ← c.in_ok-only.ensures, e)) (rw e n.0.1.0, c.requires.ready.based, omega arith, omega arith)
