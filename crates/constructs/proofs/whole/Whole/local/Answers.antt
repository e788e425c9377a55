-- The name's newest binding, in the entries of the frame's scope.
use Rattle.constructs.proofs.Moves.{node_of, still, stuck_did}
use Rattle.constructs.proofs.whole.Whole.local.Goals as goal

pub returns-in_err-v : goal.returns-in_err-v
returns-in_err-v c most cs =
    let n = node_of c.requires in
    let e = rw c.from.ensures at c.in_err-v.ensures in
    stuck_did c.args.self.now.program.now c.args.self.now.wait.now most c.args.entries.now cs _ c.from_residual.ensures (rw (n, ← e))

pub returns : goal.returns
returns c most cs =
    let n = node_of c.requires in
    let e = rw c.from.ensures at c.in_ok-v.ensures in
    still c.args.self.now.program.now c.args.self.now.wait.now most c.args.entries.now cs _ (rw (n, ← e)) tt
