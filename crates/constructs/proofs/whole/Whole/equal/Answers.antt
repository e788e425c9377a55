-- Any two values.
use Rattle.constructs.proofs.Moves.{node_of, still, stuck_did}
use Rattle.constructs.proofs.whole.Whole.equal.Goals as goal

pub returns-in_err-one : goal.returns-in_err-one
returns-in_err-one c most es cs =
    let n = node_of c.requires in
    stuck_did c.args.self.now.program.now c.args.self.now.wait.now most es cs _ c.from_residual.ensures (rw (n.1, ← c.in_err-one.ensures))

pub returns : goal.returns
returns c most es cs =
    let n = node_of c.requires in
    still c.args.self.now.program.now c.args.self.now.wait.now most es cs _ (rw (n.1, ← c.in_ok-one.ensures)) tt
