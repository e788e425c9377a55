-- The second part stands behind the first.
use Rattle.std.proofs.Common.{refl, arith}
use Rattle.constructs.proofs.Moves.{node_of, behind_first, stuck_did}
use Rattle.constructs.proofs.whole.Whole.val.Goals as goal

pub returns-in_err-v : goal.returns-in_err-v
returns-in_err-v c most cs =
    let n = node_of c.requires in
    stuck_did c.args.self.now.program.now c.args.self.now.wait.now most c.args.entries.now cs _ c.from_residual.ensures (rw (n.1, ← c.in_err-v.ensures))

pub returns : goal.returns
returns c most cs =
    let n = node_of c.requires in
    let e = behind_first c.args.self.now.program.now c.args.self.now.wait.now.job.at c.end.result c.end.ensures in
    let b = c.bind_above.ensures.scope in
    record {
      does = rw (n.1, ← c.in_ok-v.ensures, e, b);
      kept = refl;
      agree = c.bind_above.ensures.agree;
      leads = (rw e n.0.1.0, omega arith, omega arith, omega arith);
    }
