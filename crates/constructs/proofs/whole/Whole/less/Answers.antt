-- Two numbers, and their order.
use Rattle.std.proofs.Common.{◌≡◌, Some, w32, SFits, rules}
use Rattle.std.proofs.lemmas.Int.{to_z-of_z}
use Rattle.frames.specs.Stacks.{vals}
use Rattle.constructs.specs.Values.{two_numbers}
use Rattle.constructs.proofs.Moves.{node_of, still, stuck_did, less_is}
use Rattle.constructs.proofs.whole.Whole.less.Goals as goal

pub returns-in_err-m : goal.returns-in_err-m
returns-in_err-m c most es cs =
    let n = node_of c.requires in
    stuck_did c.args.self.now.program.now c.args.self.now.wait.now most es cs _ c.from_residual.ensures (rw (n.1, less_is, ← c.in_err-m.ensures))

pub returns : goal.returns
returns c most es cs =
    let n = node_of c.requires in
    let e : Some (c.in_ok-m.m, c.in_ok-m.n) ≡ two_numbers (vals c.args.self.now.wait.now) = c.in_ok-m.ensures in
    let m : SFits w32 c.in_ok-m.m = search rules in
    let k : SFits w32 c.in_ok-m.n = search rules in
    still c.args.self.now.program.now c.args.self.now.wait.now most es cs _ (rw (n.1, less_is, ← e, to_z-of_z w32 c.in_ok-m.m m, to_z-of_z w32 c.in_ok-m.n k)) tt
