-- Two numbers, and what is calculated of them.
use Rattle.std.proofs.Common.{◌≡◌, Some, sym, ◌∙◌, w32, SFits, rules}
use Rattle.std.proofs.lemmas.Int.{to_z-of_z}
use Rattle.battery.specs.Rules.{result_of}
use Rattle.frames.specs.Stacks.{vals}
use Rattle.constructs.specs.Values.{two_numbers}
use Rattle.constructs.proofs.Moves.{node_of, still, stuck_did, calculating, calc_is}
use Rattle.constructs.proofs.whole.Whole.calc.Goals as goal

pub returns-in_err-m : goal.returns-in_err-m
returns-in_err-m c most es cs =
    let n = node_of c.requires in
    stuck_did c.args.self.now.program.now c.args.self.now.wait.now most es cs _ c.from_residual.ensures (rw (n.1, calc_is, ← c.in_err-m.ensures))

pub returns : goal.returns
returns c most es cs =
    let n = node_of c.requires in
    let e : Some (c.in_ok-m.m, c.in_ok-m.n) ≡ two_numbers (vals c.args.self.now.wait.now) = c.in_ok-m.ensures in
    let m : SFits w32 c.in_ok-m.m = search rules in
    let k : SFits w32 c.in_ok-m.n = search rules in
    let d = simp to_z-of_z at (c.calculated.ensures c.args.self.now.program.now es cs) in
    still c.args.self.now.program.now c.args.self.now.wait.now most es cs _ (d ∙ sym (rw (n.1, calc_is, ← e)))
    (calculating c.args.self.now.program.now c.args.self.now.wait.now c.args.self.now.wait.now.job.at (result_of c.args.op c.in_ok-m.m c.in_ok-m.n) es cs c.calculated.result d)
