-- The arms stand behind the first part.
use Rattle.std.proofs.Common.{◌+◌, length, sym, ◌∙◌, ap, refl, arith}
use Rattle.machine.specs.Machine.{of_cell, of_enum}
use Rattle.constructs.specs.Celled.{enum_of}
use Rattle.constructs.proofs.Moves.{node_of, stuck_did, unbound}
use Rattle.constructs.proofs.Celled.{values_few}
use Rattle.constructs.proofs.Armed.{next_arms, match_none, match_not, match_did}
use Rattle.constructs.proofs.whole.Whole.matching.Goals as goal

pub returns-in_err-v : goal.returns-in_err-v
returns-in_err-v g c most =
    let n = node_of c.requires in
    stuck_did c.args.self.now.program.now c.args.self.now.wait.now most c.args.entries.now (g.S.Store.cells c.args.store.now) _ c.from_residual.ensures (rw (n.2, ← c.in_err-v.ensures))

pub returns-in_err-value : goal.returns-in_err-value
returns-in_err-value g c most =
    let n = node_of c.requires in
    let cs = g.S.Store.cells c.args.store.now in
    stuck_did c.args.self.now.program.now c.args.self.now.wait.now most c.args.entries.now cs _ c.from_residual-in_err-value.ensures (rw (n.2, ← c.in_ok-v.ensures) (unbound (of_cell cs c.in_ok-v.v) of_enum _ c.in_err-value.ensures))

pub arm_for-requires : goal.arm_for-requires
arm_for-requires g c =
    let n = node_of c.requires in
    (next_arms c.args.self.now.program.now c.args.self.now.wait.now.job.at c.end-from.result c.end-from.ensures n.1).1

pub returns-in_err-arm : goal.returns-in_err-arm
returns-in_err-arm g c most =
    let k = c.args.self.now.program.now in
    let value = c.in_ok-value.value in
    let n = node_of c.requires in
    let q = (next_arms k c.args.self.now.wait.now.job.at c.end-from.result c.end-from.ensures n.1).0 in
    let a = rw q at c.in_err-arm.ensures in
    stuck_did k c.args.self.now.wait.now most c.args.entries.now (g.S.Store.cells c.args.store.now) _ c.from_residual-in_err-arm.ensures
    (match_none k c.args.self.now.wait.now (g.S.Store.cells c.args.store.now) _ _ n.2 c.in_ok-v.v (enum_of value) c.in_ok-v.ensures c.in_ok-value.ensures c.args.entries.now a most)

pub returns-then-fields-arm : goal.returns-then-fields-arm
returns-then-fields-arm g c most =
    let k = c.args.self.now.program.now in
    let value = c.in_ok-value.value in
    let n = node_of c.requires in
    let q = (next_arms k c.args.self.now.wait.now.job.at c.end-from.result c.end-from.ensures n.1).0 in
    let a = rw q at c.in_ok-arm.ensures in
    stuck_did k c.args.self.now.wait.now most c.args.entries.now (g.S.Store.cells c.args.store.now) _ refl
    (match_not k c.args.self.now.wait.now (g.S.Store.cells c.args.store.now) _ _ n.2 c.in_ok-v.v (enum_of value) c.in_ok-v.ensures c.in_ok-value.ensures c.args.entries.now (c.in_ok-arm.arm, c.in_ok-arm.part) a
    (λ e. c.if-fields-arm.true (ap length c.as_slice-fields.ensures ∙ e)) most)

pub returns : goal.returns
returns g c most =
    let k = c.args.self.now.program.now in
    let w = c.args.self.now.wait.now in
    let value = c.in_ok-value.value in
    let n = node_of c.requires in
    let q = (next_arms k w.job.at c.end-from.result c.end-from.ensures n.1).0 in
    let a = rw q at c.in_ok-arm.ensures in
    let l = ap length c.as_slice-fields.ensures in
    let few = values_few value.fields in
    let b = rw c.as_slice-fields.ensures at c.bind_above.ensures.scope in
    match_did k w (g.S.Store.cells c.args.store.now) _ _ n.2 c.in_ok-v.v (enum_of value) c.in_ok-v.ensures c.in_ok-value.ensures c.args.entries.now c.bind_above.new.entries
    (c.in_ok-arm.arm, c.in_ok-arm.part) (w.job.height + length c.as_slice-fields.result.now) a
    (sym l ∙ c.if-fields-arm.false) c.requires.ready.based (ap (λ m. w.job.height + m) l) (omega arith) c.bind_above.ensures.agree b most
