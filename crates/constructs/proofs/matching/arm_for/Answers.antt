-- Arm by arm, each behind the other.
use Rattle.std.proofs.Common.{◌≡◌, None, sym, ap, ◌∙◌, arith}
use Rattle.battery.specs.Rules.{arm_of}
use Rattle.program.specs.Stands.{arms_at}
use Rattle.program.specs.Views.{tokens_in, text_in}
use Rattle.constructs.proofs.Armed.{armed, unarmed, arm_hit, arm_miss, arm_found, next_arms}
use Rattle.constructs.proofs.matching.arm_for.Goals as goal

pub returns-then-case-arm : goal.returns-then-case-arm
returns-then-case-arm c =
    let k = c.args.program.now in
    let h = armed k c.loop-arm.place c.in-Some.arm c.loop-arm.invariant.0 c.in-Some.ensures in
    arm_found k c.loop-arm.place c.in-Some.arm _ h (sym c.loop-arm.invariant.1 ∙ arm_hit k c.loop-arm.place c.args.case c.in-Some.arm h c.if-case-arm.true)

pub loop-arm-smaller : goal.loop-arm-smaller
loop-arm-smaller c =
    let k = c.args.program.now in
    let h = armed k c.loop-arm.place c.in-Some.arm c.loop-arm.invariant.0 c.in-Some.ensures in
    let n = (next_arms k c.loop-arm.place c.end-place.result c.end-place.ensures h.more).0 in
    let w = h.within in let r = h.rises in omega arith

pub loop-arm-preserved : goal.loop-arm-preserved
loop-arm-preserved c =
    let k = c.args.program.now in
    let h = armed k c.loop-arm.place c.in-Some.arm c.loop-arm.invariant.0 c.in-Some.ensures in
    let n = next_arms k c.loop-arm.place c.end-place.result c.end-place.ensures h.more in
    (n.1, ap (λ m. arm_of (arms_at (text_in k) (tokens_in k) m) c.args.case) n.0 ∙ sym (arm_miss k c.loop-arm.place c.args.case c.in-Some.arm h c.if-case-arm.false) ∙ c.loop-arm.invariant.1)

pub returns : goal.returns
returns c =
    let k = c.args.program.now in
    let q : arm_of (arms_at (text_in k) (tokens_in k) c.args.from) c.args.case ≡ None =
    sym c.loop-arm.invariant.1 ∙ ap (λ m. arm_of m c.args.case) (unarmed k c.loop-arm.place c.loop-arm.invariant.0 c.in_default.ensures) in
    rw q tt
