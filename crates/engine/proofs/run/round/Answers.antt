use Rattle.std.proofs.Common.{true, ◌∷◌, ap, ◌∙◌, arith}
use Rattle.battery.specs.declared.value.Value.TheVariants.{Boolean as boolean_v}
use Rattle.frames.specs.declared.data.Frame.TheVariants.{Passes}
use Rattle.frames.specs.Stacks.{held, below}
use Rattle.engine.proofs.Levels.{length_newest, ok_room}
use Rattle.engine.proofs.Carries.{whole, readied, waits_there, equal, next_done, rule_gives, rule_stuck, rule_goes, popped}
use Rattle.engine.proofs.run.round.Goals as goal

pub returns-in-Some-Next-clause-does : goal.returns-in-Some-Next-clause-does
returns-in-Some-Next-clause-does g c =
    let e = rw c.in-Some-Next.field-0-is at c.in-Some-Next.ensures.told in
    next_done c.args.program.now c.args.run.now.entries (held c.args.run.now.stack) (held c.part.new.self) c.args.run.now.units (g.S.Store.limit c.args.run.now.store) (g.S.Store.cells c.args.run.now.store) c.in-Some-Next.judgement c.arrive.new.stage c.requires e c.part.ensures.list c.arrive.ensures

pub apply-requires : goal.apply-requires
apply-requires g c =
    let n = length_newest c.args.run.now.stack.frames c.args.run.now.stack.count in
    let few = c.args.run.now.stack.few in
    readied c.args.program.now (held c.args.run.now.stack) (held c.part.new.self) c.in-Some-Whole.at (whole c.args.program.now (held c.args.run.now.stack) c.in-Some-Whole.at c.requires (rw c.in-Some-Whole.field-0-is at c.in-Some-Whole.ensures.told)) c.part.ensures.list (omega arith)

pub hand-requires : goal.hand-requires
hand-requires g c =
    let f = whole c.args.program.now (held c.args.run.now.stack) c.in-Some-Whole.at c.requires (rw c.in-Some-Whole.field-0-is at c.in-Some-Whole.ensures.told) in
    let p = c.pop.ensures ∙ ap below (ap held c.apply.ensures.frames ∙ c.part.ensures.list ∙ f.frame.same) in
    rw p (ok_room c.args.program.now (below (held c.args.run.now.stack)) f.wait.job.height f.frame.rest)

pub returns-in-Some-Gives-clause-does : goal.returns-in-Some-Gives-clause-does
returns-in-Some-Gives-clause-does g c =
    let f = whole c.args.program.now (held c.args.run.now.stack) c.in-Some-Whole.at c.requires (rw c.in-Some-Whole.field-0-is at c.in-Some-Whole.ensures.told) in
    let p = c.pop.ensures ∙ ap below (ap held c.apply.ensures.frames ∙ c.part.ensures.list ∙ f.frame.same) in
    let d = rw c.in-Some-Gives.v-is at c.hand.ensures.does in
    let e = rule_gives c.args.program.now c.args.run.now.entries c.apply.new.run.entries (held c.args.run.now.stack) f.wait c.args.run.now.units (g.S.Store.limit c.args.run.now.store) (g.S.Store.cells c.args.run.now.store) (g.S.Store.cells c.apply.new.run.store) f.frame c.in-Some-Gives.v (rw c.in-Some-Gives.field-0-is at (c.in-Some-Gives.ensures.does f.wait (waits_there c.args.program.now (held c.args.run.now.stack) (held c.part.new.self) f.wait f.frame c.part.ensures.list))) in
    let u = c.apply.ensures.units in
    popped g.S.Store.cells g.S.Store.limit c.args.program.now c.args.run.now (record { stack = c.pop.new.self; entries = c.apply.new.run.entries; stage = c.apply.new.run.stage; units = c.apply.new.run.units; store = c.apply.new.run.store }) c.hand.new.run c.in-Some-Gives.v c.hand.result
    f.wait.job.height p f.frame.long f.frame.rest (rw u e) d

pub returns-in-Some-Goes-clause-does : goal.returns-in-Some-Goes-clause-does
returns-in-Some-Goes-clause-does g c =
    let f = whole c.args.program.now (held c.args.run.now.stack) c.in-Some-Whole.at c.requires (rw c.in-Some-Whole.field-0-is at c.in-Some-Whole.ensures.told) in
    let p = c.pass.ensures ∙ ap (λ x. Passes ∷ below x) (ap held c.apply.ensures.frames ∙ c.part.ensures.list ∙ f.frame.same) in
    let u = c.apply.ensures.units in
    let a = rw (c.in-Some-Goes.judgement-is, u) at c.arrive-in-Some-Goes.ensures in
    rw u (rule_goes c.args.program.now c.args.run.now.entries c.apply.new.run.entries (held c.args.run.now.stack) f.wait c.args.run.now.units (g.S.Store.limit c.args.run.now.store) (g.S.Store.cells c.args.run.now.store) (g.S.Store.cells c.apply.new.run.store) f.frame (held c.pass.new.self) c.in-Some-Goes.judgement c.arrive-in-Some-Goes.new.stage (rw c.in-Some-Goes.field-0-is at (c.in-Some-Goes.ensures.does f.wait (waits_there c.args.program.now (held c.args.run.now.stack) (held c.part.new.self) f.wait f.frame c.part.ensures.list))) p a)

pub returns-in-None-apply-clause-does : goal.returns-in-None-apply-clause-does
returns-in-None-apply-clause-does g c =
    let f = whole c.args.program.now (held c.args.run.now.stack) c.in-Some-Whole.at c.requires (rw c.in-Some-Whole.field-0-is at c.in-Some-Whole.ensures.told) in
    let u = c.apply.ensures.units in
    let at = f.at in
    rw (u, ← at) (rule_stuck c.args.program.now c.args.run.now.entries c.apply.new.run.entries (held c.args.run.now.stack) f.wait c.args.run.now.units (g.S.Store.limit c.args.run.now.store) (g.S.Store.cells c.args.run.now.store) (g.S.Store.cells c.apply.new.run.store) f.frame (c.in-None-apply.ensures.does f.wait (waits_there c.args.program.now (held c.args.run.now.stack) (held c.part.new.self) f.wait f.frame c.part.ensures.list)), tt)

pub hand-requires-in-Some-Equal : goal.hand-requires-in-Some-Equal
hand-requires-in-Some-Equal g c =
    let f = equal c.args.program.now (held c.args.run.now.stack) c.requires (rw c.in-Some-Equal.field-0-is at c.in-Some-Equal.ensures.told) in
    let p = c.pop-in-Some-Equal.ensures ∙ ap below (c.part.ensures.list ∙ f.same) in
    rw p (ok_room c.args.program.now (below (held c.args.run.now.stack)) f.height f.rest)

pub returns-in-Some-Equal-clause-does : goal.returns-in-Some-Equal-clause-does
returns-in-Some-Equal-clause-does g c =
    let f = equal c.args.program.now (held c.args.run.now.stack) c.requires (rw c.in-Some-Equal.field-0-is at c.in-Some-Equal.ensures.told) in
    let p = c.pop-in-Some-Equal.ensures ∙ ap below (c.part.ensures.list ∙ f.same) in
    popped g.S.Store.cells g.S.Store.limit c.args.program.now c.args.run.now (record { stack = c.pop-in-Some-Equal.new.self; entries = c.args.run.now.entries; stage = c.args.run.now.stage; units = c.args.run.now.units; store = c.args.run.now.store }) c.hand-in-Some-Equal.new.run (boolean_v true) c.hand-in-Some-Equal.result
    f.height p f.long f.rest (f.does c.args.run.now.entries c.args.run.now.units (g.S.Store.limit c.args.run.now.store) (g.S.Store.cells c.args.run.now.store)) c.hand-in-Some-Equal.ensures.does
