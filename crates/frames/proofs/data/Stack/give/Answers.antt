use Rattle.std.proofs.Common.{◌∙◌, arith}
use Rattle.frames.specs.Stacks.{newest}
use Rattle.frames.proofs.Newest.{top_is, top_set, keeps_it}
use Rattle.frames.proofs.data.Stack.give.Goals as goal

pub returns-in_default-take : goal.returns-in_default-take
returns-in_default-take c =
    let s = c.loop-top.self in
    let h = c.loop-top.invariant in
    let f = c.index-frames-top.result in
    let e = top_is s.frames s.count c.in-Some.top (omega arith) (omega arith) f c.index-frames-top.is in
    let i = c.index-frames-top.is in
    let u = top_set s.frames s.count c.in-Some.top (omega arith) (omega arith) c.take.new.self in
    let p = keeps_it f c.take.new.self (newest s.frames c.in-Some.top) c.args.v c.take.result (rw (← i) at c.take.ensures.told) c.in_default-take.not-Done (rw (← i) at c.take.ensures.now) in
    let told = rw e at h.told in
    record { told = p.0 ∙ told; list = h.list _ (rw (e, u) p.1) }
