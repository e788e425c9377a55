use Rattle.std.proofs.Common.{◌∷◌, sym, ap, ◌∙◌, arith}
use Rattle.frames.specs.Stacks.{newest}
use Rattle.frames.specs.Views.{parted}
use Rattle.frames.proofs.Newest.{top_is, top_set}
use Rattle.frames.proofs.data.Stack.part.Goals as goal

pub returns-clause-list : goal.returns-clause-list
returns-clause-list c =
    let s = c.args.self.now in
    let e = top_is s.frames s.count c.in_ok-top.top (omega arith) (omega arith) c.index-frames-top.result c.index-frames-top.is in
    let u = top_set s.frames s.count c.in_ok-top.top (omega arith) (omega arith) c.part.new.self in
    let i = c.index-frames-top.is in
    let n = rw (← i) at c.part.ensures.now in
    u ∙ ap (λ f. f ∷ newest s.frames c.in_ok-top.top) n ∙ sym (ap (parted c.args.program.now) e)
