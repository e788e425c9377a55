use Rattle.std.proofs.Common.{◌-◌, ◌∷◌, sym, ap, ◌∙◌, arith}
use Rattle.frames.specs.declared.data.Frame.TheVariants.{Passes}
use Rattle.frames.specs.Stacks.{below}
use Rattle.frames.proofs.Newest.{top_is, top_set}
use Rattle.frames.proofs.data.Stack.pass.Goals as goal

pub returns : goal.returns
returns c =
    let s = c.args.self.now in
    top_set s.frames s.count (s.count - 1) (omega arith) (omega arith) Passes
    ∙ sym (ap (λ l. Passes ∷ below l) (top_is s.frames s.count (s.count - 1) (omega arith) (omega arith) c.index-self-self.result c.index-self-self.is))
