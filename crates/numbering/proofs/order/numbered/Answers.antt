-- A token out of order is the lowest such.
use Rattle.std.proofs.Common.{sym, ◌∙◌}
use Rattle.numbering.specs.Counts.{counted}
use Rattle.numbering.proofs.There.{out_of_order}
use Rattle.numbering.proofs.order.numbered.Goals as goal

pub returns-then-not-in_order : goal.returns-then-not-in_order
returns-then-not-in_order c t C read =
    c.loop-i.invariant.1 t C read
    ∙ out_of_order C c.args.texts c.tokens-tokens.result.now c.loop-i.i (counted c.loop-i.counts) c.loop-i-test.true (sym c.if-not-in_order.true ∙ c.in_order.ensures t C read)
