-- What is written at a place leaves the ends behind it as they were.
use Rattle.std.proofs.Common.{◌∙◌, arith}
use Rattle.std.proofs.lemmas.List.{length-set}
use Rattle.numbering.proofs.Steps.{one_back}
use Rattle.numbering.proofs.ends.ends.Goals as goal

pub loop-i-preserved : goal.loop-i-preserved
loop-i-preserved c =
    let h = c.loop-i.invariant in
    let s = c.in-Some.ensures.steps in
    let x = one_back c.args.tokens.list.now _ _ _ c.loop-i.ends c.in-Some.i _ s.1.0 h.2 (omega arith) (omega arith) c.past.ensures h.3 in
    (length-set c.loop-i.ends c.in-Some.i _ ∙ h.0, s.0 ∙ h.1, x.0, x.1)
