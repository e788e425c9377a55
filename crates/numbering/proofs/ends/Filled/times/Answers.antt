-- One turn takes one step off those that are left.
use Rattle.std.proofs.Common.{◌+◌, ◌-◌, ap, ◌∙◌}
use Rattle.numbering.specs.Ends.{times}
use Rattle.numbering.specs.Behind.{behind}
use Rattle.numbering.proofs.Steps.{times_more}
use Rattle.numbering.proofs.ends.Filled.times.Goals as goal

pub loop-preserved : goal.loop-preserved
loop-preserved c =
    let f = behind c.args.self in
    ap (times (c.args.n - (c.loop.counter + 1)) f) c.look-q.ensures ∙ times_more f c.args.n c.loop.counter c.loop.q c.loop-test.true ∙ c.loop.invariant
