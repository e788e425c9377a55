-- One value more bound behind those before it.
use Rattle.std.proofs.Common.{◌+◌, length, ◌∙◌, arith}
use Rattle.std.proofs.lemmas.List.{take-set-le, drop-set-lt}
use Rattle.scope.proofs.Entries.{bind_more}
use Rattle.scope.proofs.bind_all.Goals as goal

pub loop-i-preserved : goal.loop-i-preserved
loop-i-preserved g c =
    let i = c.loop-i.i in
    let len = c.args.len in (
      take-set-le len c.loop-i.entries (len + i) _ (omega arith) ∙ c.loop-i.invariant.0,
      bind_more c.loop-i.entries c.args.values.now len i c.args.first c.index-values-i.result _ (omega arith) c.loop-i-test.true c.index-values-i.is c.loop-i.invariant.1,
      drop-set-lt (len + length c.args.values.now) c.loop-i.entries (len + i) _ (omega arith) ∙ c.loop-i.invariant.2,
    )
