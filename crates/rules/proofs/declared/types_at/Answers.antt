use Rattle.std.proofs.Common.{arith}
use Rattle.few.specs.Listed.{listed}
use Rattle.numbering.specs.Views.{tokens_in}
use Rattle.rules.proofs.Taken.{taken_more, taken_short}
use Rattle.rules.proofs.declared.types_at.Goals as goal

pub returns-in_err-type_at : goal.returns-in_err-type_at
returns-in_err-type_at c =
    rw c.from_residual.ensures
    (λ l. taken_short (tokens_in c.args.card.now) c.args.from c.args.n c.loop-place.place (omega arith) (omega arith) c.in_err-type_at.ensures)

pub loop-place-preserved : goal.loop-place-preserved
loop-place-preserved c =
    taken_more (tokens_in c.args.card.now) c.args.from c.loop-place.place (listed c.loop-place.types) (listed c.push.new.self) _ (omega arith) c.loop-place.invariant c.in_ok-type_at.ensures c.push.ensures
