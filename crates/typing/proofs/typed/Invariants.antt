use Rattle.std.proofs.Common.{◌≡◌}
use Rattle.numbering.specs.Views.{tokens_in}
use Rattle.typing.specs.Walks.{tokens_at}
use Rattle.typing.proofs.Bodies.{LeftAt}
use Rattle.typing.proofs.typed.Given as goal

abbrev pub invariant-loop-number : goal.invariant-loop-number
invariant-loop-number l = (tokens_at l.walk ≡ tokens_in l.card) × LeftAt (tokens_in l.card) l.number
