-- The records left fall at each call, or the work left at one record.
use Rattle.std.proofs.Common.{◌≡◌, ◌+◌, ◌-◌, ◌*◌, length}
use Rattle.few.specs.Listed.{listed}
use Rattle.typing.specs.Walks.{tokens_at, bound_at, WalksOn}
use Rattle.typing.proofs.Along.{Along}
use Rattle.typing.proofs.Loops.{PartsLeft, ArmsLeft}
use Rattle.typing.proofs.walk.Walk.+expressions.Given as goal

abbrev pub decreases-arm : goal.decreases-arm
decreases-arm l = 4 * (length (tokens_at l.self.now) - l.self.now.place) + 2

abbrev pub decreases-choice : goal.decreases-choice
decreases-choice l = 4 * (length (tokens_at l.self.now) - l.self.now.place) + 0

abbrev pub decreases-exit : goal.decreases-exit
decreases-exit l = 4 * (length (tokens_at l.self.now) - l.self.now.place) + 0

abbrev pub decreases-expression : goal.decreases-expression
decreases-expression l = 4 * (length (tokens_at l.self.now) - l.self.now.place) + 1

abbrev pub decreases-others_alike : goal.decreases-others_alike
decreases-others_alike l = 4 * (length (tokens_at l.self.now) - l.self.now.place) + 3

abbrev pub decreases-plain : goal.decreases-plain
decreases-plain l = 4 * (length (tokens_at l.self.now) - l.self.now.place) + 0

abbrev pub decreases-val : goal.decreases-val
decreases-val l = 4 * (length (tokens_at l.self.now) - l.self.now.place) + 0

-- what the arms from here on answer, those from the first on answer
abbrev pub invariant-others_alike-loop-first : goal.invariant-others_alike-loop-first
invariant-others_alike-loop-first l = Along l.fn.self l.self × ArmsLeft (tokens_at l.fn.self) (bound_at l.fn.self) l.of l.first l.fn.self.place l.alike l.self.place

abbrev pub decreases-others_alike-loop-first : goal.decreases-others_alike-loop-first
decreases-others_alike-loop-first l = length (tokens_at l.self) - l.self.place

-- what the parts from here on answer, those from the first on answer
abbrev pub invariant-plain-loop : goal.invariant-plain-loop
invariant-plain-loop l =
    WalksOn l.fn.self l.self
    × (length (listed l.types) ≡ l.counter)
    × PartsLeft (tokens_at l.fn.self) (bound_at l.fn.self) (l.fn.self.place + 1) l.n (listed l.types) l.self.place (l.n - l.counter)
