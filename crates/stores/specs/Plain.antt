-- What a store over a lent run of cells means: the first cells of the run are its own.
use Rattle.std.specs.Prelude.{ℕ, min, cond, List, map, length, take, nat_lt, slice_set}
use Rattle.battery.specs.Cell as rules
use Rattle.cells.specs.Meaning.{meaning}
use Rattle.cells.specs.declared.cell.Cell.{Cell}

-- the most
abbrev pub room : List Cell → ℕ
room slots = min (length slots) 65535

-- the list, where so many cells of the run are taken
abbrev pub held : ℕ → List Cell → List rules.Cell
held used slots = map meaning (take (min used (room slots)) slots)

-- the run after a put: where there is room one cell of it is written, and no other changes
abbrev pub written : ℕ → List Cell → Cell → List Cell
written used slots c = cond (nat_lt (length (held used slots)) (room slots)) (slice_set slots (length (held used slots)) c) slots
