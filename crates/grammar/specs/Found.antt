-- What the test of places answers.
use Rattle.std.specs.Prelude.{ℕ, Some, None, Ok, Err, Option, Result}
use Rattle.grammar.specs.declared.descent.Misplaced.{Misplaced}

-- the record that cannot follow, or the records' end, with the group
abbrev pub found_by : {A : Type 0} → Result A Misplaced → Option (ℕ × Option ℕ)
found_by (Ok a) = None
found_by (Err e) = Some (e.«record», e.group)
