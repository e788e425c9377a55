-- What a store holds: cells, each a text, or an enum value by its enum, case and fields.
use Rattle.std.specs.Prelude.{ℕ, cond, List, [], ◌∷◌, ◌++◌, length, Some, None, Option, nat_lt}
use Rattle.battery.specs.declared.value.Value.{Value}
use Rattle.battery.specs.Tree.{◌▸◌}

pub data Cell : Type 0 where
  text_cell : List ℕ → Cell
  enum_cell : ℕ → ℕ → List Value → Cell

-- a put, at a most: what it answers, and the list then
abbrev pub placed : ℕ → List Cell → Option ℕ
placed most cells = cond (nat_lt (length cells) most) (Some (length cells)) None

abbrev pub added : ℕ → List Cell → Cell → List Cell
added most cells c = cond (nat_lt (length cells) most) (cells ++ c ∷ []) cells

-- a put as the rules see it: the cell's place and the cells then, or nothing where it is refused
abbrev pub Put : Type 0
Put = List Cell → Cell → Option (ℕ × List Cell)

abbrev pub append : ℕ → Put
append most cells c = placed most cells ▸ λ i. Some (i, added most cells c)
