-- What `==` answers: true of two cells exactly where they mean the same, and so of two texts and of two lists of values.
use Rattle.std.specs.Prelude.{ℕ, Bool, false, ◌&&◌, ◌==◌, bytes_eq}
use Rattle.std.specs.Cmp.Lexicographic.{pointwise}
use Rattle.battery.specs.declared.value.Value.{Value}
use Rattle.battery.specs.Same.{same_value}
use Rattle.battery.specs.Cell as rules
use Rattle.few.specs.declared.items.short.Short.{Short}
use Rattle.cells.specs.Meaning.{text_of, values_of, meaning}
use Rattle.cells.specs.declared.cell.Cell.{Cell}

abbrev pub same_text : Short ℕ 24 → Short ℕ 24 → Bool
same_text a b = bytes_eq (text_of a) (text_of b)

abbrev pub same_values : Short Value 4 → Short Value 4 → Bool
same_values a b = pointwise same_value (values_of a) (values_of b)

abbrev pub same_meaning : rules.Cell → rules.Cell → Bool
same_meaning (rules.text_cell s) (rules.text_cell t) = bytes_eq s t
same_meaning (rules.enum_cell k c vs) (rules.enum_cell l d ws) = k == l && c == d && pointwise same_value vs ws
same_meaning a b = false

abbrev pub same_cell : Cell → Cell → Bool
same_cell a b = same_meaning (meaning a) (meaning b)
