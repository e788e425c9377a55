-- What a cell of the code means: a cell of the rules.
use Rattle.std.specs.Prelude.{ℕ, List, []}
use Rattle.battery.specs.declared.value.Value.{Value}
use Rattle.battery.specs.Cell as rules
use Rattle.few.specs.declared.items.short.Short.{Short}
use Rattle.few.specs.Shown.{shown}
use Rattle.cells.specs.declared.cell.Cell.{Cell}
use Rattle.cells.specs.declared.cell.Cell.TheVariants.{Text as of_text, Enum as of_enum}

-- the bytes of a text
abbrev pub text_of : Short ℕ 24 → List ℕ
text_of t = shown t

-- the values, in order
abbrev pub values_of : Short Value 4 → List Value
values_of v = shown v

abbrev pub meaning : Cell → rules.Cell
meaning (of_text t) = rules.text_cell (text_of t)
meaning (of_enum v) = rules.enum_cell v.of v.case (values_of v.fields)

-- the value of case 0 of enum 0, which has no fields
abbrev pub blank : rules.Cell
blank = rules.enum_cell 0 0 []
