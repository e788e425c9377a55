-- What the cells that a construct reads mean.
use Rattle.std.specs.Prelude.{ℕ, List}
use Rattle.battery.specs.declared.value.Value.{Value}
use Rattle.cells.specs.declared.cell.EnumValue.{EnumValue}
use Rattle.cells.specs.Meaning.{values_of}

-- an enum value as its enum, case and fields
abbrev pub enum_of : EnumValue → ℕ × ℕ × List Value
enum_of v = (v.of, v.case, values_of v.fields)
