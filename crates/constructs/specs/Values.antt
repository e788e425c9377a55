-- The values that a construct takes.
use Rattle.std.specs.Prelude.{List, ℤ, Some, Option}
use Rattle.battery.specs.declared.value.Value.{Value}
use Rattle.battery.specs.Tree.{◌▸◌}
use Rattle.machine.specs.Machine.{two, of_num}

abbrev pub two_numbers : List Value → Option (ℤ × ℤ)
two_numbers vs = two vs ▸ λ w. of_num w.0 ▸ λ m. of_num w.1 ▸ λ n. Some (m, n)
