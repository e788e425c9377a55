-- The items that a short list is of.
use Rattle.std.specs.Prelude.{ℕ, List, take}
use Rattle.few.specs.declared.items.short.Short.{Short}

abbrev pub shown : {T : Type 0} {N : ℕ} → Short T N → List T
shown short = take short.len short.items
