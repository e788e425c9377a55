-- The items that few of them are.
use Rattle.std.specs.Prelude.{ℕ, List, take}
use Rattle.few.specs.declared.items.Few.{Few}

abbrev pub listed : {T : Type 0} {N : ℕ} → Few T N → List T
listed few = take few.len few.items
