-- The scope that entries in the order of their binding stand for: the newest comes first.
use Rattle.std.specs.Prelude.{List, [], ◌∷◌}
use Rattle.battery.specs.Tree.{Scope}
use Rattle.scope.specs.declared.Entry.{Entry}

module _ {T : Type 0} where
  -- entries bound upon a scope
  abbrev pub upon : List (Entry T) → Scope T → Scope T
  upon [] s = s
  upon (e ∷ es) s = upon es ((e.name, e.value) ∷ s)

  abbrev pub scope_of : List (Entry T) → Scope T
  scope_of es = upon es []
