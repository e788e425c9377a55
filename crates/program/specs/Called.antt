-- What a call of a function needs: how many parameters it has, and where its body begins.
use Rattle.std.specs.Prelude.{◌≡◌, ℕ, List, length, Some, None, Option}
use Rattle.battery.specs.Tree.{Fn}
use Rattle.table.specs.declared.token.Token.{Token}
use Rattle.program.specs.Stands.{tree_at, Begins}
use Rattle.program.specs.declared.function.Function.{Function}

abbrev pub OfFunction : List ℕ → List Token → Option Fn → Option Function → Type 0
OfFunction t ws None None = Unit {0}
OfFunction t ws None (Some b) = ⊥
OfFunction t ws (Some fn) None = ⊥
OfFunction t ws (Some fn) (Some b) = (b.parameters ≡ length fn.params) × Begins t ws b.body × (fn.body ≡ tree_at t ws b.body)
