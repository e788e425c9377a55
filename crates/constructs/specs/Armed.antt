-- What is found of an arm: how many names it binds, the first of them, and where its part begins.
use Rattle.std.specs.Prelude.{◌≡◌, ℕ, List, Some, None, Option}
use Rattle.battery.specs.Tree.{Expr}
use Rattle.table.specs.declared.token.Arm.{Arm}
use Rattle.table.specs.declared.token.Token.{Token}
use Rattle.program.specs.Stands.{tree_at, Begins}

abbrev pub OfArm : List ℕ → List Token → Option (ℕ × ℕ × Expr) → Option (Arm × ℕ) → Type 0
OfArm t ws None None = Unit {0}
OfArm t ws None (Some f) = ⊥
OfArm t ws (Some a) None = ⊥
OfArm t ws (Some a) (Some f) = (f.0.names ≡ a.0) × (f.0.first ≡ a.1) × Begins t ws f.1 × (a.2 ≡ tree_at t ws f.1)
