-- Where a place of two lists lies of which one is filled after the other.
use Rattle.std.specs.Prelude.{◌≡◌, ℕ, List, Some, None, Option}
use Rattle.battery.specs.Tree.{at}
use Rattle.stores.specs.Pair.{chain}
use Rattle.stores.specs.declared.pair.Side.{Side}
use Rattle.stores.specs.declared.pair.Side.TheVariants.{First, Second}

abbrev pub Lies : {C : Type 0} → List C → ℕ → List C → ℕ → Option Side → Type 0
Lies xs m ys place (Some (First k)) = at xs k ≡ at (chain xs m ys) place
Lies xs m ys place (Some (Second k)) = at ys k ≡ at (chain xs m ys) place
Lies xs m ys place None = None ≡ at (chain xs m ys) place
