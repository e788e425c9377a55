-- How a run begins: as the machine starts it, or not at all.
use Rattle.std.specs.Prelude.{◌≡◌, ℕ, List, length, Ok, Err, Some, None, Result}
use Rattle.battery.specs.declared.value.Value.{Value}
use Rattle.battery.specs.Tree.{Fn, at}
use Rattle.battery.specs.Cell.{Cell}
use Rattle.machine.specs.Claims.{start}
use Rattle.program.specs.Views.{card_in}
use Rattle.program.specs.declared.program.Program.{Program}
use Rattle.frames.specs.declared.data.Run.{Run}
use Rattle.frames.specs.Trees.{setup}
use Rattle.frames.specs.Views.{Sound, view}
use Rattle.engine.specs.declared.beginning.NotBegun.{NotBegun}
use Rattle.engine.specs.declared.beginning.NotBegun.TheVariants.{NoFunction, OtherCount}

-- the function f of the card takes these arguments, by count
pub record Takes (k : Program) (f : ℕ) (vs : List Value) (fn : Fn) : Type 0 where
  pub there : at (card_in k).fns f ≡ Some fn
  pub counted : length vs ≡ length fn.params

-- why no function takes them
abbrev pub Because : Program → ℕ → List Value → NotBegun → Type 0
Because k f vs NoFunction = at (card_in k).fns f ≡ None
Because k f vs OtherCount = (fn : Fn) × (at (card_in k).fns f ≡ Some fn) × ¬ (length vs ≡ length fn.params)

-- begun, on the function's body in a scope of the arguments alone, over the store as it was; or nothing has changed
abbrev pub Begun : {S : Type 0} → (S → List Cell) → ℕ → Program → Run S → Run S → ℕ → List Value → Result (Unit {0}) NotBegun → Type 0
Begun cells most k r r' f vs (Ok done) =
    ((fn : Fn) × Takes k f vs fn × (view cells k r' ≡ start (setup k most) fn vs (cells r.store))) × Sound k r' × (r'.store ≡ r.store)
Begun cells most k r r' f vs (Err why) = Because k f vs why × ((fn : Fn) → ¬ Takes k f vs fn) × (r' ≡ r)
