-- The open frames as a list, the newest first.
use Rattle.std.specs.Prelude.{◌≡◌, ℕ, zero, suc, ◌<◌, true, false, List, [], ◌∷◌, ◌++◌, length, Some, None, Option, slice_index_or}
use Rattle.battery.specs.declared.value.Value.{Value}
use Rattle.battery.specs.declared.value.Value.TheVariants.{Unit as unit_v, Number as number_v, Boolean as boolean_v, Place as place_v}
use Rattle.cells.specs.Meaning.{values_of}
use Rattle.frames.specs.declared.data.Given.{Given}
use Rattle.frames.specs.declared.data.Given.TheVariants.{Goes, Done, Halts}
use Rattle.frames.specs.declared.data.Pairs.{Pairs}
use Rattle.frames.specs.declared.data.Frame.{Frame}
use Rattle.frames.specs.declared.data.Frame.TheVariants.{Passes, Waits, Compares}
use Rattle.frames.specs.declared.data.Wait.{Wait}
use Rattle.frames.specs.declared.data.Stack.{Stack}

-- the first n of an array, the last of them first
abbrev pub newest : List Frame → ℕ → List Frame
newest fs zero = []
newest fs (suc n) = slice_index_or fs n Passes ∷ newest fs n

abbrev pub held : Stack → List Frame
held s = newest s.frames s.count

abbrev pub vals : Wait → List Value
vals w = values_of w.values

-- one more value
pub record More (w : Wait) (v : Value) (w' : Wait) : Type 0 where
  pub job : w'.job ≡ w.job
  pub next : w'.next ≡ w.next
  pub left : w'.left ≡ w.left
  pub vals : vals w' ≡ vals w ++ v ∷ []

-- what a frame does with a value: it goes on, passes it on, or has no rule for it
abbrev pub tested : Pairs → Value → Given
tested q unit_v = Halts q.at
tested q (number_v n) = Halts q.at
tested q (boolean_v true) = Goes
tested q (boolean_v false) = Done
tested q (place_v i) = Halts q.at

abbrev pub taken : Frame → Value → Given
taken Passes v = Done
taken (Waits w) v = Goes
taken (Compares q) v = tested q v

abbrev pub WithIt : Frame → Value → Frame → Type 0
WithIt Passes v f = f ≡ Passes
WithIt (Waits w) v f = (w' : Wait) × More w v w' × (f ≡ Waits w')
WithIt (Compares q) v f = f ≡ Compares q

abbrev pub by_taken : {X : Type 1} → Given → X → X → X
by_taken Goes here later = here
by_taken Done here later = later
by_taken (Halts p) here later = here

-- a value goes to the newest frame that does not pass it on
abbrev pub Took : List Frame → Value → List Frame → Type 0
Took [] v l' = l' ≡ []
Took (f ∷ l) v l' = by_taken (taken f v) ((f' : Frame) × WithIt f v f' × (l' ≡ f' ∷ l)) (Took l v l')

abbrev pub or_later : Given → Given → Given
or_later Goes later = Goes
or_later Done later = later
or_later (Halts p) later = Halts p

abbrev pub outcome : List Frame → Value → Given
outcome [] v = Done
outcome (f ∷ l) v = or_later (taken f v) (outcome l v)

-- the newest frame, if it waits
abbrev pub waiting_in : List Frame → Option Wait
waiting_in [] = None
waiting_in (Passes ∷ l) = None
waiting_in (Waits w ∷ l) = Some w
waiting_in (Compares q ∷ l) = None

abbrev pub below : List Frame → List Frame
below [] = []
below (f ∷ l) = l

-- each frame that waits has room for one more value
abbrev pub Roomy : Frame → Type 0
Roomy Passes = Unit {0}
Roomy (Waits w) = length (vals w) < 4
Roomy (Compares q) = Unit {0}

abbrev pub Room : List Frame → Type 0
Room [] = Unit {0}
Room (f ∷ l) = Roomy f × Room l
