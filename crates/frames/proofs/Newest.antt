-- The newest frames of an array.
use Rattle.std.proofs.Common.{◌≡◌, ℕ, zero, suc, ◌+◌, ◌<◌, ◌≤◌, ◌≢◌, List, [], ◌∷◌, length, get_or, set, refl, ap, ◌∙◌, add-one, arith, get_or-set_other, get_or-set_same}
use Rattle.battery.specs.declared.value.Value.{Value}
use Rattle.frames.specs.declared.data.Frame.{Frame}
use Rattle.frames.specs.declared.data.Frame.TheVariants.{Passes}
use Rattle.frames.specs.declared.data.Given.{Given}
use Rattle.frames.specs.declared.data.Given.TheVariants.{Goes, Done, Halts}
use Rattle.frames.specs.Stacks.{newest, taken, WithIt, Took, outcome}

-- what stands at an index, whatever is read past the end
read_or : (fs : List Frame) (i : ℕ) (d e : Frame) → i < length fs → get_or fs i d ≡ get_or fs i e
read_or [] i d e h = absurd (omega arith)
read_or (f ∷ fs) zero d e h = refl
read_or (f ∷ fs) (suc i) d e h = read_or fs i d e (omega arith)

newest_set : (fs : List Frame) (p n : ℕ) (f : Frame) → n ≤ p → newest (set fs p f) n ≡ newest fs n
newest_set fs p zero f h = refl
newest_set fs p (suc n) f h =
    let ne : n ≢ p = omega arith in
    let a = get_or-set_other fs p n f Passes ne in
    let b = newest_set fs p n f (omega arith) in cc

pub newest_push : (fs : List Frame) (n : ℕ) (f : Frame) → n < length fs → newest (set fs n f) (n + 1) ≡ f ∷ newest fs n
newest_push fs n f h =
    let a = get_or-set_same fs n f Passes h in
    let b = newest_set fs n n f (omega arith) in rw add-one (cc)

-- the newest of n frames stands at i
module _ (fs : List Frame) (n i : ℕ) (m : n ≡ i + 1) (h : i < length fs) where
  pub top_is : (f : Frame) → f ≡ get_or fs i f → newest fs n ≡ f ∷ newest fs i
  top_is f e = let e' = read_or fs i f Passes h in rw (m, add-one) (cc)

  pub top_set : (f : Frame) → newest (set fs i f) n ≡ f ∷ newest fs i
  top_set f = ap (newest (set fs i f)) m ∙ newest_push fs i f h

  pub under_set : (f : Frame) → newest (set fs i f) i ≡ newest fs i
  under_set f = newest_set fs i i f (omega arith)

-- a frame passes the value on, or does not
pub passes_on : (f : Frame) (l : List Frame) (v : Value) → Done ≡ taken f v → (outcome l v ≡ outcome (f ∷ l) v) × ((l' : List Frame) → Took l v l' → Took (f ∷ l) v l')
passes_on f l v e = rw (← e) (refl, λ l' t. t)

pub keeps_it : (f f' : Frame) (l : List Frame) (v : Value) (r : Given) → r ≡ taken f v → r ≢ Done → WithIt f v f' → (r ≡ outcome (f ∷ l) v) × Took (f ∷ l) v (f' ∷ l)
keeps_it f f' l v Goes e n w = rw (← e) (refl, (f', w, refl))
keeps_it f f' l v Done e n w = absurd (n refl)
keeps_it f f' l v (Halts p) e n w = rw (← e) (refl, (f', w, refl))
