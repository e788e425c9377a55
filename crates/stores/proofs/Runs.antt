-- Laws of the cells that a run holds, and of a look at a place.
use Rattle.std.proofs.Common.{◌≡◌, ℕ, zero, suc, ◌+◌, ◌<◌, ◌≤◌, min, List, [], ◌∷◌, ◌++◌, map, length, take, set, None, refl, ap, ◌∙◌, le_of_suc-le-suc, not-suc-le-zero, arith, length-set, length-take}
use Rattle.std.proofs.lemmas.List.{length-map, map-append, take_more_set}
use Rattle.battery.specs.Tree.{at}
use Rattle.cells.specs.Meaning.{meaning}
use Rattle.cells.specs.declared.cell.Cell.{Cell}
use Rattle.stores.specs.Plain.{held, room}

module _ {C : Type 0} where
  pub at_past : (xs : List C) (k : ℕ) → length xs ≤ k → at xs k ≡ None
  at_past [] k h = refl
  at_past (x ∷ xs) zero h = absurd (not-suc-le-zero h)
  at_past (x ∷ xs) (suc k) h = at_past xs k (le_of_suc-le-suc h)

  pub at_left : (xs ys : List C) (k : ℕ) → k < length xs → at (xs ++ ys) k ≡ at xs k
  at_left [] ys k h = absurd (not-suc-le-zero h)
  at_left (x ∷ xs) ys zero h = refl
  at_left (x ∷ xs) ys (suc k) h = at_left xs ys k (le_of_suc-le-suc h)

  pub at_right : (xs ys : List C) (k j : ℕ) → k ≡ length xs + j → at (xs ++ ys) k ≡ at ys j
  at_right [] ys k j h = let e : k ≡ j = omega arith in rw e
  at_right (x ∷ xs) ys zero j h = let z : ◌≡◌ {A = ℕ} 0 1 = omega arith in absurd (omega arith)
  at_right (x ∷ xs) ys (suc k) j h = at_right xs ys k j (omega arith)

  pub at_cut : (n : ℕ) (xs : List C) (k : ℕ) → k < n → at (take n xs) k ≡ at xs k
  at_cut zero xs k h = absurd (not-suc-le-zero h)
  at_cut (suc n) [] k h = refl
  at_cut (suc n) (x ∷ xs) zero h = refl
  at_cut (suc n) (x ∷ xs) (suc k) h = at_cut n xs k (le_of_suc-le-suc h)

pub length_held : (u : ℕ) (xs : List Cell) → min u (room xs) ≡ length (held u xs)
length_held u xs = simp (length-map, length-take) (omega arith)

-- one more cell behind those held
pub held_more : (u : ℕ) (xs : List Cell) (k : ℕ) (c : Cell) → k < room xs → k ≡ length (held u xs) → held (k + 1) (set xs k c) ≡ held u xs ++ meaning c ∷ []
held_more u xs k c h e =
    let l = length_held u xs in
    let m : min u (room xs) ≡ k = omega arith in
    let n : min (k + 1) (room (set xs k c)) ≡ k + 1 = simp length-set (omega arith) in
    rw (n, m) (ap (map meaning) (take_more_set xs k c (omega arith)) ∙ map-append meaning (take k xs) (c ∷ []))
