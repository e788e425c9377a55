-- What stands at an index of a list: there below its length, and nothing past it.
use Rattle.std.proofs.Common.{◌≡◌, ℕ, zero, suc, ◌<◌, ◌≤◌, List, [], ◌∷◌, length, get_or, take, Some, None, refl, le_of_suc-le-suc, not-suc-le-zero, arith}
use Rattle.battery.specs.Tree.{at}
use Rattle.numbering.proofs.Options.{never}

module _ {A : Type 0} where
  pub at_in : (xs : List A) (i : ℕ) (d : A) → i < length xs → at xs i ≡ Some (get_or xs i d)
  at_in [] i d h = absurd (not-suc-le-zero h)
  at_in (x ∷ xs) zero d h = refl
  at_in (x ∷ xs) (suc i) d h = at_in xs i d (le_of_suc-le-suc h)

  pub at_past : (xs : List A) (i : ℕ) → length xs ≤ i → at xs i ≡ None
  at_past [] i h = refl
  at_past (x ∷ xs) zero h = absurd (not-suc-le-zero h)
  at_past (x ∷ xs) (suc i) h = at_past xs i (le_of_suc-le-suc h)

  pub at_below : (xs : List A) (i : ℕ) (a : A) → at xs i ≡ Some a → i < length xs
  at_below [] i a e = never e
  at_below (x ∷ xs) zero a e = omega arith
  at_below (x ∷ xs) (suc i) a e = let h = at_below xs i a e in omega arith

  pub at_take : (n : ℕ) (xs : List A) (i : ℕ) → i < n → at (take n xs) i ≡ at xs i
  at_take zero xs i h = absurd (not-suc-le-zero h)
  at_take (suc n) [] i h = refl
  at_take (suc n) (x ∷ xs) zero h = refl
  at_take (suc n) (x ∷ xs) (suc i) h = at_take n xs i (le_of_suc-le-suc h)
