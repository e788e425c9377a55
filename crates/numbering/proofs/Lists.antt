-- What stands at a place of a list, and lists that go side by side.
use Rattle.std.proofs.Common.{◌≡◌, ℕ, zero, suc, ◌+◌, ◌-◌, ◌<◌, Bool, true, false, cond, ltb, List, [], ◌∷◌, ◌++◌, length, drop, Some, None, Option, sym, refl, ap, ◌∙◌, suc-add, zero-add, arith, length-append, ltb-false, ltb-true}
use Rattle.battery.specs.Tree.{at, ◌▸◌}
use Rattle.numbering.proofs.Options.{never, Some≡}
use Rattle.numbering.proofs.Indexed.{at_past}
use Rattle.numbering.proofs.Standing.{Matched, neither, each}

-- where the list behind the k-th begins, or the end of all
abbrev pub ending : ℕ → List ℕ → ℕ → ℕ
ending n cs k = elim (at cs (suc k)) [ Some b ↦ b | None ↦ n ]

module _ {A : Type 0} where
  -- a list from a place on: its first, the rest, and that the place is within
  pub at_drop : (p : ℕ) (as' : List A) {a : A} {bs : List A} → drop p as' ≡ a ∷ bs → at as' p ≡ Some a
  at_drop zero as' e = ap (λ (l : List A). at l 0) e
  at_drop (suc p) [] e = ap (λ (l : List A). at l 0) e
  at_drop (suc p) (x ∷ as') e = at_drop p as' e

  pub drop_next : (p : ℕ) (as' : List A) {a : A} {bs : List A} → drop p as' ≡ a ∷ bs → drop (suc p) as' ≡ bs
  drop_next zero as' e = ap (drop 1) e
  drop_next (suc p) [] e = ap (drop 1) e
  drop_next (suc p) (x ∷ as') e = drop_next p as' e

  pub drop_at : (p : ℕ) (as' : List A) {a : A} → at as' p ≡ Some a → drop p as' ≡ a ∷ drop (suc p) as'
  drop_at p [] e = never e
  drop_at zero (x ∷ as') e = ap (λ (a : A). a ∷ as') (Some≡ e)
  drop_at (suc p) (x ∷ as') e = drop_at p as' e

  -- one list and then another
  at_left : (as' bs : List A) (i : ℕ) → i < length as' → at (as' ++ bs) i ≡ at as' i
  at_left [] bs i h = absurd (omega arith)
  at_left (a ∷ as') bs zero h = refl
  at_left (a ∷ as') bs (suc i) h = at_left as' bs i (omega arith)

  at_right : (as' bs : List A) (i : ℕ) → at (as' ++ bs) (length as' + i) ≡ at bs i
  at_right [] bs i = ap (at bs) (zero-add i)
  at_right (a ∷ as') bs i = ap (at (a ∷ as' ++ bs)) (suc-add (length as') i) ∙ at_right as' bs i

  -- lists one after the other, and where each of them begins
  abbrev pub concat : List (List A) → List A
  concat [] = []
  concat (as' ∷ L) = as' ++ concat L

  abbrev pub offsets : ℕ → List (List A) → List ℕ
  offsets c [] = []
  offsets c (as' ∷ L) = c ∷ offsets (c + length as') L

  pub length_offsets : (c : ℕ) (L : List (List A)) → length (offsets c L) ≡ length L
  length_offsets c [] = refl
  length_offsets c (as' ∷ L) = ap suc (length_offsets (c + length as') L)

  first_ends : (n c : ℕ) (as' : List A) (L : List (List A)) → n ≡ c + length (as' ++ concat L) → ending n (offsets c (as' ∷ L)) 0 ≡ c + length as'
  first_ends n c as' [] e = let h = length-append as' [] in omega arith
  first_ends n c as' (bs ∷ L) e = refl

  rest_ends : (n c : ℕ) (as' : List A) (L : List (List A)) → n ≡ c + length (as' ++ concat L) → n ≡ (c + length as') + length (concat L)
  rest_ends n c as' L e = let h = length-append as' (concat L) in omega arith

  pub lengths : (n c : ℕ) (L : List (List A)) (k : ℕ) → n ≡ c + length (concat L) → (at (offsets c L) k ▸ λ a. Some (ending n (offsets c L) k - a)) ≡ (at L k ▸ λ as'. Some (length as'))
  lengths n c [] k e = refl
  lengths n c (as' ∷ L) zero e = ap Some (let h = first_ends n c as' L e in omega arith)
  lengths n c (as' ∷ L) (suc k) e = lengths n (c + length as') L k (rest_ends n c as' L e)

  -- the i-th of the k-th list, by where it stands among all
  pub elements : (n c : ℕ) (L : List (List A)) (all : List A) (k i : ℕ) → n ≡ c + length (concat L) → ((j : ℕ) → at all (c + j) ≡ at (concat L) j)
      → (at (offsets c L) k ▸ λ a. cond (ltb (a + i) (ending n (offsets c L) k)) (at all (a + i)) None) ≡ (at L k ▸ λ as'. at as' i)
  elements n c [] all k i e h = refl
  elements n c (as' ∷ L) all zero i e h = go (ltb (c + i) (ending n (offsets c (as' ∷ L)) 0)) refl
    where
      go : (b : Bool) → ltb (c + i) (ending n (offsets c (as' ∷ L)) 0) ≡ b → cond b (at all (c + i)) None ≡ at as' i
      go true q = let l = ltb-true _ _ q in let f = first_ends n c as' L e in h i ∙ at_left as' (concat L) i (omega arith)
      go false q = let l = ltb-false _ _ q in let f = first_ends n c as' L e in sym (at_past as' i (omega arith))
  elements n c (as' ∷ L) all (suc k) i e h =
      elements n (c + length as') L all k i (rest_ends n c as' L e) (λ j. ap (at all) (let r : (c + length as') + j ≡ c + (length as' + j) = omega arith in r) ∙ h (length as' + j) ∙ at_right as' (concat L) j)

-- lists of which each fits its fellow
pub data Fitted {A B : Type 0} (R : A → B → Type 0) : List A → List B → Type 0 where
  no_more : Fitted R [] []
  one_more : {a : A} {b : B} {as' : List A} {bs : List B} → R a b → Fitted R as' bs → Fitted R (a ∷ as') (b ∷ bs)

module _ {A B : Type 0} {R : A → B → Type 0} where
  pub fitted_at : {as' : List A} {bs : List B} → Fitted R as' bs → (i : ℕ) → Matched R (at as' i) (at bs i)
  fitted_at no_more i = neither
  fitted_at (one_more r f) zero = each r
  fitted_at (one_more r f) (suc i) = fitted_at f i

  pub fitted_length : {as' : List A} {bs : List B} → Fitted R as' bs → length as' ≡ length bs
  fitted_length no_more = refl
  fitted_length (one_more r f) = ap suc (fitted_length f)

  -- found by the same number, if it is found
  pub matched_by : {C : Type 0} (o : Option C) (b : C → Bool) (f : C → Option A) (g : C → Option B) → ((c : C) → Matched R (f c) (g c))
      → Matched R (o ▸ λ c. cond (b c) (f c) None) (o ▸ λ c. cond (b c) (g c) None)
  matched_by None b f g h = neither
  matched_by (Some c) b f g h = go (b c)
    where
      go : (b : Bool) → Matched R (cond b (f c) None) (cond b (g c) None)
      go true = h c
      go false = neither
