-- The list of arms from a place on, and what is asked of it.
use Rattle.std.proofs.Common.{◌≡◌, ℕ, zero, suc, ◌+◌, ◌<◌, ◌≤◌, Bool, true, false, ◌&&◌, eqb, List, [], ◌∷◌, ◌++◌, length, filter, Some, None, Option, sym, refl, ap, ◌∙◌, subst, arith}
use Rattle.std.specs.List.{list_all, range_with_len}
use Rattle.std.proofs.lemmas.List.Folds.{list_all-append}
use Rattle.battery.specs.declared.Ty.{Ty}
use Rattle.battery.specs.Tree.{Arms, no_arm, arm, Card, at, ◌▸◌}
use Rattle.battery.specs.Typing.{arms_of}
use Rattle.table.specs.declared.token.Arm.{Arm}
use Rattle.table.specs.declared.token.Token.{Token}
use Rattle.table.specs.Sorts.{arm_in, field_count}
use Rattle.grammar.specs.Grammar.{Piece, card_of}
use Rattle.numbering.specs.Ends.{Ends}
use Rattle.numbering.proofs.Indexed.{at_past, at_below}
use Rattle.std.proofs.lemmas.Bool.Decides.{nat_tests}
use Rattle.numbering.specs.Places.{case_place}
use Rattle.numbering.proofs.Declared.{case_at}
use Rattle.numbering.proofs.Standing.{Matched, neither, each, CaseAt}
use Rattle.verdict.specs.Order.{all_once, arms_named, as_fields}
use Rattle.rules.specs.Arming.{next_place, while_some, next_arms, taken_once, so_many, names_fit}
use Rattle.rules.specs.Typed.{arms_from, FitAt}
use Rattle.rules.proofs.Backs.{arm_is, arm_not}
use Rattle.rules.proofs.Steps.{arm_here}
use Rattle.rules.proofs.Walks.{next_at, behind_arm, no_arm_left}

module _ (ws : List Token) (es : List ℕ) where
  later : (p : ℕ) → p < next_place ws es p
  later p = omega arith

  none_past : (p : ℕ) → length ws ≤ p → arm_in (at ws p) ≡ None
  none_past p h = ap arm_in (at_past ws p h)

  -- as many are enough as there are tokens left
  enough : (n m p : ℕ) → length ws ≤ n + p → length ws ≤ m + p → next_arms n ws es p ≡ next_arms m ws es p
  enough zero zero p h k = refl
  enough zero (suc m) p h k = sym (ap (λ (o : Option Arm). while_some o (next_arms m ws es (next_place ws es p))) (none_past p (omega arith)))
  enough (suc n) zero p h k = ap (λ (o : Option Arm). while_some o (next_arms n ws es (next_place ws es p))) (none_past p (omega arith))
  enough (suc n) (suc m) p h k =
      let l = later p in
      ap (while_some (arm_in (at ws p))) (enough n m (next_place ws es p) (omega arith) (omega arith))

  pub no_more : (n p : ℕ) → None ≡ arm_in (at ws p) → next_arms n ws es p ≡ []
  no_more zero p e = refl
  no_more (suc n) p e = ap (λ (o : Option Arm). while_some o (next_arms n ws es (next_place ws es p))) (sym e)

  pub one_more : (n p : ℕ) (a : Arm) → length ws ≤ n → Some a ≡ arm_in (at ws p) → next_arms n ws es p ≡ a ∷ next_arms n ws es (next_place ws es p)
  one_more zero p a l e = let b = at_below ws p _ (arm_is _ a e) in absurd (omega arith)
  one_more (suc n) p a l e =
      let k = later p in
      ap (λ (o : Option Arm). while_some o (next_arms n ws es (next_place ws es p))) (sym e) ∙ ap (λ (as' : List Arm). a ∷ as') (enough n (suc n) (next_place ws es p) (omega arith) (omega arith))

  pub at_most_so_many : (n p : ℕ) → length (next_arms n ws es p) ≤ n
  at_most_so_many zero p = omega arith
  at_most_so_many (suc n) p = go (arm_in (at ws p)) (next_arms n ws es (next_place ws es p)) (at_most_so_many n (next_place ws es p))
    where
      go : (o : Option Arm) (as' : List Arm) → length as' ≤ n → length (while_some o as') ≤ suc n
      go None as' h = omega arith
      go (Some a) as' h = omega arith

-- what the grammar reads there
abbrev pub listed_arms : Arms → List Arm
listed_arms no_arm = []
listed_arms (arm p c n x e ms) = record { names = n; first = x; case = c } ∷ listed_arms ms

module _ (ws : List Token) (es : List ℕ) (ends : Ends ws es) where
  nothing : (n p : ℕ) (t : List ℕ) (ms : Arms) (ps : List Piece) → None ≡ arm_in (at ws p) → arms_from t ws p ≡ Some (ms, ps) → next_arms n ws es p ≡ listed_arms ms
  nothing n p t ms ps e q = no_more ws es n p e ∙ sym (ap listed_arms (no_arm_left ws t p ms ps (arm_not (at ws p) e) q))

  pub spelt : (n p : ℕ) → length ws ≤ n + p → (t : List ℕ) (ms : Arms) (ps : List Piece) → arms_from t ws p ≡ Some (ms, ps) → next_arms n ws es p ≡ listed_arms ms
  spelt zero p l t ms ps q = nothing zero p t ms ps (sym (none_past ws es p (omega arith))) q
  spelt (suc n) p l t ms ps q = go (arm_in (at ws p)) refl (λ more h. spelt n (next_place ws es p) (let k = later ws es p in omega arith) t more ps h)
    where
      go : (o : Option Arm) → o ≡ arm_in (at ws p) → ((more : Arms) → arms_from t ws (next_place ws es p) ≡ Some (more, ps) → next_arms n ws es (next_place ws es p) ≡ listed_arms more) → next_arms (suc n) ws es p ≡ listed_arms ms
      go None e r = nothing (suc n) p t ms ps e q
      go (Some a) e r =
          let z = arm_here ws t p a.names a.first a.case ms ps (arm_is (at ws p) a e) q in
          let s = next_at ws es ends p _ (next_place ws es p) refl refl in
          ap (λ (o : Option Arm). while_some o (next_arms n ws es (next_place ws es p))) (sym e) ∙ ap (λ (as' : List Arm). a ∷ as') (r z.more (behind_arm ws t p _ _ _ _ ms ps z s)) ∙ sym (ap listed_arms z.is)

-- and what the rules ask of them
counted : (k : ℕ) (ms : Arms) → length (filter (λ a. eqb a.case k) (listed_arms ms)) ≡ arms_of k ms
counted k no_arm = refl
counted k (arm p c n x e ms) = let h = counted k ms in grind (arith, nat_tests)

once : (n : ℕ) (ms : Arms) → list_all (taken_once (listed_arms ms)) (range_with_len 0 n) ≡ all_once n ms
once zero ms = refl
once (suc n) ms =
    ap (list_all (taken_once (listed_arms ms))) (last 0 n)
    ∙ list_all-append (taken_once (listed_arms ms)) (range_with_len 0 n) ((0 + n) ∷ [])
    ∙ ap (λ (b : Bool). b && (taken_once (listed_arms ms) (0 + n) && true)) (once n ms)
    ∙ swap (all_once n ms) (taken_once (listed_arms ms) (0 + n))
    ∙ ap (λ (k : ℕ). taken_once (listed_arms ms) k && all_once n ms) here
    ∙ ap (λ (k : ℕ). eqb k 1 && all_once n ms) (counted n ms)
  where
    here : 0 + n ≡ n
    here = omega arith

    last : (a n : ℕ) → range_with_len a (suc n) ≡ range_with_len a n ++ (a + n) ∷ []
    last a zero = let e : a ≡ a + 0 = omega arith in ap (λ (k : ℕ). k ∷ []) e
    last a (suc n) = let e : a + 1 + n ≡ a + suc n = omega arith in ap (λ (ks : List ℕ). a ∷ ks) (last (a + 1) n ∙ ap (λ (k : ℕ). range_with_len (a + 1) n ++ k ∷ []) e)

    swap : (a b : Bool) → (a && (b && true)) ≡ (b && a)
    swap true true = refl
    swap true false = refl
    swap false true = refl
    swap false false = refl

-- a case has its fields where the layout has it
module _ (ws : List Token) (t : List ℕ) (C : Card) (read : card_of t ws ≡ Some C) (k : ℕ) (E : List (List Ty)) (there : at C.enums k ≡ Some E) where
  fits : (a : Arm) → names_fit ws k a ≡ as_fields a.names (at E a.case)
  fits a = go (case_place ws k a.case) (at E a.case) (subst (Matched (CaseAt ws) (case_place ws k a.case)) (ap (λ (o : Option (List (List Ty))). o ▸ λ E. at E a.case) there) (case_at t ws C read k a.case))
    where
      go : (o : Option ℕ) (v : Option (List Ty)) → Matched (CaseAt ws) o v → so_many a.names (o ▸ λ p. field_count (at ws p)) ≡ as_fields a.names v
      go None None neither = refl
      go None (Some τs) m = elim m [ ]
      go (Some p) None m = elim m [ ]
      go (Some p) (Some τs) (each r) = ap (λ (w : Option Token). so_many a.names (field_count w)) r.is ∙ ap (eqb a.names) r.counted

  named : (ms : Arms) → list_all (names_fit ws k) (listed_arms ms) ≡ arms_named E ms
  named no_arm = refl
  named (arm p c n x e ms) = ap (λ (b : Bool). b && list_all (names_fit ws k) (listed_arms ms)) (fits (record { names = n; first = x; case = c })) ∙ ap (λ (b : Bool). as_fields n (at E c) && b) (named ms)

pub fit : (ws : List Token) (es : List ℕ) → Ends ws es → (k n p : ℕ) (b c : Bool) → b ≡ list_all (taken_once (next_arms (length ws) ws es p)) (range_with_len 0 n) → c ≡ list_all (names_fit ws k) (next_arms (length ws) ws es p) → FitAt ws k n p (b && c)
fit ws es ends k n p b c o m t C read E there ms ps q =
    let s = spelt ws es ends (length ws) p (omega arith) t ms ps q in
    ap (λ (x : Bool). x && c) (o ∙ ap (λ (as' : List Arm). list_all (taken_once as') (range_with_len 0 n)) s ∙ once n ms)
    ∙ ap (λ (x : Bool). all_once n ms && x) (m ∙ ap (list_all (names_fit ws k)) s ∙ named ws t C read k E there ms)

pub misfit : (ws : List Token) (es : List ℕ) → Ends ws es → (k n p : ℕ) → false ≡ list_all (taken_once (next_arms (length ws) ws es p)) (range_with_len 0 n) → FitAt ws k n p false
misfit ws es ends k n p o t C read E there ms ps q =
    let s = spelt ws es ends (length ws) p (omega arith) t ms ps q in
    ap (λ (x : Bool). x && arms_named E ms) (o ∙ ap (λ (as' : List Arm). list_all (taken_once as') (range_with_len 0 n)) s ∙ once n ms)
