-- Parts and arms one after the other: what those that are left answer, all of them answer.
use Rattle.std.proofs.Common.{◌≡◌, ℕ, zero, suc, ◌+◌, ◌-◌, ◌<◌, Bool, true, false, cond, ◌&&◌, ltb, List, [], ◌∷◌, ◌++◌, length, Ok, Err, Result, sym, refl, ap, ◌∙◌, subst, append_assoc, append-nil, arith, lt-ltb}
use Rattle.battery.specs.declared.Ty.{Ty}
use Rattle.battery.specs.Tree.{Scope, at}
use Rattle.table.specs.declared.token.Token.{Token}
use Rattle.table.specs.Sorts.{is_close}
use Rattle.verdict.specs.Order.{same_ty}
use Rattle.rules.specs.declared.fault.TypeFault.{TypeFault}
use Rattle.rules.specs.Typed.{TypedAt, PartsAt, ArmAt, ArmsAt}
use Rattle.rules.proofs.Steps.{no_parts, first_part_fault, more_parts_fault, more_parts}
use Rattle.typing.proofs.Turns.{arms_done, arms_break, arms_other_break, arms_turn}

abbrev pub prepended : List Ty → Result (List Ty × ℕ) TypeFault → Result (List Ty × ℕ) TypeFault
prepended τs (Ok x) = Ok (τs ++ x.0, x.1)
prepended τs (Err f) = Err f

abbrev pub also : Bool → Result (Bool × ℕ) TypeFault → Result (Bool × ℕ) TypeFault
also a (Ok x) = Ok (a && x.0, x.1)
also a (Err f) = Err f

module _ (ws : List Token) (Γ : Scope Ty) where
  -- of n parts from p on, k are left from q on, behind those of the types τs
  abbrev pub PartsLeft : ℕ → ℕ → List Ty → ℕ → ℕ → Type 0
  PartsLeft p n τs q k = (r : Result (List Ty × ℕ) TypeFault) → PartsAt ws Γ q k r → PartsAt ws Γ p n (prepended τs r)

  -- of the arms from p on, those from q on are left, behind some that are alike or not
  abbrev pub ArmsLeft : ℕ → Ty → ℕ → Bool → ℕ → Type 0
  ArmsLeft k τ p a q = (r : Result (Bool × ℕ) TypeFault) → ArmsAt ws Γ k τ q r → ArmsAt ws Γ k τ p (also a r)

  parts_start : (p n : ℕ) (r : Result (List Ty × ℕ) TypeFault) → PartsAt ws Γ p n r → PartsAt ws Γ p n (prepended [] r)
  parts_start p n (Ok x) h = h
  parts_start p n (Err f) h = h

  pub no_part_yet : (p n : ℕ) (τs : List Ty) → τs ≡ [] → PartsLeft p n τs p n
  no_part_yet p n τs e r h = subst (λ υs. PartsAt ws Γ p n (prepended υs r)) (sym e) (parts_start p n r h)

  pub one_part_more : (p n q m k : ℕ) (τs υs : List Ty) (τ : Ty) → PartsLeft p n τs q k → 0 < k → TypedAt ws Γ q (Ok (τ, m)) → υs ≡ τs ++ τ ∷ [] → PartsLeft p n υs m (k - 1)
  one_part_more p n q m zero τs υs τ left l a g r h = absurd (omega arith)
  one_part_more p n q m (suc k) τs υs τ left l a g (Ok x) h =
      let i : suc k - 1 ≡ k = omega arith in
      let more : PartsAt ws Γ q (suc k) (Ok (τ ∷ x.0, x.1)) = more_parts ws Γ q m k x.1 τ x.0 a (subst (λ j. PartsAt ws Γ m j (Ok x)) i h) in
      subst (λ σs. PartsAt ws Γ p n (Ok (σs, x.1))) (sym (append_assoc τs (τ ∷ []) x.0) ∙ ap (λ (σs : List Ty). σs ++ x.0) (sym g)) (left (Ok (τ ∷ x.0, x.1)) more)
  one_part_more p n q m (suc k) τs υs τ left l a g (Err f) h =
      let i : suc k - 1 ≡ k = omega arith in
      left (Err f) (more_parts_fault ws Γ q m k τ f a (subst (λ j. PartsAt ws Γ m j (Err f)) i h))

  pub part_fault : (p n q k : ℕ) (τs : List Ty) (f : TypeFault) → PartsLeft p n τs q k → 0 < k → TypedAt ws Γ q (Err f) → PartsAt ws Γ p n (Err f)
  part_fault p n q zero τs f left l e = absurd (omega arith)
  part_fault p n q (suc k) τs f left l e = left (Err f) (first_part_fault ws Γ q k f e)

  pub no_part_left : (p n q k : ℕ) (τs : List Ty) → PartsLeft p n τs q k → k ≡ 0 → PartsAt ws Γ p n (Ok (τs, q))
  no_part_left p n q k τs left e =
      subst (λ υs. PartsAt ws Γ p n (Ok (υs, q))) (append-nil τs) (left (Ok ([], q)) (subst (λ j. PartsAt ws Γ q j (Ok ([], q))) (sym e) (no_parts ws Γ q)))

  pub no_arm_yet : (k p : ℕ) (τ : Ty) → ArmsLeft k τ p true p
  no_arm_yet k p τ (Ok x) h = h
  no_arm_yet k p τ (Err f) h = h

  pub one_arm_more : (k p q m : ℕ) (τ υ : Ty) (a b : Bool) → ArmsLeft k τ p a q → false ≡ is_close (at ws q) → ArmAt ws Γ k q (Ok (υ, m)) → b ≡ (a && same_ty υ τ) → ArmsLeft k τ p b m
  one_arm_more k p q m τ υ a b left o i g (Ok x) h =
      subst (λ c. ArmsAt ws Γ k τ p (Ok (c, x.1))) (both a (same_ty υ τ) x.0 ∙ ap (λ (c : Bool). c && x.0) (sym g)) (left (Ok (same_ty υ τ && x.0, x.1)) (arms_turn ws Γ q k m x.1 τ υ x.0 o i h))
    where
      both : (a b c : Bool) → (a && (b && c)) ≡ ((a && b) && c)
      both true b c = refl
      both false b c = refl
  one_arm_more k p q m τ υ a b left o i g (Err f) h = left (Err f) (arms_other_break ws Γ q k m τ υ f o i h)

  pub arm_fault : (k p q : ℕ) (τ : Ty) (a : Bool) (f : TypeFault) → ArmsLeft k τ p a q → false ≡ is_close (at ws q) → ArmAt ws Γ k q (Err f) → ArmsAt ws Γ k τ p (Err f)
  arm_fault k p q τ a f left o i = left (Err f) (arms_break ws Γ q k τ f o i)

  pub no_arm_left : (k p q : ℕ) (τ : Ty) (a : Bool) → ArmsLeft k τ p a q → true ≡ is_close (at ws q) → ArmsAt ws Γ k τ p (Ok (a, q + 1))
  no_arm_left k p q τ a left o = subst (λ c. ArmsAt ws Γ k τ p (Ok (c, q + 1))) (last a) (left (Ok (true, q + 1)) (arms_done ws Γ q k τ o))
    where
      last : (a : Bool) → (a && true) ≡ a
      last true = refl
      last false = refl

-- one more where there is room
pub pushed : (τs υs : List Ty) (τ : Ty) → length τs < 4 → υs ≡ cond (ltb (length τs) 4) (τs ++ τ ∷ []) τs → υs ≡ τs ++ τ ∷ []
pushed τs υs τ l g = g ∙ ap (λ (c : Bool). cond c (τs ++ τ ∷ []) τs) (lt-ltb (length τs) 4 l)
