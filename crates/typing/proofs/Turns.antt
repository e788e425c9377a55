-- The steps of typing as the code takes them, with places counted by one.
use Rattle.std.proofs.Common.{◌≡◌, ℕ, suc, ◌+◌, ◌<◌, ◌≤◌, Bool, true, false, ◌&&◌, List, ◌∷◌, length, Some, None, Ok, Err, Option, Result, sym, refl, ap, ◌∙◌, subst, arith}
use Rattle.battery.specs.declared.Ty.{Ty}
use Rattle.battery.specs.declared.Ty.TheVariants.{Unit as unit, Number as number, Boolean as boolean, Text as text, Enum as enum}
use Rattle.battery.specs.Tree.{Scope, bind, at, ◌▸◌}
use Rattle.table.specs.declared.token.Token.{Token}
use Rattle.table.specs.declared.token.Token.TheVariants.{Close as CLOSE, Enum as ENUM, Case as CASE, Def as DEF, Ty as TYPE, Arm as ARM, Expr as EXPR}
use Rattle.table.specs.declared.token.Head.{Head}
use Rattle.table.specs.declared.token.Head.TheVariants.{Leaf as LEAF, Pair as PAIR, If as IF, Match as MATCH, Exit as EXIT, Many as MANY}
use Rattle.table.specs.declared.token.Leaf.{Leaf}
use Rattle.table.specs.declared.token.Pair.TheVariants.{Calc as CALC, Concat as CONCAT, Eq as EQ, Lt as LT, Seq as SEQ, Val as VAL}
use Rattle.table.specs.Sorts.{is_close}
use Rattle.numbering.specs.Limits.{AllLimited, LimitedHead}
use Rattle.numbering.specs.Places.{case_count}
use Rattle.numbering.specs.Views.{OnCard}
use Rattle.numbering.proofs.Options.{never, Some≡, through, false≢true}
use Rattle.numbering.proofs.Bounds.{limited_at}
use Rattle.numbering.proofs.Indexed.{at_below}
use Rattle.numbering.proofs.Declared.{cases_counted}
use Rattle.verdict.specs.Order.{has, same_ty, enum_of, all_once, arms_named, fields_of}
use Rattle.rules.specs.declared.fault.Broken.TheVariants.{Mistyped, Arms as OfArms}
use Rattle.rules.specs.declared.fault.TypeFault.{TypeFault}
use Rattle.rules.specs.declared.shape.Shape.TheVariants.{Plain as plain}
use Rattle.table.specs.Sorts.{head_of, arm_in, type_of}
use Rattle.rules.specs.Rules.{ruled, parts_of, leaf_rule}
use Rattle.rules.specs.Shapes.{shape_of}
use Rattle.rules.specs.Standing.{OfEnum}
use Rattle.rules.specs.Typed.{checked_by, TypedAt, PartsAt, FitAt, ArmAt, ArmsAt}
use Rattle.typing.specs.Walks.{with_place}
use Rattle.rules.proofs.Backs.{head_not, type_is, type_not, arm_not}
use Rattle.rules.proofs.Nodes.{plain as is_plain}
use Rattle.rules.proofs.Steps.{ends, other, leaf_typed, node_fault, node_typed, node_broken, val_fault, val_typed, no_type_here, exit_fault, exit_broken, exit_typed, match_fault, no_enum, no_cases, HasEnum, Fitting, misarmed, first_arm_fault, other_arm_fault, match_typed, arms_differ, arm_typed, no_arm_at, arms_closed, arms_first_fault, arms_other_fault, arms_more, no_arms_at}

step_on : (p : ℕ) → p + 1 ≡ suc p
step_on p = omega arith

two_on : (p : ℕ) → p + 2 ≡ suc (suc p)
two_on p = omega arith

module _ (ws : List Token) where
  on : (Γ : Scope Ty) (p : ℕ) (r : Result (Ty × ℕ) TypeFault) → TypedAt ws Γ (p + 1) r → TypedAt ws Γ (suc p) r
  on Γ p r h = subst (λ q. TypedAt ws Γ q r) (step_on p) h

  pub no_head : (Γ : Scope Ty) (p : ℕ) (r : Result (Ty × ℕ) TypeFault) → None ≡ head_of (at ws p) → TypedAt ws Γ p r
  no_head Γ p r e = go (at ws p) refl
    where
      go : (o : Option Token) → at ws p ≡ o → TypedAt ws Γ p r
      go None h = ends ws Γ p r h
      go (Some w) h = other ws Γ p w r h (λ g q. head_not (at ws p) e g (h ∙ ap Some q))

  pub leaf_turn : (Γ : Scope Ty) (p : ℕ) (l : Leaf) (τ : Ty) → at ws p ≡ Some (EXPR (LEAF l)) → has τ ≡ leaf_rule Γ p l → TypedAt ws Γ p (Ok (τ, p + 1))
  leaf_turn Γ p l τ h r = subst (λ q. TypedAt ws Γ p (Ok (τ, q))) (sym (step_on p)) (leaf_typed ws Γ p l τ h (sym r))

  -- VAL
  pub val_break : (Γ : Scope Ty) (p x : ℕ) (f : TypeFault) → at ws p ≡ Some (EXPR (PAIR (VAL x))) → TypedAt ws Γ (p + 1) (Err f) → TypedAt ws Γ p (Err f)
  val_break Γ p x f h r = val_fault ws Γ p x f h (on Γ p (Err f) r)

  pub val_turn : (Γ : Scope Ty) (p x m : ℕ) (σ : Ty) (r : Result (Ty × ℕ) TypeFault) → at ws p ≡ Some (EXPR (PAIR (VAL x))) → TypedAt ws Γ (p + 1) (Ok (σ, m)) → TypedAt ws ((x, σ) ∷ Γ) m r → TypedAt ws Γ p r
  val_turn Γ p x m σ r h a d = val_typed ws Γ p x m σ r h (on Γ p (Ok (σ, m)) a) d

  -- EXIT
  pub exit_lost : (Γ : Scope Ty) (p : ℕ) (r : Result (Ty × ℕ) TypeFault) → at ws p ≡ Some (EXPR EXIT) → None ≡ type_of (at ws (p + 1)) → TypedAt ws Γ p r
  exit_lost Γ p r h e = no_type_here ws Γ p r h (λ τ q. type_not (at ws (p + 1)) e τ (ap (at ws) (step_on p) ∙ q))

  pub exit_break : (Γ : Scope Ty) (p : ℕ) (f : TypeFault) → at ws p ≡ Some (EXPR EXIT) → TypedAt ws Γ (p + 2) (Err f) → TypedAt ws Γ p (Err f)
  exit_break Γ p f h r = exit_fault ws Γ p f h (subst (λ q. TypedAt ws Γ q (Err f)) (two_on p) r)

  pub exit_wrong : (Γ : Scope Ty) (p m : ℕ) (σ : Ty) (f : TypeFault) → at ws p ≡ Some (EXPR EXIT) → TypedAt ws Γ (p + 2) (Ok (σ, m)) → false ≡ same_ty σ text → f ≡ record { broken = Mistyped; «record» = p } → TypedAt ws Γ p (Err f)
  exit_wrong Γ p m σ f h r d e = subst (λ g. TypedAt ws Γ p (Err g)) (sym e) (exit_broken ws Γ p m σ h (subst (λ q. TypedAt ws Γ q (Ok (σ, m))) (two_on p) r) (sym d))

  pub exit_turn : (Γ : Scope Ty) (p m : ℕ) (σ τ : Ty) → at ws p ≡ Some (EXPR EXIT) → Some τ ≡ type_of (at ws (p + 1)) → TypedAt ws Γ (p + 2) (Ok (σ, m)) → true ≡ same_ty σ text → TypedAt ws Γ p (Ok (τ, m))
  exit_turn Γ p m σ τ h e r d =
      exit_typed ws Γ p m σ τ h (ap (at ws) (sym (step_on p)) ∙ type_is (at ws (p + 1)) τ e) (subst (λ q. TypedAt ws Γ q (Ok (σ, m))) (two_on p) r) (sym d)

  -- parts in one scope, and the head's rule
  plain_shape : (h : Head) (n : ℕ) → shape_of h ≡ plain n → (is_plain h ≡ true) × (parts_of h ≡ n)
  plain_shape (LEAF k) n e = let z : ◌≡◌ {A = ℕ} 0 1 = cc in absurd (omega arith)
  plain_shape (PAIR (CALC o)) n e = (refl, cc)
  plain_shape (PAIR CONCAT) n e = (refl, cc)
  plain_shape (PAIR EQ) n e = (refl, cc)
  plain_shape (PAIR LT) n e = (refl, cc)
  plain_shape (PAIR SEQ) n e = (refl, cc)
  plain_shape (PAIR (VAL x)) n e = let z : ◌≡◌ {A = ℕ} 0 1 = cc in absurd (omega arith)
  plain_shape IF n e = (refl, cc)
  plain_shape MATCH n e = let z : ◌≡◌ {A = ℕ} 0 1 = cc in absurd (omega arith)
  plain_shape EXIT n e = let z : ◌≡◌ {A = ℕ} 0 1 = cc in absurd (omega arith)
  plain_shape (MANY m k) n e = (refl, cc)

  pub few_parts : (p : ℕ) (h : Head) (n : ℕ) → ∥ AllLimited ws ∥₁ → at ws p ≡ Some (EXPR h) → shape_of h ≡ plain n → n ≤ 4
  few_parts p h n all e s = go h s (limited_at ws p (EXPR h) all e)
    where
      go : (h : Head) → shape_of h ≡ plain n → LimitedHead h → n ≤ 4
      go (LEAF k) e l = let z : ◌≡◌ {A = ℕ} 0 1 = cc in absurd (omega arith)
      go (PAIR (CALC o)) e l = let z : ◌≡◌ {A = ℕ} 2 n = cc in omega arith
      go (PAIR CONCAT) e l = let z : ◌≡◌ {A = ℕ} 2 n = cc in omega arith
      go (PAIR EQ) e l = let z : ◌≡◌ {A = ℕ} 2 n = cc in omega arith
      go (PAIR LT) e l = let z : ◌≡◌ {A = ℕ} 2 n = cc in omega arith
      go (PAIR SEQ) e l = let z : ◌≡◌ {A = ℕ} 2 n = cc in omega arith
      go (PAIR (VAL x)) e l = let z : ◌≡◌ {A = ℕ} 0 1 = cc in absurd (omega arith)
      go IF e l = let z : ◌≡◌ {A = ℕ} 3 n = cc in omega arith
      go MATCH e l = let z : ◌≡◌ {A = ℕ} 0 1 = cc in absurd (omega arith)
      go EXIT e l = let z : ◌≡◌ {A = ℕ} 0 1 = cc in absurd (omega arith)
      go (MANY m k) e l = let z : ◌≡◌ {A = ℕ} m n = cc in omega arith

  parts_here : (Γ : Scope Ty) (p n : ℕ) (h : Head) (r : Result (List Ty × ℕ) TypeFault) → shape_of h ≡ plain n → PartsAt ws Γ (p + 1) n r → PartsAt ws Γ (suc p) (parts_of h) r
  parts_here Γ p n h r s d = subst (λ j. PartsAt ws Γ (suc p) j r) (sym (plain_shape h n s).1) (subst (λ q. PartsAt ws Γ q n r) (step_on p) d)

  pub plain_break : (Γ : Scope Ty) (p n : ℕ) (h : Head) (f : TypeFault) → at ws p ≡ Some (EXPR h) → shape_of h ≡ plain n → PartsAt ws Γ (p + 1) n (Err f) → TypedAt ws Γ p (Err f)
  plain_break Γ p n h f e i r = node_fault ws Γ p h f e (plain_shape h n i).0 (parts_here Γ p n h (Err f) i r)

  pub plain_turn : (Γ : Scope Ty) (p n m : ℕ) (h : Head) (τs : List Ty) (r : Result Ty TypeFault) → at ws p ≡ Some (EXPR h) → shape_of h ≡ plain n → PartsAt ws Γ (p + 1) n (Ok (τs, m)) → OnCard ws (λ C. checked_by r ≡ ruled C p h τs) → TypedAt ws Γ p (with_place m r)
  plain_turn Γ p n m h τs (Ok τ) e i d g = node_typed ws Γ p m h τs τ e (plain_shape h n i).0 (parts_here Γ p n h (Ok (τs, m)) i d) (λ u C read. sym (g u C read))
  plain_turn Γ p n m h τs (Err f) e i d g = node_broken ws Γ p m h τs f e (plain_shape h n i).0 (parts_here Γ p n h (Ok (τs, m)) i d) (λ u C read. sym (g u C read))

  -- MATCH
  pub match_break : (Γ : Scope Ty) (p : ℕ) (f : TypeFault) → at ws p ≡ Some (EXPR MATCH) → TypedAt ws Γ (p + 1) (Err f) → TypedAt ws Γ p (Err f)
  match_break Γ p f h r = match_fault ws Γ p f h (on Γ p (Err f) r)

  pub match_no_enum : (Γ : Scope Ty) (p m : ℕ) (σ : Ty) (f : TypeFault) → at ws p ≡ Some (EXPR MATCH) → TypedAt ws Γ (p + 1) (Ok (σ, m)) → None ≡ enum_of σ → f ≡ record { broken = Mistyped; «record» = p } → TypedAt ws Γ p (Err f)
  match_no_enum Γ p m σ f h r d e = subst (λ g. TypedAt ws Γ p (Err g)) (sym e) (no_enum ws Γ p m σ h (on Γ p (Ok (σ, m)) r) (sym d))

  is_enum : (σ : Ty) (k : ℕ) → Some k ≡ enum_of σ → σ ≡ enum k
  is_enum unit k e = never (sym e)
  is_enum number k e = never (sym e)
  is_enum boolean k e = never (sym e)
  is_enum text k e = never (sym e)
  is_enum (enum j) k e = ap enum (sym (Some≡ e))

  -- the first part has the type of an enum
  chosen : (Γ : Scope Ty) (p m k : ℕ) (σ : Ty) → Some k ≡ enum_of σ → TypedAt ws Γ (p + 1) (Ok (σ, m)) → TypedAt ws Γ (suc p) (Ok (enum k, m))
  chosen Γ p m k σ d r = on Γ p (Ok (enum k, m)) (subst (λ υ. TypedAt ws Γ (p + 1) (Ok (υ, m))) (is_enum σ k d) r)

  counted_out : (k : ℕ) → None ≡ case_count ws k → OnCard ws (λ C. at C.enums k ≡ None)
  counted_out k e t C read = go (at C.enums k) (sym (cases_counted t ws C read k) ∙ sym e)
    where
      go : (o : Option (List (List Ty))) → (o ▸ λ E. Some (length E)) ≡ None → o ≡ None
      go None q = refl
      go (Some E) q = never (sym q)

  counted_in : (k n : ℕ) → Some n ≡ case_count ws k → HasEnum ws k
  counted_in k n e t C read = let r = through (at C.enums k) (λ E. Some (length E)) n (sym (cases_counted t ws C read k) ∙ sym e) in (r.mid, r.got)

  so_many_cases : (k n : ℕ) → Some n ≡ case_count ws k → OfEnum ws k (λ E. n ≡ length E)
  so_many_cases k n e t C read E d = Some≡ (e ∙ cases_counted t ws C read k ∙ ap (λ (o : Option (List (List Ty))). o ▸ λ E. Some (length E)) d)

  -- so arms that fit so many cases fit the enum
  fitting : (k n m : ℕ) (b : Bool) → Some n ≡ case_count ws k → FitAt ws k n m b → Fitting ws k m b
  fitting k n m b c a t C read E d ms ps q = a t C read E d ms ps q ∙ ap (λ (j : ℕ). all_once j ms && arms_named E ms) (so_many_cases k n c t C read E d)

  module _ (Γ : Scope Ty) (p m k : ℕ) (σ : Ty) (h : at ws p ≡ Some (EXPR MATCH)) (r : TypedAt ws Γ (p + 1) (Ok (σ, m))) (d : Some k ≡ enum_of σ) where
    pub match_no_cases : (f : TypeFault) → None ≡ case_count ws k → f ≡ record { broken = OfArms; «record» = p } → TypedAt ws Γ p (Err f)
    match_no_cases f n e = subst (λ g. TypedAt ws Γ p (Err g)) (sym e) (no_cases ws Γ p m k h (chosen Γ p m k σ d r) (counted_out k n))

    pub match_misarmed : (n : ℕ) (f : TypeFault) → Some n ≡ case_count ws k → FitAt ws k n m false → f ≡ record { broken = OfArms; «record» = p } → TypedAt ws Γ p (Err f)
    match_misarmed n f c a e = subst (λ g. TypedAt ws Γ p (Err g)) (sym e) (misarmed ws Γ p m k h (chosen Γ p m k σ d r) (counted_in k n c) (fitting k n m _ c a))

    -- its arms fit
    module _ (n : ℕ) (c : Some n ≡ case_count ws k) (a : FitAt ws k n m true) where
      pub match_first_break : (f : TypeFault) → ArmAt ws Γ k m (Err f) → TypedAt ws Γ p (Err f)
      match_first_break f i = first_arm_fault ws Γ p m k f h (chosen Γ p m k σ d r) (counted_in k n c) (fitting k n m _ c a) i

      pub match_other_break : (l : ℕ) (τ : Ty) (f : TypeFault) → ArmAt ws Γ k m (Ok (τ, l)) → ArmsAt ws Γ k τ l (Err f) → TypedAt ws Γ p (Err f)
      match_other_break l τ f i j = other_arm_fault ws Γ p m k l τ f h (chosen Γ p m k σ d r) (counted_in k n c) (fitting k n m _ c a) i j

      pub match_turn : (l j : ℕ) (τ : Ty) → ArmAt ws Γ k m (Ok (τ, l)) → (alike : Bool) → ArmsAt ws Γ k τ l (Ok (alike, j)) → alike ≡ true → TypedAt ws Γ p (Ok (τ, j))
      match_turn l j τ i x o y = match_typed ws Γ p m k l j τ h (chosen Γ p m k σ d r) (counted_in k n c) (fitting k n m _ c a) i (subst (λ z. ArmsAt ws Γ k τ l (Ok (z, j))) y o)

      pub match_differ : (l j : ℕ) (τ : Ty) (f : TypeFault) → ArmAt ws Γ k m (Ok (τ, l)) → (alike : Bool) → ArmsAt ws Γ k τ l (Ok (alike, j)) → alike ≡ false → f ≡ record { broken = Mistyped; «record» = p } → TypedAt ws Γ p (Err f)
      match_differ l j τ f i x o y q =
          subst (λ z. TypedAt ws Γ p (Err z)) (sym q)
          (arms_differ ws Γ p m k l j τ h (chosen Γ p m k σ d r) (counted_in k n c) (fitting k n m _ c a) i (subst (λ z. ArmsAt ws Γ k τ l (Ok (z, j))) y o))

  -- an arm
  pub arm_lost : (Γ : Scope Ty) (p k : ℕ) (r : Result (Ty × ℕ) TypeFault) → None ≡ arm_in (at ws p) → ArmAt ws Γ k p r
  arm_lost Γ p k r e = no_arm_at ws Γ k p r (arm_not (at ws p) e)

  pub arm_turn : (Γ : Scope Ty) (p k n x c : ℕ) (τs : List Ty) (r : Result (Ty × ℕ) TypeFault) → at ws p ≡ Some (ARM n x c) → OfEnum ws k (λ E. fields_of (at E c) ≡ τs) → TypedAt ws (bind x τs Γ) (p + 1) r → ArmAt ws Γ k p r
  arm_turn Γ p k n x c τs r h f d = arm_typed ws Γ k p n x c τs r h f (on (bind x τs Γ) p r d)

  -- the other arms
  close_is : (o : Option Token) → true ≡ is_close o → o ≡ Some CLOSE
  close_is None e = false≢true (sym e)
  close_is (Some CLOSE) e = refl
  close_is (Some (ENUM k)) e = false≢true (sym e)
  close_is (Some (CASE n k)) e = false≢true (sym e)
  close_is (Some (DEF n k)) e = false≢true (sym e)
  close_is (Some (TYPE τ)) e = false≢true (sym e)
  close_is (Some (ARM n x c)) e = false≢true (sym e)
  close_is (Some (EXPR h)) e = false≢true (sym e)

  pub closed_below : (p : ℕ) → true ≡ is_close (at ws p) → p < length ws
  closed_below p e = at_below ws p CLOSE (close_is (at ws p) e)

  pub arms_done : (Γ : Scope Ty) (p k : ℕ) (τ : Ty) → true ≡ is_close (at ws p) → ArmsAt ws Γ k τ p (Ok (true, p + 1))
  arms_done Γ p k τ e = subst (λ q. ArmsAt ws Γ k τ p (Ok (true, q))) (sym (step_on p)) (arms_closed ws Γ k p τ (close_is (at ws p) e))

  -- what is no CLOSE is an ARM, or there are no arms here
  with_arm : (Γ : Scope Ty) (p k : ℕ) (τ : Ty) (r : Result (Bool × ℕ) TypeFault) → false ≡ is_close (at ws p) → ((n x c : ℕ) → at ws p ≡ Some (ARM n x c) → ArmsAt ws Γ k τ p r) → ArmsAt ws Γ k τ p r
  with_arm Γ p k τ r e f = go (at ws p) refl
    where
      open_here : at ws p ≡ Some CLOSE → ⊥
      open_here h = false≢true (e ∙ ap is_close h)

      none : ((n x c : ℕ) → at ws p ≡ Some (ARM n x c) → ⊥) → ArmsAt ws Γ k τ p r
      none g = no_arms_at ws Γ k p τ r open_here g

      differ : {w : Token} {n x c : ℕ} → at ws p ≡ Some w → at ws p ≡ Some (ARM n x c) → w ≡ ARM n x c
      differ h q = Some≡ (sym h ∙ q)

      go : (o : Option Token) → at ws p ≡ o → ArmsAt ws Γ k τ p r
      go None h = none (λ n x c q. never (sym h ∙ q))
      go (Some CLOSE) h = absurd (open_here h)
      go (Some (ENUM j)) h = none (λ n x c q. let z : ◌≡◌ {A = Token} (ENUM j) (ARM n x c) = differ h q in let y : ◌≡◌ {A = ℕ} 0 1 = cc in omega arith)
      go (Some (CASE i j)) h = none (λ n x c q. let z : ◌≡◌ {A = Token} (CASE i j) (ARM n x c) = differ h q in let y : ◌≡◌ {A = ℕ} 0 1 = cc in omega arith)
      go (Some (DEF i j)) h = none (λ n x c q. let z : ◌≡◌ {A = Token} (DEF i j) (ARM n x c) = differ h q in let y : ◌≡◌ {A = ℕ} 0 1 = cc in omega arith)
      go (Some (TYPE υ)) h = none (λ n x c q. let z : ◌≡◌ {A = Token} (TYPE υ) (ARM n x c) = differ h q in let y : ◌≡◌ {A = ℕ} 0 1 = cc in omega arith)
      go (Some (ARM n x c)) h = f n x c h
      go (Some (EXPR g)) h = none (λ n x c q. let z : ◌≡◌ {A = Token} (EXPR g) (ARM n x c) = differ h q in let y : ◌≡◌ {A = ℕ} 0 1 = cc in omega arith)

  pub arms_break : (Γ : Scope Ty) (p k : ℕ) (τ : Ty) (f : TypeFault) → false ≡ is_close (at ws p) → ArmAt ws Γ k p (Err f) → ArmsAt ws Γ k τ p (Err f)
  arms_break Γ p k τ f e a = with_arm Γ p k τ (Err f) e (λ n x c h. arms_first_fault ws Γ k p n x c τ f h a)

  pub arms_other_break : (Γ : Scope Ty) (p k l : ℕ) (τ υ : Ty) (f : TypeFault) → false ≡ is_close (at ws p) → ArmAt ws Γ k p (Ok (υ, l)) → ArmsAt ws Γ k τ l (Err f) → ArmsAt ws Γ k τ p (Err f)
  arms_other_break Γ p k l τ υ f e a d = with_arm Γ p k τ (Err f) e (λ n x c h. arms_other_fault ws Γ k p l n x c τ υ f h a d)

  pub arms_turn : (Γ : Scope Ty) (p k l j : ℕ) (τ υ : Ty) (o : Bool) → false ≡ is_close (at ws p) → ArmAt ws Γ k p (Ok (υ, l)) → ArmsAt ws Γ k τ l (Ok (o, j)) → ArmsAt ws Γ k τ p (Ok (same_ty υ τ && o, j))
  arms_turn Γ p k l j τ υ o e a d = with_arm Γ p k τ (Ok (same_ty υ τ && o, j)) e (λ n x c h. arms_more ws Γ k p l j n x c τ υ o h a d)
