-- The published rules of evaluation, each in its printed shape: s ∣ σ ⊢ e ⇒ v ∣ s'.
use Rattle.std.specs.Prelude.{◌≡◌, ℕ, suc, ◌≤◌, Bool, true, false, ◌≢◌, ◌↔◌, List, [], ◌∷◌, ◌++◌, length, pos, ◌+ℤ◌, ◌*ℤ◌, Some, int_div, int_lt, int_rem}
use Rattle.battery.specs.declared.Arith.TheVariants.{Add, Mul, Div, Mod}
use Rattle.battery.specs.declared.value.Value.{Value}
use Rattle.battery.specs.declared.value.Value.TheVariants.{Unit as unit_v, Number as number_v, Boolean as boolean_v, Place as place_v}
use Rattle.std.specs.Prelude.{Ok as value}
use Rattle.battery.specs.Tree.{Expr, Unit', Num, Bool', Str, Local, Calc, Concat, Eq, Lt, Seq, If, Val, Call, Make, Match, Exprs, Scope, find, bind, at, in_range}
use Rattle.battery.specs.Cell.{Cell, text_cell, enum_cell}
use Rattle.battery.specs.Rules as rules
use Rattle.battery.specs.Rules.{Setup, arm_of, pairs, values, Opens, Eval, Parts, Pairs}

-- the units spent and the store's cells
abbrev pub At : Type 0
At = ℕ × List Cell

module _ (S : Setup) (d : ℕ) where
  -- with d judgements open, e in the scope σ comes to v
  abbrev pub ◌∣◌⊢◌⇒◌∣◌ : At → Scope Value → Expr → Value → At → Type 0
  s ∣ σ ⊢ e ⇒ v ∣ s' = Eval S d (rules.◌⊢◌ σ e) s.0 s.1 (value v) s'.0 s'.1

  abbrev pub ◌∣◌⊢⋆◌⇒◌∣◌ : At → Scope Value → Exprs → List Value → At → Type 0
  s ∣ σ ⊢⋆ es ⇒ vs ∣ s' = Parts S d σ es s.0 s.1 (values vs) s'.0 s'.1

  infix 5 ◌∣◌⊢◌⇒◌∣◌ ◌∣◌⊢⋆◌⇒◌∣◌
  -- eq (v, w), for the EQ of the record p
  abbrev pub eq : ℕ → At → Value → Value → Bool → At → Type 0
  eq p s v w b s' = Eval S d (rules.same p v w) s.0 s.1 (value (boolean_v b)) s'.0 s'.1

  pub data Published (σ : Scope Value) : At → Expr → Value → At → Type 0 where
    EUnit : {s p : _} → Published σ s (Unit' p) unit_v s
    ENum : {s p n : _} → Published σ s (Num p n) (number_v n) s
    EBool : {s p b : _} → Published σ s (Bool' p b) (boolean_v b) s
    EStr : {u cs p t i cs' : _} → S.put cs (text_cell t) ≡ Some (i, cs') → Published σ (u, cs) (Str p t) (place_v i) (u, cs')
    EId : {s p x v : _} → find σ x ≡ Some v → Published σ s (Local p x) v s
    EAdd : {s s₁ s₂ p a b m n k : _} → s ∣ σ ⊢ a ⇒ number_v m ∣ s₁ → s₁ ∣ σ ⊢ b ⇒ number_v n ∣ s₂ → k ≡ m +ℤ n → in_range k ≡ true → Published σ s (Calc p Add a b) (number_v k) s₂
    EMul : {s s₁ s₂ p a b m n k : _} → s ∣ σ ⊢ a ⇒ number_v m ∣ s₁ → s₁ ∣ σ ⊢ b ⇒ number_v n ∣ s₂ → k ≡ m *ℤ n → in_range k ≡ true → Published σ s (Calc p Mul a b) (number_v k) s₂
    EDiv : {s s₁ s₂ p a b m n k : _} → s ∣ σ ⊢ a ⇒ number_v m ∣ s₁ → s₁ ∣ σ ⊢ b ⇒ number_v n ∣ s₂ → n ≢ pos 0 → k ≡ int_div m n → in_range k ≡ true → Published σ s (Calc p Div a b) (number_v k) s₂
    EMod : {s s₁ s₂ p a b m n k : _} → s ∣ σ ⊢ a ⇒ number_v m ∣ s₁ → s₁ ∣ σ ⊢ b ⇒ number_v n ∣ s₂ → n ≢ pos 0 → k ≡ int_rem m n → in_range k ≡ true → Published σ s (Calc p Mod a b) (number_v k) s₂
    EEq : {s s₁ s₂ s₃ p a b v w r : _} → s ∣ σ ⊢ a ⇒ v ∣ s₁ → s₁ ∣ σ ⊢ b ⇒ w ∣ s₂ → eq p s₂ v w r s₃ → Published σ s (Eq p a b) (boolean_v r) s₃
    ELt : {s s₁ s₂ p a b m n r : _} → s ∣ σ ⊢ a ⇒ number_v m ∣ s₁ → s₁ ∣ σ ⊢ b ⇒ number_v n ∣ s₂ → r ≡ int_lt m n → Published σ s (Lt p a b) (boolean_v r) s₂
    EConcat : {s s₁ u cs p a b i j t t' k cs' : _} → s ∣ σ ⊢ a ⇒ place_v i ∣ s₁ → s₁ ∣ σ ⊢ b ⇒ place_v j ∣ (u, cs)
        → at cs i ≡ Some (text_cell t) → at cs j ≡ Some (text_cell t') → length (t ++ t') ≤ 24 → S.put cs (text_cell (t ++ t')) ≡ Some (k, cs')
        → Published σ s (Concat p a b) (place_v k) (u, cs')
    ESeq : {s s₁ s₂ p a b v w : _} → s ∣ σ ⊢ a ⇒ v ∣ s₁ → s₁ ∣ σ ⊢ b ⇒ w ∣ s₂ → Published σ s (Seq p a b) w s₂
    EIfT : {s s₁ s₂ p c a b v : _} → s ∣ σ ⊢ c ⇒ boolean_v true ∣ s₁ → s₁ ∣ σ ⊢ a ⇒ v ∣ s₂ → Published σ s (If p c a b) v s₂
    EIfF : {s s₁ s₂ p c a b v : _} → s ∣ σ ⊢ c ⇒ boolean_v false ∣ s₁ → s₁ ∣ σ ⊢ b ⇒ v ∣ s₂ → Published σ s (If p c a b) v s₂
    EVal : {s s₁ s₂ p x a b v w : _} → s ∣ σ ⊢ a ⇒ v ∣ s₁ → s₁ ∣ (x, v) ∷ σ ⊢ b ⇒ w ∣ s₂ → Published σ s (Val p x a b) w s₂
    -- a function sees its parameters alone; a case makes a cell
    EApp : {s s₁ s₂ p f es fn vs v : _}
        → at S.card.fns f ≡ Some fn → s ∣ σ ⊢⋆ es ⇒ vs ∣ s₁ → length vs ≡ length fn.params → s₁ ∣ bind 0 vs [] ⊢ fn.body ⇒ v ∣ s₂ → Published σ s (Call p f es) v s₂
    EAppCase : {s u cs p k c es vs i cs' : _} → s ∣ σ ⊢⋆ es ⇒ vs ∣ (u, cs) → S.put cs (enum_cell k c vs) ≡ Some (i, cs') → Published σ s (Make p k c es) (place_v i) (u, cs')
    EMatch : {s u cs s₂ p a ms i k c vs x e v : _} → s ∣ σ ⊢ a ⇒ place_v i ∣ (u, cs) → at cs i ≡ Some (enum_cell k c vs)
        → arm_of ms c ≡ Some (length vs, x, e) → (u, cs) ∣ bind x vs σ ⊢ e ⇒ v ∣ s₂ → Published σ s (Match p a ms) v s₂

  -- eq over the fields, a conjunction that ends at the first pair that differs
  pub data EqFields (p : ℕ) : At → List (Value × Value) → Bool → At → Type 0 where
    eq_none : {s : _} → EqFields p s [] true s
    eq_both : {s s₁ s₂ v w ps b : _} → eq p s v w true s₁ → EqFields p s₁ ps b s₂ → EqFields p s ((v, w) ∷ ps) b s₂
    eq_differ : {s s₁ v w ps : _} → eq p s v w false s₁ → EqFields p s ((v, w) ∷ ps) false s₁

  -- the clauses of eq
  pub data PublishedEq (p : ℕ) : At → Value → Value → Bool → At → Type 0 where
    eq_unit : {s : _} → PublishedEq p s unit_v unit_v true s
    eq_number : {s m n b : _} → (b ≡ true) ↔ (m ≡ n) → PublishedEq p s (number_v m) (number_v n) b s
    eq_boolean : {s m n b : _} → (b ≡ true) ↔ (m ≡ n) → PublishedEq p s (boolean_v m) (boolean_v n) b s
    eq_text : {u cs i j t t' b : _} → at cs i ≡ Some (text_cell t) → at cs j ≡ Some (text_cell t') → (b ≡ true) ↔ (t ≡ t') → PublishedEq p (u, cs) (place_v i) (place_v j) b (u, cs)
    eq_cases : {u cs i j k c c' vs ws : _} → at cs i ≡ Some (enum_cell k c vs) → at cs j ≡ Some (enum_cell k c' ws) → c ≢ c' → PublishedEq p (u, cs) (place_v i) (place_v j) false (u, cs)
    eq_fields : {u cs i j k c vs ws b s : _} → at cs i ≡ Some (enum_cell k c vs) → at cs j ≡ Some (enum_cell k c ws) → EqFields p (u, cs) (pairs vs ws) b s → PublishedEq p (u, cs) (place_v i) (place_v j) b s

-- a judgement comes to a value exactly when one of these rules gives it, with the unit that opens it
abbrev pub EvaluatesAsPublished : Type 0
EvaluatesAsPublished =
    (S : Setup) (d : ℕ) (σ : Scope Value) (e : Expr) (v : Value) (u u' : ℕ) (cs cs' : List Cell)
    → Eval S d (rules.◌⊢◌ σ e) u cs (value v) u' cs' ↔ (Opens S d u × Published S (suc d) σ (suc u, cs) e v (u', cs'))

abbrev pub ComparesAsPublished : Type 0
ComparesAsPublished =
    (S : Setup) (d p : ℕ) (v w : Value) (b : Bool) (u u' : ℕ) (cs cs' : List Cell)
    → Eval S d (rules.same p v w) u cs (value (boolean_v b)) u' cs' ↔ (Opens S d u × PublishedEq S (suc d) p (suc u, cs) v w b (u', cs'))
