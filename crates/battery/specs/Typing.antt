-- The rules of typing: C ∣ Γ ⊢ e ∶ τ.
use Rattle.std.specs.Prelude.{◌≡◌, ℕ, ◌+◌, ◌<◌, ◌≤◌, true, cond, List, [], ◌∷◌, length, Some, ◌==◌}
use Rattle.battery.specs.declared.Ty.{Ty}
use Rattle.battery.specs.declared.Ty.TheVariants.{Unit as unit, Number as number, Boolean as boolean, Text as text, Enum as enum}
use Rattle.battery.specs.Tree.{Expr, Unit', Num, Bool', Str, Local, Calc, Concat, Eq, Lt, Seq, If, Val, Call, Make, Match, Exit, Exprs, ∅, ◌&◌, Arms, no_arm, arm, Scope, find, bind, at, Fn, Card, in_range}

infix 5 ◌∣◌⊢◌∶◌ ◌∣◌⊢⋆◌∶◌
-- how many arms take the case c
abbrev pub arms_of : ℕ → Arms → ℕ
arms_of c no_arm = 0
arms_of c (arm p c' n x e ms) = cond (c == c') 1 0 + arms_of c ms

mutual
  pub data ◌∣◌⊢◌∶◌ (C : Card) : Scope Ty → Expr → Ty → Type 0 where
    t_unit : {Γ p : _} → C ∣ Γ ⊢ Unit' p ∶ unit
    t_num : {Γ p k : _} → in_range k ≡ true → C ∣ Γ ⊢ Num p k ∶ number
    t_bool : {Γ p b : _} → C ∣ Γ ⊢ Bool' p b ∶ boolean
    t_str : {Γ p s : _} → length s ≤ 24 → C ∣ Γ ⊢ Str p s ∶ text
    t_local : {Γ p x τ : _} → find Γ x ≡ Some τ → C ∣ Γ ⊢ Local p x ∶ τ
    t_calc : {Γ p o a b : _} → C ∣ Γ ⊢ a ∶ number → C ∣ Γ ⊢ b ∶ number → C ∣ Γ ⊢ Calc p o a b ∶ number
    t_concat : {Γ p a b : _} → C ∣ Γ ⊢ a ∶ text → C ∣ Γ ⊢ b ∶ text → C ∣ Γ ⊢ Concat p a b ∶ text
    t_eq : {Γ p a b τ : _} → C ∣ Γ ⊢ a ∶ τ → C ∣ Γ ⊢ b ∶ τ → C ∣ Γ ⊢ Eq p a b ∶ boolean
    t_lt : {Γ p a b : _} → C ∣ Γ ⊢ a ∶ number → C ∣ Γ ⊢ b ∶ number → C ∣ Γ ⊢ Lt p a b ∶ boolean
    t_seq : {Γ p a b σ τ : _} → C ∣ Γ ⊢ a ∶ σ → C ∣ Γ ⊢ b ∶ τ → C ∣ Γ ⊢ Seq p a b ∶ τ
    t_if : {Γ p c a b τ : _} → C ∣ Γ ⊢ c ∶ boolean → C ∣ Γ ⊢ a ∶ τ → C ∣ Γ ⊢ b ∶ τ → C ∣ Γ ⊢ If p c a b ∶ τ
    t_val : {Γ p x a b σ τ : _} → C ∣ Γ ⊢ a ∶ σ → C ∣ (x, σ) ∷ Γ ⊢ b ∶ τ → C ∣ Γ ⊢ Val p x a b ∶ τ
    t_call : {Γ p f es fn : _} → at C.fns f ≡ Some fn → C ∣ Γ ⊢⋆ es ∶ fn.params → C ∣ Γ ⊢ Call p f es ∶ fn.result
    t_make : {Γ p k c es E τs : _}
        → at C.enums k ≡ Some E → at E c ≡ Some τs → C ∣ Γ ⊢⋆ es ∶ τs → C ∣ Γ ⊢ Make p k c es ∶ enum k
    t_match : {Γ p k a ms E τ : _}
        → C ∣ Γ ⊢ a ∶ enum k → at C.enums k ≡ Some E → 0 < length E → ((c : ℕ) → c < length E → arms_of c ms ≡ 1) → TypedArms C Γ E ms τ → C ∣ Γ ⊢ Match p a ms ∶ τ
    t_exit : {Γ p τ a : _} → C ∣ Γ ⊢ a ∶ text → C ∣ Γ ⊢ Exit p τ a ∶ τ

  pub data ◌∣◌⊢⋆◌∶◌ (C : Card) : Scope Ty → Exprs → List Ty → Type 0 where
    t_nil : {Γ : _} → C ∣ Γ ⊢⋆ ∅ ∶ []
    t_cons : {Γ e es τ τs : _} → C ∣ Γ ⊢ e ∶ τ → C ∣ Γ ⊢⋆ es ∶ τs → C ∣ Γ ⊢⋆ e & es ∶ τ ∷ τs

  -- every arm is of a case of E, binds a name for each of its fields, and has the type τ
  pub data TypedArms (C : Card) : Scope Ty → List (List Ty) → Arms → Ty → Type 0 where
    t_no_arm : {Γ E τ : _} → TypedArms C Γ E no_arm τ
    t_arm : {Γ E τ p c n x e ms τs : _}
        → at E c ≡ Some τs → n ≡ length τs → C ∣ bind x τs Γ ⊢ e ∶ τ → TypedArms C Γ E ms τ → TypedArms C Γ E (arm p c n x e ms) τ

-- every body has its function's result type, and sees its own parameters alone
pub record TypedCard (C : Card) : Type 0 where
  pub bodies : (f : ℕ) (fn : Fn) → at C.fns f ≡ Some fn → C ∣ bind 0 fn.params [] ⊢ fn.body ∶ fn.result
