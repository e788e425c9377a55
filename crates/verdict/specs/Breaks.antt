-- Typing order: Breaks C Γ e n r says that typing e in the scope Γ first breaks rule n, at the record r.
use Rattle.std.specs.Prelude.{◌≡◌, ℕ, ◌<◌, List, [], ◌∷◌, length, Some, None}
use Rattle.battery.specs.declared.Ty.{Ty}
use Rattle.battery.specs.declared.Ty.TheVariants.{Number as number, Boolean as boolean, Text as text, Enum as enum}
use Rattle.battery.specs.Tree.{Expr, Unit', Num, Bool', Str, Local, Calc, Concat, Eq, Lt, Seq, If, Val, Call, Make, Match, Exit, Exprs, ∅, ◌&◌, Arms, no_arm, arm, Scope, find, bind, at, Fn, Card}
use Rattle.battery.specs.Typing.{arms_of, ◌∣◌⊢◌∶◌, ◌∣◌⊢⋆◌∶◌}

-- the parts that are typed first, in the scope of the whole
abbrev pub parts : Expr → Exprs
parts (Unit' p) = ∅
parts (Num p k) = ∅
parts (Bool' p b) = ∅
parts (Str p s) = ∅
parts (Local p x) = ∅
parts (Calc p o a b) = a & b & ∅
parts (Concat p a b) = a & b & ∅
parts (Eq p a b) = a & b & ∅
parts (Lt p a b) = a & b & ∅
parts (Seq p a b) = a & b & ∅
parts (If p c a b) = c & a & b & ∅
parts (Val p x a b) = a & ∅
parts (Call p f es) = es
parts (Make p k c es) = es
parts (Match p a ms) = a & ∅
parts (Exit p τ a) = a & ∅

-- every arm is of a case of E, and binds a name for each of its fields
pub data Named (E : List (List Ty)) : Arms → Type 0 where
  no_more : Named E no_arm
  names : {p c n x e ms τs : _} → at E c ≡ Some τs → n ≡ length τs → Named E ms → Named E (arm p c n x e ms)

-- and every case has one arm
pub record Fits (E : List (List Ty)) (ms : Arms) : Type 0 where
  pub once : (c : ℕ) → c < length E → arms_of c ms ≡ 1
  pub named : Named E ms

-- the types of arms, one by one
pub data ArmTypes (C : Card) (Γ : Scope Ty) (E : List (List Ty)) : Arms → List Ty → Type 0 where
  no_type : ArmTypes C Γ E no_arm []
  arm_type : {p c n x e ms τs υ υs : _} → at E c ≡ Some τs → C ∣ bind x τs Γ ⊢ e ∶ υ → ArmTypes C Γ E ms υs → ArmTypes C Γ E (arm p c n x e ms) (υ ∷ υs)

mutual
  pub data Breaks (C : Card) : Scope Ty → Expr → ℕ → ℕ → Type 0 where
    b_part : {Γ e n r : _} → BreaksPart C Γ (parts e) n r → Breaks C Γ e n r
    b_local : {Γ p x : _} → find Γ x ≡ None → Breaks C Γ (Local p x) 10 p
    -- the parts are typed, but not as the rule has them
    b_calc : {Γ p o a b σ τ : _} → C ∣ Γ ⊢ a ∶ σ → C ∣ Γ ⊢ b ∶ τ → ¬ ((σ ≡ number) × (τ ≡ number)) → Breaks C Γ (Calc p o a b) 11 p
    b_concat : {Γ p a b σ τ : _} → C ∣ Γ ⊢ a ∶ σ → C ∣ Γ ⊢ b ∶ τ → ¬ ((σ ≡ text) × (τ ≡ text)) → Breaks C Γ (Concat p a b) 11 p
    b_eq : {Γ p a b σ τ : _} → C ∣ Γ ⊢ a ∶ σ → C ∣ Γ ⊢ b ∶ τ → ¬ (σ ≡ τ) → Breaks C Γ (Eq p a b) 11 p
    b_lt : {Γ p a b σ τ : _} → C ∣ Γ ⊢ a ∶ σ → C ∣ Γ ⊢ b ∶ τ → ¬ ((σ ≡ number) × (τ ≡ number)) → Breaks C Γ (Lt p a b) 11 p
    b_if : {Γ p c a b κ σ τ : _} → C ∣ Γ ⊢ c ∶ κ → C ∣ Γ ⊢ a ∶ σ → C ∣ Γ ⊢ b ∶ τ → ¬ ((κ ≡ boolean) × (σ ≡ τ)) → Breaks C Γ (If p c a b) 11 p
    b_exit : {Γ p τ a σ : _} → C ∣ Γ ⊢ a ∶ σ → ¬ (σ ≡ text) → Breaks C Γ (Exit p τ a) 11 p
    -- what follows a VAL sees its name
    b_val : {Γ p x a b σ n r : _} → C ∣ Γ ⊢ a ∶ σ → Breaks C ((x, σ) ∷ Γ) b n r → Breaks C Γ (Val p x a b) n r
    -- not as many parts as declared; as many, but not of the types
    b_call_count : {Γ p f es fn τs : _} → C ∣ Γ ⊢⋆ es ∶ τs → at C.fns f ≡ Some fn → ¬ (length τs ≡ length fn.params) → Breaks C Γ (Call p f es) 12 p
    b_call : {Γ p f es fn τs : _} → C ∣ Γ ⊢⋆ es ∶ τs → at C.fns f ≡ Some fn → length τs ≡ length fn.params → ¬ (τs ≡ fn.params) → Breaks C Γ (Call p f es) 11 p
    b_make_count : {Γ p k c es E τs υs : _}
        → C ∣ Γ ⊢⋆ es ∶ τs → at C.enums k ≡ Some E → at E c ≡ Some υs → ¬ (length τs ≡ length υs) → Breaks C Γ (Make p k c es) 12 p
    b_make : {Γ p k c es E τs υs : _}
        → C ∣ Γ ⊢⋆ es ∶ τs → at C.enums k ≡ Some E → at E c ≡ Some υs → length τs ≡ length υs → ¬ (τs ≡ υs) → Breaks C Γ (Make p k c es) 11 p
    -- no enum; arms that do not fit its cases; an arm that breaks; two arms of different types
    b_match_type : {Γ p a ms σ : _} → C ∣ Γ ⊢ a ∶ σ → ((k : ℕ) → ¬ (σ ≡ enum k)) → Breaks C Γ (Match p a ms) 11 p
    b_match_cases : {Γ p a ms k E : _} → C ∣ Γ ⊢ a ∶ enum k → at C.enums k ≡ Some E → ¬ Fits E ms → Breaks C Γ (Match p a ms) 13 p
    b_match_arm : {Γ p a ms k E n r : _} → C ∣ Γ ⊢ a ∶ enum k → at C.enums k ≡ Some E → Fits E ms → BreaksArm C Γ E ms n r → Breaks C Γ (Match p a ms) n r
    b_match : {Γ p a ms k E τs σ τ : _}
        → C ∣ Γ ⊢ a ∶ enum k → at C.enums k ≡ Some E → Fits E ms → ArmTypes C Γ E ms τs
        → (i j : ℕ) → at τs i ≡ Some σ → at τs j ≡ Some τ → ¬ (σ ≡ τ) → Breaks C Γ (Match p a ms) 11 p

  -- the first part that breaks, those before it being typed
  pub data BreaksPart (C : Card) : Scope Ty → Exprs → ℕ → ℕ → Type 0 where
    b_this : {Γ e es n r : _} → Breaks C Γ e n r → BreaksPart C Γ (e & es) n r
    b_later : {Γ e es τ n r : _} → C ∣ Γ ⊢ e ∶ τ → BreaksPart C Γ es n r → BreaksPart C Γ (e & es) n r

  -- and the first arm, each in the scope of its names
  pub data BreaksArm (C : Card) : Scope Ty → List (List Ty) → Arms → ℕ → ℕ → Type 0 where
    b_this_arm : {Γ E p c m x e ms τs n r : _} → at E c ≡ Some τs → Breaks C (bind x τs Γ) e n r → BreaksArm C Γ E (arm p c m x e ms) n r
    b_later_arm : {Γ E p c m x e ms τs τ n r : _}
        → at E c ≡ Some τs → C ∣ bind x τs Γ ⊢ e ∶ τ → BreaksArm C Γ E ms n r → BreaksArm C Γ E (arm p c m x e ms) n r

-- the first function that breaks, by its body or its result
pub data BreaksFn (C : Card) : List Fn → ℕ → ℕ → Type 0 where
  b_body : {fn : Fn} {fns n r : _} → Breaks C (bind 0 fn.params []) fn.body n r → BreaksFn C (fn ∷ fns) n r
  b_result : {fn : Fn} {fns τ r : _} → C ∣ bind 0 fn.params [] ⊢ fn.body ∶ τ → ¬ (τ ≡ fn.result) → r ≡ fn.opened → BreaksFn C (fn ∷ fns) 11 r
  b_later_fn : {fn : Fn} {fns n r : _} → C ∣ bind 0 fn.params [] ⊢ fn.body ∶ fn.result → BreaksFn C fns n r → BreaksFn C (fn ∷ fns) n r

abbrev pub BreaksCard : Card → ℕ → ℕ → Type 0
BreaksCard C n r = BreaksFn C C.fns n r
