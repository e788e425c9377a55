-- What a card's functions are written in.
use Rattle.std.specs.Prelude.{ℕ, zero, suc, Bool, false, cond, List, [], ◌∷◌, ℤ, pos, negsuc, Some, None, Option, ◌==◌, int_le}
use Rattle.battery.specs.declared.Ty.{Ty}
use Rattle.battery.specs.declared.Arith.{Arith}

abbrev pub ◌▸◌ : {A B : Type 0} → Option A → (A → Option B) → Option B
None ▸ f = None
Some a ▸ f = f a

infixr 10 ◌▸◌
-- the numbers of 32 bits
abbrev pub in_range : ℤ → Bool
in_range k = cond (int_le (negsuc 2147483647) k) (int_le k (pos 2147483647)) false

-- each node begins with the place of its record
mutual
  pub data Expr : Type 0 where
    Unit' : ℕ → Expr
    Num : ℕ → ℤ → Expr
    Bool' : ℕ → Bool → Expr
    Str : ℕ → List ℕ → Expr
    Local : ℕ → ℕ → Expr
    Calc : ℕ → Arith → Expr → Expr → Expr
    Concat Eq Lt Seq : ℕ → Expr → Expr → Expr
    If : ℕ → Expr → Expr → Expr → Expr
    Val : ℕ → ℕ → Expr → Expr → Expr
    Call : ℕ → ℕ → Exprs → Expr
    Make : ℕ → ℕ → ℕ → Exprs → Expr
    Match : ℕ → Expr → Arms → Expr
    Exit : ℕ → Ty → Expr → Expr

  pub data Exprs : Type 0 where
    ∅ : Exprs
    ◌&◌ : Expr → Exprs → Exprs

  -- an arm: its record, its case, how many names it binds, the first of them, and its part
  pub data Arms : Type 0 where
    no_arm : Arms
    arm : ℕ → ℕ → ℕ → ℕ → Expr → Arms → Arms

infixr 30 ◌&◌
abbrev pub place : Expr → ℕ
place (Unit' p) = p
place (Num p k) = p
place (Bool' p b) = p
place (Str p s) = p
place (Local p x) = p
place (Calc p o a b) = p
place (Concat p a b) = p
place (Eq p a b) = p
place (Lt p a b) = p
place (Seq p a b) = p
place (If p c a b) = p
place (Val p x a b) = p
place (Call p f es) = p
place (Make p k c es) = p
place (Match p a ms) = p
place (Exit p τ a) = p

-- a scope binds names, the newest first, to types or to values
abbrev pub Scope : Type 0 → Type 0
Scope A = List (ℕ × A)

abbrev pub find : {A : Type 0} → Scope A → ℕ → Option A
find [] x = None
find (b ∷ s) x = cond (x == b.0) (Some b.1) (find s x)

-- the names from x on, bound to a list
abbrev pub bind : {A : Type 0} → ℕ → List A → Scope A → Scope A
bind x [] s = s
bind x (a ∷ as') s = bind (suc x) as' ((x, a) ∷ s)

abbrev pub at : {A : Type 0} → List A → ℕ → Option A
at [] i = None
at (a ∷ as') zero = Some a
at (a ∷ as') (suc i) = at as' i

-- a function begins with the place of its DEF
pub record Fn : Type 0 where
  pub opened : ℕ
  pub params : List Ty
  pub result : Ty
  pub body : Expr

-- an enum is the list of its cases, and a case that of its fields' types
pub record Card : Type 0 where
  pub enums : List (List (List Ty))
  pub fns : List Fn
