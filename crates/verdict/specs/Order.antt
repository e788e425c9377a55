-- Typing order: an expression's type, or the first fault, by its number and the record whose rule is broken.
use Rattle.std.specs.Prelude.{ℕ, zero, suc, Bool, true, false, ◌&&◌, List, [], ◌∷◌, length, Some, None, Option, ◌==◌}
use Rattle.battery.specs.declared.Ty.{Ty}
use Rattle.battery.specs.declared.Ty.TheVariants.{Unit as unit, Number as number, Boolean as boolean, Text as text, Enum as enum}
use Rattle.battery.specs.Tree.{Expr, Unit', Num, Bool', Str, Local, Calc, Concat, Eq, Lt, Seq, If, Val, Call, Make, Match, Exit, Exprs, ∅, ◌&◌, Arms, no_arm, arm, Scope, find, bind, at, Fn, Card}
use Rattle.battery.specs.Typing.{arms_of}
use Rattle.numbering.specs.Numbering.{case_of}

pub data Checked (A : Type 0) : Type 0 where
  has : A → Checked A
  fault : ℕ → ℕ → Checked A

abbrev pub ◌▹◌ : {A B : Type 0} → Checked A → (A → Checked B) → Checked B
has a ▹ f = f a
fault n p ▹ f = fault n p

infixr 10 ◌▹◌
-- a test at record p, or else fault n
abbrev pub rule : ℕ → ℕ → Bool → Checked (Unit {0})
rule n p true = has tt
rule n p false = fault n p

-- what is there, or else fault n at record p
abbrev pub there : {A : Type 0} → ℕ → ℕ → Option A → Checked A
there n p None = fault n p
there n p (Some a) = has a

-- two types are equal when their kinds and enum numbers are
abbrev pub kind_of : Ty → ℕ
kind_of unit = 0
kind_of number = 1
kind_of boolean = 2
kind_of text = 3
kind_of (enum k) = 4

abbrev pub enum_number : Ty → ℕ
enum_number unit = 0
enum_number number = 0
enum_number boolean = 0
enum_number text = 0
enum_number (enum k) = k

abbrev pub same_ty : Ty → Ty → Bool
same_ty σ τ = kind_of σ == kind_of τ && enum_number σ == enum_number τ

abbrev pub same_tys : List Ty → List Ty → Bool
same_tys [] [] = true
same_tys [] (τ ∷ τs) = false
same_tys (σ ∷ σs) [] = false
same_tys (σ ∷ σs) (τ ∷ τs) = same_ty σ τ && same_tys σs τs

abbrev pub enum_of : Ty → Option ℕ
enum_of unit = None
enum_of number = None
enum_of boolean = None
enum_of text = None
enum_of (enum k) = Some k

-- one arm for each of the cases below n
abbrev pub all_once : ℕ → Arms → Bool
all_once zero ms = true
all_once (suc n) ms = arms_of n ms == 1 && all_once n ms

abbrev pub as_fields : ℕ → Option (List Ty) → Bool
as_fields n None = false
as_fields n (Some τs) = n == length τs

-- each arm of a case, with as many names as fields
abbrev pub arms_named : List (List Ty) → Arms → Bool
arms_named E no_arm = true
arms_named E (arm p c n x e ms) = as_fields n (at E c) && arms_named E ms

abbrev pub fields_of : Option (List Ty) → List Ty
fields_of None = []
fields_of (Some τs) = τs

-- all of one type, which is the first's
abbrev pub all_as : Ty → List Ty → Bool
all_as τ [] = true
all_as τ (υ ∷ υs) = same_ty υ τ && all_as τ υs

abbrev pub common : ℕ → List Ty → Checked Ty
common p [] = fault 11 p
common p (τ ∷ τs) = rule 11 p (all_as τ τs) ▹ λ u. has τ

-- numbering has found what CALL, MAKE and an enum's TYPE name: that something is not there is never reached
abbrev mutual
  pub check : Card → Scope Ty → Expr → Checked Ty
  check C Γ (Unit' p) = has unit
  check C Γ (Num p k) = has number
  check C Γ (Bool' p b) = has boolean
  check C Γ (Str p s) = has text
  check C Γ (Local p x) = there 10 p (find Γ x)
  check C Γ (Calc p o a b) = check C Γ a ▹ λ σ. check C Γ b ▹ λ τ. rule 11 p (same_ty σ number && same_ty τ number) ▹ λ u. has number
  check C Γ (Concat p a b) = check C Γ a ▹ λ σ. check C Γ b ▹ λ τ. rule 11 p (same_ty σ text && same_ty τ text) ▹ λ u. has text
  check C Γ (Eq p a b) = check C Γ a ▹ λ σ. check C Γ b ▹ λ τ. rule 11 p (same_ty τ σ) ▹ λ u. has boolean
  check C Γ (Lt p a b) = check C Γ a ▹ λ σ. check C Γ b ▹ λ τ. rule 11 p (same_ty σ number && same_ty τ number) ▹ λ u. has boolean
  check C Γ (Seq p a b) = check C Γ a ▹ λ σ. check C Γ b
  check C Γ (If p c a b) = check C Γ c ▹ λ κ. check C Γ a ▹ λ σ. check C Γ b ▹ λ τ. rule 11 p (same_ty κ boolean && same_ty τ σ) ▹ λ u. has σ
  check C Γ (Val p x a b) = check C Γ a ▹ λ σ. check C ((x, σ) ∷ Γ) b
  check C Γ (Call p f es) =
      check_all C Γ es ▹ λ τs. there 12 p (at C.fns f) ▹ λ fn. rule 12 p (length τs == length fn.params) ▹ λ u. rule 11 p (same_tys τs fn.params) ▹ λ v. has fn.result
  check C Γ (Make p k c es) =
      check_all C Γ es ▹ λ τs. there 12 p (case_of C k c) ▹ λ υs. rule 12 p (length τs == length υs) ▹ λ u. rule 11 p (same_tys τs υs) ▹ λ v. has (enum k)
  check C Γ (Match p a ms) =
      check C Γ a ▹ λ σ. there 11 p (enum_of σ) ▹ λ k. there 13 p (at C.enums k) ▹ λ E. rule 13 p (all_once (length E) ms && arms_named E ms) ▹ λ u. check_arms C Γ E ms ▹ λ τs. common p τs
  check C Γ (Exit p τ a) = check C Γ a ▹ λ σ. rule 11 p (same_ty σ text) ▹ λ u. has τ

  pub check_all : Card → Scope Ty → Exprs → Checked (List Ty)
  check_all C Γ ∅ = has []
  check_all C Γ (e & es) = check C Γ e ▹ λ τ. check_all C Γ es ▹ λ τs. has (τ ∷ τs)

  pub check_arms : Card → Scope Ty → List (List Ty) → Arms → Checked (List Ty)
  check_arms C Γ E no_arm = has []
  check_arms C Γ E (arm p c n x e ms) = check C (bind x (fields_of (at E c)) Γ) e ▹ λ τ. check_arms C Γ E ms ▹ λ τs. has (τ ∷ τs)

-- a DEF: its body, and then its result
abbrev pub check_fn : Card → Fn → Checked (Unit {0})
check_fn C fn = check C (bind 0 fn.params []) fn.body ▹ λ τ. rule 11 fn.opened (same_ty τ fn.result)

abbrev pub check_fns : Card → List Fn → Checked (Unit {0})
check_fns C [] = has tt
check_fns C (fn ∷ fns) = check_fn C fn ▹ λ u. check_fns C fns

-- tests 10 to 13
abbrev pub check_card : Card → Checked (Unit {0})
check_card C = check_fns C C.fns
