-- What the form of a card has seen to before its functions are typed.
use Rattle.std.specs.Prelude.{◌≡◌, ℕ, ◌≤◌, true, List, [], ◌∷◌, length, Some}
use Rattle.battery.specs.declared.Ty.{Ty}
use Rattle.battery.specs.Tree.{Expr, Unit', Num, Bool', Str, Local, Calc, Concat, Eq, Lt, Seq, If, Val, Call, Make, Match, Exit, Exprs, ∅, ◌&◌, Arms, no_arm, arm, at, Fn, Card, in_range}
use Rattle.numbering.specs.Numbering.{is_there, type_there, case_of}

abbrev pub all_there : Card → List Ty → Type 0
all_there C [] = Unit {0}
all_there C (τ ∷ τs) = (type_there C τ ≡ true) × all_there C τs

-- a number fits its 32 bits, a text its 24 bytes, what is named is there, and a MATCH has an arm
abbrev mutual
  pub Formed : Card → Expr → Type 0
  Formed C (Unit' p) = Unit {0}
  Formed C (Num p k) = in_range k ≡ true
  Formed C (Bool' p b) = Unit {0}
  Formed C (Str p s) = length s ≤ 24
  Formed C (Local p x) = Unit {0}
  Formed C (Calc p o a b) = Formed C a × Formed C b
  Formed C (Concat p a b) = Formed C a × Formed C b
  Formed C (Eq p a b) = Formed C a × Formed C b
  Formed C (Lt p a b) = Formed C a × Formed C b
  Formed C (Seq p a b) = Formed C a × Formed C b
  Formed C (If p c a b) = Formed C c × Formed C a × Formed C b
  Formed C (Val p x a b) = Formed C a × Formed C b
  Formed C (Call p f es) = (is_there (at C.fns f) ≡ true) × FormedAll C es
  Formed C (Make p k c es) = (is_there (case_of C k c) ≡ true) × FormedAll C es
  Formed C (Match p a ms) = Formed C a × FormedArms C ms × ¬ (ms ≡ no_arm)
  Formed C (Exit p τ a) = (type_there C τ ≡ true) × Formed C a

  pub FormedAll : Card → Exprs → Type 0
  FormedAll C ∅ = Unit {0}
  FormedAll C (e & es) = Formed C e × FormedAll C es

  pub FormedArms : Card → Arms → Type 0
  FormedArms C no_arm = Unit {0}
  FormedArms C (arm p c n x e ms) = Formed C e × FormedArms C ms

pub record FormedFn (C : Card) (fn : Fn) : Type 0 where
  pub params : all_there C fn.params
  pub result : type_there C fn.result ≡ true
  pub body : Formed C fn.body

pub record FormedCard (C : Card) : Type 0 where
  pub fields : (k : ℕ) (E : List (List Ty)) → at C.enums k ≡ Some E → (c : ℕ) (τs : List Ty) → at E c ≡ Some τs → all_there C τs
  pub functions : (f : ℕ) (fn : Fn) → at C.fns f ≡ Some fn → FormedFn C fn
