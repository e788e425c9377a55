-- What stands at a place: a case with its fields, a function with its types and its body.
use Rattle.std.proofs.Common.{◌≡◌, ℕ, suc, ◌+◌, ◌<◌, ◌≤◌, List, ◌∷◌, length, drop, Some, None, Option}
use Rattle.battery.specs.declared.Ty.{Ty}
use Rattle.battery.specs.Tree.{Expr, Fn, at}
use Rattle.table.specs.declared.token.Token.{Token}
use Rattle.table.specs.declared.token.Token.TheVariants.{Case as CASE, Def as DEF, Ty as TYPE}
use Rattle.grammar.specs.Grammar.{Piece, expr, pieces_of}
use Rattle.numbering.specs.Places.{types_in}

-- both are there, and fit, or neither is
pub data Matched {A B : Type 0} (R : A → B → Type 0) : Option A → Option B → Type 0 where
  neither : Matched R None None
  each : {a : A} {b : B} → R a b → Matched R (Some a) (Some b)

pub record CaseAt (ws : List Token) (p : ℕ) (τs : List Ty) : Type 0 where
  pub n : ℕ
  pub k : ℕ
  pub is : at ws p ≡ Some (CASE n k)
  pub counted : n ≡ length τs
  pub fields : types_in n (drop (suc p) ws) ≡ Some τs

pub record FnAt (t : List ℕ) (ws : List Token) (p : ℕ) (fn : Fn) : Type 0 where
  pub n : ℕ
  pub k : ℕ
  pub is : at ws p ≡ Some (DEF n k)
  pub opened : fn.opened ≡ p
  pub counted : n ≡ length fn.params
  pub params : types_in n (drop (suc p) ws) ≡ Some fn.params
  pub result : at ws (suc p + n) ≡ Some (TYPE fn.result)
  pub rest : List Piece
  pub body : pieces_of t (suc (suc p) + n) (drop (suc (suc p) + n) ws) ≡ Some (expr fn.body ∷ rest)

-- an expression at q ends at m
pub record Skips (t : List ℕ) (ws : List Token) (q m : ℕ) : Type 0 where
  pub expression : (e : Expr) (ps : List Piece) → pieces_of t q (drop q ws) ≡ Some (expr e ∷ ps) → (q < m) × (m ≤ length ws) × (pieces_of t m (drop m ws) ≡ Some ps)
