-- Where a card's enums, cases and functions stand, and where an expression ends: found once, in one pass each.
use Rattle.std.specs.Prelude.{ℕ, zero, suc, ◌+◌, ◌-◌, cond, List, [], ◌∷◌, length, Some, None, Option, nat_lt}
use Rattle.battery.specs.declared.Ty.{Ty}
use Rattle.battery.specs.Tree.{at, ◌▸◌}
use Rattle.table.specs.declared.token.Token.{Token}
use Rattle.table.specs.declared.token.Token.TheVariants.{Close as CLOSE, Enum as ENUM, Case as CASE, Def as DEF, Ty as TYPE, Arm as ARM, Expr as EXPR}

-- for each ENUM, how many CASEs of the card stand before its own
abbrev pub firsts_in : ℕ → List Token → List ℕ
firsts_in c [] = []
firsts_in c (CLOSE ∷ ws) = firsts_in c ws
firsts_in c (ENUM k ∷ ws) = c ∷ firsts_in c ws
firsts_in c (CASE n k ∷ ws) = firsts_in (suc c) ws
firsts_in c (DEF n k ∷ ws) = firsts_in c ws
firsts_in c (TYPE τ ∷ ws) = firsts_in c ws
firsts_in c (ARM n x k ∷ ws) = firsts_in c ws
firsts_in c (EXPR h ∷ ws) = firsts_in c ws

-- the places of all CASEs, from place p on
abbrev pub cases_in : ℕ → List Token → List ℕ
cases_in p [] = []
cases_in p (CLOSE ∷ ws) = cases_in (suc p) ws
cases_in p (ENUM k ∷ ws) = cases_in (suc p) ws
cases_in p (CASE n k ∷ ws) = p ∷ cases_in (suc p) ws
cases_in p (DEF n k ∷ ws) = cases_in (suc p) ws
cases_in p (TYPE τ ∷ ws) = cases_in (suc p) ws
cases_in p (ARM n x k ∷ ws) = cases_in (suc p) ws
cases_in p (EXPR h ∷ ws) = cases_in (suc p) ws

-- the places of all DEFs
abbrev pub functions_in : ℕ → List Token → List ℕ
functions_in p [] = []
functions_in p (CLOSE ∷ ws) = functions_in (suc p) ws
functions_in p (ENUM k ∷ ws) = functions_in (suc p) ws
functions_in p (CASE n k ∷ ws) = functions_in (suc p) ws
functions_in p (DEF n k ∷ ws) = p ∷ functions_in (suc p) ws
functions_in p (TYPE τ ∷ ws) = functions_in (suc p) ws
functions_in p (ARM n x k ∷ ws) = functions_in (suc p) ws
functions_in p (EXPR h ∷ ws) = functions_in (suc p) ws

-- how many CASEs the card has before those of the enum behind the k-th
abbrev pub next_first : List Token → ℕ → ℕ
next_first ws k = elim (at (firsts_in 0 ws) (suc k)) [ Some b ↦ b | None ↦ length (cases_in 0 ws) ]

-- how many cases the enum k has, and the place of its case c
abbrev pub case_count : List Token → ℕ → Option ℕ
case_count ws k = at (firsts_in 0 ws) k ▸ λ a. Some (next_first ws k - a)

abbrev pub case_place : List Token → ℕ → ℕ → Option ℕ
case_place ws k c = at (firsts_in 0 ws) k ▸ λ a. cond (nat_lt (a + c) (next_first ws k)) (at (cases_in 0 ws) (a + c)) None

-- the types that n tokens are, if they are TYPEs
abbrev pub types_in : ℕ → List Token → Option (List Ty)
types_in zero ws = Some []
types_in (suc n) [] = None
types_in (suc n) (CLOSE ∷ ws) = None
types_in (suc n) (ENUM k ∷ ws) = None
types_in (suc n) (CASE m k ∷ ws) = None
types_in (suc n) (DEF m k ∷ ws) = None
types_in (suc n) (TYPE τ ∷ ws) = types_in n ws ▸ λ τs. Some (τ ∷ τs)
types_in (suc n) (ARM m x k ∷ ws) = None
types_in (suc n) (EXPR h ∷ ws) = None
