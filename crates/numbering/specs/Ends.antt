-- The place after each expression, and after a MATCH's arms: by the token at a place and the places behind it.
use Rattle.std.specs.Prelude.{◌≡◌, ℕ, zero, suc, cond, ◌&&◌, List, length, Some, nat_lt, slice_index}
use Rattle.battery.specs.Tree.{at}
use Rattle.table.specs.declared.token.Token.{Token}
use Rattle.table.specs.declared.token.Token.TheVariants.{Close as CLOSE, Enum as ENUM, Case as CASE, Def as DEF, Ty as TYPE, Arm as ARM, Expr as EXPR}
use Rattle.table.specs.declared.token.Head.{Head}
use Rattle.table.specs.declared.token.Head.TheVariants.{Leaf as LEAF, Pair as PAIR, If as IF, Match as MATCH, Exit as EXIT, Many as MANY}
use Rattle.table.specs.Sorts.{is_close}

-- what stands in the table behind place p, and the end of all elsewhere
abbrev pub look : List Token → List ℕ → ℕ → ℕ → ℕ
look ws es p q = cond (nat_lt p q && nat_lt q (length ws)) (slice_index es q) (length ws)

abbrev pub times : ℕ → (ℕ → ℕ) → ℕ → ℕ
times zero f q = q
times (suc n) f q = times n f (f q)

-- behind a head, with f for the place behind what stands at a place
abbrev pub past_head : (ℕ → ℕ) → ℕ → Head → ℕ
past_head f p (LEAF l) = suc p
past_head f p (PAIR o) = f (f (suc p))
past_head f p IF = f (f (f (suc p)))
past_head f p MATCH = f (f (suc p))
past_head f p EXIT = f (f (suc p))
past_head f p (MANY n m) = times n f (suc p)

-- an ARM goes up to the CLOSE behind the last arm
abbrev pub past : List Token → (ℕ → ℕ) → ℕ → Token → ℕ
past ws f p CLOSE = suc p
past ws f p (ENUM k) = suc p
past ws f p (CASE n k) = suc p
past ws f p (DEF n k) = suc p
past ws f p (TYPE τ) = suc p
past ws f p (ARM n x c) = cond (is_close (at ws (f (suc p)))) (suc (f (suc p))) (f (f (suc p)))
past ws f p (EXPR h) = past_head f p h

abbrev pub Ends : List Token → List ℕ → Type 0
Ends ws es = (p : ℕ) (w : Token) → at ws p ≡ Some w → slice_index es p ≡ past ws (look ws es p) p w
