-- Records numbered in order, and what they name: there on the card, or not.
use Rattle.std.specs.Prelude.{ℕ, suc, ◌+◌, Bool, true, false, cond, List, [], ◌∷◌, Some, None, Option, ◌==◌, nat_le}
use Rattle.battery.specs.declared.Ty.{Ty}
use Rattle.battery.specs.declared.Ty.TheVariants.{Unit as unit, Number as number, Boolean as boolean, Text as text, Enum as enum}
use Rattle.battery.specs.Tree.{at, Card, ◌▸◌}
use Rattle.table.specs.declared.token.Token.{Token}
use Rattle.table.specs.declared.token.Token.TheVariants.{Close as CLOSE, Enum as ENUM, Case as CASE, Def as DEF, Ty as TYPE, Arm as ARM, Expr as EXPR}
use Rattle.table.specs.declared.token.Head.{Head}
use Rattle.table.specs.declared.token.Head.TheVariants.{Leaf as LEAF, Pair as PAIR, If as IF, Match as MATCH, Exit as EXIT, Many as MANY}
use Rattle.table.specs.declared.token.Leaf.{Leaf}
use Rattle.table.specs.declared.token.Leaf.TheVariants.{Unit as UNIT, Number as NUM, Boolean as BOOL, Text as STR, Local as LOCAL}
use Rattle.table.specs.declared.token.Many.{Many}
use Rattle.table.specs.declared.token.Many.TheVariants.{Call as CALL, Make as MAKE}

abbrev pub is_there : {A : Type 0} → Option A → Bool
is_there None = false
is_there (Some a) = true

-- the fields of an enum's case, by their numbers
abbrev pub case_of : Card → ℕ → ℕ → Option (List Ty)
case_of C k c = at C.enums k ▸ λ E. at E c

abbrev pub type_there : Card → Ty → Bool
type_there C unit = true
type_there C number = true
type_there C boolean = true
type_there C text = true
type_there C (enum k) = is_there (at C.enums k)

-- how many ENUMs and DEFs went before, and CASEs in this enum
pub record Seen : Type 0 where
  pub enums : ℕ
  pub defs : ℕ
  pub cases : ℕ

abbrev pub none_seen : Seen
none_seen = record { enums = 0; defs = 0; cases = 0 }

abbrev pub seen : Seen → Token → Seen
seen s CLOSE = s
seen s (ENUM k) = record { enums = suc s.enums; defs = s.defs; cases = 0 }
seen s (CASE n k) = record { enums = s.enums; defs = s.defs; cases = suc s.cases }
seen s (DEF n k) = record { enums = s.enums; defs = suc s.defs; cases = s.cases }
seen s (TYPE τ) = s
seen s (ARM n x c) = s
seen s (EXPR h) = s

abbrev pub leaf_there : ℕ → Leaf → Bool
leaf_there t UNIT = true
leaf_there t (NUM k) = true
leaf_there t (BOOL b) = true
leaf_there t (STR b n) = nat_le (b + n) t
leaf_there t (LOCAL x) = true

abbrev pub many_there : Card → Many → Bool
many_there C (CALL f) = is_there (at C.fns f)
many_there C (MAKE k c) = is_there (case_of C k c)

abbrev pub head_there : Card → ℕ → Head → Bool
head_there C t (LEAF l) = leaf_there t l
head_there C t (PAIR o) = true
head_there C t IF = true
head_there C t MATCH = true
head_there C t EXIT = true
head_there C t (MANY n m) = many_there C m

-- numbered in order, and naming what the card has
abbrev pub numbered : Card → ℕ → Seen → Token → Bool
numbered C t s CLOSE = true
numbered C t s (ENUM k) = k == s.enums
numbered C t s (CASE n k) = k == s.cases
numbered C t s (DEF n k) = k == s.defs
numbered C t s (TYPE τ) = type_there C τ
numbered C t s (ARM n x c) = true
numbered C t s (EXPR h) = head_there C t h

-- the lowest record that is not so
abbrev pub misnumbered : Card → ℕ → ℕ → Seen → List Token → Option ℕ
misnumbered C t p s [] = None
misnumbered C t p s (w ∷ ws) = cond (numbered C t s w) (misnumbered C t (suc p) (seen s w) ws) (Some p)

-- what went before a place
abbrev pub seen_in : Seen → List Token → Seen
seen_in s [] = s
seen_in s (w ∷ ws) = seen_in (seen s w) ws
