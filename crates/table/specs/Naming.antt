-- The token that a record is, where the table allows its fields.
use Rattle.std.specs.Prelude.{ℕ, zero, suc, ◌+◌, cond, ◌&&◌, List, [], ◌∷◌, ℤ, pos, negsuc, Some, None, Ok, Err, Option, Result, ◌==◌, int_le}
use Rattle.battery.specs.declared.Ty.{Ty}
use Rattle.battery.specs.declared.Ty.TheVariants.{Unit as unit, Number as number, Boolean as boolean, Text as text, Enum as enum}
use Rattle.battery.specs.declared.Arith.TheVariants.{Add, Mul, Div, Mod}
use Rattle.battery.specs.Tree.{◌▸◌}
use Rattle.image.specs.declared.record.Record.{Record}
use Rattle.image.specs.Bytes.{record_in}
use Rattle.table.specs.declared.kind.Kind.{Kind}
use Rattle.table.specs.declared.kind.Kind.TheVariants as kind
use Rattle.table.specs.declared.token.Token.{Token}
use Rattle.table.specs.declared.token.Token.TheVariants.{Close as CLOSE, Enum as ENUM, Case as CASE, Def as DEF, Ty as TYPE, Arm as ARM, Expr as EXPR}
use Rattle.table.specs.declared.token.Head.TheVariants.{Leaf as LEAF, Pair as PAIR, If as IF, Match as MATCH, Exit as EXIT, Many as MANY}
use Rattle.table.specs.declared.token.Leaf.TheVariants.{Unit as UNIT, Number as NUM, Boolean as BOOL, Text as STR, Local as LOCAL}
use Rattle.table.specs.declared.token.Pair.TheVariants.{Calc as CALC, Concat as CONCAT, Eq as EQ, Lt as LT, Seq as SEQ, Val as VAL}
use Rattle.table.specs.declared.token.Many.TheVariants.{Call as CALL, Make as MAKE}
use Rattle.table.specs.Kinds.{kind_at, fits}

abbrev pub nat_of : ℤ → ℕ
nat_of (pos n) = n
nat_of (negsuc n) = 0

-- a C that is a length or a case, which the table keeps far below 256
abbrev pub small : ℤ → ℕ
small c = cond (int_le (pos 0) c && int_le c (pos 255)) (nat_of c) 0

abbrev pub type_named : ℕ → ℕ → Ty
type_named a b = cond (a == 0) unit (cond (a == 1) number (cond (a == 2) boolean (cond (a == 3) text (enum b))))

-- the token of a record of a kind
abbrev pub named : Kind → Record → Token
named kind.Close r = CLOSE
named kind.Enum r = ENUM r.b
named kind.Case r = CASE r.a r.b
named kind.Def r = DEF r.a r.b
named kind.Ty r = TYPE (type_named r.a r.b)
named kind.Arm r = ARM r.a r.b (small r.c)
named kind.Unit r = EXPR (LEAF UNIT)
named kind.Number r = EXPR (LEAF (NUM r.c))
named kind.Boolean r = EXPR (LEAF (BOOL (r.a == 1)))
named kind.Text r = EXPR (LEAF (STR r.b (small r.c)))
named kind.Local r = EXPR (LEAF (LOCAL r.b))
named kind.Add r = EXPR (PAIR (CALC Add))
named kind.Mul r = EXPR (PAIR (CALC Mul))
named kind.Div r = EXPR (PAIR (CALC Div))
named kind.Mod r = EXPR (PAIR (CALC Mod))
named kind.Concat r = EXPR (PAIR CONCAT)
named kind.Eq r = EXPR (PAIR EQ)
named kind.Lt r = EXPR (PAIR LT)
named kind.Seq r = EXPR (PAIR SEQ)
named kind.Val r = EXPR (PAIR (VAL r.b))
named kind.If r = EXPR IF
named kind.Match r = EXPR MATCH
named kind.Exit r = EXPR EXIT
named kind.Call r = EXPR (MANY r.a (CALL r.b))
named kind.Make r = EXPR (MANY r.a (MAKE r.b (small r.c)))

abbrev pub token_of : Record → Option Token
token_of r = kind_at r.kind ▸ λ k. cond (fits k r) (Some (named k r)) None

-- the lowest record that the table does not know
abbrev pub unknown : ℕ → List Record → Option ℕ
unknown p [] = None
unknown p (r ∷ rs) = elim (token_of r) [ None ↦ Some p | Some w ↦ unknown (suc p) rs ]

abbrev pub tokens_of : List Record → Option (List Token)
tokens_of [] = Some []
tokens_of (r ∷ rs) = token_of r ▸ λ w. tokens_of rs ▸ λ ws. Some (w ∷ ws)

-- the token of the record whose eight bytes begin at a place
unfoldable pub token_in : List ℕ → ℕ → Option Token
token_in image p = record_in image p ▸ token_of

-- a token before those behind it; where there is none, the record i
abbrev pub before : Option Token → ℕ → Result (List Token) ℕ → Result (List Token) ℕ
before None i r = Err i
before (Some w) i (Ok ws) = Ok (w ∷ ws)
before (Some w) i (Err q) = Err q

-- the tokens of n records from the place p on; or, counted from i, the lowest record that is missing or unknown
unfoldable pub tokens_from : List ℕ → ℕ → ℕ → ℕ → Result (List Token) ℕ
tokens_from image p i zero = Ok []
tokens_from image p i (suc n) = before (token_in image p) i (tokens_from image (p + 8) (suc i) n)
