-- What the table keeps within bounds, at each place of the tokens.
use Rattle.std.proofs.Common.{◌≡◌, ℕ, zero, suc, true, List, [], ◌∷◌, Some, subst}
use mathlib.Core.Logic.{∥∥₁_elim}
use native.Mathlib.Bridge.{le_prop}
use base.Stored.{coded_bool}
use denote.Struct.Props.{≡_prop}
use denote.Struct.Record.{Done-prop}
use Rattle.battery.specs.Tree.{at, in_range}
use Rattle.table.specs.declared.token.Token.{Token}
use Rattle.table.specs.declared.token.Token.TheVariants.{Close as CLOSE, Enum as ENUM, Case as CASE, Def as DEF, Ty as TYPE, Arm as ARM, Expr as EXPR}
use Rattle.table.specs.declared.token.Head.{Head}
use Rattle.table.specs.declared.token.Head.TheVariants.{Leaf as LEAF, Pair as PAIR, If as IF, Match as MATCH, Exit as EXIT, Many as MANY}
use Rattle.table.specs.declared.token.Leaf.{Leaf}
use Rattle.table.specs.declared.token.Leaf.TheVariants.{Unit as UNIT, Number as NUM, Boolean as BOOL, Text as STR, Local as LOCAL}
use Rattle.numbering.specs.Limits.{LimitedLeaf, LimitedHead, Limited, AllLimited}
use Rattle.numbering.proofs.Options.{never, Some≡}

leaf_once : (l : Leaf) → IsProp (LimitedLeaf l)
leaf_once UNIT = Done-prop
leaf_once (NUM k) = ≡_prop coded_bool (in_range k) true
leaf_once (BOOL b) = Done-prop
leaf_once (STR b n) = le_prop
leaf_once (LOCAL x) = Done-prop

head_once : (h : Head) → IsProp (LimitedHead h)
head_once (LEAF l) = leaf_once l
head_once (PAIR o) = Done-prop
head_once IF = Done-prop
head_once MATCH = Done-prop
head_once EXIT = Done-prop
head_once (MANY n m) = le_prop

limited_once : (w : Token) → IsProp (Limited w)
limited_once CLOSE = Done-prop
limited_once (ENUM k) = Done-prop
limited_once (CASE n k) = le_prop
limited_once (DEF n k) = le_prop
limited_once (TYPE τ) = Done-prop
limited_once (ARM n x c) = le_prop
limited_once (EXPR h) = head_once h

at_each : (ws : List Token) (p : ℕ) (w : Token) → AllLimited ws → at ws p ≡ Some w → Limited w
at_each [] p w all e = never e
at_each (v ∷ ws) zero w all e = subst Limited (Some≡ e) all.0
at_each (v ∷ ws) (suc p) w all e = at_each ws p w all.1 e

pub limited_at : (ws : List Token) (p : ℕ) (w : Token) → ∥ AllLimited ws ∥₁ → at ws p ≡ Some w → Limited w
limited_at ws p w all e = ∥∥₁_elim all (limited_once w) (λ a. at_each ws p w a e)
