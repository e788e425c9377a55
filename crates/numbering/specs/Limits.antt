-- What the table keeps within bounds: numbers, texts, and counts of fields, parameters, names and arguments.
use Rattle.std.specs.Prelude.{◌≡◌, ◌≤◌, true, List, [], ◌∷◌}
use Rattle.battery.specs.Tree.{in_range}
use Rattle.table.specs.declared.token.Token.{Token}
use Rattle.table.specs.declared.token.Token.TheVariants.{Close as CLOSE, Enum as ENUM, Case as CASE, Def as DEF, Ty as TYPE, Arm as ARM, Expr as EXPR}
use Rattle.table.specs.declared.token.Head.{Head}
use Rattle.table.specs.declared.token.Head.TheVariants.{Leaf as LEAF, Pair as PAIR, If as IF, Match as MATCH, Exit as EXIT, Many as MANY}
use Rattle.table.specs.declared.token.Leaf.{Leaf}
use Rattle.table.specs.declared.token.Leaf.TheVariants.{Unit as UNIT, Number as NUM, Boolean as BOOL, Text as STR, Local as LOCAL}

abbrev pub LimitedLeaf : Leaf → Type 0
LimitedLeaf UNIT = Unit {0}
LimitedLeaf (NUM k) = in_range k ≡ true
LimitedLeaf (BOOL b) = Unit {0}
LimitedLeaf (STR b n) = n ≤ 24
LimitedLeaf (LOCAL x) = Unit {0}

abbrev pub LimitedHead : Head → Type 0
LimitedHead (LEAF l) = LimitedLeaf l
LimitedHead (PAIR o) = Unit {0}
LimitedHead IF = Unit {0}
LimitedHead MATCH = Unit {0}
LimitedHead EXIT = Unit {0}
LimitedHead (MANY n m) = n ≤ 4

abbrev pub Limited : Token → Type 0
Limited CLOSE = Unit {0}
Limited (ENUM k) = Unit {0}
Limited (CASE n k) = n ≤ 4
Limited (DEF n k) = n ≤ 4
Limited (TYPE τ) = Unit {0}
Limited (ARM n x c) = n ≤ 4
Limited (EXPR h) = LimitedHead h

abbrev pub AllLimited : List Token → Type 0
AllLimited [] = Unit {0}
AllLimited (w ∷ ws) = Limited w × AllLimited ws
