-- How a head's parts are typed: none, in a scope that grows, behind a type, as arms, or all in one scope.
use Rattle.table.specs.declared.token.Head.{Head}
use Rattle.table.specs.declared.token.Head.TheVariants.{Leaf as LEAF, Pair as PAIR, If as IF, Match as MATCH, Exit as EXIT, Many as MANY}
use Rattle.table.specs.declared.token.Pair.TheVariants.{Calc as CALC, Concat as CONCAT, Eq as EQ, Lt as LT, Seq as SEQ, Val as VAL}
use Rattle.rules.specs.declared.shape.Shape.{Shape}
use Rattle.rules.specs.declared.shape.Shape.TheVariants.{Leaf, Val, Match, Exit, Plain}

abbrev pub shape_of : Head → Shape
shape_of (LEAF l) = Leaf l
shape_of (PAIR (CALC o)) = Plain 2
shape_of (PAIR CONCAT) = Plain 2
shape_of (PAIR EQ) = Plain 2
shape_of (PAIR LT) = Plain 2
shape_of (PAIR SEQ) = Plain 2
shape_of (PAIR (VAL x)) = Val x
shape_of IF = Plain 3
shape_of MATCH = Match
shape_of EXIT = Exit
shape_of (MANY n m) = Plain n
