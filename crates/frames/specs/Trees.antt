-- The trees of a program, by place.
use Rattle.std.specs.Prelude.{ℕ, ◌+◌, Some, None, Option, slice_index}
use Rattle.battery.specs.Tree.{Expr, Exprs, at}
use Rattle.battery.specs.Rules.{Setup, plotter}
use Rattle.table.specs.declared.token.Head.{Head}
use Rattle.table.specs.declared.token.Head.TheVariants.{Leaf as LEAF, Pair as PAIR, If as IF, Match as MATCH, Exit as EXIT, Many as MANY}
use Rattle.table.specs.declared.token.Pair.TheVariants.{Calc as CALC, Concat as CONCAT, Eq as EQ, Lt as LT, Seq as SEQ, Val as VAL}
use Rattle.table.specs.Sorts.{head_of}
use Rattle.program.specs.Stands.{tree_at, row_at, Begins, Row}
use Rattle.program.specs.Views.{tokens_in, text_in, ends_in, card_in}
use Rattle.program.specs.declared.program.Program.{Program}

-- the tree at a place, and n trees one after the other
abbrev pub expr : Program → ℕ → Expr
expr k i = tree_at (text_in k) (tokens_in k) i

abbrev pub exprs : Program → ℕ → ℕ → Exprs
exprs k n i = row_at (text_in k) (tokens_in k) (ends_in k) n i

abbrev pub after_it : Program → ℕ → ℕ
after_it k i = slice_index (ends_in k) i

-- an expression begins at i; n begin one after the other
abbrev pub Start : Program → ℕ → Type 0
Start k i = Begins (text_in k) (tokens_in k) i

abbrev pub Starts : Program → ℕ → ℕ → Type 0
Starts k n i = Row (text_in k) (tokens_in k) (ends_in k) n i

-- what a run of the program's card is made over
abbrev pub setup : Program → ℕ → Setup
setup k most = plotter (card_in k) most

abbrev pub head_at : Program → ℕ → Option Head
head_at k i = head_of (at (tokens_in k) i)

-- how many parts are evaluated first, and where the first of them stands
abbrev pub firsts : Option Head → ℕ
firsts None = 0
firsts (Some (LEAF l)) = 0
firsts (Some (PAIR (CALC o))) = 2
firsts (Some (PAIR CONCAT)) = 2
firsts (Some (PAIR EQ)) = 2
firsts (Some (PAIR LT)) = 2
firsts (Some (PAIR SEQ)) = 1
firsts (Some (PAIR (VAL x))) = 1
firsts (Some IF) = 1
firsts (Some MATCH) = 1
firsts (Some EXIT) = 1
firsts (Some (MANY n m)) = n

abbrev pub first_at : ℕ → Option Head → ℕ
first_at i None = i + 1
first_at i (Some (LEAF l)) = i + 1
first_at i (Some (PAIR o)) = i + 1
first_at i (Some IF) = i + 1
first_at i (Some MATCH) = i + 1
first_at i (Some EXIT) = i + 2
first_at i (Some (MANY n m)) = i + 1
