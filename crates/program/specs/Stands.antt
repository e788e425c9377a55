-- What stands at a place of a card's tokens: an expression, several, or arms; and what their parts are.
use Rattle.std.specs.Prelude.{◌≡◌, ℕ, zero, suc, ◌<◌, List, ◌∷◌, length, drop, Some, None, Option, slice_index}
use Rattle.battery.specs.declared.Ty.{Ty}
use Rattle.battery.specs.Tree.{Expr, Local, If, Match, Exit, Exprs, ∅, ◌&◌, Arms, no_arm, arm, at, ◌▸◌}
use Rattle.table.specs.declared.token.Token.{Token}
use Rattle.table.specs.declared.token.Token.TheVariants.{Arm as ARM, Expr as EXPR}
use Rattle.table.specs.declared.token.Head.{Head}
use Rattle.table.specs.declared.token.Head.TheVariants.{Leaf as LEAF, Pair as PAIR, If as IF, Match as MATCH, Exit as EXIT, Many as MANY}
use Rattle.grammar.specs.Grammar.{Piece, expr, take_expr, take_arms, or_close, leaf_at, pair_at, many_at, pieces_of}

module _ (t : List ℕ) (ws : List Token) where
  -- the expression that begins at a place; where none does, a name that nothing binds
  abbrev pub or_nothing : ℕ → Option (Expr × List Piece) → Expr
  or_nothing i None = Local i 65536
  or_nothing i (Some x) = x.0

  unfoldable pub tree_at : ℕ → Expr
  tree_at i = or_nothing i (pieces_of t i (drop i ws) ▸ take_expr)

  -- the arms that stand from a place on, up to their CLOSE
  abbrev pub or_none : Option (Arms × List Piece) → Arms
  or_none None = no_arm
  or_none (Some x) = x.0

  unfoldable pub arms_at : ℕ → Arms
  arms_at i = or_none (pieces_of t i (drop i ws) ▸ λ qs. or_close no_arm qs (take_arms qs))

  -- an expression begins at i, or arms stand from there on
  abbrev pub Begins : ℕ → Type 0
  Begins i = (ps : List Piece) × (pieces_of t i (drop i ws) ≡ Some (expr (tree_at i) ∷ ps))

  abbrev pub ArmsStand : ℕ → Type 0
  ArmsStand i = (ps : List Piece) × ((pieces_of t i (drop i ws) ▸ λ qs. or_close no_arm qs (take_arms qs)) ≡ Some (arms_at i, ps))

module _ (t : List ℕ) (ws : List Token) (es : List ℕ) where
  -- the place behind what stands at a place
  abbrev pub behind : ℕ → ℕ
  behind i = slice_index es i

  -- n expressions one after the other
  abbrev pub row_at : ℕ → ℕ → Exprs
  row_at zero i = ∅
  row_at (suc n) i = tree_at t ws i & row_at n (behind i)

  abbrev pub Row : ℕ → ℕ → Type 0
  Row zero i = Unit {0}
  Row (suc n) i = Begins t ws i × Row n (behind i)

  -- the parts of a head at i, and the tree that it makes of them
  abbrev pub Node : ℕ → Head → Type 0
  Node i (LEAF l) = tree_at t ws i ≡ leaf_at t i l
  Node i (PAIR o) = Row 2 (suc i) × (tree_at t ws i ≡ pair_at i o (tree_at t ws (suc i)) (tree_at t ws (behind (suc i))))
  Node i IF = Row 3 (suc i) × (tree_at t ws i ≡ If i (tree_at t ws (suc i)) (tree_at t ws (behind (suc i))) (tree_at t ws (behind (behind (suc i)))))
  Node i MATCH = Begins t ws (suc i) × ArmsStand t ws (behind (suc i)) × (tree_at t ws i ≡ Match i (tree_at t ws (suc i)) (arms_at t ws (behind (suc i))))
  Node i EXIT = Begins t ws (suc (suc i)) × ((τ : Ty) × (tree_at t ws i ≡ Exit i τ (tree_at t ws (suc (suc i)))))
  Node i (MANY n m) = Row n (suc i) × (tree_at t ws i ≡ many_at i m (row_at n (suc i)))

  -- where an expression begins, a head stands, within the tokens
  pub record Headed (i : ℕ) : Type 0 where
    pub head : Head
    pub stands : at ws i ≡ Some (EXPR head)
    pub within : i < length ws
    pub node : Node i head

  -- where arms stand, the first of them, or none
  pub data FirstArm (i : ℕ) : Type 0 where
    an_arm : {n x c : ℕ} → at ws i ≡ Some (ARM n x c) → i < length ws → Begins t ws (suc i) → ArmsStand t ws (behind (suc i))
        → arms_at t ws i ≡ arm i c n x (tree_at t ws (suc i)) (arms_at t ws (behind (suc i))) → FirstArm i
    no_more : ((n x c : ℕ) → ¬ (at ws i ≡ Some (ARM n x c))) → arms_at t ws i ≡ no_arm → FirstArm i
