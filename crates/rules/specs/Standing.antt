-- What stands behind an arm, in an enum, and at the places of types, for every card that the tokens spell.
use Rattle.std.specs.Prelude.{◌≡◌, ℕ, suc, ◌≤◌, List, ◌∷◌, drop, Some, Option}
use Rattle.std.specs.Option.{option_map}
use Rattle.battery.specs.declared.Ty.{Ty}
use Rattle.battery.specs.Tree.{Expr, Card, at}
use Rattle.few.specs.declared.items.Few.{Few}
use Rattle.few.specs.Listed.{listed}
use Rattle.table.specs.declared.token.Token.{Token}
use Rattle.grammar.specs.Grammar.{Piece, expr, card_of, pieces_of}
use Rattle.numbering.specs.Places.{types_in}

-- behind the part of the arm at p
abbrev pub NextAt : List Token → ℕ → ℕ → Type 0
NextAt ws p m = (t : List ℕ) (e : Expr) (ps : List Piece) → pieces_of t (suc p) (drop (suc p) ws) ≡ Some (expr e ∷ ps) → pieces_of t m (drop m ws) ≡ Some ps

-- of the enum k
abbrev pub OfEnum : List Token → ℕ → (List (List Ty) → Type 0) → Type 0
OfEnum ws k P = (t : List ℕ) (C : Card) → card_of t ws ≡ Some C → (E : List (List Ty)) → at C.enums k ≡ Some E → P E

-- the n types from a place on, if all are there, where four are enough
abbrev pub TypesAt : List Token → ℕ → ℕ → Option (Few Ty 4) → Type 0
TypesAt ws p n r = n ≤ 4 → option_map listed r ≡ types_in n (drop p ws)
