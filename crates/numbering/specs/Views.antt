-- What a layout is the layout of, and what holds of the card that it is.
use Rattle.std.specs.Prelude.{◌≡◌, ℕ, List, Some}
use Rattle.battery.specs.Tree.{Card}
use Rattle.table.specs.declared.token.Token.{Token}
use Rattle.grammar.specs.Grammar.{card_of}
use Rattle.numbering.specs.declared.layout.Layout.{Layout}

abbrev pub tokens_in : Layout → List Token
tokens_in l = l.tokens.list.now

-- the place after what stands at each place
abbrev pub ends_in : Layout → List ℕ
ends_in l = l.ends

-- whatever the texts, if the tokens spell a card
abbrev pub OnCard : List Token → (Card → Type 0) → Type 0
OnCard ws P = (t : List ℕ) (C : Card) → card_of t ws ≡ Some C → P C
