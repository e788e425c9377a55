-- What holds of every image.
use Rattle.std.specs.Prelude.{◌≡◌, ℕ, ◌<◌, ◌≤◌, ◌↔◌, List, [], ◌++◌, length, Some, None, Option}
use Rattle.battery.specs.Tree.{Card}
use Rattle.battery.specs.Typing.{TypedCard}
use Rattle.table.specs.declared.token.Token.{Token}
use Rattle.grammar.specs.Grammar.{Piece, Spells, Apart, Spelt, card_of, misplaced, Misplaced}
use Rattle.verdict.specs.Order.{has, fault, check_card}
use Rattle.verdict.specs.Formed.{FormedCard}
use Rattle.verdict.specs.Breaks.{BreaksCard}
use Rattle.verdict.specs.Verdict.{accepted, refused, verdict, Form, Accepted, Refusal}

-- the reader gives a card exactly where the tokens spell it
abbrev pub ReadsExactly : Type 0
ReadsExactly = (t : List ℕ) (ws : List Token) (C : Card) → (card_of t ws ≡ Some C) ↔ Spelt t ws C

-- tokens spell a card exactly if none is misplaced
abbrev pub SpeltUnlessMisplaced : Type 0
SpeltUnlessMisplaced = (t : List ℕ) (ws : List Token) → 0 < length ws → (misplaced 0 [] ws ≡ None) ↔ ((C : Card) × Spelt t ws C)

-- the misplaced token is the first that no card has there
abbrev pub MisplacedFirst : Type 0
MisplacedFirst = (t : List ℕ) (ws : List Token) → 0 < length ws → (r : ℕ) (g : Option ℕ) → (misplaced 0 [] ws ≡ Some (r, g)) ↔ Misplaced t ws r g

-- of a card that has the form, typing finds no fault exactly if every function is typed
abbrev pub FaultlessIfTyped : Type 0
FaultlessIfTyped = (image : List ℕ) (C : Card) → Form image C → (check_card C ≡ has tt) ↔ TypedCard C

-- and it finds the rule that is broken first, at its record
abbrev pub FirstBroken : Type 0
FirstBroken = (image : List ℕ) (C : Card) → Form image C → (n p : ℕ) → (check_card C ≡ fault n p) ↔ BreaksCard C n p

-- accepted exactly if the bytes have the form of Some typed card
abbrev pub AcceptsExactlyTheTyped : Type 0
AcceptsExactlyTheTyped = (image : List ℕ) (m n : ℕ) → (verdict image ≡ accepted m n) ↔ Accepted image m n

-- bytes have the form of at most one card
abbrev pub OneCard : Type 0
OneCard = (image : List ℕ) (C D : Card) → Form image C → Form image D → C ≡ D

-- and else refused, by the list of reasons from the top
abbrev pub RefusesExactly : Type 0
RefusesExactly = (image : List ℕ) (n : ℕ) (r g : Option ℕ) → (verdict image ≡ refused n r g) ↔ Refusal image n r g

-- what typing finds in a card that has the form is one of 10 to 13
abbrev pub TypingFaults : Type 0
TypingFaults = (image : List ℕ) (C : Card) → Form image C → (n p : ℕ) → check_card C ≡ fault n p → (10 ≤ n) × (n ≤ 13)

-- what the typing rules take from the form: numbers and texts within their bounds, and everything named there
abbrev pub FormedByForm : Type 0
FormedByForm = (image : List ℕ) (C : Card) → Form image C → FormedCard C

-- a sequence of pieces is spelt by what spells each of them, joined
abbrev pub SpeltInSequence : Type 0
SpeltInSequence = (t : List ℕ) (p : ℕ) (ws : List Token) (qs ps : List Piece) → Spells t p ws (qs ++ ps) ↔ Apart t p ws qs ps
