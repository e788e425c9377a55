-- What a program has to do with the card that an image's bytes have the form of.
use Rattle.std.specs.Prelude.{◌≡◌, ℕ, List, Some, Option}
use Rattle.battery.specs.Tree.{Card}
use Rattle.verdict.specs.Verdict.{Form}
use Rattle.program.specs.Views.{card_in}
use Rattle.program.specs.declared.program.Program.{Program}

-- there is one, and its card is that card
abbrev pub Runs : List ℕ → Option Program → Type 0
Runs image r = (C : Card) → Form image C → (p : Program) × (r ≡ Some p) × (card_in p ≡ C)
