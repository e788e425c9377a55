-- What the check's answer promises of an image.
use Rattle.std.specs.Prelude.{◌≡◌, ℕ, ◌≤◌, ◌↔◌, List, take, Some, Ok, Err, Option, Result}
use Rattle.battery.specs.Tree.{Card}
use Rattle.image.specs.Bytes.{records_of, text_bytes}
use Rattle.table.specs.declared.token.Token.{Token}
use Rattle.table.specs.Naming.{tokens_of}
use Rattle.grammar.specs.Grammar.{Misplaced}
use Rattle.verdict.specs.Verdict.{verdict, Form, Accepted, Refusal}
use Rattle.card.specs.declared.fault.Counts.{Counts}
use Rattle.card.specs.declared.fault.Fault.{Fault}
use Rattle.card.specs.declared.fault.Fault.TheVariants.{Table}
use Rattle.card.specs.declared.fault.TableFault.TheVariants.{Misplaced as misplaced}
use Rattle.card.specs.Told.{number_of, record_of, group_of, layer_of, layer_by}

-- accepted, with the counts of its enums and functions, exactly if the bytes spell some card in form whose functions have their declared types
abbrev pub AcceptsTheTyped : List ℕ → Result Counts Fault → Type 0
AcceptsTheTyped image r = (m n : ℕ) → (r ≡ Ok (record { enums = m; functions = n })) ↔ Accepted image m n

-- the bytes have the form of at most one card
abbrev pub OneCardAtMost : List ℕ → Type 0
OneCardAtMost image = (C D : Card) → Form image C → Form image D → C ≡ D

-- an answer that refuses the image for a reason with this number, record and group
abbrev pub Refuses : Result Counts Fault → ℕ → Option ℕ → Option ℕ → Type 0
Refuses r n p g = (f : Fault) × (r ≡ Err f) × (number_of f ≡ n) × (record_of f ≡ p) × (group_of f ≡ g)

-- and else refused, for the first reason on the list that holds
abbrev pub RefusesForTheReason : List ℕ → Result Counts Fault → Type 0
RefusesForTheReason image r = (n : ℕ) (p g : Option ℕ) → Refuses r n p g ↔ Refusal image n p g

-- the records before a misplaced one begin some card and with it none (their end is misplaced where they are none yet), and the group is the innermost one open there
abbrev pub NamesTheFirstMisplaced : List ℕ → Result Counts Fault → Type 0
NamesTheFirstMisplaced image r =
    (p : ℕ) (g : Option ℕ) → r ≡ Err (Table (misplaced p g)) → (ws : List Token) × (tokens_of (records_of image) ≡ Some ws) × Misplaced (text_bytes image) ws p g

-- each layer has its own numbers
abbrev pub LayerByNumber : Result Counts Fault → Type 0
LayerByNumber r = (f : Fault) → r ≡ Err f → layer_of f ≡ layer_by (number_of f)

-- an image has at most 6,153 bytes, so that the first 6,154 of any bytes settle what becomes of them
abbrev pub SettledBy6154 : List ℕ → Type 0
SettledBy6154 image = (n : ℕ) → 6154 ≤ n → verdict (take n image) ≡ verdict image
