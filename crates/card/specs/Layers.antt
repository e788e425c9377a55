-- What each test behind the header answers, by what it finds first.
use Rattle.std.specs.Prelude.{ℕ, List, length, Some, None, Ok, Err, Option, Result}
use Rattle.battery.specs.Tree.{Card}
use Rattle.table.specs.declared.token.Token.{Token}
use Rattle.rules.specs.declared.fault.TypeFault.{TypeFault}
use Rattle.card.specs.declared.fault.Counts.{Counts}
use Rattle.card.specs.declared.fault.Fault.{Fault}
use Rattle.card.specs.declared.fault.Fault.TheVariants.{Types}
use Rattle.card.specs.declared.fault.TableFault.{TableFault}
use Rattle.card.specs.declared.fault.TableFault.TheVariants.{Unknown, Misplaced, Misnumbered}

abbrev pub known_by : Result (List Token) ℕ → Result (Unit {0}) TableFault
known_by (Ok ws) = Ok tt
known_by (Err p) = Err (Unknown p)

abbrev pub placed_by : Option (ℕ × Option ℕ) → Result (Unit {0}) TableFault
placed_by None = Ok tt
placed_by (Some x) = Err (Misplaced x.0 x.1)

abbrev pub numbered_by : Option ℕ → Result (Unit {0}) TableFault
numbered_by None = Ok tt
numbered_by (Some p) = Err (Misnumbered p)

abbrev pub types_by : Result Counts TypeFault → Result Counts Fault
types_by (Ok c) = Ok c
types_by (Err f) = Err (Types f)

-- as many as the card has
abbrev pub counts_in : Card → Counts
counts_in C = record { enums = length C.enums; functions = length C.fns }
