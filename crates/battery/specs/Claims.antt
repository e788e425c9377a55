-- What holds of every run by the rules.
use Rattle.std.specs.Prelude.{◌≡◌, ℕ, ◌<◌, ◌≢◌, List, ℤ, pos, ◌-ℤ◌, ◌*ℤ◌, Some, int_div, int_rem, unsigned_abs}
use Rattle.battery.specs.declared.Ty.{Ty}
use Rattle.battery.specs.declared.value.Value.{Value}
use Rattle.battery.specs.Outcome.{Outcome}
use Rattle.battery.specs.Tree.{at, Fn, Card}
use Rattle.battery.specs.Typing.{TypedCard}
use Rattle.battery.specs.Cell.{Cell, Put, append}
use Rattle.battery.specs.Values.{Has, HasAll, OutcomeFits, Shown, Shows}
use Rattle.battery.specs.Rules.{Setup, Run}

-- each cell stays at its place
pub record Keeps (cs cs' : List Cell) : Type 0 where
  pub kept : (i : ℕ) (c : Cell) → at cs i ≡ Some c → at cs' i ≡ Some c

-- what is asked of a put: the cell stands at the place that it answers, and the others stay
pub record Lawful (put : Put) : Type 0 where
  pub holds : (cs : List Cell) (c : Cell) (i : ℕ) (cs' : List Cell) → put cs c ≡ Some (i, cs') → at cs' i ≡ Some c
  pub keeps : (cs : List Cell) (c : Cell) (i : ℕ) (cs' : List Cell) → put cs c ≡ Some (i, cs') → Keeps cs cs'

-- a run of a function of a typed card, on arguments of its parameters' types
pub record TypedRun (S : Setup) (fn : Fn) (vs : List Value) (cs : List Cell) : Type 0 where
  pub store : Lawful S.put
  pub card : TypedCard S.card
  pub number : ℕ
  pub there : at S.card.fns number ≡ Some fn
  pub args : HasAll S.card cs vs fn.params

-- by the rules it ends: with a value of the declared type, an exit text, or one of the endings 2 to 7
pub record Ends (S : Setup) (fn : Fn) (vs : List Value) (cs : List Cell) : Type 0 where
  pub outcome : Outcome
  pub units : ℕ
  pub cells : List Cell
  pub derived : Run S fn vs cs outcome units cells
  pub fits : OutcomeFits S.card cells outcome fn.result
  pub kept : Keeps cs cells

abbrev pub EveryRunEnds : Type 0
EveryRunEnds = (S : Setup) (fn : Fn) (vs : List Value) (cs : List Cell) → TypedRun S fn vs cs → Ends S fn vs cs

abbrev pub AppendingIsLawful : Type 0
AppendingIsLawful = (most : ℕ) → Lawful (append most)

-- a value shows one tree at most, and a value of a type shows one
abbrev pub OneTree : Type 0
OneTree = (cs : List Cell) (v : Value) (t t' : Shown) → Shows cs v t → Shows cs v t' → t ≡ t'

abbrev pub TypedValuesShow : Type 0
TypedValuesShow = (C : Card) (cs : List Cell) (v : Value) (τ : Ty) → Has C cs v τ → ((t : Shown) × Shows cs v t)

-- DIV drops the fraction, and MOD is what is left, less than the divisor
pub record Divides (m n : ℤ) : Type 0 where
  pub left : int_rem m n ≡ m -ℤ (n *ℤ int_div m n)
  pub small : unsigned_abs (int_rem m n) < unsigned_abs n

abbrev pub DivisionDropsTheFraction : Type 0
DivisionDropsTheFraction = (m n : ℤ) → n ≢ pos 0 → Divides m n
