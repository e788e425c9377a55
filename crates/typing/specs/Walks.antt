-- What a walk sees, and what typing at its place answers.
use Rattle.std.specs.Prelude.{◌≡◌, ℕ, ◌<◌, ◌≤◌, Bool, List, length, take, Ok, Err, Result}
use Rattle.battery.specs.declared.Ty.{Ty}
use Rattle.battery.specs.Tree.{Scope}
use Rattle.table.specs.declared.token.Token.{Token}
use Rattle.scope.specs.Bound.{scope_of}
use Rattle.numbering.specs.Views.{tokens_in}
use Rattle.rules.specs.declared.fault.TypeFault.{TypeFault}
use Rattle.rules.specs.Typed.{TypedAt, ArmAt, ArmsAt}
use Rattle.typing.specs.declared.walk.Walk.{Walk}

abbrev pub tokens_at : Walk → List Token
tokens_at w = tokens_in w.card.now

-- the names bound at its place
abbrev pub bound_at : Walk → Scope Ty
bound_at w = scope_of (take w.bound w.entries)

-- from w on to v: a later place on the same card, with the same names
pub record WalksOn (w v : Walk) : Type 0 where
  pub tokens : tokens_at v ≡ tokens_at w
  pub later : w.place < v.place
  pub within : v.place ≤ length (tokens_at w)
  pub bound : v.bound ≡ w.bound
  pub names : take w.bound v.entries ≡ take w.bound w.entries

-- an answer, and the place behind what it is an answer at
abbrev pub with_place : {A : Type 0} → ℕ → Result A TypeFault → Result (A × ℕ) TypeFault
with_place p (Ok a) = Ok (a, p)
with_place p (Err f) = Err f

abbrev pub Typed : Walk → Result Ty TypeFault → Walk → Type 0
Typed w r v = TypedAt (tokens_at w) (bound_at w) w.place (with_place v.place r)

-- the arm at a place, of the enum k
abbrev pub ArmTyped : ℕ → Walk → Result Ty TypeFault → Walk → Type 0
ArmTyped k w r v = ArmAt (tokens_at w) (bound_at w) k w.place (with_place v.place r)

-- the arms from a place on, of the enum k: whether all have the type τ
abbrev pub ArmsTyped : ℕ → Ty → Walk → Result Bool TypeFault → Walk → Type 0
ArmsTyped k τ w r v = ArmsAt (tokens_at w) (bound_at w) k τ w.place (with_place v.place r)
