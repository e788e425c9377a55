-- What typing at a place answers, for every card that the tokens spell.
use Rattle.std.specs.Prelude.{◌≡◌, ℕ, Bool, ◌&&◌, List, ◌∷◌, drop, Some, Ok, Err, Option, Result}
use Rattle.battery.specs.declared.Ty.{Ty}
use Rattle.battery.specs.Tree.{Expr, Exprs, Arms, no_arm, arm, Scope, bind, Card, at, ◌▸◌}
use Rattle.table.specs.declared.token.Token.{Token}
use Rattle.grammar.specs.Grammar.{Piece, expr, exprs, count, take_arms, or_close, card_of, pieces_of}
use Rattle.verdict.specs.Order.{Checked, has, fault, check, check_all, check_arms, all_as, all_once, arms_named, fields_of}
use Rattle.rules.specs.declared.fault.Broken.{Broken}
use Rattle.rules.specs.declared.fault.Broken.TheVariants.{Unbound, Mistyped, Count, Arms as OfArms}
use Rattle.rules.specs.declared.fault.TypeFault.{TypeFault}

abbrev pub type_number : Broken → ℕ
type_number Unbound = 10
type_number Mistyped = 11
type_number Count = 12
type_number OfArms = 13

abbrev pub checked_by : {A : Type 0} → Result A TypeFault → Checked A
checked_by (Ok a) = has a
checked_by (Err f) = fault (type_number f.broken) f.record

-- the answer at a place whose tokens spell these pieces behind it
abbrev pub Gave : {A : Type 0} → List ℕ → List Token → List Piece → Checked A → Result (A × ℕ) TypeFault → Type 0
Gave t ws ps c (Ok x) = (c ≡ has x.0) × (pieces_of t x.1 (drop x.1 ws) ≡ Some ps)
Gave t ws ps c (Err f) = c ≡ fault (type_number f.broken) f.record

abbrev pub TypedAt : List Token → Scope Ty → ℕ → Result (Ty × ℕ) TypeFault → Type 0
TypedAt ws Γ p r = (t : List ℕ) (C : Card) → card_of t ws ≡ Some C → (e : Expr) (ps : List Piece) → pieces_of t p (drop p ws) ≡ Some (expr e ∷ ps) → Gave t ws ps (check C Γ e) r

-- n parts one after the other, in one scope
abbrev pub PartsAt : List Token → Scope Ty → ℕ → ℕ → Result (List Ty × ℕ) TypeFault → Type 0
PartsAt ws Γ p n r = (t : List ℕ) (C : Card) → card_of t ws ≡ Some C → (es : Exprs) (ps : List Piece) → n ≡ count es → pieces_of t p (drop p ws) ≡ Some (exprs es ps) → Gave t ws ps (check_all C Γ es) r

-- the arms from a place
abbrev pub arms_from : List ℕ → List Token → ℕ → Option (Arms × List Piece)
arms_from t ws p = pieces_of t p (drop p ws) ▸ λ qs. or_close no_arm qs (take_arms qs)

-- whether they are one for each case below n, all of the enum k and with as many names as fields
abbrev pub FitAt : List Token → ℕ → ℕ → ℕ → Bool → Type 0
FitAt ws k n p b = (t : List ℕ) (C : Card) → card_of t ws ≡ Some C → (E : List (List Ty)) → at C.enums k ≡ Some E → (ms : Arms) (ps : List Piece) → arms_from t ws p ≡ Some (ms, ps) → b ≡ (all_once n ms && arms_named E ms)

-- the arm at a place: its part's type, and the place of what follows it
abbrev pub GaveArm : List ℕ → List Token → Arms → List Piece → Checked Ty → Result (Ty × ℕ) TypeFault → Type 0
GaveArm t ws ms ps c (Ok x) = (c ≡ has x.0) × (arms_from t ws x.1 ≡ Some (ms, ps))
GaveArm t ws ms ps c (Err f) = c ≡ fault (type_number f.broken) f.record

abbrev pub ArmAt : List Token → Scope Ty → ℕ → ℕ → Result (Ty × ℕ) TypeFault → Type 0
ArmAt ws Γ k p r = (t : List ℕ) (C : Card) → card_of t ws ≡ Some C → (E : List (List Ty)) → at C.enums k ≡ Some E → (c n x : ℕ) (e : Expr) (ms : Arms) (ps : List Piece) → arms_from t ws p ≡ Some (arm p c n x e ms, ps) → GaveArm t ws ms ps (check C (bind x (fields_of (at E c)) Γ) e) r

-- the arms from a place: whether all have the type τ, and the place behind their CLOSE
abbrev pub GaveArms : List ℕ → List Token → List Piece → Ty → Checked (List Ty) → Result (Bool × ℕ) TypeFault → Type 0
GaveArms t ws ps τ c (Ok x) = (τs : List Ty) × (c ≡ has τs) × (x.0 ≡ all_as τ τs) × (pieces_of t x.1 (drop x.1 ws) ≡ Some ps)
GaveArms t ws ps τ c (Err f) = c ≡ fault (type_number f.broken) f.record

abbrev pub ArmsAt : List Token → Scope Ty → ℕ → Ty → ℕ → Result (Bool × ℕ) TypeFault → Type 0
ArmsAt ws Γ k τ p r = (t : List ℕ) (C : Card) → card_of t ws ≡ Some C → (E : List (List Ty)) → at C.enums k ≡ Some E → (ms : Arms) (ps : List Piece) → arms_from t ws p ≡ Some (ms, ps) → GaveArms t ws ps τ (check_arms C Γ E ms) r
