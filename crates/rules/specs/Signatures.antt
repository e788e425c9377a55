-- The types that a case or a function declares, as read off its tokens.
use Rattle.std.specs.Prelude.{◌≡◌, ℕ, suc, ◌+◌, ◌≤◌, List, drop, Some, None, Option}
use Rattle.battery.specs.declared.Ty.{Ty}
use Rattle.battery.specs.Tree.{Fn, at}
use Rattle.table.specs.declared.token.Token.{Token}
use Rattle.table.specs.declared.token.Token.TheVariants.{Def as DEF, Ty as TYPE}
use Rattle.numbering.specs.Places.{types_in}
use Rattle.rules.specs.declared.declared.Signature.{Signature}
use Rattle.few.specs.Listed.{listed}

-- the same types, or neither is there
abbrev pub SameSignature : Option Signature → Option Fn → Type 0
SameSignature None None = Unit {0}
SameSignature None (Some fn) = ⊥
SameSignature (Some s) None = ⊥
SameSignature (Some s) (Some fn) = (listed s.parameters ≡ fn.params) × (s.result ≡ fn.result)

-- these types and no others
abbrev pub Declares : Option Signature → List Ty → Ty → Type 0
Declares None τs τ = ⊥
Declares (Some s) τs τ = (listed s.parameters ≡ τs) × (s.result ≡ τ)

-- what the DEF at a place declares, where four parameters are enough
abbrev pub DeclaredAt : List Token → ℕ → Option Signature → Type 0
DeclaredAt ws p r = (n k : ℕ) (τs : List Ty) (τ : Ty) → at ws p ≡ Some (DEF n k) → n ≤ 4 → types_in n (drop (suc p) ws) ≡ Some τs → at ws (suc p + n) ≡ Some (TYPE τ) → Declares r τs τ
