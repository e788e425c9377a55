-- What typing a function answers, for every card that the tokens spell.
use Rattle.std.specs.Prelude.{◌≡◌, ℕ, List, Some, Result}
use Rattle.battery.specs.Tree.{Fn, at}
use Rattle.table.specs.declared.token.Token.{Token}
use Rattle.numbering.specs.Views.{OnCard}
use Rattle.verdict.specs.Order.{check_fn}
use Rattle.rules.specs.declared.fault.TypeFault.{TypeFault}
use Rattle.rules.specs.Typed.{checked_by}

abbrev pub FunctionAt : List Token → ℕ → Result (Unit {0}) TypeFault → Type 0
FunctionAt ws f r = OnCard ws (λ C. (fn : Fn) → at C.fns f ≡ Some fn → checked_by r ≡ check_fn C fn)
