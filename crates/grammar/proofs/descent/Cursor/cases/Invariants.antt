-- A CASE was read, and more cases are wanted.
use Rattle.std.proofs.Common.{◌≡◌, ◌-◌, ◌^◌, ◌≤◌, true, false, List, ◌∷◌}
use Rattle.grammar.specs.Grammar.{Want, want_cases}
use Rattle.grammar.specs.Reading.{found_from}
use Rattle.grammar.proofs.descent.Cursor.cases.Given as goal

abbrev pub invariant-loop-fields : goal.invariant-loop-fields
invariant-loop-fields l =
    record {
      onward : l.fn.self.at ≤ l.self.at;
      wanted : (K : List Want) → found_from l.fn.self (want_cases l.enumeration false ∷ K) ≡ found_from l.self (want_cases l.enumeration true ∷ K);
    }

abbrev pub decreases-loop-fields : goal.decreases-loop-fields
decreases-loop-fields l = 2 ^ 64 - l.self.at
