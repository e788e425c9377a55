-- The types left are wanted.
use Rattle.std.proofs.Common.{◌≡◌, ◌-◌, ◌≤◌, List}
use Rattle.grammar.specs.Grammar.{Want, want_type, expecting}
use Rattle.grammar.specs.Reading.{found_from}
use Rattle.grammar.proofs.descent.Cursor.types.Given as goal

abbrev pub invariant-loop : goal.invariant-loop
invariant-loop l =
    record {
      onward : l.fn.self.at ≤ l.self.at;
      wanted : (K : List Want) → found_from l.fn.self (expecting l.n want_type K) ≡ found_from l.self (expecting (l.n - l.counter) want_type K);
    }
