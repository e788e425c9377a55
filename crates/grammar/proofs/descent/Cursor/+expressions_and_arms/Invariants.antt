-- Each call but that of the first of several expressions begins at a higher place.
use Rattle.std.proofs.Common.{◌≡◌, ◌+◌, ◌-◌, ◌*◌, ◌^◌, ◌≤◌, true, false, List, ◌∷◌}
use Rattle.grammar.specs.Grammar.{Want, want_expr, want_arms, expecting, group}
use Rattle.grammar.specs.Reading.{found_from}
use Rattle.grammar.proofs.descent.Cursor.+expressions_and_arms.Given as goal

abbrev pub decreases-arms : goal.decreases-arms
decreases-arms l = 2 * (2 ^ 64 - l.self.now.at)

abbrev pub decreases-expression : goal.decreases-expression
decreases-expression l = 2 * (2 ^ 64 - l.self.now.at)

abbrev pub decreases-expressions : goal.decreases-expressions
decreases-expressions l = 2 * (2 ^ 64 - l.self.now.at) + 1

abbrev pub invariant-arms-loop-self : goal.invariant-arms-loop-self
invariant-arms-loop-self l =
    record {
      onward : l.fn.self.at ≤ l.self.at;
      wanted : (K : List Want) → found_from l.fn.self (want_arms l.matching false ∷ K) ≡ found_from l.self (want_arms l.matching true ∷ K);
    }

abbrev pub decreases-arms-loop-self : goal.decreases-arms-loop-self
decreases-arms-loop-self l = 2 ^ 64 - l.self.at

abbrev pub invariant-expressions-loop : goal.invariant-expressions-loop
invariant-expressions-loop l =
    record {
      onward : l.fn.self.at ≤ l.self.at;
      wanted : (K : List Want) → group (expecting l.n want_expr K) ≡ l.group → found_from l.fn.self (expecting l.n want_expr K) ≡ found_from l.self (expecting (l.n - l.counter) want_expr K);
    }
