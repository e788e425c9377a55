-- The tokens that are left are the first, and the table is right behind them.
use Rattle.std.proofs.Common.{◌≡◌, length, take}
use Rattle.numbering.proofs.Steps.{EndsFrom}
use Rattle.numbering.proofs.ends.ends.Given as goal

abbrev pub invariant-loop-i : goal.invariant-loop-i
invariant-loop-i l =
    (length l.ends ≡ 512) × (l.i-iterator.iter.count ≡ 0)
    × (take (length l.i-iterator.iter.iter.rest.now) l.tokens.list.now ≡ l.i-iterator.iter.iter.rest.now)
    × EndsFrom l.tokens.list.now l.ends (length l.i-iterator.iter.iter.rest.now)
