-- As many steps are left as turns.
use Rattle.std.proofs.Common.{◌≡◌, ◌-◌}
use Rattle.numbering.specs.Ends.{times}
use Rattle.numbering.specs.Behind.{behind}
use Rattle.numbering.proofs.ends.Filled.times.Given as goal

abbrev pub invariant-loop : goal.invariant-loop
invariant-loop l = times (l.n - l.counter) (behind l.self) l.q ≡ times l.n (behind l.self) l.initial.q
