-- After i turns the first i values are bound.
use Rattle.std.proofs.Common.{◌≡◌, ◌+◌, length, take, drop}
use Rattle.battery.specs.Tree.{bind}
use Rattle.scope.specs.Bound.{scope_of}
use Rattle.scope.proofs.bind_all.Given as goal

abbrev pub invariant-loop-i : goal.invariant-loop-i
invariant-loop-i g l =
    (take l.len l.entries ≡ take l.len l.initial.entries)
    × (scope_of (take (l.len + l.i) l.entries) ≡ bind l.first (take l.i l.values) (scope_of (take l.len l.initial.entries)))
    × (drop (l.len + length l.values) l.entries ≡ drop (l.len + length l.values) l.initial.entries)
