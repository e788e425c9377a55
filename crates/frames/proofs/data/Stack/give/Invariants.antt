use Rattle.std.proofs.Common.{◌≡◌, List}
use Rattle.frames.specs.declared.data.Frame.{Frame}
use Rattle.frames.specs.Stacks.{Room, Took, held, outcome}
use Rattle.frames.proofs.data.Stack.give.Given as goal

-- what comes of giving the value to the frames that are left came of giving it to all
abbrev pub invariant-loop-top : goal.invariant-loop-top
invariant-loop-top l = record {
  room : Room (held l.self);
  told : outcome (held l.self) l.v ≡ outcome (held l.initial.self) l.v;
  list : (l' : List Frame) → Took (held l.self) l.v l' → Took (held l.initial.self) l.v l';
}

abbrev pub decreases-loop-top : goal.decreases-loop-top
decreases-loop-top l = l.self.count
