use Rattle.std.proofs.Common.{◌≡◌, ◌-◌}
use Rattle.battery.specs.Rules.{arm_of}
use Rattle.program.specs.Stands.{arms_at, ArmsStand}
use Rattle.program.specs.Views.{tokens_in, text_in}
use Rattle.constructs.proofs.matching.arm_for.Given as goal

abbrev pub invariant-loop-arm : goal.invariant-loop-arm
invariant-loop-arm l =
    ArmsStand (text_in l.program) (tokens_in l.program) l.place
    × (arm_of (arms_at (text_in l.program) (tokens_in l.program) l.place) l.case ≡ arm_of (arms_at (text_in l.program) (tokens_in l.program) l.from) l.case)

abbrev pub decreases-loop-arm : goal.decreases-loop-arm
decreases-loop-arm l = 512 - l.place
