-- Each entry takes some of what is left of the input.
use Rattle.std.proofs.Common.{◌-◌, length}
use Rattle.cases.proofs.main.Given as goal

abbrev pub decreases-loop-image : goal.decreases-loop-image
decreases-loop-image l = length l.reader.image.now - l.reader.place
