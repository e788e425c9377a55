use Rattle.std.proofs.Common.{refl}
use Rattle.frames.proofs.data.Frame.take.Goals as goal

pub returns-in-Waits-clause-now : goal.returns-in-Waits-clause-now
returns-in-Waits-clause-now c = rw c.in-Waits.is (c.give.new.self, c.give.ensures, refl)
