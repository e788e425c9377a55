use Rattle.program.proofs.Formed.{runs}
use Rattle.program.proofs.program.Program.of.Goals as goal

pub returns-clause-card : goal.returns-clause-card
returns-clause-card c = runs c.args.image.now c.read.result c.read.ensures
