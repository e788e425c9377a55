use Rattle.battery.proofs.Published.{evaluates_as_published, compares_as_published}
use Rattle.battery.proofs.theorems.as_published.Goals as goal

pub returns : goal.returns
returns c = record { evaluates = evaluates_as_published; compares = compares_as_published }
