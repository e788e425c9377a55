-- How a run ends: with a value, or for a reason to stop.
use Rattle.std.specs.Prelude.{Result}
use Rattle.battery.specs.declared.value.Value.{Value}
use Rattle.battery.specs.declared.outcome.Stop.{Stop}

abbrev pub Outcome : Type 0
Outcome = Result Value Stop
