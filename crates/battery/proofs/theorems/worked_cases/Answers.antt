use Rattle.battery.proofs.Worked.{k_near, k_far, k_full, division, joins_24, joins_25, equal_makes, calls_itself}
use Rattle.battery.proofs.theorems.worked_cases.Goals as goal

pub returns : goal.returns
returns c =
    record {
      near = k_near;
      far = k_far;
      full = k_full;
      division = division;
      joined = joins_24;
      overlong = joins_25;
      equal = equal_makes;
      itself = calls_itself;
    }
