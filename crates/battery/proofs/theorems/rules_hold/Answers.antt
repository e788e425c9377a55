use Rattle.battery.proofs.Appending.{appending_is_lawful, every_run_ends}
use Rattle.battery.proofs.Division.{remainder_is_left, remainder_is_small}
use Rattle.battery.proofs.Shown.{one_tree, typed_values_show}
use Rattle.battery.proofs.theorems.rules_hold.Goals as goal

pub returns : goal.returns
returns c =
    record {
      ends = every_run_ends;
      appends = appending_is_lawful;
      one = one_tree;
      shows = typed_values_show;
      divides = λ m n h. record { left = remainder_is_left m n h; small = remainder_is_small m n h };
    }
