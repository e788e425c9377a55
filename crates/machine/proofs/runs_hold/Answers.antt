use Rattle.machine.proofs.Turns.{runs_by_the_rules, turns_add_up, alike_over_equal_mosts, k_in_turns}
use Rattle.machine.proofs.Alike.{alike_over_stores}
use Rattle.machine.proofs.runs_hold.Goals as goal

pub returns : goal.returns
returns c =
    record {
      runs = runs_by_the_rules;
      turns = turns_add_up;
      stores = alike_over_stores;
      equal = alike_over_equal_mosts;
      worked = k_in_turns;
    }
