use Rattle.verdict.proofs.verdict_holds.Goals as goal
use Rattle.verdict.proofs.Accept.{reads_exactly, spelt_unless_misplaced, faultless_if_typed, accepts_exactly_the_typed, one_card}
use Rattle.verdict.proofs.Breaks.{first_broken}
use Rattle.verdict.proofs.Refuse.{misplaced_first, typing_faults, refuses_exactly}
use Rattle.verdict.proofs.Formed.{card_formed}
use Rattle.verdict.proofs.Sequence.{spelt_in_sequence}
use Rattle.verdict.proofs.Cases.{k_accepted, k_without_4, k_without_16}

pub returns : goal.returns
returns c =
    record {
      reads = reads_exactly;
      spelt = spelt_unless_misplaced;
      first = misplaced_first;
      faultless = faultless_if_typed;
      broken = first_broken;
      accepts = accepts_exactly_the_typed;
      one = one_card;
      faults = typing_faults;
      refuses = refuses_exactly;
      formed = card_formed;
      sequence = spelt_in_sequence;
      card = k_accepted;
      without4 = k_without_4;
      without16 = k_without_16;
    }
