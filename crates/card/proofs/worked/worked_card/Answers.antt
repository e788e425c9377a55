-- The card's verdict, and that without either record, are computed from their bytes.
use Rattle.verdict.proofs.Cases.{k_accepted, k_without_4, k_without_16}
use Rattle.card.proofs.worked.worked_card.Goals as goal

pub returns : goal.returns
returns c = record { bytes = c.bytes.ensures; accepted = k_accepted; without4 = k_without_4; without16 = k_without_16 }
