-- What is numbered out of order on the card is what was found.
use Rattle.std.proofs.Common.{rules}
use Rattle.card.proofs.judge.in_order.Goals as goal

pub returns : goal.returns
returns c t C read = let n = c.numbered.ensures t C read in search rules
