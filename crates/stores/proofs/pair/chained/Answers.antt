use Rattle.std.proofs.Common.{arith}
use Rattle.stores.proofs.Chains.{length_high}
use Rattle.stores.proofs.pair.chained.Goals as goal

pub returns-else-first-most : goal.returns-else-first-most
returns-else-first-most c = λ xs ys a b. let l = length_high xs ys c.args.most (omega arith) in omega arith
