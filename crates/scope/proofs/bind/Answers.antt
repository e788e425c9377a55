-- One entry written behind the first `len`.
use Rattle.std.proofs.Common.{arith}
use Rattle.scope.proofs.Entries.{scope_set}
use Rattle.scope.proofs.bind.Goals as goal

pub returns-clause-scope : goal.returns-clause-scope
returns-clause-scope g c = scope_set c.args.entries.now c.args.len _ (omega arith)
