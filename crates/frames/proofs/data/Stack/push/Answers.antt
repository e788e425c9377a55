use Rattle.std.proofs.Common.{arith}
use Rattle.frames.proofs.Newest.{newest_push}
use Rattle.frames.proofs.data.Stack.push.Goals as goal

pub returns-clause-list : goal.returns-clause-list
returns-clause-list c = newest_push c.args.self.now.frames c.args.self.now.count c.args.frame (omega arith)
