use Rattle.frames.proofs.Layers.{head_is}
use Rattle.constructs.proofs.dispatch.rule.Goals as goal

-- where an expression begins, a head stands
pub returns-in_err-leaf-clause-does : goal.returns-in_err-leaf-clause-does
returns-in_err-leaf-clause-does g c =
    let h = head_is c.args.program.now c.args.wait.now.job.at c.requires.start in
    let e = c.in_err-leaf.ensures in absurd (cc)

pub returns-in-If-clause-does : goal.returns-in-If-clause-does
returns-in-If-clause-does g c = c.branch-whole.ensures _ _ _

pub returns-in-Match-clause-does : goal.returns-in-Match-clause-does
returns-in-Match-clause-does g c = c.matching.ensures _

pub returns-in-Exit-clause-does : goal.returns-in-Exit-clause-does
returns-in-Exit-clause-does g c = c.exit.ensures _ _

pub returns-in-Many-default-Call-clause-does : goal.returns-in-Many-default-Call-clause-does
returns-in-Many-default-Call-clause-does g c = c.call.ensures _ _

pub returns-in-Many-default-Make-clause-does : goal.returns-in-Many-default-Make-clause-does
returns-in-Many-default-Make-clause-does g c = c.make.ensures.does _
