use Rattle.std.proofs.Common.{true, ◌∙◌}
use Rattle.numbering.specs.Views.{tokens_in, ends_in}
use Rattle.rules.proofs.Arming.{fit, misfit}
use Rattle.rules.proofs.arms.arms_fit.Goals as goal

pub returns-then-each_once : goal.returns-then-each_once
returns-then-each_once c =
    fit (tokens_in c.args.card.now) (ends_in c.args.card.now) c.args.card.now.ended c.args.of c.args.cases c.args.arm true c.all_named.result c.if-each_once.ensures c.all_named.ensures

pub returns-else-each_once : goal.returns-else-each_once
returns-else-each_once c =
    λ t C read E d ms ps q. c.if-each_once.false ∙ misfit (tokens_in c.args.card.now) (ends_in c.args.card.now) c.args.card.now.ended c.args.of c.args.cases c.args.arm c.if-each_once.ensures t C read E d ms ps q
