-- The card has as many enums as were found.
use Rattle.std.proofs.Common.{ltb, ap, ◌∙◌}
use Rattle.numbering.specs.Views.{tokens_in}
use Rattle.numbering.proofs.There.{below_there}
use Rattle.numbering.proofs.Declared.{enums_counted}
use Rattle.numbering.proofs.order.has_enum.Goals as goal

pub returns : goal.returns
returns c t C read = ap (ltb c.args.k) (c.enums.ensures ∙ enums_counted t (tokens_in c.args.layout.now) C read) ∙ below_there C.enums c.args.k
