-- The card has as many functions as were found.
use Rattle.std.proofs.Common.{ltb, ap, ◌∙◌}
use Rattle.numbering.specs.Views.{tokens_in}
use Rattle.numbering.proofs.There.{below_there}
use Rattle.numbering.proofs.Declared.{functions_counted}
use Rattle.numbering.proofs.order.has_function.Goals as goal

pub returns : goal.returns
returns c t C read = ap (ltb c.args.f) (c.functions.ensures ∙ functions_counted t (tokens_in c.args.layout.now) C read) ∙ below_there C.fns c.args.f
