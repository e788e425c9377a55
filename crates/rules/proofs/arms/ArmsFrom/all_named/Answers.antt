use Rattle.std.proofs.Common.{refl, rules}
use borrow.Author.Tests.{tests}
use Rattle.std.proofs.lemmas.Iterator.Consumers.{YieldsList-from_first}
use Rattle.std.proofs.lemmas.Iterator.Search.{all_from_yields_List}
use Rattle.numbering.specs.Views.{tokens_in}
use Rattle.rules.specs.Arming.{arms_left, names_fit}
use Rattle.rules.proofs.arms.ArmsFrom.all_named.Goals as goal

pub returns : goal.returns
returns c = all_from_yields_List (names_fit (tokens_in c.args.self.card.now) c.args.of) c.all.new.self _ c.all.result c.all.ensures.ran (YieldsList-from_first (λ x. x) arms_left _ refl) (λ x b q k. search (rules, tests))
