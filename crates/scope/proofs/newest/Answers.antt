-- What is found from the back is what the scope has.
use Rattle.std.proofs.Common.{ap, ◌∙◌, rules}
use borrow.Author.Tests.{tests}
use Rattle.std.proofs.lemmas.Iterator.Adapters.{YieldsList-from_rev_slice}
use Rattle.std.proofs.lemmas.Iterator.Search.{find_from_yields_List}
use Rattle.scope.proofs.Backwards.{test, back_all}
use Rattle.scope.proofs.newest.Goals as goal

pub returns-in_err-entry : goal.returns-in_err-entry
returns-in_err-entry g c =
    let f = find_from_yields_List (test c.args.name) c.find.new.self _ c.find.result c.find.ensures.ran (YieldsList-from_rev_slice c.args.entries.now (ap (λ i. i.rest.now) c.rev.ensures.source ∙ c.iter.ensures.rest)) (λ x b q k. search (rules, tests)) in
    let b = back_all c.args.name c.args.entries.now in
    grind (f, b, c.in_err-entry.was, c.from_residual.ensures, rules)

pub returns : goal.returns
returns g c =
    let f = find_from_yields_List (test c.args.name) c.find.new.self _ c.find.result c.find.ensures.ran (YieldsList-from_rev_slice c.args.entries.now (ap (λ i. i.rest.now) c.rev.ensures.source ∙ c.iter.ensures.rest)) (λ x b q k. search (rules, tests)) in
    let b = back_all c.args.name c.args.entries.now in
    grind (f, b, c.in_ok-entry.was, rules)
