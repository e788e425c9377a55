use Rattle.std.proofs.Common.{arith}
use Rattle.std.proofs.lemmas.Bool.Decides.{nat_tests}
use Rattle.rules.proofs.Compared.{all_same}
use Rattle.rules.proofs.by_kind.declared_rule.Goals as goal

pub returns-then-ne : goal.returns-then-ne
returns-then-ne c =
    let e = all_same c.args.parts.now c.args.declared.now in
    grind (arith, nat_tests)

pub returns : goal.returns
returns c =
    let e = all_same c.args.parts.now c.args.declared.now in
    grind (arith, nat_tests)
