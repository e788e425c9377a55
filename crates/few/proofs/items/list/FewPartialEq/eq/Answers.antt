-- `==` of the slices goes item by item, so it tells sameness where that of the items does.
use Rattle.std.proofs.Common.{rules, ◌≡◌}
use Rattle.std.specs.Cmp.Lexicographic.{pointwise, pointwise_decides}
use Rattle.few.specs.Listed.{listed}
use Rattle.few.proofs.items.list.FewPartialEq.eq.Goals as goal

pub returns-clause-means : goal.returns-clause-means
returns-clause-means g c same =
    let told : c.eq.result ≡ pointwise g.T.PartialEq.eq (listed c.args.self.now) (listed c.args.other.now) = search rules in
    rw told (pointwise_decides same (listed c.args.self.now) (listed c.args.other.now))
