-- `==` of the slices goes item by item, so it tells sameness where that of the items does.
use Rattle.std.proofs.Common.{rules, ◌≡◌}
use Rattle.std.specs.Cmp.Lexicographic.{pointwise, pointwise_decides}
use Rattle.few.specs.Shown.{shown}
use Rattle.few.proofs.items.short.list.ShortPartialEq.eq.Goals as goal

pub returns-clause-means : goal.returns-clause-means
returns-clause-means g c same =
    let told : c.eq.result ≡ pointwise g.T.PartialEq.eq (shown c.args.self.now) (shown c.args.other.now) = search rules in
    rw told (pointwise_decides same (shown c.args.self.now) (shown c.args.other.now))
