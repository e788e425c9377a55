use Rattle.std.proofs.Common.{arith}
use Rattle.stores.proofs.Chains.{add_last, add_high}
use Rattle.stores.proofs.pair.Pair.add.Goals as goal

pub returns-then-len-most-clause-list : goal.returns-then-len-most-clause-list
returns-then-len-most-clause-list g c =
    let p = c.args.self.now in
    let w = g.met.P.Store.within p.first in
    add_high (g.P.Store.cells p.first) (g.Q.Store.cells p.second) (g.Q.Store.cells c.put.new.self) (g.P.Store.limit p.first) (g.Q.Store.limit p.second) _ w c.requires (omega arith) c.put.ensures.list

pub returns-then-len-most-2-clause-list : goal.returns-then-len-most-2-clause-list
returns-then-len-most-2-clause-list g c =
    let p = c.args.self.now in
    let w = g.met.P.Store.within p.first in
    let last = add_last (g.P.Store.cells p.first) (g.Q.Store.cells p.second) (g.P.Store.cells c.put-2.new.self) (g.P.Store.limit p.first) (g.Q.Store.limit p.second) _ w c.requires (omega arith) c.put-2.ensures.list in
    rw (c.empty.ensures.list, c.put-2.ensures.most) last
