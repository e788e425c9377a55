use Rattle.std.proofs.Common.{ℕ, length, ap, ◌∙◌, arith}
use Rattle.stores.specs.Pair.{chain}
use Rattle.stores.proofs.Chains.{in_first, in_second, in_neither}
use Rattle.stores.proofs.pair.Pair.side.Goals as goal

pub returns-then-place-first : goal.returns-then-place-first
returns-then-place-first g c =
    let p = c.args.self.now in
    in_first (g.P.Store.cells p.first) (g.Q.Store.cells p.second) (g.P.Store.limit p.first) c.args.place (g.met.P.Store.within p.first) (omega arith)

pub returns-then-place-chained : goal.returns-then-place-chained
returns-then-place-chained g c =
    let p = c.args.self.now in
    let xs = g.P.Store.cells p.first in
    let ys = g.Q.Store.cells p.second in
    let w = g.met.P.Store.within p.first in
    let l = c.chained.ensures xs ys c.len-first.ensures c.len.ensures ∙ ap (λ (k : ℕ). length (chain xs k ys)) c.most.ensures in
    in_second xs ys (g.P.Store.limit p.first) c.args.place _ (omega arith) (omega arith)

pub returns : goal.returns
returns g c =
    let p = c.args.self.now in
    let xs = g.P.Store.cells p.first in
    let ys = g.Q.Store.cells p.second in
    let l = c.chained.ensures xs ys c.len-first.ensures c.len.ensures ∙ ap (λ (k : ℕ). length (chain xs k ys)) c.most.ensures in
    in_neither xs ys (g.P.Store.limit p.first) c.args.place (omega arith)
