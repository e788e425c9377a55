use Rattle.std.proofs.Common.{◌≡◌, ◌≤◌, length, ap, refl, ◌∙◌, arith, rules}
use Rattle.std.proofs.lemmas.List.{length-take-le}
use Rattle.std.specs.Result.{IsOk}
use Rattle.cells.specs.Meaning.{values_of}
use Rattle.program.specs.Views.{card_in}
use Rattle.program.proofs.Spelt.{spelt_card}
use Rattle.frames.specs.Stacks.{held}
use Rattle.engine.proofs.Begins.{begun, other_count, found, on_ok}
use Rattle.engine.proofs.beginning.begin.Goals as goal

pub returns-then-values-function : goal.returns-then-values-function
returns-then-values-function g c =
    let k = c.args.program.now in
    let o = rw (found _ _ _ c.in_ok-function.ensures.value) at (c.function.ensures (card_in k) (spelt_card k)) in
    let r = other_count k c.args.f c.in_ok-function.function (values_of c.args.args.now) o (λ e. c.if-values-function.true (ap length c.as_slice-values.ensures ∙ e)) in
    (r.0, r.1, refl)

pub returns : goal.returns
returns g c =
    let k = c.args.program.now in
    let a = c.args.args.now in
    let vs = values_of a in
    let few : length vs ≤ 4 = (let l = length-take-le a.len a.items (omega arith) in omega arith) in
    let o = rw (found _ _ _ c.in_ok-function.ensures.value) at (c.function.ensures (card_in k) (spelt_card k)) in
    let is = c.as_slice-values.ensures in
    let whole : length c.args.run.now.entries ≡ 1028 = search rules in
    let l = ap length is in
    let ok : IsOk c.bind_all.result = c.bind_all.ensures.told.1 (omega arith, omega arith) in
    let s = rw is at (on_ok c.bind_all.result ok c.bind_all.ensures.scope) in
    let r = begun k c.args.f c.in_ok-function.function vs c.bind_all.new.entries c.args.run.now.entries (held c.clear.new.self) (g.S.Store.cells c.args.run.now.store) (g.S.Store.limit c.args.run.now.store)
    (length c.as_slice-values.result.now) o l (omega arith) few c.clear.ensures s in
    ((r.fn, r.takes, r.view), r.sound, refl)
