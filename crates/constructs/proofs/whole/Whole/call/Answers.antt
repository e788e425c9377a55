use Rattle.std.proofs.Common.{◌+◌, length, sym, ◌∙◌, ap, refl, arith}
use Rattle.program.specs.Views.{card_in}
use Rattle.program.proofs.Spelt.{spelt_card}
use Rattle.constructs.proofs.Moves.{node_of, stuck_did}
use Rattle.constructs.proofs.Bindings.{call_none, call_not, call_did}
use Rattle.constructs.proofs.Celled.{values_few}
use Rattle.constructs.proofs.whole.Whole.call.Goals as goal

pub returns-in_err-called : goal.returns-in_err-called
returns-in_err-called c most cs =
    let n = node_of c.requires.1 in
    let h = c.in_err-called.ensures (card_in c.args.self.now.program.now) (spelt_card c.args.self.now.program.now) in
    stuck_did c.args.self.now.program.now c.args.self.now.wait.now most c.args.entries.now cs _ c.from_residual.ensures (call_none c.args.self.now.program.now c.args.self.now.wait.now c.args.f n.1 c.args.entries.now h most cs)

pub returns-then-values-called : goal.returns-then-values-called
returns-then-values-called c most cs =
    let n = node_of c.requires.1 in
    let h = c.in_ok-called.ensures (card_in c.args.self.now.program.now) (spelt_card c.args.self.now.program.now) in
    let l = ap length c.as_slice-values.ensures in
    stuck_did c.args.self.now.program.now c.args.self.now.wait.now most c.args.entries.now cs _ refl (call_not c.args.self.now.program.now c.args.self.now.wait.now c.args.f n.1 c.args.entries.now c.in_ok-called.called h (λ e. c.if-values-called.true (l ∙ e)) most cs)

pub returns : goal.returns
returns c most cs =
    let n = node_of c.requires.1 in
    let h = c.in_ok-called.ensures (card_in c.args.self.now.program.now) (spelt_card c.args.self.now.program.now) in
    let is = c.as_slice-values.ensures in
    let l = ap length is in
    let few = values_few c.args.self.now.wait.now.values in
    let v = rw is at c.bind_above.ensures.scope in
    call_did c.args.self.now.program.now c.args.self.now.wait.now c.args.f n.1 c.args.entries.now c.bind_above.new.entries c.in_ok-called.called (c.args.self.now.wait.now.job.height + length c.as_slice-values.result.now) h (sym l ∙ c.if-values-called.false)
    (ap (λ m. c.args.self.now.wait.now.job.height + m) l) (omega arith) c.bind_above.ensures.agree v most cs
