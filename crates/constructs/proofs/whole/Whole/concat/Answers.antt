use Rattle.std.proofs.Common.{sym, ◌∙◌}
use Rattle.battery.specs.Cell.{text_cell}
use Rattle.machine.specs.Machine.{of_cell, of_text}
use Rattle.cells.specs.Meaning.{text_of}
use Rattle.constructs.proofs.Moves.{node_of, still, stuck_did, bound, unbound}
use Rattle.constructs.proofs.Celled.{put_did, concat_long, concat_puts}
use Rattle.constructs.proofs.whole.Whole.concat.Goals as goal

pub returns-in_err-a-clause-does : goal.returns-in_err-a-clause-does
returns-in_err-a-clause-does g c es =
    let n = node_of c.requires in
    stuck_did c.args.self.now.program.now c.args.self.now.wait.now _ es _ _ c.from_residual.ensures (rw (n.1, ← c.in_err-a.ensures))

pub returns-in_err-one-clause-does : goal.returns-in_err-one-clause-does
returns-in_err-one-clause-does g c es =
    let n = node_of c.requires in
    let cs = g.S.Store.cells c.args.store.now in
    stuck_did c.args.self.now.program.now c.args.self.now.wait.now _ es cs _ c.from_residual-in_err-one.ensures (rw (n.1, ← c.in_ok-a.ensures) (unbound (of_cell cs c.in_ok-a.a) of_text _ c.in_err-one.ensures))

pub returns-in_err-other-clause-does : goal.returns-in_err-other-clause-does
returns-in_err-other-clause-does g c es =
    let n = node_of c.requires in
    let cs = g.S.Store.cells c.args.store.now in
    stuck_did c.args.self.now.program.now c.args.self.now.wait.now _ es cs _ c.from_residual-in_err-other.ensures
    (rw (n.1, ← c.in_ok-a.ensures) (bound (of_cell cs c.in_ok-a.a) of_text (text_of c.in_ok-one.one) _ c.in_ok-one.ensures ∙ unbound (of_cell cs c.in_ok-a.b) of_text _ c.in_err-other.ensures))

pub returns-in_default-clause-does : goal.returns-in_default-clause-does
returns-in_default-clause-does g c es =
    let n = node_of c.requires in
    let cs = g.S.Store.cells c.args.store.now in
    let e = concat_long c.args.self.now.program.now c.args.self.now.wait.now (g.S.Store.limit c.args.store.now) es cs n.1 c.in_ok-a.a c.in_ok-a.b (text_of c.in_ok-one.one) (text_of c.in_ok-other.other)
    c.in_ok-a.ensures c.in_ok-one.ensures c.in_ok-other.ensures c.in_default.ensures in
    still c.args.self.now.program.now c.args.self.now.wait.now (g.S.Store.limit c.args.store.now) es cs _ (sym e) tt

pub returns-clause-does : goal.returns-clause-does
returns-clause-does g c es =
    let n = node_of c.requires in
    let cs = g.S.Store.cells c.args.store.now in
    let u = text_of c.in-Some.text in
    let e = concat_puts c.args.self.now.program.now c.args.self.now.wait.now (g.S.Store.limit c.args.store.now) es cs n.1 c.in_ok-a.a c.in_ok-a.b (text_of c.in_ok-one.one) (text_of c.in_ok-other.other)
    c.in_ok-a.ensures c.in_ok-one.ensures c.in_ok-other.ensures u c.in-Some.ensures in
    put_did c.args.self.now.program.now c.args.self.now.wait.now (g.S.Store.limit c.args.store.now) c.args.self.now.wait.now.job.at (text_cell u) cs (g.S.Store.cells c.placed.new.store) c.placed.result es e c.placed.ensures.does c.placed.ensures.kept
