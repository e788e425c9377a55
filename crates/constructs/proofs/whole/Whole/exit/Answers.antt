use Rattle.std.proofs.Common.{sym}
use Rattle.machine.specs.Machine.{of_cell, of_text}
use Rattle.cells.specs.Meaning.{text_of}
use Rattle.constructs.proofs.Moves.{node_of, still, stuck_did, bound, unbound}
use Rattle.constructs.proofs.whole.Whole.exit.Goals as goal

pub returns-in_err-v : goal.returns-in_err-v
returns-in_err-v g c most es =
    let n = node_of c.requires in
    stuck_did c.args.self.now.program.now c.args.self.now.wait.now most es (g.S.Store.cells c.args.store.now) _ c.from_residual.ensures (rw (n.1.1, ← c.in_err-v.ensures))

pub returns-in_err-text_at : goal.returns-in_err-text_at
returns-in_err-text_at g c most es =
    let n = node_of c.requires in
    let cs = g.S.Store.cells c.args.store.now in
    stuck_did c.args.self.now.program.now c.args.self.now.wait.now most es cs _ c.from_residual-in_err-text_at.ensures (rw (n.1.1, ← c.in_ok-v.ensures) (unbound (of_cell cs c.in_ok-v.v) of_text _ c.in_err-text_at.ensures))

pub returns : goal.returns
returns g c most es =
    let n = node_of c.requires in
    let cs = g.S.Store.cells c.args.store.now in
    still c.args.self.now.program.now c.args.self.now.wait.now most es cs _ (rw (n.1.1, ← c.in_ok-v.ensures) (sym (bound (of_cell cs c.in_ok-v.v) of_text (text_of c.in_ok-text_at.field-0) _ c.in_ok-text_at.ensures))) tt
