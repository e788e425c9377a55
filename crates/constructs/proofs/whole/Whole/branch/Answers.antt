-- The second part stands behind the first, and the third behind the second.
use Rattle.std.proofs.Common.{ap, ◌∙◌, arith}
use Rattle.frames.specs.Trees.{after_it}
use Rattle.constructs.proofs.Moves.{node_of, behind_first, still, stuck_did}
use Rattle.constructs.proofs.whole.Whole.branch.Goals.{then-yes, else-yes}
use Rattle.constructs.proofs.whole.Whole.branch.Goals as goal

pub returns-in_err-only : goal.returns-in_err-only
returns-in_err-only c most es cs =
    let n = node_of c.requires in
    stuck_did c.args.self.now.program.now c.args.self.now.wait.now most es cs _ c.from_residual.ensures (rw (n.1, ← c.in_err-only.ensures))

pub returns-in_err-yes : goal.returns-in_err-yes
returns-in_err-yes c most es cs =
    let n = node_of c.requires in
    stuck_did c.args.self.now.program.now c.args.self.now.wait.now most es cs _ c.from_residual-in_err-yes.ensures (rw (n.1, ← c.in_ok-only.ensures, ← c.in_err-yes.ensures))

pub returns : goal.returns
returns c most es cs =
    let n = node_of c.requires in
    let e = behind_first c.args.self.now.program.now c.args.self.now.wait.now.job.at c.end-first.result c.end-first.ensures in
    elim c.if-yes.branch [
      | then-yes w ↦
          let q = w.at-is ∙ e in
          still c.args.self.now.program.now c.args.self.now.wait.now most es cs _ (rw (n.1, ← c.in_ok-only.ensures, ← c.in_ok-yes.ensures, w.if-yes.true, q)) (rw q n.0.1.0, c.requires.ready.based, omega arith, omega arith)
      | else-yes w ↦
          let q = w.at-is ∙ w.end-at.ensures ∙ ap (after_it c.args.self.now.program.now) e in
          still c.args.self.now.program.now c.args.self.now.wait.now most es cs _ (rw (n.1, ← c.in_ok-only.ensures, ← c.in_ok-yes.ensures, w.if-yes.false, q)) (rw q n.0.1.1.0, c.requires.ready.based, omega arith, omega arith)
    ]
