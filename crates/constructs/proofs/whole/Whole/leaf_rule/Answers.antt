-- A leaf says its value, or its rule does.
use Rattle.std.proofs.Common.{w32, SFits, rules}
use Rattle.std.proofs.lemmas.Int.{to_z-of_z}
use Rattle.constructs.proofs.Moves.{node_of, still}
use Rattle.constructs.proofs.whole.Whole.leaf_rule.Goals as goal

pub returns-in-Unit-clause-does : goal.returns-in-Unit-clause-does
returns-in-Unit-clause-does g c =
    let n = node_of c.requires in
    still c.args.self.now.program.now c.args.self.now.wait.now _ _ _ _ (rw (n, c.in-Unit.is)) tt

pub returns-in-Number-clause-does : goal.returns-in-Number-clause-does
returns-in-Number-clause-does g c =
    let n = node_of c.requires in
    let f : SFits w32 c.in-Number.n = search rules in
    still c.args.self.now.program.now c.args.self.now.wait.now _ _ _ _ (rw (n, c.in-Number.is, to_z-of_z w32 c.in-Number.n f)) tt

pub returns-in-Boolean-clause-does : goal.returns-in-Boolean-clause-does
returns-in-Boolean-clause-does g c =
    let n = node_of c.requires in
    still c.args.self.now.program.now c.args.self.now.wait.now _ _ _ _ (rw (n, c.in-Boolean.is)) tt

pub returns-in-Text-clause-does : goal.returns-in-Text-clause-does
returns-in-Text-clause-does g c = c.string.ensures.does _

pub returns-in-Local-clause-does : goal.returns-in-Local-clause-does
returns-in-Local-clause-does g c = c.local.ensures _ _
