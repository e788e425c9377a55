use Rattle.constructs.proofs.whole.Whole.pair_rule.Goals as goal

pub returns-in-Calc-clause-does : goal.returns-in-Calc-clause-does
returns-in-Calc-clause-does g c = c.calc.ensures _ _ _

pub returns-in-Concat-clause-does : goal.returns-in-Concat-clause-does
returns-in-Concat-clause-does g c = c.concat.ensures.does _

pub returns-in-Eq-clause-does : goal.returns-in-Eq-clause-does
returns-in-Eq-clause-does g c = c.equal.ensures _ _ _

pub returns-in-Lt-clause-does : goal.returns-in-Lt-clause-does
returns-in-Lt-clause-does g c = c.less.ensures _ _ _

pub returns-in-Seq-clause-does : goal.returns-in-Seq-clause-does
returns-in-Seq-clause-does g c = c.sequence.ensures _ _ _

pub returns-in-Val-clause-does : goal.returns-in-Val-clause-does
returns-in-Val-clause-does g c = c.val.ensures _ _
