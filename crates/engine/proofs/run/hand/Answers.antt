-- What the value comes to.
use Rattle.std.proofs.Common.{arith}
use Rattle.frames.specs.Stacks.{held}
use Rattle.engine.proofs.Levels.{length_newest}
use Rattle.engine.proofs.Carries.{handing_of}
use Rattle.engine.proofs.run.hand.Goals as goal

pub returns-in-Goes-clause-does : goal.returns-in-Goes-clause-does
returns-in-Goes-clause-does g c k most h o =
    let r = handing_of k c.args.run.now.entries c.args.run.now.units most (g.S.Store.cells c.args.run.now.store) (held c.args.run.now.stack) (held c.give.new.self) h c.args.v _ o c.in-Goes.ensures.told c.give.ensures.list in
    let a = length_newest c.args.run.now.stack.frames c.args.run.now.stack.count in
    let b = length_newest c.give.new.self.frames c.give.new.self.count in
    let n = r.short in
    (r.does, r.carries, omega arith)

pub returns-in-Done-clause-does : goal.returns-in-Done-clause-does
returns-in-Done-clause-does g c k most h o = ((handing_of k c.args.run.now.entries c.args.run.now.units most (g.S.Store.cells c.args.run.now.store) (held c.args.run.now.stack) (held c.give.new.self) h c.args.v _ o c.in-Done.ensures.told c.give.ensures.list).does, tt)

pub returns-in-Halts-clause-does : goal.returns-in-Halts-clause-does
returns-in-Halts-clause-does g c k most h o = ((handing_of k c.args.run.now.entries c.args.run.now.units most (g.S.Store.cells c.args.run.now.store) (held c.args.run.now.stack) (held c.give.new.self) h c.args.v _ o c.in-Halts.ensures.told c.give.ensures.list).does, tt)
