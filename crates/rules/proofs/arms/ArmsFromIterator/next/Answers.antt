use Rattle.std.proofs.Common.{◌≡◌, ◌∷◌, length, ap, arith}
use Rattle.numbering.specs.Views.{tokens_in, ends_in}
use Rattle.rules.specs.Arming.{arms_left}
use Rattle.rules.proofs.Arming.{one_more}
use Rattle.rules.proofs.arms.ArmsFromIterator.next.Goals as goal

left : (c : goal.After-self-1) → arms_left c.args.self.now ≡ c.in_ok-arm.arm ∷ arms_left (record { card = c.args.self.now.card; place = c.next_place-self.result })
left c =
    let s = c.args.self.now in
    rw c.next_place-self.ensures (one_more (tokens_in s.card.now) (ends_in s.card.now) _ s.place c.in_ok-arm.arm (omega arith) c.in_ok-arm.ensures)

pub returns-clause-steps : goal.returns-clause-steps
returns-clause-steps c = left c

pub returns-clause-goes : goal.returns-clause-goes
returns-clause-goes c = record { on = λ f. (tt, tt, omega (arith, ap length (left c))); keeps = tt; rests = λ f. tt }
