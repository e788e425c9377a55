-- One record more passed, and the end of the pass.
use Rattle.std.proofs.Common.{◌≡◌, length, Some, refl, sym, ◌∙◌, arith, rules}
use Rattle.table.proofs.Passing.{passed_none, passed_more, passed_all}
use Rattle.table.proofs.pass.tokens_of.Goals as goal

pub loop-i-init : goal.loop-i-init
loop-i-init c =
    let so = passed_none c.args.reader.image.now c.args.reader.place (length c.args.tokens.now) c.args.tokens.now in
    (refl, so.0, so.1)

pub loop-i-preserved : goal.loop-i-preserved
loop-i-preserved c =
    let some : c.next_token.result ≡ Some c.in_ok-token.field-0 = search rules in
    let place = rw some at c.next_token.ensures.place in
    passed_more c.args.reader.image.now c.args.reader.place (length c.args.tokens.now) c.loop-i.tokens c.loop-i.reader.image.now c.next_token.new.reader.image.now c.loop-i.reader.place c.next_token.new.reader.place c.loop-i.i c.in_ok-token.field-0 (omega arith) c.loop-i-test.true c.loop-i.invariant.0 c.next_token.ensures.image place (sym some ∙ c.next_token.ensures.given) c.loop-i.invariant.1

pub returns : goal.returns
returns c =
    passed_all c.args.reader.image.now c.args.reader.place (length c.args.tokens.now) c.loop-i.tokens c.loop-i.reader.place c.loop-i.i (omega arith) c.loop-i-test.false c.loop-i.invariant.1
