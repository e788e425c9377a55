-- What lies below the height stays.
use Rattle.std.proofs.Common.{◌≡◌, ◌-◌, length, take, drop, arith, length-drop, length-take-le, rules}
use Rattle.constructs.proofs.Bindings.{part_agrees}
use Rattle.constructs.proofs.binding.bind_above.Goals as goal

pub returns-clause-agree : goal.returns-clause-agree
returns-clause-agree c =
    let es = c.args.entries.now in
    let ys = c.bind_all.new.entries in
    let b = c.args.base in
    let len : length es ≡ 1028 = search rules in
    let d = length-drop b es in
    let m = length-take-le (1028 - b) (drop b es) (omega arith) in
    let y : length ys ≡ length (take (1028 - b) (drop b es)) = c.bind_all.auto.entries in
    part_agrees es ys _ b c.args.height (1028 - b) c.requires.based (omega arith) (omega arith) (omega arith) c.bind_all.ensures.below
