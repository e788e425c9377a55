-- Each token adds to the lists what it adds to the places found, and there is room for it.
use Rattle.std.proofs.Common.{length, take, ap, arith}
use Rattle.std.proofs.lemmas.List.{length-take-le}
use Rattle.numbering.proofs.Counted.{firsts_read, cases_read, functions_read, few_found}
use Rattle.numbering.proofs.found.Found.of.Goals as goal

pub note-requires : goal.note-requires
note-requires c =
    let us = take c.loop-i.i c.args.tokens.list.now in
    let l = length-take-le c.loop-i.i c.args.tokens.list.now (omega arith) in
    let f = few_found 0 0 us in
    record {
      firsts = omega (arith, ap length c.loop-i.invariant.0);
      cases = omega (arith, ap length c.loop-i.invariant.1);
      functions = omega (arith, ap length c.loop-i.invariant.2);
    }

pub loop-i-preserved : goal.loop-i-preserved
loop-i-preserved c =
    let ws = c.args.tokens.list.now in
    let i = c.loop-i.i in
    let h = c.loop-i-test.true in
    (firsts_read ws i h _ _ _ c.loop-i.invariant.0 c.loop-i.invariant.1 c.note.ensures.firsts, cases_read ws i h _ _ c.loop-i.invariant.1 c.note.ensures.cases, functions_read ws i h _ _ c.loop-i.invariant.2 c.note.ensures.functions)
