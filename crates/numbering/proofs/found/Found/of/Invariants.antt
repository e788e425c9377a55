-- The lists hold what stands in the tokens read so far.
use Rattle.std.proofs.Common.{◌≡◌, take}
use Rattle.few.specs.Listed.{listed}
use Rattle.numbering.specs.Places.{firsts_in, cases_in, functions_in}
use Rattle.numbering.proofs.found.Found.of.Given as goal

abbrev pub invariant-loop-i : goal.invariant-loop-i
invariant-loop-i l =
    (listed l.found.firsts ≡ firsts_in 0 (take l.i l.tokens.list.now))
    × (listed l.found.cases ≡ cases_in 0 (take l.i l.tokens.list.now))
    × (listed l.found.functions ≡ functions_in 0 (take l.i l.tokens.list.now))
