-- The reader stays in its image, and the tokens before i are those of the records passed.
use Rattle.std.proofs.Common.{◌≡◌, length}
use Rattle.table.proofs.Passing.{Passed, Stops}
use Rattle.table.proofs.pass.tokens_of.Given as goal

abbrev pub invariant-loop-i : goal.invariant-loop-i
invariant-loop-i l =
    (l.reader.image.now ≡ l.initial.reader.image.now)
    × Passed l.initial.reader.image.now l.initial.reader.place (length l.initial.tokens) l.tokens l.reader.place l.i
    × Stops l.initial.reader.image.now l.initial.reader.place (length l.initial.tokens) l.reader.image.now l.reader.place l.i
