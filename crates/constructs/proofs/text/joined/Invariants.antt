use Rattle.std.proofs.Common.{◌≡◌, ◌++◌, take}
use Rattle.cells.specs.Meaning.{text_of}
use Rattle.constructs.proofs.text.joined.Given as goal

abbrev pub invariant-loop-byte : goal.invariant-loop-byte
invariant-loop-byte l = text_of l.text ≡ text_of l.fn.a ++ take l.byte-index (text_of l.fn.b)
