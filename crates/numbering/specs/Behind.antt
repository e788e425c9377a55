-- What a table of ends that is filled from the last token back says of the places behind one.
use Rattle.std.specs.Prelude.{ℕ, List}
use Rattle.table.specs.declared.token.Token.{Token}
use Rattle.numbering.specs.Ends.{look}
use Rattle.numbering.specs.declared.ends.Filled.{Filled}

abbrev pub tokens_of : Filled → List Token
tokens_of f = f.tokens.list.now

abbrev pub behind : Filled → ℕ → ℕ
behind f = look f.tokens.list.now f.ends.now f.place
