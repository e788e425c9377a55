-- What a program holds of an image: the card's tokens, its text bytes and where its expressions end.
use Rattle.std.specs.Prelude.{ℕ, List, [], Some, None, Option}
use Rattle.battery.specs.Tree.{Card, ◌▸◌}
use Rattle.few.specs.Listed.{listed}
use Rattle.image.specs.declared.header.ImageFault.{ImageFault}
use Rattle.image.specs.Bytes.{records_of, text_bytes}
use Rattle.image.specs.Header.{header_fault}
use Rattle.table.specs.declared.token.Token.{Token}
use Rattle.table.specs.Naming.{tokens_of}
use Rattle.grammar.specs.Grammar.{card_of}
use Rattle.program.specs.declared.program.Program.{Program}

abbrev pub tokens_in : Program → List Token
tokens_in p = listed p.tokens

abbrev pub text_in : Program → List ℕ
text_in p = listed p.text

-- the place after what stands at each place
abbrev pub ends_in : Program → List ℕ
ends_in p = p.ends

-- the card that it spells; a program spells one, so what stands for none is never reached
abbrev pub or_no_card : Option Card → Card
or_no_card None = record { enums = []; fns = [] }
or_no_card (Some C) = C

abbrev pub card_in : Program → Card
card_in p = or_no_card (card_of (text_in p) (tokens_in p))

-- the text and the tokens, where they spell a card
abbrev pub if_spelt : List ℕ → List Token → Option (List ℕ × List Token)
if_spelt t ws = card_of t ws ▸ λ C. Some (t, ws)

-- those of an image, where its header is in order and the table knows its records
abbrev pub behind_header : List ℕ → Option ImageFault → Option (List ℕ × List Token)
behind_header image (Some f) = None
behind_header image None = tokens_of (records_of image) ▸ if_spelt (text_bytes image)

abbrev pub spelled_by : List ℕ → Option (List ℕ × List Token)
spelled_by image = behind_header image (header_fault image)

abbrev pub spelled : Option Program → Option (List ℕ × List Token)
spelled None = None
spelled (Some p) = Some (text_in p, tokens_in p)
