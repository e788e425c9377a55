-- The program of an image in the form of a card has that card.
use Rattle.std.proofs.Common.{◌≡◌, ℕ, List, Some, None, Option, refl, ap, ◌∙◌, ap₂}
use Rattle.battery.specs.Tree.{◌▸◌}
use Rattle.image.specs.Bytes.{text_bytes}
use Rattle.table.specs.declared.token.Token.{Token}
use Rattle.grammar.specs.Grammar.{card_of}
use Rattle.numbering.proofs.Options.{Some≡, never}
use Rattle.numbering.proofs.Read.{card_complete}
use Rattle.verdict.proofs.Accept.{header_passes}
use Rattle.program.specs.Views.{or_no_card, card_in, if_spelt, behind_header, spelled_by, spelled}
use Rattle.program.specs.Card.{Runs}
use Rattle.program.specs.declared.program.Program.{Program}

pub runs : (image : List ℕ) (r : Option Program) → spelled r ≡ spelled_by image → Runs image r
runs image r e C f = go r (e ∙ form)
  where
    ws : List Token
    ws = f.tokens

    spelt : card_of (text_bytes image) ws ≡ Some C
    spelt = card_complete (text_bytes image) ws C f.spelt

    form : spelled_by image ≡ Some (text_bytes image, ws)
    form = ap (behind_header image) (header_passes image f.header) ∙ ap (λ o. o ▸ if_spelt (text_bytes image)) f.known ∙ ap (λ o. o ▸ λ D. Some (text_bytes image, ws)) spelt

    go : (o : Option Program) → spelled o ≡ Some (text_bytes image, ws) → (p : Program) × (o ≡ Some p) × (card_in p ≡ C)
    go None q = never q
    go (Some p) q = let w = Some≡ q in (p, refl, ap or_no_card (ap₂ card_of (ap (λ x. x.0) w) (ap (λ x. x.1) w) ∙ spelt))
