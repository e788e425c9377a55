-- Tokens that are all in their places spell a card, and no others do.
use Rattle.std.proofs.Common.{◌≡◌, ℕ, ◌+◌, ◌-◌, ◌*◌, ◌<◌, ◌≤◌, cond, leb, le-leb, List, [], length, take, drop, Some, None, Ok, Err, Option, Result, sym, refl, ap, ap₂, ◌∙◌, subst}
use Rattle.std.proofs.lemmas.List.{take_rest}
use Rattle.std.specs.Result.{result_ok}
use Rattle.battery.specs.Tree.{Card, ◌▸◌}
use Rattle.image.specs.Bytes.{count_of, records_from, text_bytes}
use Rattle.image.specs.Header.{header_fault}
use Rattle.table.specs.declared.token.Token.{Token}
use Rattle.table.specs.Naming.{tokens_of}
use Rattle.grammar.specs.Grammar.{card_of, misplaced}
use Rattle.grammar.specs.Found.{found_by}
use Rattle.grammar.specs.declared.descent.Misplaced.{Misplaced}
use Rattle.numbering.proofs.Options.{never, Some≡}
use Rattle.numbering.proofs.Read.{card_sound, card_complete}
use Rattle.verdict.proofs.Accept.{spelt_unless_misplaced}
use Rattle.program.specs.Views.{if_spelt, behind_header, spelled_by}

-- what `Few::of` keeps of so many
pub kept : {A : Type 0} {xs ys : List A} {n : ℕ} → Some ys ≡ cond (leb (length xs) n) (Some xs) None → length xs ≤ n → ys ≡ xs
kept {xs = xs} {n = n} e h = Some≡ (e ∙ ap (λ b. cond b (Some xs) None) (le-leb (length xs) n h))

-- what `ok()` keeps of a result
pub got_ok : {T E : Type 0} {r : Result T E} {x : T} → Some x ≡ result_ok r → r ≡ Ok x
got_ok {r = Ok y} e = ap Ok (sym (Some≡ e))
got_ok {r = Err e} q = never (sym q)

abbrev pub Spells : List ℕ → List Token → Type 0
Spells t ws = (C : Card) × (card_of t ws ≡ Some C)

pub as_spelt : {t bytes : List ℕ} {ws us : List Token} → bytes ≡ t → us ≡ ws → Spells t ws → Some (bytes, us) ≡ if_spelt t ws
as_spelt {t = t} {ws = ws} same as_many card = ap₂ (λ bs vs. Some (bs, vs)) same as_many ∙ sym (ap (λ (o : Option Card). o ▸ λ C. Some (t, ws)) card.1)

-- by the answer of the test of places on the tokens
module _ (t : List ℕ) (ws : List Token) (one_or_more : 0 < length ws) where
  no_card : (x : ℕ × Option ℕ) → misplaced 0 [] ws ≡ Some x → (o : Option Card) → card_of t ws ≡ o → o ≡ None
  no_card x e None q = refl
  no_card x e (Some C) q = never (sym ((spelt_unless_misplaced t ws one_or_more).1 (C, card_sound t ws C q)) ∙ e)

  pub none_spelt : (r : Result (Unit {0}) Misplaced) → found_by r ≡ misplaced 0 [] ws → None ≡ result_ok r → None ≡ if_spelt t ws
  none_spelt (Ok u) e wrong = never wrong
  none_spelt (Err m) e wrong = sym (ap (λ (o : Option Card). o ▸ λ C. Some (t, ws)) (no_card _ (sym e) (card_of t ws) refl))

  pub one_spelt : (r : Result (Unit {0}) Misplaced) {u : Unit {0}} → found_by r ≡ misplaced 0 [] ws → Some u ≡ result_ok r → Spells t ws
  one_spelt (Ok u) e right = let x = (spelt_unless_misplaced t ws one_or_more).0 (sym e) in (x.0, card_complete t ws x.0 x.1)
  one_spelt (Err m) e right = never (sym right)

-- what an image spells, by its header and its records
module _ (image : List ℕ) (n : ℕ) (passed : header_fault image ≡ None) (counted : n ≡ count_of image) where
  by_tokens : (o : Option (List Token)) → tokens_of (records_from image 9 n) ≡ o → (o ▸ if_spelt (text_bytes image)) ≡ spelled_by image
  by_tokens o known =
      sym (ap (λ o. o ▸ if_spelt (text_bytes image)) (subst (λ k. tokens_of (records_from image 9 k) ≡ o) counted known))
      ∙ sym (ap (behind_header image) passed)

  pub not_read : tokens_of (records_from image 9 n) ≡ None → None ≡ spelled_by image
  not_read unknown = by_tokens None unknown

  pub as_read : (ws : List Token) → tokens_of (records_from image 9 n) ≡ Some ws → if_spelt (take (length image - (9 + 8 * n)) (drop (9 + 8 * n) image)) ws ≡ spelled_by image
  as_read ws known =
      ap (λ t. if_spelt t ws) (take_rest image (9 + 8 * n) ∙ ap (λ k. drop (9 + 8 * k) image) counted)
      ∙ by_tokens (Some ws) known
