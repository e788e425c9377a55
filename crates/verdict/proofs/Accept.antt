-- Accepted exactly if the bytes have the form of Some typed card.
use Rattle.std.proofs.Common.{◌≡◌, ℕ, ◌+◌, ◌*◌, ◌≤◌, Bool, true, false, cond, not, ◌||◌, eqb, ltb, List, [], length, Some, None, Option, sym, refl, ap, ◌∙◌, subst, ap₂, arith, ltb-false, le-ltb, eq-eqb, ne_eqb, eqb-true}
use borrow.Author.Tests.{eqb-false, not-false}
use Rattle.battery.specs.Tree.{Card}
use Rattle.battery.specs.Typing.{TypedCard}
use Rattle.table.specs.declared.token.Token.{Token}
use Rattle.image.specs.declared.header.ImageFault.{ImageFault}
use Rattle.image.specs.declared.header.ImageFault.TheVariants.{Short, Letters, Version, Range, Length}
use Rattle.image.specs.Bytes.{field16, count_of, text_of, records_of, text_bytes}
use Rattle.image.specs.Header.{lettered, header_fault}
use Rattle.table.specs.Naming.{tokens_of}
use Rattle.grammar.specs.Grammar.{Spelt, card_of, misplaced}
use Rattle.verdict.specs.Order.{Checked, has, fault, check_card}
use Rattle.numbering.specs.Numbering.{none_seen, misnumbered}
use Rattle.verdict.specs.Verdict.{accepted, refused, by_types, by_numbers, by_place, by_grammar, by_table, by_header, verdict, Ranges, Header, Form, Accepted}
use Rattle.verdict.specs.Claims.{ReadsExactly, SpeltUnlessMisplaced, FaultlessIfTyped, AcceptsExactlyTheTyped, OneCard}
use Rattle.numbering.proofs.Options.{Some≡, never}
use Rattle.numbering.proofs.Read.{card_sound, card_complete}
use Rattle.verdict.proofs.Follow.{placed, not_misplaced}
use Rattle.verdict.proofs.Check.{card_typed, typed_card}
use Rattle.verdict.proofs.Formed.{card_formed}

pub reads_exactly : ReadsExactly
reads_exactly t ws C = (card_sound t ws C, card_complete t ws C)

pub spelt_unless_misplaced : SpeltUnlessMisplaced
spelt_unless_misplaced t ws l = (placed t ws l, λ c. not_misplaced t ws c.0 c.1)

form_typed : (image : List ℕ) (C : Card) (f : Form image C) → check_card C ≡ has tt → TypedCard C
form_typed image C f = card_typed C (card_formed image C f)

pub faultless_if_typed : FaultlessIfTyped
faultless_if_typed image C f = (form_typed image C f, typed_card C)

pub one_card : OneCard
one_card image C D f g =
    let w : f.tokens ≡ g.tokens = Some≡ (sym f.known ∙ g.known) in
    let k : card_of (text_bytes image) g.tokens ≡ Some C = subst (λ ws. card_of (text_bytes image) ws ≡ Some C) w (card_complete (text_bytes image) f.tokens C f.spelt) in
    Some≡ (sym k ∙ card_complete (text_bytes image) g.tokens D g.spelt)

-- the header's tests, one by one
passes : (b : Bool) (n : ImageFault) (o : Option ImageFault) → cond b (Some n) o ≡ None → (b ≡ false) × (o ≡ None)
passes true n o e = never (sym e)
passes false n o e = (refl, e)

neither : (a b : Bool) → (a || b) ≡ false → (a ≡ false) × (b ≡ false)
neither true b e = let z : ◌≡◌ {A = ℕ} 0 1 = cc in absurd (omega arith)
neither false b e = (refl, e)

none_of : (a b : Bool) → a ≡ false → b ≡ false → (a || b) ≡ false
none_of true b p q = p
none_of false b p q = q

positive : (n : ℕ) → (n ≡ 0 → ⊥) → 1 ≤ n
positive n h = omega arith

abbrev pub outside : List ℕ → Bool
outside image = eqb (count_of image) 0 || ltb 512 (count_of image) || ltb 2048 (text_of image)

pub in_ranges : (image : List ℕ) → outside image ≡ false → Ranges image
in_ranges image d =
    let n = neither (eqb (count_of image) 0 || ltb 512 (count_of image)) (ltb 2048 (text_of image)) d in
    let m = neither (eqb (count_of image) 0) (ltb 512 (count_of image)) n.0 in
    record { records_from = positive (count_of image) (eqb-false _ _ m.0); records_to = ltb-false _ _ m.1; texts_to = ltb-false _ _ n.1 }

pub ranges_in : (image : List ℕ) → Ranges image → outside image ≡ false
ranges_in image h =
    none_of _ _ (none_of _ _ (ne_eqb (count_of image) 0 (λ e. absurd (omega (arith, e, h.records_from)))) (le-ltb _ _ h.records_to)) (le-ltb _ _ h.texts_to)

pub header_passed : (image : List ℕ) → header_fault image ≡ None → Header image
header_passed image e =
    let a = passes (ltb (length image) 9) Short _ e in
    let b = passes (not (lettered image)) Letters _ a.1 in
    let c = passes (not (eqb (field16 image 3) 1)) Version _ b.1 in
    let d = passes (eqb (count_of image) 0 || ltb 512 (count_of image) || ltb 2048 (text_of image)) Range _ c.1 in
    let f = passes (not (eqb (length image) (9 + 8 * count_of image + text_of image))) Length None d.1 in
    record {
      long = ltb-false _ _ a.0;
      letters = not-false _ b.0;
      version = eqb-true _ _ (not-false _ c.0);
      ranges = in_ranges image d.0;
      whole = eqb-true _ _ (not-false _ f.0);
    }

skips : (b : Bool) (n : ImageFault) (o : Option ImageFault) → b ≡ false → o ≡ None → cond b (Some n) o ≡ None
skips true n o q e = let z : ◌≡◌ {A = ℕ} 0 1 = cc in absurd (omega arith)
skips false n o q e = e

pub untrue : (a : Bool) → a ≡ true → not a ≡ false
untrue true e = refl
untrue false e = sym e

pub header_passes : (image : List ℕ) → Header image → header_fault image ≡ None
header_passes image h =
    skips (ltb (length image) 9) Short _ (le-ltb _ _ h.long)
    (skips (not (lettered image)) Letters _ (untrue _ h.letters)
    (skips (not (eqb (field16 image 3) 1)) Version _ (untrue _ (eq-eqb _ _ h.version))
    (skips (eqb (count_of image) 0 || ltb 512 (count_of image) || ltb 2048 (text_of image)) Range _ (ranges_in image h.ranges)
    (skips (not (eqb (length image) (9 + 8 * count_of image + text_of image))) Length None (untrue _ (eq-eqb _ _ h.whole)) refl))))

unaccepted : {P : Type 0} {k : ℕ} {r g : Option ℕ} {m n : ℕ} → refused k r g ≡ accepted m n → P
unaccepted e = let z : ◌≡◌ {A = ℕ} 0 1 = cc in absurd (omega arith)

module _ (image : List ℕ) (m n : ℕ) where
  counts : (C : Card) → Form image C → (o : Checked (Unit {0})) → check_card C ≡ o → by_types C o ≡ accepted m n → Accepted image m n
  counts C f (has u) q e = record { card = C; form = f; typed = form_typed image C f q; enums = cc; functions = cc }
  counts C f (fault k p) q e = unaccepted e

  module _ (h : Header image) (ws : List Token) (known : tokens_of (records_of image) ≡ Some ws) where
    by_numbers_lem : (C : Card) → Spelt (text_bytes image) ws C → (o : Option ℕ) → misnumbered C (text_of image) 0 none_seen ws ≡ o → by_numbers C o ≡ accepted m n → Accepted image m n
    by_numbers_lem C s (Some p) q e = unaccepted e
    by_numbers_lem C s None q e =
        counts C
        (record {
          header = h;
          tokens = ws;
          known = known;
          spelt = s;
          in_order = q;
        })
        (check_card C) refl e

    by_place_lem : (o : Option (ℕ × Option ℕ)) → by_place o ≡ accepted m n → Accepted image m n
    by_place_lem None e = unaccepted e
    by_place_lem (Some x) e = unaccepted e

    by_grammar_lem : (o : Option Card) → card_of (text_bytes image) ws ≡ o → by_grammar (text_of image) ws o ≡ accepted m n → Accepted image m n
    by_grammar_lem None q e = by_place_lem (misplaced 0 [] ws) e
    by_grammar_lem (Some C) q e = by_numbers_lem C (card_sound (text_bytes image) ws C q) (misnumbered C (text_of image) 0 none_seen ws) refl e

  by_table_lem : Header image → (o : Option (List Token)) → tokens_of (records_of image) ≡ o → by_table image o ≡ accepted m n → Accepted image m n
  by_table_lem h None q e = unaccepted e
  by_table_lem h (Some ws) q e = by_grammar_lem h ws q (card_of (text_bytes image) ws) refl e

  by_header_lem : (o : Option ImageFault) → header_fault image ≡ o → by_header image o ≡ accepted m n → Accepted image m n
  by_header_lem (Some k) q e = unaccepted e
  by_header_lem None q e = by_table_lem (header_passed image q) (tokens_of (records_of image)) refl e

accepts : (image : List ℕ) (m n : ℕ) → Accepted image m n → verdict image ≡ accepted m n
accepts image m n a =
    let f = a.form in
    let C = a.card in
    ap (by_header image) (header_passes image f.header)
    ∙ ap (by_table image) f.known
    ∙ ap (by_grammar (text_of image) f.tokens) (card_complete (text_bytes image) f.tokens C f.spelt)
    ∙ ap (by_numbers C) f.in_order
    ∙ ap (by_types C) (typed_card C a.typed)
    ∙ ap₂ accepted a.enums a.functions

pub accepts_exactly_the_typed : AcceptsExactlyTheTyped
accepts_exactly_the_typed image m n = (by_header_lem image m n (header_fault image) refl, accepts image m n)
