-- Refused exactly for a reason of the list.
use Rattle.std.proofs.Common.{◌≡◌, ℕ, zero, suc, ◌+◌, ◌*◌, ◌<◌, ◌≤◌, Bool, true, false, cond, not, eqb, ltb, List, [], ◌∷◌, ◌++◌, length, take, drop, Some, None, Option, sym, refl, ap, ◌∙◌, subst, ap₂, append_assoc, arith, take-append-drop, ltb-false, ltb-true, le-ltb, lt-ltb, eq-eqb, ne_eqb, eqb-true}
use native.Mathlib.Decide.{dec_lt}
use Rattle.std.proofs.lemmas.List.{take-take}
use borrow.Author.Tests.{eqb-false, not-true, not-false}
use Rattle.battery.specs.Tree.{at, Card, ◌▸◌}
use Rattle.table.specs.declared.token.Token.{Token}
use Rattle.image.specs.declared.record.Record.{Record}
use Rattle.image.specs.declared.header.ImageFault.{ImageFault}
use Rattle.image.specs.declared.header.ImageFault.TheVariants.{Short, Letters, Version, Range, Length}
use Rattle.image.specs.Bytes.{field16, count_of, text_of, records_of, text_bytes, records_from}
use Rattle.image.specs.Header.{lettered, header_fault}
use Rattle.table.specs.Naming.{token_of, unknown, tokens_of}
use Rattle.grammar.specs.Grammar.{Spelt, card_of, misplaced, Begins, Misplaced}
use Rattle.verdict.specs.Order.{Checked, has, fault, check_card}
use Rattle.numbering.specs.Numbering.{Seen, seen, none_seen, seen_in, numbered, misnumbered}
use Rattle.verdict.specs.Verdict.{Verdict, accepted, refused, by_types, by_numbers, by_place, by_grammar, by_table, image_number, by_header, verdict, Header, Form, Lowest, Unknown, Misnumbered, Refusal, too_short, wrong_letters, wrong_version, out_of_range, wrong_length, not_in_table, cannot_follow, wrong_number, wrong_typing}
use Rattle.verdict.specs.Claims.{MisplacedFirst, RefusesExactly, TypingFaults}
use Rattle.numbering.proofs.Options.{through, Some≡, never, false≢true}
use Rattle.numbering.proofs.Read.{card_sound, card_complete}
use Rattle.verdict.proofs.Follow.{placed, law_8}
use Rattle.verdict.proofs.Formed.{card_formed}
use Rattle.verdict.proofs.Faults.{type_faults}
use Rattle.verdict.proofs.Breaks.{first_broken}
use Rattle.verdict.proofs.Accept.{outside, in_ranges, ranges_in, header_passed, header_passes, untrue}

pub typing_faults : TypingFaults
typing_faults image C f = type_faults C (card_formed image C f)

-- what begins a card, begins it with less
begins_less : (t : List ℕ) (m n : ℕ) (ws : List Token) → m ≤ n → Begins t (take n ws) → Begins t (take m ws)
begins_less t m n ws l b =
    let q : take n ws ≡ take m ws ++ drop m (take n ws) = sym (take-append-drop m (take n ws)) ∙ ap (λ (u : List Token). u ++ drop m (take n ws)) (take-take m n ws l) in
    record {
      rest = drop m (take n ws) ++ b.rest;
      card = b.card;
      spelt = subst (λ (u : List Token). Spelt t u b.card) (ap (λ (u : List Token). u ++ b.rest) q ∙ append_assoc (take m ws) (drop m (take n ws)) b.rest) b.spelt;
    }

same_place : (t : List ℕ) (ws : List Token) (r s : ℕ) (g h : Option ℕ) → Misplaced t ws r g → Misplaced t ws s h → r ≡ s
same_place t ws r s g h m n = go (dec_lt r s) (dec_lt s r)
  where
    go : Dec (r < s) → Dec (s < r) → r ≡ s
    go (yes l) d = absurd (m.beyond (omega (arith, n.within)) (begins_less t (suc r) s ws l n.before))
    go (no l) (yes k) = absurd (n.beyond (omega (arith, m.within)) (begins_less t (suc s) r ws k m.before))
    go (no l) (no k) = omega arith

found_misplaced : (t : List ℕ) (ws : List Token) → 0 < length ws → (r : ℕ) (g : Option ℕ) → Misplaced t ws r g → misplaced 0 [] ws ≡ Some (r, g)
found_misplaced t ws l r g m = go (misplaced 0 [] ws) refl
  where
    go : (o : Option (ℕ × Option ℕ)) → misplaced 0 [] ws ≡ o → o ≡ Some (r, g)
    go None q = let c = placed t ws l q in absurd (m.no_card c.0 c.1)
    go (Some x) q =
        let n = law_8 t ws x.0 x.1 q in
        let e : x.0 ≡ r = same_place t ws x.0 r x.1 g n m in
        let f : x.1 ≡ g = n.innermost_open ∙ rw e (sym m.innermost_open) in
        let mk : ℕ → Option ℕ → Option (ℕ × Option ℕ) = λ a b. Some (a, b) in
        ap₂ mk e f

pub misplaced_first : MisplacedFirst
misplaced_first t ws l r g = (law_8 t ws r g, found_misplaced t ws l r g)

-- the lowest of its sort is one
one_lowest : {Bad : ℕ → Type 0} {p q : ℕ} → Lowest Bad p → Lowest Bad q → p ≡ q
one_lowest {p = p} {q = q} a b = go (dec_lt p q) (dec_lt q p)
  where
    go : Dec (p < q) → Dec (q < p) → p ≡ q
    go (yes l) d = absurd (b.none_before p l a.is_bad)
    go (no l) (yes k) = absurd (a.none_before q k b.is_bad)
    go (no l) (no k) = omega arith

-- test 7
no_unknown : (p : ℕ) (rs : List Record) → unknown p rs ≡ None → (i : ℕ) → ¬ Unknown rs i
no_unknown p [] e i u = never u.1
no_unknown p (r ∷ rs) e i u = go (token_of r) refl e i u (no_unknown (suc p) rs)
  where
    go : (o : Option Token) → token_of r ≡ o → ◌≡◌ {A = Option ℕ} (elim o [ None ↦ Some p | Some w ↦ unknown (suc p) rs ]) None → (i : ℕ) → Unknown (r ∷ rs) i → (unknown (suc p) rs ≡ None → (i : ℕ) → ¬ Unknown rs i) → ⊥
    go None q e i u h = never (sym e)
    go (Some w) q e zero u h = never (sym u.2 ∙ subst (λ x. token_of x ≡ Some w) (Some≡ u.1) q)
    go (Some w) q e (suc i) u h = h e i u

lowest_unknown : (p : ℕ) (rs : List Record) (q : ℕ) → unknown p rs ≡ Some q → (i : ℕ) × (q ≡ p + i) × Lowest (Unknown rs) i
lowest_unknown p [] q e = never e
lowest_unknown p (r ∷ rs) q e = go (token_of r) refl e (lowest_unknown (suc p) rs q)
  where
    go : (o : Option Token) → token_of r ≡ o → ◌≡◌ {A = Option ℕ} (elim o [ None ↦ Some p | Some w ↦ unknown (suc p) rs ]) (Some q)
        → (unknown (suc p) rs ≡ Some q → (i : ℕ) × (q ≡ suc p + i) × Lowest (Unknown rs) i) → (i : ℕ) × (q ≡ p + i) × Lowest (Unknown (r ∷ rs)) i
    go None w e h = let d : p ≡ q = Some≡ e in (0, omega arith, record { is_bad = (r, refl, w); none_before = λ i l u. omega arith })
    go (Some w) k e h = let x = h e in (suc x.0, omega (arith, x.1), record { is_bad = x.2.is_bad; none_before = before x.0 x.2 })
      where
        before : (i : ℕ) → Lowest (Unknown rs) i → (j : ℕ) → j < suc i → ¬ Unknown (r ∷ rs) j
        before i m zero l u = never (sym u.2 ∙ subst (λ x. token_of x ≡ Some w) (Some≡ u.1) k)
        before i m (suc j) l u = m.none_before j (omega arith) u

unknown_exactly : (rs : List Record) (p : ℕ) → Lowest (Unknown rs) p → unknown 0 rs ≡ Some p
unknown_exactly rs p m = go (unknown 0 rs) refl
  where
    go : (o : Option ℕ) → unknown 0 rs ≡ o → o ≡ Some p
    go None q = absurd (no_unknown 0 rs q p m.is_bad)
    go (Some k) q =
        let x = lowest_unknown 0 rs k q in
        let e : x.0 ≡ p = one_lowest x.2 m in
        let f : k ≡ p = omega (arith, x.1) in
        cc

-- Some record is unknown exactly where there are no tokens
tokens_unknown : (p : ℕ) (rs : List Record) → tokens_of rs ≡ None → (q : ℕ) × (unknown p rs ≡ Some q)
tokens_unknown p [] e = never (sym e)
tokens_unknown p (r ∷ rs) e = go (token_of r) refl e (tokens_unknown (suc p) rs)
  where
    last : (w : Token) (o : Option (List Token)) → (o ▸ λ ws. Some (w ∷ ws)) ≡ None → o ≡ None
    last w None e = refl
    last w (Some ws) e = never (sym e)

    go : (o : Option Token) → token_of r ≡ o → (o ▸ λ w. tokens_of rs ▸ λ ws. Some (w ∷ ws)) ≡ None → (tokens_of rs ≡ None → (q : ℕ) × (unknown (suc p) rs ≡ Some q))
        → (q : ℕ) × (◌≡◌ {A = Option ℕ} (elim o [ None ↦ Some p | Some w ↦ unknown (suc p) rs ]) (Some q))
    go None k e h = (p, refl)
    go (Some w) k e h = h (last w (tokens_of rs) e)

tokens_known : (rs : List Record) (ws : List Token) → tokens_of rs ≡ Some ws → (p : ℕ) → unknown p rs ≡ None
tokens_known [] ws e p = refl
tokens_known (r ∷ rs) ws e p =
    let x = through (token_of r) _ ws e in
    let y = through (tokens_of rs) _ ws x.gave in
    rw (x.got, unknown) (tokens_known rs y.mid y.got (suc p))

no_tokens : (rs : List Record) (p : ℕ) → Lowest (Unknown rs) p → tokens_of rs ≡ None
no_tokens rs p m = go (tokens_of rs) refl
  where
    go : (o : Option (List Token)) → tokens_of rs ≡ o → o ≡ None
    go None q = refl
    go (Some ws) q = absurd (no_unknown 0 rs (tokens_known rs ws q 0) p m.is_bad)

-- test 9
module _ (C : Card) (t : ℕ) where
  abbrev From : Seen → List Token → ℕ → Type 0
  From s ws i = (w : Token) × (at ws i ≡ Some w) × (numbered C t (seen_in s (take i ws)) w ≡ false)

  both_not : (b : Bool) → b ≡ true → b ≡ false → ⊥
  both_not b p q = false≢true (sym q ∙ p)

  no_misnumbered : (p : ℕ) (s : Seen) (ws : List Token) → misnumbered C t p s ws ≡ None → (i : ℕ) → ¬ From s ws i
  no_misnumbered p s [] e i u = never u.1
  no_misnumbered p s (w ∷ ws) e i u = go (numbered C t s w) refl e i u (no_misnumbered (suc p) (seen s w) ws)
    where
      go : (b : Bool) → numbered C t s w ≡ b → cond b (misnumbered C t (suc p) (seen s w) ws) (Some p) ≡ None → (i : ℕ) → From s (w ∷ ws) i → (misnumbered C t (suc p) (seen s w) ws ≡ None → (i : ℕ) → ¬ From (seen s w) ws i) → ⊥
      go false q e i u h = never (sym e)
      go true q e zero u h = both_not _ q (subst (λ x. numbered C t s x ≡ false) (sym (Some≡ u.1)) u.2)
      go true q e (suc i) u h = h e i u

  lowest_misnumbered : (p : ℕ) (s : Seen) (ws : List Token) (q : ℕ) → misnumbered C t p s ws ≡ Some q → (i : ℕ) × (q ≡ p + i) × Lowest (From s ws) i
  lowest_misnumbered p s [] q e = never e
  lowest_misnumbered p s (w ∷ ws) q e = go (numbered C t s w) refl e (lowest_misnumbered (suc p) (seen s w) ws q)
    where
      go : (b : Bool) → numbered C t s w ≡ b → cond b (misnumbered C t (suc p) (seen s w) ws) (Some p) ≡ Some q
          → (misnumbered C t (suc p) (seen s w) ws ≡ Some q → (i : ℕ) × (q ≡ suc p + i) × Lowest (From (seen s w) ws) i) → (i : ℕ) × (q ≡ p + i) × Lowest (From s (w ∷ ws)) i
      go false k e h = let d : p ≡ q = Some≡ e in (0, omega arith, record { is_bad = (w, refl, k); none_before = λ i l u. omega arith })
      go true k e h = let x = h e in (suc x.0, omega (arith, x.1), record { is_bad = x.2.is_bad; none_before = before x.0 x.2 })
        where
          before : (i : ℕ) → Lowest (From (seen s w) ws) i → (j : ℕ) → j < suc i → ¬ From s (w ∷ ws) j
          before i m zero l u = both_not _ k (subst (λ x. numbered C t s x ≡ false) (sym (Some≡ u.1)) u.2)
          before i m (suc j) l u = m.none_before j (omega arith) u

  misnumbered_exactly : (ws : List Token) (p : ℕ) → Lowest (Misnumbered C t ws) p → misnumbered C t 0 none_seen ws ≡ Some p
  misnumbered_exactly ws p m = go (misnumbered C t 0 none_seen ws) refl
    where
      go : (o : Option ℕ) → misnumbered C t 0 none_seen ws ≡ o → o ≡ Some p
      go None q = absurd (no_misnumbered 0 none_seen ws q p m.is_bad)
      go (Some k) q =
          let x = lowest_misnumbered 0 none_seen ws k q in
          let e : x.0 ≡ p = one_lowest x.2 m in
          let f : k ≡ p = omega (arith, x.1) in
          cc

-- as many tokens as records, and one or more
length_records : (n p : ℕ) (image : List ℕ) → length (records_from image p n) ≡ n
length_records zero p image = refl
length_records (suc n) p image = ap suc (length_records n (p + 8) image)

length_tokens : (rs : List Record) (ws : List Token) → tokens_of rs ≡ Some ws → length ws ≡ length rs
length_tokens [] ws e = rw (← (Some≡ e))
length_tokens (r ∷ rs) ws e =
    let x = through (token_of r) _ ws e in
    let y = through (tokens_of rs) _ ws x.gave in
    rw (← (Some≡ y.gave)) (ap suc (length_tokens rs y.mid y.got))

some_tokens : (image : List ℕ) (ws : List Token) → Header image → tokens_of (records_of image) ≡ Some ws → 0 < length ws
some_tokens image ws h k =
    let a = length_tokens (records_of image) ws k in
    let b = length_records (count_of image) 9 image in
    omega (arith, a, b, h.ranges.records_from)

-- tests 2 to 6
by_test : {P : Type 0} (b : Bool) (n m : ImageFault) (o : Option ImageFault) → cond b (Some n) o ≡ Some m → (b ≡ true → n ≡ m → P) → (b ≡ false → o ≡ Some m → P) → P
by_test true n m o e f g = f refl (Some≡ e)
by_test false n m o e f g = g refl e

header_reason : (image : List ℕ) (k : ImageFault) → header_fault image ≡ Some k → Refusal image (image_number k) None None
header_reason image k e =
    by_test (ltb (length image) 9) Short k _ e (λ a q. rw (← q) (too_short (ltb-true _ _ a))) λ a e.
    let l : 9 ≤ length image = ltb-false _ _ a in
    by_test (not (lettered image)) Letters k _ e (λ b q. rw (← q) (wrong_letters l (not-true _ b))) λ b e.
    let w : lettered image ≡ true = not-false _ b in
    by_test (not (eqb (field16 image 3) 1)) Version k _ e (λ c q. rw (← q) (wrong_version l w (eqb-false _ _ (not-true _ c)))) λ c e.
    let v : field16 image 3 ≡ 1 = eqb-true _ _ (not-false _ c) in
    by_test (outside image) Range k _ e (λ d q. rw (← q) (out_of_range l w v (λ r. false≢true (sym (ranges_in image r) ∙ d)))) λ d e.
    by_test (not (eqb (length image) (9 + 8 * count_of image + text_of image))) Length k None e
    (λ f q. rw (← q) (wrong_length l w v (in_ranges image d) (eqb-false _ _ (not-true _ f)))) λ f e. never e

-- each verdict is right
abbrev Right : List ℕ → Verdict → Type 0
Right image (accepted m n) = Unit {0}
Right image (refused n r g) = Refusal image n r g

module _ (image : List ℕ) where
  right_types : (C : Card) → Form image C → (o : Checked (Unit {0})) → check_card C ≡ o → Right image (by_types C o)
  right_types C f (has u) q = tt
  right_types C f (fault n p) q = wrong_typing f ((first_broken image C f n p).0 q)

  module _ (h : Header image) (ws : List Token) (k : tokens_of (records_of image) ≡ Some ws) where
    right_numbers : (C : Card) → Spelt (text_bytes image) ws C → (o : Option ℕ) → misnumbered C (text_of image) 0 none_seen ws ≡ o → Right image (by_numbers C o)
    right_numbers C s (Some p) q =
        let x = lowest_misnumbered C (text_of image) 0 none_seen ws p q in
        let e : x.0 ≡ p = omega (arith, x.1) in
        wrong_number h k s (subst (Lowest (Misnumbered C (text_of image) ws)) e x.2)
    right_numbers C s None q = right_types C (record { header = h; tokens = ws; known = k; spelt = s; in_order = q }) (check_card C) refl

    right_place : card_of (text_bytes image) ws ≡ None → (o : Option (ℕ × Option ℕ)) → misplaced 0 [] ws ≡ o → Right image (by_place o)
    right_place c None q =
        let x = placed (text_bytes image) ws (some_tokens image ws h k) q in never (sym c ∙ card_complete (text_bytes image) ws x.0 x.1)
    right_place c (Some x) q = cannot_follow h k (law_8 (text_bytes image) ws x.0 x.1 q)

    right_grammar : (o : Option Card) → card_of (text_bytes image) ws ≡ o → Right image (by_grammar (text_of image) ws o)
    right_grammar None q = right_place q (misplaced 0 [] ws) refl
    right_grammar (Some C) q = right_numbers C (card_sound (text_bytes image) ws C q) (misnumbered C (text_of image) 0 none_seen ws) refl

  right_table : Header image → (o : Option (List Token)) → tokens_of (records_of image) ≡ o → Right image (by_table image o)
  right_table h (Some ws) q = right_grammar h ws q (card_of (text_bytes image) ws) refl
  right_table h None q =
      let u = tokens_unknown 0 (records_of image) q in
      let x = lowest_unknown 0 (records_of image) u.0 u.1 in
      let e : x.0 ≡ u.0 = omega (arith, x.1) in
      subst (λ o. Refusal image 7 o None) (sym u.1) (not_in_table h (subst (Lowest (Unknown (records_of image))) e x.2))

  right_header : (o : Option ImageFault) → header_fault image ≡ o → Right image (by_header image o)
  right_header (Some k) q = header_reason image k q
  right_header None q = right_table (header_passed image q) (tokens_of (records_of image)) refl

-- and each reason is the verdict's
hits : (b : Bool) (n : ImageFault) (o : Option ImageFault) → b ≡ true → cond b (Some n) o ≡ Some n
hits true n o q = refl
hits false n o q = false≢true q

past : (b : Bool) (n m : ImageFault) (o : Option ImageFault) → b ≡ false → o ≡ Some m → cond b (Some n) o ≡ Some m
past true n m o q e = false≢true (sym q)
past false n m o q e = e

not_untrue : (b : Bool) → b ≡ false → not b ≡ true
not_untrue true e = sym e
not_untrue false e = refl

must : (b : Bool) → ¬ (b ≡ false) → b ≡ true
must true h = refl
must false h = absurd (h refl)

module _ (image : List ℕ) where
  abbrev short : Bool
  short = ltb (length image) 9

  abbrev unlettered : Bool
  unlettered = not (lettered image)

  abbrev other_version : Bool
  other_version = not (eqb (field16 image 3) 1)

  to_table : Header image → (o : Option (List Token)) → tokens_of (records_of image) ≡ o → verdict image ≡ by_table image o
  to_table h o k = ap (by_header image) (header_passes image h) ∙ ap (by_table image) k

  no_card_read : (ws : List Token) (r : ℕ) (g : Option ℕ) → Misplaced (text_bytes image) ws r g → card_of (text_bytes image) ws ≡ None
  no_card_read ws r g m = go (card_of (text_bytes image) ws) refl
    where
      go : (o : Option Card) → card_of (text_bytes image) ws ≡ o → o ≡ None
      go None q = refl
      go (Some C) q = absurd (m.no_card C (card_sound (text_bytes image) ws C q))

  refuses : {n : ℕ} {r g : Option ℕ} → Refusal image n r g → verdict image ≡ refused n r g
  refuses (too_short l) = ap (by_header image) (hits short Short _ (lt-ltb _ _ l))
  refuses (wrong_letters l w) = ap (by_header image) (past short Short Letters _ (le-ltb _ _ l) (hits unlettered Letters _ (not_untrue _ w)))
  refuses (wrong_version l w v) =
      ap (by_header image) (past short Short Version _ (le-ltb _ _ l) (past unlettered Letters Version _ (untrue _ w) (hits other_version Version _ (not_untrue _ (ne_eqb _ _ v)))))
  refuses (out_of_range l w v r) =
      ap (by_header image) (past short Short Range _ (le-ltb _ _ l) (past unlettered Letters Range _ (untrue _ w) (past other_version Version Range _ (untrue _ (eq-eqb _ _ v)) (hits (outside image) Range _ (must _ (λ e. r (in_ranges image e)))))))
  refuses (wrong_length l w v r f) =
      ap (by_header image)
      (past short Short Length _ (le-ltb _ _ l) (past unlettered Letters Length _ (untrue _ w) (past other_version Version Length _ (untrue _ (eq-eqb _ _ v))
      (past (outside image) Range Length _ (ranges_in image r) (hits (not (eqb (length image) (9 + 8 * count_of image + text_of image))) Length None (not_untrue _ (ne_eqb _ _ f)))))))
  refuses (not_in_table {p = p} h m) = to_table h None (no_tokens (records_of image) p m) ∙ ap (λ (o : Option ℕ). refused 7 o None) (unknown_exactly (records_of image) p m)
  refuses (cannot_follow {ws = ws} {r = r} {g = g} h k m) =
      to_table h (Some ws) k ∙ ap (by_grammar (text_of image) ws) (no_card_read ws r g m) ∙ ap by_place (found_misplaced (text_bytes image) ws (some_tokens image ws h k) r g m)
  refuses (wrong_number {ws = ws} {C = C} {p = p} h k s m) =
      to_table h (Some ws) k ∙ ap (by_grammar (text_of image) ws) (card_complete (text_bytes image) ws C s) ∙ ap (by_numbers C) (misnumbered_exactly C (text_of image) ws p m)
  refuses (wrong_typing {C = C} {n = n} {p = p} f h) =
      to_table f.header (Some f.tokens) f.known ∙ ap (by_grammar (text_of image) f.tokens) (card_complete (text_bytes image) f.tokens C f.spelt) ∙ ap (by_numbers C) f.in_order ∙ ap (by_types C) ((first_broken image C f n p).1 h)

pub refuses_exactly : RefusesExactly
refuses_exactly image n r g = (λ e. subst (Right image) e (right_header image (header_fault image) refl), refuses image)
