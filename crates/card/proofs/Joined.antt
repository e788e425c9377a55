-- What each layer finds, joined: tokens in their places spell a card, and the first fault is the verdict.
use Rattle.std.proofs.Common.{◌≡◌, ℕ, suc, ◌+◌, ◌*◌, ◌<◌, ◌≤◌, List, [], ◌∷◌, length, Some, None, Ok, Err, Option, Result, sym, refl, ap, ◌∙◌, subst, arith}
use Rattle.battery.specs.Tree.{Card, ◌▸◌}
use Rattle.image.specs.Bytes.{count_of, text_of, records_of, text_bytes}
use Rattle.image.specs.declared.record.Record.{Record}
use Rattle.image.specs.Header.{header_fault}
use Rattle.table.specs.declared.token.Token.{Token}
use Rattle.table.specs.Naming.{token_of, tokens_of, tokens_from, unknown}
use Rattle.table.proofs.Tokens.{known_from, unknown_from}
use Rattle.grammar.specs.Grammar.{card_of, misplaced}
use Rattle.numbering.specs.Numbering.{none_seen, misnumbered}
use Rattle.numbering.specs.Views.{OnCard}
use Rattle.numbering.proofs.Options.{never}
use Rattle.numbering.proofs.Read.{card_sound, card_complete}
use Rattle.verdict.specs.Order.{check_card}
use Rattle.verdict.specs.Verdict.{Verdict, refused, by_types, by_numbers, by_place, by_grammar, by_table, Header}
use Rattle.verdict.proofs.Accept.{spelt_unless_misplaced, header_passed}
use Rattle.card.specs.declared.fault.Counts.{Counts}
use Rattle.card.specs.declared.fault.Fault.{Fault}
use Rattle.card.specs.declared.fault.Fault.TheVariants.{Table}
use Rattle.card.specs.declared.fault.TableFault.{TableFault}
use Rattle.card.specs.declared.fault.TableFault.TheVariants.{Unknown, Misplaced, Misnumbered}
use Rattle.card.specs.Told.{told}
use Rattle.card.specs.Layers.{known_by, placed_by, numbered_by}

-- a record out of order is what the numbers tell, and without one it is the types' turn
misnumbered_at : (C : Card) (f : TableFault) (o : Option ℕ) → Err f ≡ numbered_by o → told (Err (Table f)) ≡ by_numbers C o
misnumbered_at C f None e = let z : ◌≡◌ {A = ℕ} 0 1 = cc in absurd (omega arith)
misnumbered_at C f (Some p) e = let is : f ≡ Misnumbered p = cc in ap (λ g. told (Err (Table g))) is

none_misnumbered : (o : Option ℕ) → Ok tt ≡ numbered_by o → o ≡ None
none_misnumbered None e = refl
none_misnumbered (Some p) e = let z : ◌≡◌ {A = ℕ} 0 1 = cc in absurd (omega arith)

module _ (C : Card) (texts : ℕ) (ws : List Token) where
  abbrev found : Option ℕ
  found = misnumbered C texts 0 none_seen ws

  pub told_misnumbered : (f : TableFault) → Err f ≡ numbered_by found → told (Err (Table f)) ≡ by_numbers C found
  told_misnumbered f = misnumbered_at C f found

  pub told_types : (r : Result Counts Fault) → Ok tt ≡ numbered_by found → told r ≡ by_types C (check_card C) → told r ≡ by_numbers C found
  told_types r in_order h = h ∙ sym (ap (by_numbers C) (none_misnumbered found in_order))

-- where a token is misplaced no card is spelt, and else one is
module _ (t : List ℕ) (ws : List Token) (some : 0 < length ws) where
  no_card : (x : ℕ × Option ℕ) → misplaced 0 [] ws ≡ Some x → (o : Option Card) → card_of t ws ≡ o → o ≡ None
  no_card x e None q = refl
  no_card x e (Some C) q = never (sym ((spelt_unless_misplaced t ws some).1 (C, card_sound t ws C q)) ∙ e)

  misplaced_at : (texts : ℕ) (f : TableFault) (o : Option (ℕ × Option ℕ)) → misplaced 0 [] ws ≡ o → Err f ≡ placed_by o → told (Err (Table f)) ≡ by_grammar texts ws (card_of t ws)
  misplaced_at texts f None q e = let z : ◌≡◌ {A = ℕ} 0 1 = cc in absurd (omega arith)
  misplaced_at texts f (Some x) q e =
      let is : f ≡ Misplaced x.0 x.1 = cc in
      ap (λ g. told (Err (Table g))) is ∙ sym (ap (by_grammar texts ws) (no_card x q (card_of t ws) refl) ∙ ap by_place q)

  none_misplaced : (o : Option (ℕ × Option ℕ)) → Ok tt ≡ placed_by o → o ≡ None
  none_misplaced None e = refl
  none_misplaced (Some x) e = let z : ◌≡◌ {A = ℕ} 0 1 = cc in absurd (omega arith)

  on_card : (texts : ℕ) (v : Verdict) → Ok tt ≡ placed_by (misplaced 0 [] ws) → OnCard ws (λ C. v ≡ by_numbers C (misnumbered C texts 0 none_seen ws)) → v ≡ by_grammar texts ws (card_of t ws)
  on_card texts v in_place h =
      let x = (spelt_unless_misplaced t ws some).0 (none_misplaced (misplaced 0 [] ws) in_place) in
      let read = card_complete t ws x.0 x.1 in
      h t x.0 read ∙ sym (ap (by_grammar texts ws) read)

head_unknown : (o : Option Token) (p q : ℕ) (os : Option ℕ) (ts : Option (List Token)) → (os ≡ Some q → ts ≡ None) → elim o [ None ↦ Some p | Some w ↦ os ] ≡ Some q → (o ▸ λ w. ts ▸ λ ws. Some (w ∷ ws)) ≡ None
head_unknown None p q os ts rest e = refl
head_unknown (Some w) p q os ts rest e = ap (λ (o : Option (List Token)). o ▸ λ ws. Some (w ∷ ws)) (rest e)

no_tokens : (p : ℕ) (rs : List Record) (q : ℕ) → unknown p rs ≡ Some q → tokens_of rs ≡ None
no_tokens p [] q e = never e
no_tokens p (r ∷ rs) q e = head_unknown (token_of r) p q (unknown (suc p) rs) (tokens_of rs) (no_tokens (suc p) rs q) e

module _ (image : List ℕ) (passed : header_fault image ≡ None) where
  header : Header image
  header = header_passed image passed

  -- the records lie within the image
  within : 9 + 8 * count_of image ≤ length image
  within = let w = header.whole in omega arith

  pub all_known : (n : ℕ) (ws : List Token) → n ≡ count_of image → tokens_from image 9 0 n ≡ Ok ws → tokens_of (records_of image) ≡ Some ws
  all_known n ws e q = known_from image 9 0 (count_of image) ws within (subst (λ k. tokens_from image 9 0 k ≡ Ok ws) e q)

  one_unknown : (f : TableFault) (r : Result (List Token) ℕ) → tokens_from image 9 0 (count_of image) ≡ r → Err f ≡ known_by r → told (Err (Table f)) ≡ by_table image (tokens_of (records_of image))
  one_unknown f (Ok ws) q e = let z : ◌≡◌ {A = ℕ} 0 1 = cc in absurd (omega arith)
  one_unknown f (Err p) q e =
      let is : f ≡ Unknown p = cc in
      let u = unknown_from image 9 0 (count_of image) p within q in
      ap (λ g. told (Err (Table g))) is ∙ ap (λ (o : Option ℕ). refused 7 o None) (sym u) ∙ sym (ap (by_table image) (no_tokens 0 (records_of image) p u))

  pub told_unknown : (n : ℕ) (f : TableFault) → n ≡ count_of image → Err f ≡ known_by (tokens_from image 9 0 n) → told (Err (Table f)) ≡ by_table image (tokens_of (records_of image))
  told_unknown n f e q = one_unknown f (tokens_from image 9 0 (count_of image)) refl (subst (λ k. Err f ≡ known_by (tokens_from image 9 0 k)) e q)

  pub one_or_more : 1 ≤ count_of image
  one_or_more = header.ranges.records_from

  pub no_more : count_of image ≤ 512
  no_more = header.ranges.records_to

  module _ (ws : List Token) (long : length ws ≡ count_of image) (known : tokens_of (records_of image) ≡ Some ws) where
    some : 0 < length ws
    some = let least = one_or_more in omega arith

    to_table : (v : Verdict) → v ≡ by_grammar (text_of image) ws (card_of (text_bytes image) ws) → v ≡ by_table image (tokens_of (records_of image))
    to_table v h = h ∙ sym (ap (by_table image) known)

    pub told_misplaced : (f : TableFault) → Err f ≡ placed_by (misplaced 0 [] ws) → told (Err (Table f)) ≡ by_table image (tokens_of (records_of image))
    told_misplaced f e = to_table (told (Err (Table f))) (misplaced_at (text_bytes image) ws some (text_of image) f (misplaced 0 [] ws) refl e)

    -- vs are the tokens of the layout
    pub told_on_card : (v : Verdict) (texts : ℕ) (vs : List Token) → texts ≡ text_of image → vs ≡ ws → Ok tt ≡ placed_by (misplaced 0 [] ws) → OnCard vs (λ C. v ≡ by_numbers C (misnumbered C texts 0 none_seen vs)) → v ≡ by_table image (tokens_of (records_of image))
    told_on_card v texts vs e same in_place h =
        let here : OnCard ws (λ C. v ≡ by_numbers C (misnumbered C texts 0 none_seen ws)) = subst (λ us. OnCard us (λ C. v ≡ by_numbers C (misnumbered C texts 0 none_seen us))) same h in
        to_table v (on_card (text_bytes image) ws some texts v in_place here ∙ ap (λ n. by_grammar n ws (card_of (text_bytes image) ws)) e)
