-- A card that is spelt has the enums, the cases and the functions that stand among its tokens.
use Rattle.std.proofs.Common.{◌≡◌, ℕ, suc, ◌+◌, List, [], ◌∷◌, ◌++◌, length, drop, Some, Option, sym, refl, ap, ◌∙◌, subst, zero-add, arith}
use Rattle.battery.specs.declared.Ty.{Ty}
use Rattle.battery.specs.Tree.{Exprs, ∅, ◌&◌, Fn, Card, at, ◌▸◌}
use Rattle.table.specs.declared.token.Token.{Token}
use Rattle.table.specs.declared.token.Token.TheVariants.{Case as CASE, Def as DEF, Ty as TYPE}
use Rattle.grammar.specs.Grammar.{Piece, close, type, expr, cases, arms, an_enum, a_fn, types, exprs, fn_at, Spells, s_end, s_close, s_type, s_leaf, s_pair, s_if, s_many, s_match, s_last_arm, s_arm, s_exit, s_last_case, s_case, s_enum, s_def, Items, no_item, enum_item, fn_item, Spelt, card_of}
use Rattle.numbering.specs.Places.{firsts_in, cases_in, functions_in, next_first, case_count, case_place, types_in}
use Rattle.numbering.specs.Numbering.{case_of}
use Rattle.numbering.proofs.Standing.{Matched, CaseAt, FnAt}
use Rattle.numbering.proofs.Lists.{at_drop, drop_next, concat, offsets, ending, length_offsets, lengths, elements, Fitted, no_more, one_more, fitted_at, fitted_length, matched_by}
use Rattle.numbering.proofs.Read.{read_complete, card_sound}

-- the same tables, of pieces
abbrev firsts_of : ℕ → List Piece → List ℕ
firsts_of c [] = []
firsts_of c (close ∷ ps) = firsts_of c ps
firsts_of c (type τ ∷ ps) = firsts_of c ps
firsts_of c (expr e ∷ ps) = firsts_of c ps
firsts_of c (cases cs ∷ ps) = firsts_of (c + length cs) ps
firsts_of c (arms ms ∷ ps) = firsts_of c ps
firsts_of c (an_enum E ∷ ps) = c ∷ firsts_of (c + length E) ps
firsts_of c (a_fn fn ∷ ps) = firsts_of c ps

abbrev cases_of : List Piece → List (List Ty)
cases_of [] = []
cases_of (close ∷ ps) = cases_of ps
cases_of (type τ ∷ ps) = cases_of ps
cases_of (expr e ∷ ps) = cases_of ps
cases_of (cases cs ∷ ps) = cs ++ cases_of ps
cases_of (arms ms ∷ ps) = cases_of ps
cases_of (an_enum E ∷ ps) = E ++ cases_of ps
cases_of (a_fn fn ∷ ps) = cases_of ps

abbrev fns_of : List Piece → List Fn
fns_of [] = []
fns_of (close ∷ ps) = fns_of ps
fns_of (type τ ∷ ps) = fns_of ps
fns_of (expr e ∷ ps) = fns_of ps
fns_of (cases cs ∷ ps) = fns_of ps
fns_of (arms ms ∷ ps) = fns_of ps
fns_of (an_enum E ∷ ps) = fns_of ps
fns_of (a_fn fn ∷ ps) = fn ∷ fns_of ps

-- of items they are the card's
items_firsts : {ps : List Piece} {C : Card} → Items ps C → (c : ℕ) → firsts_of c ps ≡ offsets c C.enums
items_firsts no_item c = refl
items_firsts (enum_item {E = E} i) c = ap (λ (cs : List ℕ). c ∷ cs) (items_firsts i (c + length E))
items_firsts (fn_item i) c = items_firsts i c

items_cases : {ps : List Piece} {C : Card} → Items ps C → cases_of ps ≡ concat C.enums
items_cases no_item = refl
items_cases (enum_item {E = E} i) = ap (λ (cs : List (List Ty)). E ++ cs) (items_cases i)
items_cases (fn_item i) = items_cases i

items_fns : {ps : List Piece} {C : Card} → Items ps C → fns_of ps ≡ C.fns
items_fns no_item = refl
items_fns (enum_item i) = items_fns i
items_fns (fn_item {fn = fn} i) = ap (λ (fns : List Fn). fn ∷ fns) (items_fns i)

module _ (t : List ℕ) (ws : List Token) where
  -- what stands behind types, and behind one of them
  behind_type : {p : ℕ} {vs : List Token} {τ : Ty} {ps : List Piece} → Spells t p vs (type τ ∷ ps) → drop p ws ≡ vs → (at ws p ≡ Some (TYPE τ)) × Spells t (suc p) (drop (suc p) ws) ps
  behind_type {p} {ps = ps} (s_type h) e = (at_drop p ws e, subst (λ (us : List Token). Spells t (suc p) us ps) (sym (drop_next p ws e)) h)

  behind_types : (τs : List Ty) {p : ℕ} {vs : List Token} {ps : List Piece} → Spells t p vs (types τs ps) → drop p ws ≡ vs
      → (types_in (length τs) vs ≡ Some τs) × Spells t (p + length τs) (drop (p + length τs) ws) ps
  behind_types [] {p} {ps = ps} h e = (refl, let q : p ≡ p + 0 = omega arith in subst (λ (m : ℕ). Spells t m (drop m ws) ps) q (subst (λ (us : List Token). Spells t p us ps) (sym e) h))
  behind_types (τ ∷ τs) {p} {ps = ps} (s_type h) e =
      let r = behind_types τs {ps = ps} h (drop_next p ws e) in
      let q : suc p + length τs ≡ p + suc (length τs) = omega arith in
      (ap (λ (o : Option (List Ty)). o ▸ λ υs. Some (τ ∷ υs)) r.0, subst (λ (m : ℕ). Spells t m (drop m ws) ps) q r.1)

  case_stands : {p n k : ℕ} {vs : List Token} (τs : List Ty) (ps : List Piece) → n ≡ length τs → Spells t (suc p) vs (types τs ps) → drop p ws ≡ CASE n k ∷ vs → CaseAt ws p τs
  case_stands {p} {n} {k} {vs} τs ps l h e =
      let r = behind_types τs {ps = ps} h (drop_next p ws e) in
      record { n = n; k = k; is = at_drop p ws e; counted = l; fields = rw (drop_next p ws e, l) r.0 }

  fn_stands : {p n k : ℕ} {vs : List Token} (fn : Fn) (ps : List Piece) → fn.opened ≡ p → n ≡ length fn.params
      → Spells t (suc p) vs (types fn.params (type fn.result ∷ expr fn.body ∷ ps)) → drop p ws ≡ DEF n k ∷ vs → FnAt t ws p fn
  fn_stands {p} {n} {k} {vs} fn ps o l h e =
      let r = behind_types fn.params {ps = type fn.result ∷ expr fn.body ∷ ps} h (drop_next p ws e) in
      let s = behind_type r.1 refl in
      let q : suc (suc p + length fn.params) ≡ suc (suc p) + n = omega arith in
      record {
        n = n;
        k = k;
        is = at_drop p ws e;
        opened = o;
        counted = l;
        params = rw (drop_next p ws e, l) r.0;
        result = rw l s.0;
        rest = ps;
        body = read_complete t (subst (λ (m : ℕ). Spells t m (drop m ws) (expr fn.body ∷ ps)) q s.1);
      }

  -- tokens have the tables of the pieces that they spell
  abbrev Same : ℕ → List Token → List Piece → Type 0
  Same p vs ps = ((c : ℕ) → firsts_in c vs ≡ firsts_of c ps) × Fitted (CaseAt ws) (cases_in p vs) (cases_of ps) × Fitted (FnAt t ws) (functions_in p vs) (fns_of ps)

  past_exprs : (es : Exprs) (p : ℕ) (vs : List Token) (ps : List Piece) → Same p vs (exprs es ps) → Same p vs ps
  past_exprs ∅ p vs ps s = s
  past_exprs (e & es) p vs ps s = past_exprs es p vs ps s

  past_types : (τs : List Ty) (p : ℕ) (vs : List Token) (ps : List Piece) → Same p vs (types τs ps) → Same p vs ps
  past_types [] p vs ps s = s
  past_types (τ ∷ τs) p vs ps s = past_types τs p vs ps s

  same : {p : ℕ} {vs : List Token} {ps : List Piece} → Spells t p vs ps → drop p ws ≡ vs → Same p vs ps
  same s_end e = (λ c. refl, no_more, no_more)
  same (s_close {p = p} h) e = same h (drop_next p ws e)
  same (s_type {p = p} h) e = same h (drop_next p ws e)
  same (s_leaf {p = p} h) e = same h (drop_next p ws e)
  same (s_pair {p = p} h) e = same h (drop_next p ws e)
  same (s_if {p = p} h) e = same h (drop_next p ws e)
  same (s_many {p = p} {ws = vs} {ps = ps} es n h) e = past_exprs es (suc p) vs ps (same h (drop_next p ws e))
  same (s_match {p = p} h) e = same h (drop_next p ws e)
  same (s_last_arm {p = p} h) e = same h (drop_next p ws e)
  same (s_arm {p = p} h) e = same h (drop_next p ws e)
  same (s_exit {p = p} h) e = same h (drop_next p ws e)
  same (s_last_case {p = p} {ws = vs} {ps = ps} {τs = τs} n h) e =
      let s = past_types τs (suc p) vs (close ∷ ps) (same h (drop_next p ws e)) in
      (λ c. s.0 (suc c) ∙ ap (λ (m : ℕ). firsts_of m ps) (let q : suc c ≡ c + 1 = omega arith in q), one_more (case_stands τs (close ∷ ps) n h e) s.1, s.2)
  same (s_case {p = p} {ws = vs} {ps = ps} {τs = τs} {cs = cs} n h) e =
      let s = past_types τs (suc p) vs (cases cs ∷ ps) (same h (drop_next p ws e)) in
      (λ c. s.0 (suc c) ∙ ap (λ (m : ℕ). firsts_of m ps) (let q : suc c + length cs ≡ c + suc (length cs) = omega arith in q), one_more (case_stands τs (cases cs ∷ ps) n h e) s.1, s.2)
  same (s_enum {p = p} h) e = let s = same h (drop_next p ws e) in (λ c. ap (λ (cs : List ℕ). c ∷ cs) (s.0 c), s.1, s.2)
  same (s_def {p = p} {ws = vs} {ps = ps} {τs = τs} {τ = τ} {e = a} n h) e =
      let s = past_types τs (suc p) vs (type τ ∷ expr a ∷ close ∷ ps) (same h (drop_next p ws e)) in
      (s.0, s.1, one_more (fn_stands (fn_at p τs τ a) (close ∷ ps) refl n h e) s.2)

module _ (t : List ℕ) (ws : List Token) (C : Card) (read : card_of t ws ≡ Some C) where
  spelt : Spelt t ws C
  spelt = card_sound t ws C read

  firsts : firsts_in 0 ws ≡ offsets 0 C.enums
  firsts = (same t ws spelt.spells refl).0 0 ∙ items_firsts spelt.items 0

  all_cases : Fitted (CaseAt ws) (cases_in 0 ws) (concat C.enums)
  all_cases = subst (Fitted (CaseAt ws) (cases_in 0 ws)) (items_cases spelt.items) (same t ws spelt.spells refl).1

  all_fns : Fitted (FnAt t ws) (functions_in 0 ws) C.fns
  all_fns = subst (Fitted (FnAt t ws) (functions_in 0 ws)) (items_fns spelt.items) (same t ws spelt.spells refl).2

  case_total : length (cases_in 0 ws) ≡ 0 + length (concat C.enums)
  case_total = let h = fitted_length all_cases in omega arith

  pub enums_counted : length (firsts_in 0 ws) ≡ length C.enums
  enums_counted = ap length firsts ∙ length_offsets 0 C.enums

  pub functions_counted : length (functions_in 0 ws) ≡ length C.fns
  functions_counted = fitted_length all_fns

  pub function_at : (f : ℕ) → Matched (FnAt t ws) (at (functions_in 0 ws) f) (at C.fns f)
  function_at f = fitted_at all_fns f

  next_first_lem : (k : ℕ) → next_first ws k ≡ ending (length (cases_in 0 ws)) (offsets 0 C.enums) k
  next_first_lem k = ap (λ (cs : List ℕ). ending (length (cases_in 0 ws)) cs k) firsts

  pub cases_counted : (k : ℕ) → case_count ws k ≡ (at C.enums k ▸ λ E. Some (length E))
  cases_counted k = rw (next_first_lem k, firsts) (lengths (length (cases_in 0 ws)) 0 C.enums k case_total)

  pub case_at : (k c : ℕ) → Matched (CaseAt ws) (case_place ws k c) (case_of C k c)
  case_at k c =
      rw (next_first_lem k, firsts)
      (subst (Matched (CaseAt ws) _) (elements (length (cases_in 0 ws)) 0 C.enums (concat C.enums) k c case_total (λ j. ap (at (concat C.enums)) (zero-add j)))
      (matched_by (at (offsets 0 C.enums) k) _ (λ a. at (cases_in 0 ws) (a + c)) (λ a. at (concat C.enums) (a + c)) (λ a. fitted_at all_cases (a + c))))
