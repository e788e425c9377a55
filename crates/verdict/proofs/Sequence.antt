-- A sequence of pieces is spelt by what spells each of them, joined.
use Rattle.std.proofs.Common.{◌≡◌, ℕ, suc, ◌+◌, List, [], ◌∷◌, ◌++◌, length, sym, refl, ap, subst, arith}
use Rattle.battery.specs.declared.Ty.{Ty}
use Rattle.battery.specs.Tree.{Exprs, ∅, ◌&◌}
use Rattle.table.specs.declared.token.Token.{Token}
use Rattle.grammar.specs.Grammar.{Piece, type, expr, types, exprs, Spells, s_end, s_close, s_type, s_leaf, s_pair, s_if, s_many, s_match, s_last_arm, s_arm, s_exit, s_last_case, s_case, s_enum, s_def, Apart}
use Rattle.verdict.specs.Claims.{SpeltInSequence}

exprs-++ : (es : Exprs) (qs ps : List Piece) → exprs es qs ++ ps ≡ exprs es (qs ++ ps)
exprs-++ ∅ qs ps = refl
exprs-++ (e & es) qs ps = ap (λ (r : List Piece). expr e ∷ r) (exprs-++ es qs ps)

types-++ : (τs : List Ty) (qs ps : List Piece) → types τs qs ++ ps ≡ types τs (qs ++ ps)
types-++ [] qs ps = refl
types-++ (τ ∷ τs) qs ps = ap (λ (r : List Piece). type τ ∷ r) (types-++ τs qs ps)

module _ (t : List ℕ) where
  -- joined
  join : {p : ℕ} {us : List Token} {qs : List Piece} → Spells t p us qs → {vs : List Token} {ps : List Piece} (m : ℕ) → m ≡ p + length us → Spells t m vs ps → Spells t p (us ++ vs) (qs ++ ps)
  join (s_end {p = p}) {vs} {ps} m q b = let e : m ≡ p = omega arith in subst (λ q. Spells t q vs ps) e b
  join (s_close h) m q b = s_close (join h m (omega arith) b)
  join (s_type h) m q b = s_type (join h m (omega arith) b)
  join (s_leaf h) m q b = s_leaf (join h m (omega arith) b)
  join (s_pair h) m q b = s_pair (join h m (omega arith) b)
  join (s_if h) m q b = s_if (join h m (omega arith) b)
  join (s_many {ps = qs} es n h) {ps = ps} m q b = s_many es n (subst (Spells t _ _) (exprs-++ es qs ps) (join h m (omega arith) b))
  join (s_match h) m q b = s_match (join h m (omega arith) b)
  join (s_last_arm h) m q b = s_last_arm (join h m (omega arith) b)
  join (s_arm h) m q b = s_arm (join h m (omega arith) b)
  join (s_exit h) m q b = s_exit (join h m (omega arith) b)
  join (s_last_case {τs = τs} n h) m q b = s_last_case n (subst (Spells t _ _) (types-++ τs _ _) (join h m (omega arith) b))
  join (s_case {τs = τs} n h) m q b = s_case n (subst (Spells t _ _) (types-++ τs _ _) (join h m (omega arith) b))
  join (s_enum h) m q b = s_enum (join h m (omega arith) b)
  join (s_def {τs = τs} n h) m q b = s_def n (subst (Spells t _ _) (types-++ τs _ _) (join h m (omega arith) b))

  -- apart
  data Both (qs ps : List Piece) : ℕ → List Token → Type 0 where
    both : {p : ℕ} {us vs : List Token} → Spells t p us qs → Spells t (p + length us) vs ps → Both qs ps p (us ++ vs)

  data Join (ps : List Piece) : List Piece → List Piece → Type 0 where
    here : Join ps [] ps
    more : {q : Piece} {qs rs : List Piece} → Join ps qs rs → Join ps (q ∷ qs) (q ∷ rs)

  -- one token more in front
  add : {p : ℕ} {w : Token} {ws : List Token} {qs rs ps : List Piece} → ((us : List Token) → Spells t (suc p) us qs → Spells t p (w ∷ us) rs) → Both qs ps (suc p) ws → Both rs ps p (w ∷ ws)
  add {p} {ps = ps} f (both {us = us} {vs = vs} a b) = both (f us a) (let e : suc p + length us ≡ p + suc (length us) = omega arith in subst (λ q. Spells t q vs ps) e b)

  join_types : (τs : List Ty) {qs rs ps : List Piece} → Join ps qs rs → Join ps (types τs qs) (types τs rs)
  join_types [] j = j
  join_types (τ ∷ τs) j = more (join_types τs j)

  join_exprs : (es : Exprs) {qs rs ps : List Piece} → Join ps qs rs → Join ps (exprs es qs) (exprs es rs)
  join_exprs ∅ j = j
  join_exprs (e & es) j = more (join_exprs es j)

  none_in_front : {p : ℕ} {ws : List Token} {ps : List Piece} → Spells t p ws ps → Both [] ps p ws
  none_in_front {p} {ws} {ps} h = both s_end (let e : p ≡ p + 0 = omega arith in subst (λ q. Spells t q ws ps) e h)

  split : {p : ℕ} {ws : List Token} {rs : List Piece} → Spells t p ws rs → {qs ps : List Piece} → Join ps qs rs → Both qs ps p ws
  split h here = none_in_front h
  split (s_close h) (more j) = add (λ us k. s_close k) (split h j)
  split (s_type h) (more j) = add (λ us k. s_type k) (split h j)
  split (s_leaf h) (more j) = add (λ us k. s_leaf k) (split h j)
  split (s_pair h) (more j) = add (λ us k. s_pair k) (split h (more (more j)))
  split (s_if h) (more j) = add (λ us k. s_if k) (split h (more (more (more j))))
  split (s_many es n h) (more j) = add (λ us k. s_many es n k) (split h (join_exprs es j))
  split (s_match h) (more j) = add (λ us k. s_match k) (split h (more (more j)))
  split (s_last_arm h) (more j) = add (λ us k. s_last_arm k) (split h (more (more j)))
  split (s_arm h) (more j) = add (λ us k. s_arm k) (split h (more (more j)))
  split (s_exit h) (more j) = add (λ us k. s_exit k) (split h (more (more j)))
  split (s_last_case {τs = τs} n h) (more j) = add (λ us k. s_last_case n k) (split h (join_types τs (more j)))
  split (s_case {τs = τs} n h) (more j) = add (λ us k. s_case n k) (split h (join_types τs (more j)))
  split (s_enum h) (more j) = add (λ us k. s_enum k) (split h (more j))
  split (s_def {τs = τs} n h) (more j) = add (λ us k. s_def n k) (split h (join_types τs (more (more (more j)))))

  joins : (qs ps : List Piece) → Join ps qs (qs ++ ps)
  joins [] ps = here
  joins (q ∷ qs) ps = more (joins qs ps)

  apart : {p : ℕ} {ws : List Token} {qs ps : List Piece} → Both qs ps p ws → Apart t p ws qs ps
  apart (both {us = us} {vs = vs} a b) = record { front = us; back = vs; joined_tokens = refl; front_spells = a; back_spells = b }

pub spelt_in_sequence : SpeltInSequence
spelt_in_sequence t p ws qs ps =
    (λ h. apart t (split t h (joins t qs ps)), λ a. subst (λ u. Spells t p u (qs ++ ps)) (sym a.joined_tokens) (join t a.front_spells (p + length a.front) refl a.back_spells))
