-- The reader gives a card exactly where the tokens spell it.
use Rattle.std.proofs.Common.{◌≡◌, ℕ, suc, ◌⊎◌, List, [], ◌∷◌, length, Some, refl, subst, inl, inr, arith}
use Rattle.battery.specs.declared.Ty.{Ty}
use Rattle.battery.specs.Tree.{Expr, If, Match, Exit, Exprs, ∅, ◌&◌, Arms, no_arm, arm, Card}
use Rattle.table.specs.declared.token.Token.{Token}
use Rattle.table.specs.declared.token.Token.TheVariants.{Close as CLOSE, Enum as ENUM, Case as CASE, Def as DEF, Ty as TYPE, Arm as ARM, Expr as EXPR}
use Rattle.table.specs.declared.token.Head.{Head}
use Rattle.table.specs.declared.token.Head.TheVariants.{Leaf as LEAF, Pair as PAIR, If as IF, Match as MATCH, Exit as EXIT, Many as MANY}
use Rattle.numbering.proofs.Parts.{took_expr, took_type, took_close, took_cases, took_arms, took_exprs, took_types, or_close_lem}
use Rattle.numbering.proofs.Options.{never, Some≡, through}
use Rattle.grammar.specs.Grammar.{Piece, close, type, expr, cases, arms, an_enum, a_fn, leaf_at, pair_at, many_at, types, exprs, count, Spells, s_end, s_close, s_type, s_leaf, s_pair, s_if, s_many, s_match, s_last_arm, s_arm, s_exit, s_last_case, s_case, s_enum, s_def, Items, no_item, enum_item, fn_item, Spelt, take_expr, take_type, take_close, take_cases, take_arms, or_close, take_exprs, take_types, joined_expr, joined, pieces_of, items_of, card_of}

module _ (t : List ℕ) where
  joined_expr_lem : (p : ℕ) (h : Head) (ws : List Token) (qs : List Piece) (x : Expr × List Piece) → Spells t (suc p) ws qs → joined_expr t p h qs ≡ Some x → Spells t p (EXPR h ∷ ws) (expr x.0 ∷ x.1)
  joined_expr_lem p (LEAF l) ws qs x h e = let q : (leaf_at t p l, qs) ≡ x = Some≡ e in rw (← q) (s_leaf h)
  joined_expr_lem p (PAIR o) ws qs x h e =
      let r = through (take_expr qs) _ x e in
      let q = through (take_expr r.mid.1) _ x r.gave in
      let s : (pair_at p o r.mid.0 q.mid.0, q.mid.1) ≡ x = Some≡ q.gave in
      rw (← s) (s_pair (rw (took_expr qs r.mid r.got, took_expr r.mid.1 q.mid q.got) at h))
  joined_expr_lem p IF ws qs x h e =
      let r = through (take_expr qs) _ x e in
      let q = through (take_expr r.mid.1) _ x r.gave in
      let v = through (take_expr q.mid.1) _ x q.gave in
      let s : (If p r.mid.0 q.mid.0 v.mid.0, v.mid.1) ≡ x = Some≡ v.gave in
      rw (← s) (s_if (rw (took_expr qs r.mid r.got, took_expr r.mid.1 q.mid q.got, took_expr q.mid.1 v.mid v.got) at h))
  joined_expr_lem p MATCH ws qs x h e =
      let r = through (take_expr qs) _ x e in
      let q = through (take_arms r.mid.1) _ x r.gave in
      let s : (Match p r.mid.0 q.mid.0, q.mid.1) ≡ x = Some≡ q.gave in
      rw (← s) (s_match (rw (took_expr qs r.mid r.got, took_arms r.mid.1 q.mid q.got) at h))
  joined_expr_lem p EXIT ws qs x h e =
      let r = through (take_type qs) _ x e in
      let q = through (take_expr r.mid.1) _ x r.gave in
      let s : (Exit p r.mid.0 q.mid.0, q.mid.1) ≡ x = Some≡ q.gave in
      rw (← s) (s_exit (rw (took_type qs r.mid r.got, took_expr r.mid.1 q.mid q.got) at h))
  joined_expr_lem p (MANY n m) ws qs x h e =
      let r = through (take_exprs n qs) _ x e in
      let s : (many_at p m r.mid.0, r.mid.1) ≡ x = Some≡ r.gave in
      let w = took_exprs n qs r.mid r.got in
      rw (← s) (s_many r.mid.0 w.0 (rw w.1 at h))

  joined_token : (p : ℕ) (w : Token) (ws : List Token) (qs ps : List Piece) → Spells t (suc p) ws qs → joined t p w qs ≡ Some ps → Spells t p (w ∷ ws) ps
  joined_token p CLOSE ws qs ps h e = rw (← (Some≡ e)) (s_close h)
  joined_token p (ENUM k) ws qs ps h e =
      let r = through (take_cases qs) _ ps e in rw (← (Some≡ r.gave)) (s_enum (rw (took_cases qs r.mid r.got) at h))
  joined_token p (CASE n k) ws qs ps h e =
      let r = through (take_types n qs) _ ps e in
      let q = through (or_close [] r.mid.1 (take_cases r.mid.1)) _ ps r.gave in
      let w = took_types n qs r.mid r.got in
      rw (← (Some≡ q.gave)) (go r.mid q.mid w.0 (subst (Spells t (suc p) ws) w.1 h) (or_close_lem [] r.mid.1 _ q.mid q.got))
    where
      go : (x : List Ty × List Piece) (y : List (List Ty) × List Piece) → n ≡ length x.0 → Spells t (suc p) ws (types x.0 x.1)
          → (take_cases x.1 ≡ Some y) ⊎ ((x.1 ≡ close ∷ y.1) × ([] ≡ y.0)) → Spells t p (CASE n k ∷ ws) (cases (x.0 ∷ y.0) ∷ y.1)
      go x y l h (inl g) = s_case l (rw (took_cases x.1 y g) at h)
      go x y l h (inr g) = rw (← g.1) (s_last_case l (rw g.0 at h))
  joined_token p (DEF n k) ws qs ps h e =
      let r = through (take_types n qs) _ ps e in
      let q = through (take_type r.mid.1) _ ps r.gave in
      let v = through (take_expr q.mid.1) _ ps q.gave in
      let z = through (take_close v.mid.1) _ ps v.gave in
      let w = took_types n qs r.mid r.got in
      rw (← (Some≡ z.gave))
      (s_def w.0 (rw (w.1, took_type r.mid.1 q.mid q.got, took_expr q.mid.1 v.mid v.got, took_close v.mid.1 z.mid z.got) at h))
  joined_token p (TYPE τ) ws qs ps h e = rw (← (Some≡ e)) (s_type h)
  joined_token p (ARM n x c) ws qs ps h e =
      let r = through (take_expr qs) _ ps e in
      let q = through (or_close no_arm r.mid.1 (take_arms r.mid.1)) _ ps r.gave in
      rw (← (Some≡ q.gave))
      (go r.mid q.mid (subst (Spells t (suc p) ws) (took_expr qs r.mid r.got) h) (or_close_lem no_arm r.mid.1 _ q.mid q.got))
    where
      go : (u : Expr × List Piece) (y : Arms × List Piece) → Spells t (suc p) ws (expr u.0 ∷ u.1)
          → (take_arms u.1 ≡ Some y) ⊎ ((u.1 ≡ close ∷ y.1) × (no_arm ≡ y.0)) → Spells t p (ARM n x c ∷ ws) (arms (arm p c n x u.0 y.0) ∷ y.1)
      go u y h (inl g) = s_arm (rw (took_arms u.1 y g) at h)
      go u y h (inr g) = rw (← g.1) (s_last_arm (rw g.0 at h))
  joined_token p (EXPR a) ws qs ps h e =
      let r = through (joined_expr t p a qs) _ ps e in rw (← (Some≡ r.gave)) (joined_expr_lem p a ws qs r.mid h r.got)

  pub read_sound : (p : ℕ) (ws : List Token) (ps : List Piece) → pieces_of t p ws ≡ Some ps → Spells t p ws ps
  read_sound p [] ps e = rw (← (Some≡ e)) s_end
  read_sound p (w ∷ ws) ps e =
      let r = through (pieces_of t (suc p) ws) (joined t p w) ps e in joined_token p w ws r.mid ps (read_sound (suc p) ws r.mid r.got) r.gave

  take_exprs_lem : (es : Exprs) (ps : List Piece) → take_exprs (count es) (exprs es ps) ≡ Some (es, ps)
  take_exprs_lem ∅ ps = refl
  take_exprs_lem (e & es) ps = rw (take_exprs_lem es ps)

  take_types_lem : (τs : List Ty) (ps : List Piece) → take_types (length τs) (types τs ps) ≡ Some (τs, ps)
  take_types_lem [] ps = refl
  take_types_lem (τ ∷ τs) ps = rw (take_types_lem τs ps)

  pub read_complete : {p : ℕ} {ws : List Token} {ps : List Piece} → Spells t p ws ps → pieces_of t p ws ≡ Some ps
  read_complete s_end = refl
  read_complete (s_close h) = rw (read_complete h)
  read_complete (s_type h) = rw (read_complete h)
  read_complete (s_leaf h) = rw (read_complete h)
  read_complete (s_pair h) = rw (read_complete h)
  read_complete (s_if h) = rw (read_complete h)
  read_complete (s_many {ps = ps} es n h) = rw (read_complete h, n, take_exprs_lem es ps)
  read_complete (s_match h) = rw (read_complete h)
  read_complete (s_last_arm h) = rw (read_complete h)
  read_complete (s_arm h) = rw (read_complete h)
  read_complete (s_exit h) = rw (read_complete h)
  read_complete (s_last_case {τs = τs} n h) = rw (read_complete h, n, take_types_lem τs _)
  read_complete (s_case {τs = τs} n h) = rw (read_complete h, n, take_types_lem τs _)
  read_complete (s_enum h) = rw (read_complete h)
  read_complete (s_def {τs = τs} n h) = rw (read_complete h, n, take_types_lem τs _)

pub items_sound : (ps : List Piece) (C : Card) → items_of ps ≡ Some C → Items ps C
items_sound [] C e = rw (← (Some≡ e)) no_item
items_sound (close ∷ ps) C e = never e
items_sound (type τ ∷ ps) C e = never e
items_sound (expr a ∷ ps) C e = never e
items_sound (cases cs ∷ ps) C e = never e
items_sound (arms ms ∷ ps) C e = never e
items_sound (an_enum E ∷ ps) C e = let r = through (items_of ps) _ C e in rw (← (Some≡ r.gave)) (enum_item (items_sound ps r.mid r.got))
items_sound (a_fn fn ∷ ps) C e = let r = through (items_of ps) _ C e in rw (← (Some≡ r.gave)) (fn_item (items_sound ps r.mid r.got))

pub items_complete : {ps : List Piece} {C : Card} → Items ps C → items_of ps ≡ Some C
items_complete no_item = refl
items_complete (enum_item h) = rw (items_complete h)
items_complete (fn_item h) = rw (items_complete h)

pub card_sound : (t : List ℕ) (ws : List Token) (C : Card) → card_of t ws ≡ Some C → Spelt t ws C
card_sound t [] C e = never e
card_sound t (w ∷ ws) C e =
    let r = through (pieces_of t 0 (w ∷ ws)) items_of C e in
    record { pieces = r.mid; spells = read_sound t 0 (w ∷ ws) r.mid r.got; items = items_sound r.mid C r.gave; one_or_more = omega arith }

pub card_complete : (t : List ℕ) (ws : List Token) (C : Card) → Spelt t ws C → card_of t ws ≡ Some C
card_complete t [] C h = absurd (omega arith)
card_complete t (w ∷ ws) C h = rw (read_complete t h.spells) (items_complete h.items)
