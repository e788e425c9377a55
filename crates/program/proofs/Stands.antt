-- Where an expression begins its head's parts stand behind it, and arms stand one by one.
use Rattle.std.proofs.Common.{◌≡◌, ℕ, zero, suc, List, [], ◌∷◌, get_or, drop, Some, Option, sym, refl, ap, ◌∙◌, arith}
use Rattle.battery.specs.declared.Ty.{Ty}
use Rattle.battery.specs.Tree.{Expr, Exit, Exprs, ∅, ◌&◌, Arms, no_arm, at, ◌▸◌}
use Rattle.table.specs.declared.token.Token.{Token}
use Rattle.table.specs.declared.token.Token.TheVariants.{Close as CLOSE, Enum as ENUM, Case as CASE, Def as DEF, Ty as TYPE, Arm as ARM, Expr as EXPR}
use Rattle.table.specs.declared.token.Head.{Head}
use Rattle.table.specs.declared.token.Head.TheVariants.{Leaf as LEAF, Pair as PAIR, If as IF, Match as MATCH, Exit as EXIT, Many as MANY}
use Rattle.grammar.specs.Grammar.{Piece, type, expr, exprs, arms, count, many_at, take_expr, take_arms, or_close, pieces_of}
use Rattle.numbering.specs.Ends.{Ends}
use Rattle.numbering.proofs.Options.{never, Some≡}
use Rattle.numbering.proofs.Lists.{at_drop, drop_next}
use Rattle.numbering.proofs.Indexed.{at_below}
use Rattle.numbering.proofs.Parts.{no_expr, only_type, of_leaf, of_pair, of_if, of_match, of_exit, of_many, of_arm, of_no_arm, arms_from, arms_first, ArmsToken, is_close_lem, is_arm, arms_token}
use Rattle.numbering.proofs.Skip.{skips}
use Rattle.program.specs.Stands.{tree_at, arms_at, or_nothing, or_none, Begins, ArmsStand, row_at, Row, Node, Headed, FirstArm, an_arm, no_more}

module _ (t : List ℕ) (ws : List Token) where
  -- what the pieces at a place begin with is the tree there
  tree_is : (i : ℕ) (e : Expr) (ps : List Piece) → pieces_of t i (drop i ws) ≡ Some (expr e ∷ ps) → tree_at t ws i ≡ e
  unfolding tree_at
  tree_is i e ps q = ap (λ (o : Option (List Piece)). or_nothing t ws i (o ▸ take_expr)) q

  pub begins : (i : ℕ) (e : Expr) (ps : List Piece) → pieces_of t i (drop i ws) ≡ Some (expr e ∷ ps) → (tree_at t ws i ≡ e) × Begins t ws i
  begins i e ps q = let x = tree_is i e ps q in (x, (ps, q ∙ ap (λ (a : Expr). Some (expr a ∷ ps)) (sym x)))

  arms_are : (i : ℕ) (ms : Arms) (ps : List Piece) → arms_from t i (drop i ws) ≡ Some (ms, ps) → arms_at t ws i ≡ ms
  unfolding arms_at
  arms_are i ms ps q = ap (or_none t ws) q

  arms_stand : (i : ℕ) (ms : Arms) (ps : List Piece) → arms_from t i (drop i ws) ≡ Some (ms, ps) → (arms_at t ws i ≡ ms) × ArmsStand t ws i
  arms_stand i ms ps q = let x = arms_are i ms ps q in (x, (ps, q ∙ ap (λ (a : Arms). Some (a, ps)) (sym x)))

  -- the token at a place where something is spelt
  record Here (i : ℕ) : Type 0 where
    token : Token
    stands : at ws i ≡ Some token
    cut : drop i ws ≡ token ∷ drop (suc i) ws

  here : (i : ℕ) → (drop i ws ≡ [] → ⊥) → Here i
  here i n = go (drop i ws) refl
    where
      go : (vs : List Token) → drop i ws ≡ vs → Here i
      go [] e = absurd (n e)
      go (w ∷ vs) e = record { token = w; stands = at_drop i ws e; cut = e ∙ ap (λ (us : List Token). w ∷ us) (sym (drop_next i ws e)) }

  at_piece : (i : ℕ) (p : Piece) (ps : List Piece) → pieces_of t i (drop i ws) ≡ Some (p ∷ ps) → Here i
  at_piece i p ps q = here i λ n.
      let z : ◌≡◌ {A = List Piece} [] (p ∷ ps) = Some≡ (ap (pieces_of t i) (sym n) ∙ q) in
      let y : ◌≡◌ {A = ℕ} 0 1 = cc in omega arith

  at_arms : (i : ℕ) (ms : Arms) (ps : List Piece) → arms_from t i (drop i ws) ≡ Some (ms, ps) → Here i
  at_arms i ms ps q = here i λ n. never (ap (arms_from t i) (sym n) ∙ q)

  behind_type : (i : ℕ) (τ : Ty) (ps : List Piece) → pieces_of t i (drop i ws) ≡ Some (type τ ∷ ps) → pieces_of t (suc i) (drop (suc i) ws) ≡ Some ps
  behind_type i τ ps q =
      let h = at_piece i (type τ) ps q in
      (only_type t i h.token (drop (suc i) ws) τ ps (ap (pieces_of t i) (sym h.cut) ∙ q)).1

module _ (t : List ℕ) (ws : List Token) (es : List ℕ) (ends : Ends ws es) where
  -- behind an expression, by the table of ends
  next : (i : ℕ) (e : Expr) (ps : List Piece) → pieces_of t i (drop i ws) ≡ Some (expr e ∷ ps) → pieces_of t (get_or es i 0) (drop (get_or es i 0) ws) ≡ Some ps
  next i e ps q =
      let h = at_piece t ws i (expr e) ps q in
      ((skips t ws es ends i (at_below ws i _ h.stands)).expression e ps q).2

  row : (as' : Exprs) (n i : ℕ) (ps : List Piece) → n ≡ count as' → pieces_of t i (drop i ws) ≡ Some (exprs as' ps) → Row t ws es n i × (row_at t ws es n i ≡ as')
  row ∅ zero i ps c q = (tt, refl)
  row ∅ (suc n) i ps c q = absurd (omega arith)
  row (a & as') zero i ps c q = absurd (omega arith)
  row (a & as') (suc n) i ps c q =
      let x = begins t ws i a (exprs as' ps) q in
      let y = row as' n (get_or es i 0) ps (omega arith) (next i a (exprs as' ps) q) in
      ((x.1, y.0), cc (x.0, y.1))

  -- each head's parts
  node : (i : ℕ) (h : Head) (e : Expr) (ps : List Piece) → tree_at t ws i ≡ e → pieces_of t i (EXPR h ∷ drop (suc i) ws) ≡ Some (expr e ∷ ps) → Node t ws es i h
  node i (LEAF l) e ps is q = is ∙ (of_leaf t i l (drop (suc i) ws) e ps q).0
  node i (PAIR o) e ps is q =
      let x = of_pair t i o (drop (suc i) ws) e ps q in
      let y = row (x.a & x.b & ∅) 2 (suc i) ps refl x.parts in
      (y.0, cc (is, x.is, y.1))
  node i IF e ps is q =
      let x = of_if t i (drop (suc i) ws) e ps q in
      let y = row (x.c & x.a & x.b & ∅) 3 (suc i) ps refl x.parts in
      (y.0, cc (is, x.is, y.1))
  node i MATCH e ps is q =
      let x = of_match t i (drop (suc i) ws) e ps q in
      let a = begins t ws (suc i) x.a (arms x.ms ∷ ps) x.parts in
      let m = get_or es (suc i) 0 in
      let b = arms_stand t ws m x.ms ps (arms_first t m (drop m ws) x.ms ps (next (suc i) x.a (arms x.ms ∷ ps) x.parts)) in
      (a.1, b.1, cc (is, x.is, a.0, b.0))
  node i EXIT e ps is q =
      let x = of_exit t i (drop (suc i) ws) e ps q in
      let a = begins t ws (suc (suc i)) x.a ps (behind_type t ws (suc i) x.τ (expr x.a ∷ ps) x.parts) in
      (a.1, (x.τ, is ∙ x.is ∙ ap (Exit i x.τ) (sym a.0)))
  node i (MANY n m) e ps is q =
      let x = of_many t i n m (drop (suc i) ws) e ps q in
      let y = row x.es n (suc i) ps x.counted x.parts in
      (y.0, is ∙ x.is ∙ ap (many_at i m) (sym y.1))

  -- an expression's head
  headed_by : (i : ℕ) (w : Token) (ps : List Piece) → at ws i ≡ Some w → pieces_of t i (w ∷ drop (suc i) ws) ≡ Some (expr (tree_at t ws i) ∷ ps) → Headed t ws es i
  headed_by i CLOSE ps s q = no_expr t i CLOSE (drop (suc i) ws) _ ps (λ h d. cc) q
  headed_by i (ENUM k) ps s q = no_expr t i (ENUM k) (drop (suc i) ws) _ ps (λ h d. cc) q
  headed_by i (CASE n k) ps s q = no_expr t i (CASE n k) (drop (suc i) ws) _ ps (λ h d. cc) q
  headed_by i (DEF n k) ps s q = no_expr t i (DEF n k) (drop (suc i) ws) _ ps (λ h d. cc) q
  headed_by i (TYPE τ) ps s q = no_expr t i (TYPE τ) (drop (suc i) ws) _ ps (λ h d. cc) q
  headed_by i (ARM n x c) ps s q = no_expr t i (ARM n x c) (drop (suc i) ws) _ ps (λ h d. cc) q
  headed_by i (EXPR h) ps s q = record { head = h; stands = s; within = at_below ws i _ s; node = node i h _ ps refl q }

  pub headed : (i : ℕ) → Begins t ws i → Headed t ws es i
  headed i b =
      let h = at_piece t ws i (expr (tree_at t ws i)) b.0 b.1 in
      headed_by i h.token b.0 h.stands (ap (pieces_of t i) (sym h.cut) ∙ b.1)

  -- the first of the arms
  arm_by : (i : ℕ) {w : Token} (ps : List Piece) → ArmsToken t w → at ws i ≡ Some w → arms_from t i (w ∷ drop (suc i) ws) ≡ Some (arms_at t ws i, ps) → FirstArm t ws es i
  arm_by i ps is_close_lem s q = no_more (λ n x c d. cc) (of_no_arm t i (drop (suc i) ws) _ ps q).0
  arm_by i ps (is_arm n x c) s q =
      let y = of_arm t i n x c (drop (suc i) ws) _ ps q in
      let a = begins t ws (suc i) y.e y.next y.part in
      let m = get_or es (suc i) 0 in
      let b = arms_stand t ws m y.more ps (ap (λ (o : Option (List Piece)). o ▸ λ qs. or_close no_arm qs (take_arms qs)) (next (suc i) y.e y.next y.part) ∙ y.rest) in
      an_arm s (at_below ws i _ s) a.1 b.1 (cc (y.is, a.0, b.0))

  pub first_arm : (i : ℕ) → ArmsStand t ws i → FirstArm t ws es i
  first_arm i b =
      let h = at_arms t ws i (arms_at t ws i) b.0 b.1 in
      let q : arms_from t i (h.token ∷ drop (suc i) ws) ≡ Some (arms_at t ws i, b.0) = ap (arms_from t i) (sym h.cut) ∙ b.1 in
      arm_by i b.0 (arms_token t i h.token (drop (suc i) ws) _ b.0 q) h.stands q
