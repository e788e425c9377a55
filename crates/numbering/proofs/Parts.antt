-- What the tokens behind a token spell, where the whole spells an expression or arms.
use Rattle.std.proofs.Common.{◌≡◌, ℕ, zero, suc, ◌⊎◌, List, [], ◌∷◌, length, Some, None, Option, sym, refl, ap, ◌∙◌, inl, inr, arith}
use Rattle.battery.specs.declared.Ty.{Ty}
use Rattle.battery.specs.Tree.{Expr, If, Match, Exit, Exprs, ∅, ◌&◌, Arms, no_arm, arm, ◌▸◌}
use Rattle.table.specs.declared.token.Token.{Token}
use Rattle.table.specs.declared.token.Token.TheVariants.{Close as CLOSE, Enum as ENUM, Case as CASE, Def as DEF, Ty as TYPE, Arm as ARM, Expr as EXPR}
use Rattle.table.specs.declared.token.Head.{Head}
use Rattle.table.specs.declared.token.Head.TheVariants.{Leaf as LEAF, Pair as PAIR, If as IF, Match as MATCH, Exit as EXIT, Many as MANY}
use Rattle.table.specs.declared.token.Leaf.{Leaf}
use Rattle.table.specs.declared.token.Pair.{Pair}
use Rattle.table.specs.declared.token.Many.{Many}
use Rattle.grammar.specs.Grammar.{Piece, close, type, expr, cases, arms, an_enum, a_fn, leaf_at, pair_at, many_at, types, exprs, count, take_expr, take_type, take_close, take_cases, take_arms, or_close, take_exprs, take_types, joined_expr, joined, pieces_of}
use Rattle.numbering.proofs.Options.{never, Some≡, through}

-- what a piece was taken from
pub took_expr : (ps : List Piece) (x : Expr × List Piece) → take_expr ps ≡ Some x → ps ≡ expr x.0 ∷ x.1
took_expr [] x e = never e
took_expr (close ∷ ps) x e = never e
took_expr (type τ ∷ ps) x e = never e
took_expr (expr a ∷ ps) x e = let q : (a, ps) ≡ x = Some≡ e in rw (← q)
took_expr (cases cs ∷ ps) x e = never e
took_expr (arms ms ∷ ps) x e = never e
took_expr (an_enum E ∷ ps) x e = never e
took_expr (a_fn fn ∷ ps) x e = never e

pub took_type : (ps : List Piece) (x : Ty × List Piece) → take_type ps ≡ Some x → ps ≡ type x.0 ∷ x.1
took_type [] x e = never e
took_type (close ∷ ps) x e = never e
took_type (type τ ∷ ps) x e = let q : (τ, ps) ≡ x = Some≡ e in rw (← q)
took_type (expr a ∷ ps) x e = never e
took_type (cases cs ∷ ps) x e = never e
took_type (arms ms ∷ ps) x e = never e
took_type (an_enum E ∷ ps) x e = never e
took_type (a_fn fn ∷ ps) x e = never e

pub took_close : (ps qs : List Piece) → take_close ps ≡ Some qs → ps ≡ close ∷ qs
took_close [] x e = never e
took_close (close ∷ ps) x e = rw (← (Some≡ e))
took_close (type τ ∷ ps) x e = never e
took_close (expr a ∷ ps) x e = never e
took_close (cases cs ∷ ps) x e = never e
took_close (arms ms ∷ ps) x e = never e
took_close (an_enum E ∷ ps) x e = never e
took_close (a_fn fn ∷ ps) x e = never e

pub took_cases : (ps : List Piece) (x : List (List Ty) × List Piece) → take_cases ps ≡ Some x → ps ≡ cases x.0 ∷ x.1
took_cases [] x e = never e
took_cases (close ∷ ps) x e = never e
took_cases (type τ ∷ ps) x e = never e
took_cases (expr a ∷ ps) x e = never e
took_cases (cases cs ∷ ps) x e = let q : (cs, ps) ≡ x = Some≡ e in rw (← q)
took_cases (arms ms ∷ ps) x e = never e
took_cases (an_enum E ∷ ps) x e = never e
took_cases (a_fn fn ∷ ps) x e = never e

pub took_arms : (ps : List Piece) (x : Arms × List Piece) → take_arms ps ≡ Some x → ps ≡ arms x.0 ∷ x.1
took_arms [] x e = never e
took_arms (close ∷ ps) x e = never e
took_arms (type τ ∷ ps) x e = never e
took_arms (expr a ∷ ps) x e = never e
took_arms (cases cs ∷ ps) x e = never e
took_arms (arms ms ∷ ps) x e = let q : (ms, ps) ≡ x = Some≡ e in rw (← q)
took_arms (an_enum E ∷ ps) x e = never e
took_arms (a_fn fn ∷ ps) x e = never e

pub took_exprs : (n : ℕ) (ps : List Piece) (x : Exprs × List Piece) → take_exprs n ps ≡ Some x → (n ≡ count x.0) × (ps ≡ exprs x.0 x.1)
took_exprs zero ps x e = let q : (∅, ps) ≡ x = Some≡ e in rw (← q) (refl, refl)
took_exprs (suc n) ps x e =
    let r = through (take_expr ps) _ x e in
    let q = through (take_exprs n r.mid.1) _ x r.gave in
    let s : (r.mid.0 & q.mid.0, q.mid.1) ≡ x = Some≡ q.gave in
    let ih = took_exprs n r.mid.1 q.mid q.got in
    rw (← s) (ap suc ih.0, took_expr ps r.mid r.got ∙ ap (λ (u : List Piece). expr r.mid.0 ∷ u) ih.1)

pub took_types : (n : ℕ) (ps : List Piece) (x : List Ty × List Piece) → take_types n ps ≡ Some x → (n ≡ length x.0) × (ps ≡ types x.0 x.1)
took_types zero ps x e = let q : ◌≡◌ {A = List Ty × List Piece} ([], ps) x = Some≡ e in rw (← q) (refl, refl)
took_types (suc n) ps x e =
    let r = through (take_type ps) _ x e in
    let q = through (take_types n r.mid.1) _ x r.gave in
    let s : (r.mid.0 ∷ q.mid.0, q.mid.1) ≡ x = Some≡ q.gave in
    let ih = took_types n r.mid.1 q.mid q.got in
    rw (← s) (ap suc ih.0, took_type ps r.mid r.got ∙ ap (λ (u : List Piece). type r.mid.0 ∷ u) ih.1)

-- one more, or the CLOSE
pub or_close_lem : {A : Type 0} (a : A) (ps : List Piece) (o : Option (A × List Piece)) (y : A × List Piece) → or_close a ps o ≡ Some y → (o ≡ Some y) ⊎ ((ps ≡ close ∷ y.1) × (a ≡ y.0))
or_close_lem a ps None y e =
    let r = through (take_close ps) _ y e in
    let q : (a, r.mid) ≡ y = Some≡ r.gave in
    inr (rw (← q) (took_close ps r.mid r.got, refl))
or_close_lem a ps (Some z) y e = inl e

fst≡ : {A B : Type 0} {x y : A × B} → x ≡ y → x.0 ≡ y.0
fst≡ {A = A} {B = B} e = ap (λ (u : A × B). u.0) e

snd≡ : {A B : Type 0} {x y : A × B} → x ≡ y → x.1 ≡ y.1
snd≡ {A = A} {B = B} e = ap (λ (u : A × B). u.1) e

under : {a : Piece} {ps qs : List Piece} → ps ≡ qs → a ∷ ps ≡ a ∷ qs
under {a = a} e = ap (λ (u : List Piece). a ∷ u) e

-- one piece is not another
abbrev sort : Piece → ℕ
sort close = 0
sort (type τ) = 1
sort (expr e) = 2
sort (cases cs) = 3
sort (arms ms) = 4
sort (an_enum E) = 5
sort (a_fn fn) = 6

abbrev first_sort : List Piece → ℕ
first_sort [] = 7
first_sort (q ∷ qs) = sort q

pub other_piece : {P : Type 0} {p q : Piece} {ps qs : List Piece} → (sort p ≡ sort q → ⊥) → p ∷ ps ≡ q ∷ qs → P
other_piece d e = absurd (d (ap first_sort e))

same_type : {σ τ : Ty} {ps qs : List Piece} → type σ ∷ ps ≡ type τ ∷ qs → σ ≡ τ
same_type e = cc

same_rest : {p q : Piece} {ps qs : List Piece} → p ∷ ps ≡ q ∷ qs → ps ≡ qs
same_rest e = cc

module _ (t : List ℕ) where
  -- what stands behind a token that spells something
  pub record Behind (p : ℕ) (w : Token) (ws : List Token) (ps : List Piece) : Type 0 where
    pub rest : List Piece
    pub spelt : pieces_of t (suc p) ws ≡ Some rest
    pub joins : joined t p w rest ≡ Some ps

  pub behind : (p : ℕ) (w : Token) (ws : List Token) (ps : List Piece) → pieces_of t p (w ∷ ws) ≡ Some ps → Behind p w ws ps
  behind p w ws ps e = let r = through (pieces_of t (suc p) ws) (joined t p w) ps e in record { rest = r.mid; spelt = r.got; joins = r.gave }

  -- an expression begins with its head
  pub record Headed (p : ℕ) (h : Head) (ws : List Token) (e : Expr) (ps : List Piece) : Type 0 where
    pub rest : List Piece
    pub spelt : pieces_of t (suc p) ws ≡ Some rest
    pub joins : joined_expr t p h rest ≡ Some (e, ps)

  pub headed : (p : ℕ) (h : Head) (ws : List Token) (e : Expr) (ps : List Piece) → pieces_of t p (EXPR h ∷ ws) ≡ Some (expr e ∷ ps) → Headed p h ws e ps
  headed p h ws e ps q =
      let b = behind p (EXPR h) ws _ q in
      let r = through (joined_expr t p h b.rest) _ _ b.joins in
      let s : expr r.mid.0 ∷ r.mid.1 ≡ expr e ∷ ps = Some≡ r.gave in
      let x : r.mid.0 ≡ e = cc in
      let y : r.mid.1 ≡ ps = cc in
      let z : (r.mid.0, r.mid.1) ≡ (e, ps) = cc in
      record { rest = b.rest; spelt = b.spelt; joins = r.got ∙ ap Some z }

  -- no other token begins one
  pub no_expr : {P : Type 0} (p : ℕ) (w : Token) (ws : List Token) (e : Expr) (ps : List Piece) → ((h : Head) → w ≡ EXPR h → ⊥) → pieces_of t p (w ∷ ws) ≡ Some (expr e ∷ ps) → P
  no_expr p CLOSE ws e ps n q = let b = behind p CLOSE ws _ q in other_piece (λ d. omega arith) (Some≡ b.joins)
  no_expr p (ENUM k) ws e ps n q =
      let b = behind p (ENUM k) ws _ q in
      let r = through (take_cases b.rest) _ _ b.joins in other_piece (λ d. omega arith) (Some≡ r.gave)
  no_expr p (CASE m k) ws e ps n q =
      let b = behind p (CASE m k) ws _ q in
      let r = through (take_types m b.rest) _ _ b.joins in
      let s = through (or_close [] r.mid.1 (take_cases r.mid.1)) _ _ r.gave in other_piece (λ d. omega arith) (Some≡ s.gave)
  no_expr p (DEF m k) ws e ps n q =
      let b = behind p (DEF m k) ws _ q in
      let r = through (take_types m b.rest) _ _ b.joins in
      let s = through (take_type r.mid.1) _ _ r.gave in
      let u = through (take_expr s.mid.1) _ _ s.gave in
      let v = through (take_close u.mid.1) _ _ u.gave in other_piece (λ d. omega arith) (Some≡ v.gave)
  no_expr p (TYPE τ) ws e ps n q = let b = behind p (TYPE τ) ws _ q in other_piece (λ d. omega arith) (Some≡ b.joins)
  no_expr p (ARM m x c) ws e ps n q =
      let b = behind p (ARM m x c) ws _ q in
      let r = through (take_expr b.rest) _ _ b.joins in
      let s = through (or_close no_arm r.mid.1 (take_arms r.mid.1)) _ _ r.gave in other_piece (λ d. omega arith) (Some≡ s.gave)
  no_expr p (EXPR h) ws e ps n q = absurd (n h refl)

  -- only a TYPE begins with a type
  pub only_type : (p : ℕ) (w : Token) (ws : List Token) (τ : Ty) (ps : List Piece) → pieces_of t p (w ∷ ws) ≡ Some (type τ ∷ ps) → (w ≡ TYPE τ) × (pieces_of t (suc p) ws ≡ Some ps)
  only_type p CLOSE ws τ ps q = let b = behind p CLOSE ws _ q in other_piece (λ d. omega arith) (Some≡ b.joins)
  only_type p (ENUM k) ws τ ps q =
      let b = behind p (ENUM k) ws _ q in
      let r = through (take_cases b.rest) _ _ b.joins in other_piece (λ d. omega arith) (Some≡ r.gave)
  only_type p (CASE m k) ws τ ps q =
      let b = behind p (CASE m k) ws _ q in
      let r = through (take_types m b.rest) _ _ b.joins in
      let s = through (or_close [] r.mid.1 (take_cases r.mid.1)) _ _ r.gave in other_piece (λ d. omega arith) (Some≡ s.gave)
  only_type p (DEF m k) ws τ ps q =
      let b = behind p (DEF m k) ws _ q in
      let r = through (take_types m b.rest) _ _ b.joins in
      let s = through (take_type r.mid.1) _ _ r.gave in
      let u = through (take_expr s.mid.1) _ _ s.gave in
      let v = through (take_close u.mid.1) _ _ u.gave in other_piece (λ d. omega arith) (Some≡ v.gave)
  only_type p (TYPE υ) ws τ ps q =
      let b = behind p (TYPE υ) ws _ q in
      let s : type υ ∷ b.rest ≡ type τ ∷ ps = Some≡ b.joins in
      let x : υ ≡ τ = same_type s in
      (ap TYPE x, b.spelt ∙ ap Some (same_rest s))
  only_type p (ARM m x c) ws τ ps q =
      let b = behind p (ARM m x c) ws _ q in
      let r = through (take_expr b.rest) _ _ b.joins in
      let s = through (or_close no_arm r.mid.1 (take_arms r.mid.1)) _ _ r.gave in other_piece (λ d. omega arith) (Some≡ s.gave)
  only_type p (EXPR h) ws τ ps q =
      let b = behind p (EXPR h) ws _ q in
      let r = through (joined_expr t p h b.rest) _ _ b.joins in other_piece (λ d. omega arith) (Some≡ r.gave)

  -- each head's parts
  pub of_leaf : (p : ℕ) (l : Leaf) (ws : List Token) (e : Expr) (ps : List Piece) → pieces_of t p (EXPR (LEAF l) ∷ ws) ≡ Some (expr e ∷ ps) → (e ≡ leaf_at t p l) × (pieces_of t (suc p) ws ≡ Some ps)
  of_leaf p l ws e ps q =
      let h = headed p (LEAF l) ws e ps q in
      let v : (leaf_at t p l, h.rest) ≡ (e, ps) = Some≡ h.joins in
      let x : e ≡ leaf_at t p l = sym (fst≡ v) in
      let y : h.rest ≡ ps = snd≡ v in
      (x, h.spelt ∙ ap Some y)

  pub record Two (p : ℕ) (o : Pair) (ws : List Token) (e : Expr) (ps : List Piece) : Type 0 where
    pub a : Expr
    pub b : Expr
    pub is : e ≡ pair_at p o a b
    pub parts : pieces_of t (suc p) ws ≡ Some (expr a ∷ expr b ∷ ps)

  pub of_pair : (p : ℕ) (o : Pair) (ws : List Token) (e : Expr) (ps : List Piece) → pieces_of t p (EXPR (PAIR o) ∷ ws) ≡ Some (expr e ∷ ps) → Two p o ws e ps
  of_pair p o ws e ps q =
      let h = headed p (PAIR o) ws e ps q in
      let r = through (take_expr h.rest) _ _ h.joins in
      let s = through (take_expr r.mid.1) _ _ r.gave in
      let v : (pair_at p o r.mid.0 s.mid.0, s.mid.1) ≡ (e, ps) = Some≡ s.gave in
      let x : e ≡ pair_at p o r.mid.0 s.mid.0 = sym (fst≡ v) in
      let y : s.mid.1 ≡ ps = snd≡ v in
      let c = took_expr h.rest r.mid r.got in
      let d = took_expr r.mid.1 s.mid s.got in
      let z : h.rest ≡ expr r.mid.0 ∷ expr s.mid.0 ∷ ps = c ∙ under (d ∙ under y) in
      record { a = r.mid.0; b = s.mid.0; is = x; parts = h.spelt ∙ ap Some z }

  pub record Three (p : ℕ) (ws : List Token) (e : Expr) (ps : List Piece) : Type 0 where
    pub c : Expr
    pub a : Expr
    pub b : Expr
    pub is : e ≡ If p c a b
    pub parts : pieces_of t (suc p) ws ≡ Some (expr c ∷ expr a ∷ expr b ∷ ps)

  pub of_if : (p : ℕ) (ws : List Token) (e : Expr) (ps : List Piece) → pieces_of t p (EXPR IF ∷ ws) ≡ Some (expr e ∷ ps) → Three p ws e ps
  of_if p ws e ps q =
      let h = headed p IF ws e ps q in
      let r = through (take_expr h.rest) _ _ h.joins in
      let s = through (take_expr r.mid.1) _ _ r.gave in
      let u = through (take_expr s.mid.1) _ _ s.gave in
      let v : (If p r.mid.0 s.mid.0 u.mid.0, u.mid.1) ≡ (e, ps) = Some≡ u.gave in
      let x : e ≡ If p r.mid.0 s.mid.0 u.mid.0 = sym (fst≡ v) in
      let y : u.mid.1 ≡ ps = snd≡ v in
      let c = took_expr h.rest r.mid r.got in
      let d = took_expr r.mid.1 s.mid s.got in
      let f = took_expr s.mid.1 u.mid u.got in
      let z : h.rest ≡ expr r.mid.0 ∷ expr s.mid.0 ∷ expr u.mid.0 ∷ ps = c ∙ under (d ∙ under (f ∙ under y)) in
      record { c = r.mid.0; a = s.mid.0; b = u.mid.0; is = x; parts = h.spelt ∙ ap Some z }

  pub record Chosen (p : ℕ) (ws : List Token) (e : Expr) (ps : List Piece) : Type 0 where
    pub a : Expr
    pub ms : Arms
    pub is : e ≡ Match p a ms
    pub parts : pieces_of t (suc p) ws ≡ Some (expr a ∷ arms ms ∷ ps)

  pub of_match : (p : ℕ) (ws : List Token) (e : Expr) (ps : List Piece) → pieces_of t p (EXPR MATCH ∷ ws) ≡ Some (expr e ∷ ps) → Chosen p ws e ps
  of_match p ws e ps q =
      let h = headed p MATCH ws e ps q in
      let r = through (take_expr h.rest) _ _ h.joins in
      let s = through (take_arms r.mid.1) _ _ r.gave in
      let v : (Match p r.mid.0 s.mid.0, s.mid.1) ≡ (e, ps) = Some≡ s.gave in
      let x : e ≡ Match p r.mid.0 s.mid.0 = sym (fst≡ v) in
      let y : s.mid.1 ≡ ps = snd≡ v in
      let c = took_expr h.rest r.mid r.got in
      let d = took_arms r.mid.1 s.mid s.got in
      let z : h.rest ≡ expr r.mid.0 ∷ arms s.mid.0 ∷ ps = c ∙ under (d ∙ under y) in
      record { a = r.mid.0; ms = s.mid.0; is = x; parts = h.spelt ∙ ap Some z }

  pub record Left (p : ℕ) (ws : List Token) (e : Expr) (ps : List Piece) : Type 0 where
    pub τ : Ty
    pub a : Expr
    pub is : e ≡ Exit p τ a
    pub parts : pieces_of t (suc p) ws ≡ Some (type τ ∷ expr a ∷ ps)

  pub of_exit : (p : ℕ) (ws : List Token) (e : Expr) (ps : List Piece) → pieces_of t p (EXPR EXIT ∷ ws) ≡ Some (expr e ∷ ps) → Left p ws e ps
  of_exit p ws e ps q =
      let h = headed p EXIT ws e ps q in
      let r = through (take_type h.rest) _ _ h.joins in
      let s = through (take_expr r.mid.1) _ _ r.gave in
      let v : (Exit p r.mid.0 s.mid.0, s.mid.1) ≡ (e, ps) = Some≡ s.gave in
      let x : e ≡ Exit p r.mid.0 s.mid.0 = sym (fst≡ v) in
      let y : s.mid.1 ≡ ps = snd≡ v in
      let c = took_type h.rest r.mid r.got in
      let d = took_expr r.mid.1 s.mid s.got in
      let z : h.rest ≡ type r.mid.0 ∷ expr s.mid.0 ∷ ps = c ∙ under (d ∙ under y) in
      record { τ = r.mid.0; a = s.mid.0; is = x; parts = h.spelt ∙ ap Some z }

  pub record Listed (p n : ℕ) (m : Many) (ws : List Token) (e : Expr) (ps : List Piece) : Type 0 where
    pub es : Exprs
    pub is : e ≡ many_at p m es
    pub counted : n ≡ count es
    pub parts : pieces_of t (suc p) ws ≡ Some (exprs es ps)

  pub of_many : (p n : ℕ) (m : Many) (ws : List Token) (e : Expr) (ps : List Piece) → pieces_of t p (EXPR (MANY n m) ∷ ws) ≡ Some (expr e ∷ ps) → Listed p n m ws e ps
  of_many p n m ws e ps q =
      let h = headed p (MANY n m) ws e ps q in
      let r = through (take_exprs n h.rest) _ _ h.joins in
      let v : (many_at p m r.mid.0, r.mid.1) ≡ (e, ps) = Some≡ r.gave in
      let x : e ≡ many_at p m r.mid.0 = sym (fst≡ v) in
      let y : r.mid.1 ≡ ps = snd≡ v in
      let c = took_exprs n h.rest r.mid r.got in
      let z : h.rest ≡ exprs r.mid.0 ps = c.1 ∙ ap (exprs r.mid.0) y in
      record { es = r.mid.0; is = x; counted = c.0; parts = h.spelt ∙ ap Some z }

  -- the arms from a place, and what stands behind their CLOSE; no arm is left at the CLOSE itself
  abbrev pub arms_from : ℕ → List Token → Option (Arms × List Piece)
  arms_from p ws = pieces_of t p ws ▸ λ qs. or_close no_arm qs (take_arms qs)

  pub arms_first : (p : ℕ) (ws : List Token) (ms : Arms) (ps : List Piece) → pieces_of t p ws ≡ Some (arms ms ∷ ps) → arms_from p ws ≡ Some (ms, ps)
  arms_first p ws ms ps e = ap (λ (o : Option (List Piece)). o ▸ λ qs. or_close no_arm qs (take_arms qs)) e

  pub record Armed (p n x c : ℕ) (ws : List Token) (ms : Arms) (ps : List Piece) : Type 0 where
    pub e : Expr
    pub more : Arms
    pub next : List Piece
    pub is : ms ≡ arm p c n x e more
    pub part : pieces_of t (suc p) ws ≡ Some (expr e ∷ next)
    pub rest : or_close no_arm next (take_arms next) ≡ Some (more, ps)

  pub of_arm : (p n x c : ℕ) (ws : List Token) (ms : Arms) (ps : List Piece) → arms_from p (ARM n x c ∷ ws) ≡ Some (ms, ps) → Armed p n x c ws ms ps
  of_arm p n x c ws ms ps q =
      let o = through (pieces_of t p (ARM n x c ∷ ws)) _ _ q in
      let b = behind p (ARM n x c) ws o.mid o.got in
      let r = through (take_expr b.rest) _ _ b.joins in
      let s = through (or_close no_arm r.mid.1 (take_arms r.mid.1)) _ _ r.gave in
      let v : arms (arm p c n x r.mid.0 s.mid.0) ∷ s.mid.1 ≡ o.mid = Some≡ s.gave in
      let w : or_close no_arm o.mid (take_arms o.mid) ≡ Some (ms, ps) = o.gave in
      let u : Some (arm p c n x r.mid.0 s.mid.0, s.mid.1) ≡ Some (ms, ps) = ap (λ (qs : List Piece). or_close no_arm qs (take_arms qs)) v ∙ w in
      let k : (arm p c n x r.mid.0 s.mid.0, s.mid.1) ≡ (ms, ps) = Some≡ u in
      let y : s.mid.1 ≡ ps = snd≡ k in
      let i : ms ≡ arm p c n x r.mid.0 s.mid.0 = sym (fst≡ k) in
      let d = took_expr b.rest r.mid r.got in
      let z : (s.mid.0, s.mid.1) ≡ (s.mid.0, ps) = ap (λ (u : List Piece). (s.mid.0, u)) y in
      record { e = r.mid.0; more = s.mid.0; next = r.mid.1; is = i; part = b.spelt ∙ ap Some d; rest = s.got ∙ ap Some z }

  pub of_no_arm : (p : ℕ) (ws : List Token) (ms : Arms) (ps : List Piece) → arms_from p (CLOSE ∷ ws) ≡ Some (ms, ps) → (ms ≡ no_arm) × (pieces_of t (suc p) ws ≡ Some ps)
  of_no_arm p ws ms ps q =
      let o = through (pieces_of t p (CLOSE ∷ ws)) _ _ q in
      let b = behind p CLOSE ws o.mid o.got in
      let v : close ∷ b.rest ≡ o.mid = Some≡ b.joins in
      let u : Some (no_arm, b.rest) ≡ Some (ms, ps) = ap (λ (qs : List Piece). or_close no_arm qs (take_arms qs)) v ∙ o.gave in
      let k : (no_arm, b.rest) ≡ (ms, ps) = Some≡ u in
      let i : ms ≡ no_arm = sym (fst≡ k) in
      let y : b.rest ≡ ps = snd≡ k in
      (i, b.spelt ∙ ap Some y)

  -- arms begin with an ARM, and none are left at a CLOSE
  pub data ArmsToken : Token → Type 0 where
    is_close_lem : ArmsToken CLOSE
    is_arm : (n x c : ℕ) → ArmsToken (ARM n x c)

  barred : {P : Type 0} {qs : List Piece} {z : Arms × List Piece} (q : Piece) (rs : List Piece) → q ∷ rs ≡ qs → or_close no_arm qs (take_arms qs) ≡ Some z → (or_close no_arm (q ∷ rs) (take_arms (q ∷ rs)) ≡ Some z → P) → P
  barred {z = z} q rs e g f = f (ap (λ (us : List Piece). or_close no_arm us (take_arms us)) e ∙ g)

  pub arms_token : (p : ℕ) (w : Token) (ws : List Token) (ms : Arms) (ps : List Piece) → arms_from p (w ∷ ws) ≡ Some (ms, ps) → ArmsToken w
  arms_token p CLOSE ws ms ps q = is_close_lem
  arms_token p (ENUM k) ws ms ps q =
      let o = through (pieces_of t p (ENUM k ∷ ws)) _ _ q in
      let b = behind p (ENUM k) ws o.mid o.got in
      let r = through (take_cases b.rest) _ _ b.joins in barred _ _ (Some≡ r.gave) o.gave never
  arms_token p (CASE m k) ws ms ps q =
      let o = through (pieces_of t p (CASE m k ∷ ws)) _ _ q in
      let b = behind p (CASE m k) ws o.mid o.got in
      let r = through (take_types m b.rest) _ _ b.joins in
      let s = through (or_close [] r.mid.1 (take_cases r.mid.1)) _ _ r.gave in barred _ _ (Some≡ s.gave) o.gave never
  arms_token p (DEF m k) ws ms ps q =
      let o = through (pieces_of t p (DEF m k ∷ ws)) _ _ q in
      let b = behind p (DEF m k) ws o.mid o.got in
      let r = through (take_types m b.rest) _ _ b.joins in
      let s = through (take_type r.mid.1) _ _ r.gave in
      let u = through (take_expr s.mid.1) _ _ s.gave in
      let v = through (take_close u.mid.1) _ _ u.gave in barred _ _ (Some≡ v.gave) o.gave never
  arms_token p (TYPE τ) ws ms ps q =
      let o = through (pieces_of t p (TYPE τ ∷ ws)) _ _ q in
      let b = behind p (TYPE τ) ws o.mid o.got in barred _ _ (Some≡ b.joins) o.gave never
  arms_token p (ARM n x c) ws ms ps q = is_arm n x c
  arms_token p (EXPR h) ws ms ps q =
      let o = through (pieces_of t p (EXPR h ∷ ws)) _ _ q in
      let b = behind p (EXPR h) ws o.mid o.got in
      let r = through (joined_expr t p h b.rest) _ _ b.joins in barred _ _ (Some≡ r.gave) o.gave never

  -- what is spelt as arms has one
  pub some_arm : (p : ℕ) (ws : List Token) (ms : Arms) (ps : List Piece) → pieces_of t p ws ≡ Some (arms ms ∷ ps) → ms ≡ no_arm → ⊥
  some_arm p [] ms ps q n = let z : ◌≡◌ {A = List Piece} [] (arms ms ∷ ps) = Some≡ q in let y : ◌≡◌ {A = ℕ} 0 1 = cc in omega arith
  some_arm p (w ∷ ws) ms ps q n = go (arms_token p w ws ms ps (arms_first p (w ∷ ws) ms ps q)) q
    where
      go : {v : Token} → ArmsToken v → pieces_of t p (v ∷ ws) ≡ Some (arms ms ∷ ps) → ⊥
      go is_close_lem e = let b = behind p CLOSE ws _ e in other_piece (λ d. omega arith) (Some≡ b.joins)
      go (is_arm i x c) e =
          let y = of_arm p i x c ws ms ps (arms_first p (ARM i x c ∷ ws) ms ps e) in
          let r : no_arm ≡ arm p c i x y.e y.more = sym n ∙ y.is in
          cc
