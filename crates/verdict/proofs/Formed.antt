-- What form sees to, all through a card that is spelt.
use Rattle.std.proofs.Common.{◌≡◌, ℕ, zero, suc, Bool, true, false, cond, List, [], ◌∷◌, Some, None, sym, refl, subst, arith, length-take}
use Rattle.battery.specs.declared.Ty.{Ty}
use Rattle.battery.specs.Tree.{Expr, Exprs, ∅, ◌&◌, Arms, no_arm, arm, at, Fn, Card}
use Rattle.table.specs.declared.token.Token.{Token}
use Rattle.table.specs.declared.token.Token.TheVariants.{Close as CLOSE, Enum as ENUM, Case as CASE, Def as DEF, Ty as TYPE, Arm as ARM, Expr as EXPR}
use Rattle.table.specs.declared.token.Head.{Head}
use Rattle.table.specs.declared.token.Head.TheVariants.{Leaf as LEAF, Pair as PAIR, If as IF, Match as MATCH, Exit as EXIT, Many as MANY}
use Rattle.table.specs.declared.token.Leaf.{Leaf}
use Rattle.table.specs.declared.token.Leaf.TheVariants.{Unit as UNIT, Number as NUM, Boolean as BOOL, Text as STR, Local as LOCAL}
use Rattle.table.specs.declared.token.Pair.{Pair}
use Rattle.table.specs.declared.token.Pair.TheVariants.{Calc as CALC, Concat as CONCAT, Eq as EQ, Lt as LT, Seq as SEQ, Val as VAL}
use Rattle.table.specs.declared.token.Many.{Many}
use Rattle.table.specs.declared.token.Many.TheVariants.{Call as CALL, Make as MAKE}
use Rattle.image.specs.Bytes.{records_of, text_of}
use Rattle.grammar.specs.Grammar.{Piece, close, type, expr, cases, arms, an_enum, a_fn, leaf_at, pair_at, many_at, types, exprs, Spells, s_end, s_close, s_type, s_leaf, s_pair, s_if, s_many, s_match, s_last_arm, s_arm, s_exit, s_last_case, s_case, s_enum, s_def, Items, no_item, enum_item, fn_item}
use Rattle.numbering.specs.Numbering.{type_there}
use Rattle.verdict.specs.Formed.{all_there, Formed, FormedAll, FormedArms, FormedFn, FormedCard}
use Rattle.numbering.specs.Numbering.{Seen, seen, none_seen, many_there, numbered, misnumbered}
use Rattle.numbering.specs.Limits.{LimitedLeaf as InLeaf, LimitedHead as InHead, Limited as InToken, AllLimited as InTokens}
use Rattle.numbering.proofs.Limits.{all_limited as tokens_in_lem}
use Rattle.verdict.specs.Verdict.{Form}
use Rattle.numbering.proofs.Options.{Some≡, never}

-- tokens that name what the card has
module _ (C : Card) where
  abbrev NamedHead : Head → Type 0
  NamedHead (LEAF l) = InLeaf l
  NamedHead (PAIR o) = Unit {0}
  NamedHead IF = Unit {0}
  NamedHead MATCH = Unit {0}
  NamedHead EXIT = Unit {0}
  NamedHead (MANY n m) = many_there C m ≡ true

  abbrev Named : Token → Type 0
  Named CLOSE = Unit {0}
  Named (ENUM k) = Unit {0}
  Named (CASE n k) = Unit {0}
  Named (DEF n k) = Unit {0}
  Named (TYPE τ) = type_there C τ ≡ true
  Named (ARM n x c) = Unit {0}
  Named (EXPR h) = NamedHead h

  abbrev AllNamed : List Token → Type 0
  AllNamed [] = Unit {0}
  AllNamed (w ∷ ws) = Named w × AllNamed ws

  head_named : (t : ℕ) (s : Seen) (h : Head) → InHead h → numbered C t s (EXPR h) ≡ true → NamedHead h
  head_named t s (LEAF l) i e = i
  head_named t s (PAIR o) i e = tt
  head_named t s IF i e = tt
  head_named t s MATCH i e = tt
  head_named t s EXIT i e = tt
  head_named t s (MANY n m) i e = e

  token_named : (t : ℕ) (s : Seen) (w : Token) → InToken w → numbered C t s w ≡ true → Named w
  token_named t s CLOSE i e = tt
  token_named t s (ENUM k) i e = tt
  token_named t s (CASE n k) i e = tt
  token_named t s (DEF n k) i e = tt
  token_named t s (TYPE τ) i e = e
  token_named t s (ARM n x c) i e = tt
  token_named t s (EXPR h) i e = head_named t s h i e

  all_named : (t p : ℕ) (s : Seen) (ws : List Token) → InTokens ws → misnumbered C t p s ws ≡ None → AllNamed ws
  all_named t p s [] i e = tt
  all_named t p s (w ∷ ws) i e = go (numbered C t s w) refl e (all_named t (suc p) (seen s w) ws i.1)
    where
      go : (b : Bool) → numbered C t s w ≡ b → cond b (misnumbered C t (suc p) (seen s w) ws) (Some p) ≡ None → (misnumbered C t (suc p) (seen s w) ws ≡ None → AllNamed ws) → AllNamed (w ∷ ws)
      go true q e r = (token_named t s w i.0 q, r e)
      go false q e r = never (sym e)

  abbrev AllCases : List (List Ty) → Type 0
  AllCases [] = Unit {0}
  AllCases (τs ∷ cs) = all_there C τs × AllCases cs

  abbrev InPiece : Piece → Type 0
  InPiece close = Unit {0}
  InPiece (type τ) = type_there C τ ≡ true
  InPiece (expr e) = Formed C e
  InPiece (cases cs) = AllCases cs
  InPiece (arms ms) = FormedArms C ms × ¬ (ms ≡ no_arm)
  InPiece (an_enum E) = AllCases E
  InPiece (a_fn fn) = FormedFn C fn

  abbrev InPieces : List Piece → Type 0
  InPieces [] = Unit {0}
  InPieces (p ∷ ps) = InPiece p × InPieces ps

  in_leaf : (t : List ℕ) (p : ℕ) (l : Leaf) → InLeaf l → Formed C (leaf_at t p l)
  in_leaf t p UNIT h = tt
  in_leaf t p (NUM k) h = h
  in_leaf t p (BOOL b) h = tt
  in_leaf t p (STR b n) h = simp length-take (omega arith)
  in_leaf t p (LOCAL x) h = tt

  in_pair : (p : ℕ) (o : Pair) (a b : Expr) → Formed C a → Formed C b → Formed C (pair_at p o a b)
  in_pair p (CALC o) a b h k = (h, k)
  in_pair p CONCAT a b h k = (h, k)
  in_pair p EQ a b h k = (h, k)
  in_pair p LT a b h k = (h, k)
  in_pair p SEQ a b h k = (h, k)
  in_pair p (VAL x) a b h k = (h, k)

  in_many : (p : ℕ) (m : Many) (es : Exprs) → many_there C m ≡ true → FormedAll C es → Formed C (many_at p m es)
  in_many p (CALL f) es n h = (n, h)
  in_many p (MAKE k c) es n h = (n, h)

  in_exprs : (es : Exprs) (ps : List Piece) → InPieces (exprs es ps) → FormedAll C es × InPieces ps
  in_exprs ∅ ps h = (tt, h)
  in_exprs (e & es) ps h = let r = in_exprs es ps h.1 in ((h.0, r.0), r.1)

  in_types : (τs : List Ty) (ps : List Piece) → InPieces (types τs ps) → all_there C τs × InPieces ps
  in_types [] ps h = (tt, h)
  in_types (τ ∷ τs) ps h = let r = in_types τs ps h.1 in ((h.0, r.0), r.1)

  an_arm : {p c n x : ℕ} {e : Expr} {ms : Arms} → ¬ (arm p c n x e ms ≡ no_arm)
  an_arm q = let z : ◌≡◌ {A = ℕ} 0 1 = cc in absurd (omega arith)

  formed : {t : List ℕ} {p : ℕ} {ws : List Token} {ps : List Piece} → Spells t p ws ps → AllNamed ws → InPieces ps
  formed s_end g = tt
  formed (s_close h) g = (tt, formed h g.1)
  formed (s_type h) g = (g.0, formed h g.1)
  formed {t = t} (s_leaf {p = p} {l = l} h) g = (in_leaf t p l g.0, formed h g.1)
  formed (s_pair {p = p} {o = o} {a = a} {b = b} h) g = let r = formed h g.1 in (in_pair p o a b r.0 r.1.0, r.1.1)
  formed (s_if h) g = let r = formed h g.1 in ((r.0, r.1.0, r.1.1.0), r.1.1.1)
  formed (s_many {p = p} {ps = ps} {m = m} es n h) g = let r = in_exprs es ps (formed h g.1) in (in_many p m es g.0 r.0, r.1)
  formed (s_match h) g = let r = formed h g.1 in ((r.0, r.1.0.0, r.1.0.1), r.1.1)
  formed (s_last_arm h) g = let r = formed h g.1 in (((r.0, tt), an_arm), r.1.1)
  formed (s_arm h) g = let r = formed h g.1 in (((r.0, r.1.0.0), an_arm), r.1.1)
  formed (s_exit h) g = let r = formed h g.1 in ((r.0, r.1.0), r.1.1)
  formed (s_last_case {τs = τs} n h) g = let r = in_types τs _ (formed h g.1) in ((r.0, tt), r.1.1)
  formed (s_case {τs = τs} n h) g = let r = in_types τs _ (formed h g.1) in ((r.0, r.1.0), r.1.1)
  formed (s_enum h) g = formed h g.1
  formed (s_def {τs = τs} n h) g = let r = in_types τs _ (formed h g.1) in (record { params = r.0; result = r.1.0; body = r.1.1.0 }, r.1.1.1.1)

  -- the items' cases and functions, by number
  items_enums : {ps : List Piece} {D : Card} → Items ps D → InPieces ps → (k : ℕ) (E : List (List Ty)) → at D.enums k ≡ Some E → AllCases E
  items_enums no_item g k E e = never e
  items_enums (enum_item i) g zero E e = subst AllCases (Some≡ e) g.0
  items_enums (enum_item i) g (suc k) E e = items_enums i g.1 k E e
  items_enums (fn_item i) g k E e = items_enums i g.1 k E e

  items_fns : {ps : List Piece} {D : Card} → Items ps D → InPieces ps → (f : ℕ) (fn : Fn) → at D.fns f ≡ Some fn → FormedFn C fn
  items_fns no_item g f fn e = never e
  items_fns (enum_item i) g f fn e = items_fns i g.1 f fn e
  items_fns (fn_item i) g zero fn e = subst (FormedFn C) (Some≡ e) g.0
  items_fns (fn_item i) g (suc f) fn e = items_fns i g.1 f fn e

  case_there : (E : List (List Ty)) → AllCases E → (c : ℕ) (τs : List Ty) → at E c ≡ Some τs → all_there C τs
  case_there [] g c τs e = never e
  case_there (υs ∷ E) g zero τs e = subst (all_there C) (Some≡ e) g.0
  case_there (υs ∷ E) g (suc c) τs e = case_there E g.1 c τs e

pub card_formed : (image : List ℕ) (C : Card) → Form image C → FormedCard C
card_formed image C f =
    let g = formed C f.spelt.spells (all_named C (text_of image) 0 none_seen f.tokens (tokens_in_lem (records_of image) f.tokens f.known) f.in_order) in
    record { fields = λ k E e. case_there C E (items_enums C f.spelt.items g k E e); functions = items_fns C f.spelt.items g }
