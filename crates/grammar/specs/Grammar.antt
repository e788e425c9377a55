-- Which tokens spell which card, the reader, and which token cannot follow.
use Rattle.std.specs.Prelude.{◌≡◌, ℕ, zero, suc, ◌+◌, ◌<◌, ◌≤◌, Bool, true, false, cond, List, [], ◌∷◌, ◌++◌, length, take, drop, Some, None, Option}
use Rattle.battery.specs.declared.Ty.{Ty}
use Rattle.battery.specs.Tree.{Expr, Unit', Num, Bool', Str, Local, Calc, Concat, Eq, Lt, Seq, If, Val, Call, Make, Match, Exit, Exprs, ∅, ◌&◌, Arms, no_arm, arm, Fn, Card, ◌▸◌}
use Rattle.table.specs.declared.token.Token.{Token}
use Rattle.table.specs.declared.token.Token.TheVariants.{Close as CLOSE, Enum as ENUM, Case as CASE, Def as DEF, Ty as TYPE, Arm as ARM, Expr as EXPR}
use Rattle.table.specs.declared.token.Head.{Head}
use Rattle.table.specs.declared.token.Head.TheVariants.{Leaf as LEAF, Pair as PAIR, If as IF, Match as MATCH, Exit as EXIT, Many as MANY}
use Rattle.table.specs.declared.token.Leaf.{Leaf}
use Rattle.table.specs.declared.token.Leaf.TheVariants.{Unit as UNIT, Number as NUM, Boolean as BOOL, Text as STR, Local as LOCAL}
use Rattle.table.specs.declared.token.Pair.{Pair}
use Rattle.table.specs.declared.token.Pair.TheVariants.{Calc as CALC, Concat as CONCAT, Eq as EQ, Lt as LT, Seq as SEQ, Val as VAL}
use Rattle.table.specs.declared.token.Many.{Many}
use Rattle.table.specs.declared.token.Many.TheVariants.{Call as CALL, Make as MAKE}

-- what tokens spell, one after the other; cases and arms are one or more, with the CLOSE behind them
pub data Piece : Type 0 where
  close : Piece
  type : Ty → Piece
  expr : Expr → Piece
  cases : List (List Ty) → Piece
  arms : Arms → Piece
  an_enum : List (List Ty) → Piece
  a_fn : Fn → Piece

abbrev pub leaf_at : List ℕ → ℕ → Leaf → Expr
leaf_at t p UNIT = Unit' p
leaf_at t p (NUM k) = Num p k
leaf_at t p (BOOL b) = Bool' p b
leaf_at t p (STR b n) = Str p (take n (drop b t))
leaf_at t p (LOCAL x) = Local p x

abbrev pub pair_at : ℕ → Pair → Expr → Expr → Expr
pair_at p (CALC o) a b = Calc p o a b
pair_at p CONCAT a b = Concat p a b
pair_at p EQ a b = Eq p a b
pair_at p LT a b = Lt p a b
pair_at p SEQ a b = Seq p a b
pair_at p (VAL x) a b = Val p x a b

abbrev pub many_at : ℕ → Many → Exprs → Expr
many_at p (CALL f) es = Call p f es
many_at p (MAKE k c) es = Make p k c es

-- types, or expressions, and then other pieces
abbrev pub types : List Ty → List Piece → List Piece
types [] ps = ps
types (τ ∷ τs) ps = type τ ∷ types τs ps

abbrev pub exprs : Exprs → List Piece → List Piece
exprs ∅ ps = ps
exprs (e & es) ps = expr e ∷ exprs es ps

abbrev pub count : Exprs → ℕ
count ∅ = zero
count (e & es) = suc (count es)

abbrev pub fn_at : ℕ → List Ty → Ty → Expr → Fn
fn_at p τs τ e = record { opened = p; params = τs; result = τ; body = e }

-- the tokens from place p on spell these pieces: the table's column "Followed by", over text bytes t
pub data Spells (t : List ℕ) : ℕ → List Token → List Piece → Type 0 where
  s_end : {p : _} → Spells t p [] []
  s_close : {p ws ps : _} → Spells t (suc p) ws ps → Spells t p (CLOSE ∷ ws) (close ∷ ps)
  s_type : {p ws ps τ : _} → Spells t (suc p) ws ps → Spells t p (TYPE τ ∷ ws) (type τ ∷ ps)
  s_leaf : {p ws ps l : _} → Spells t (suc p) ws ps → Spells t p (EXPR (LEAF l) ∷ ws) (expr (leaf_at t p l) ∷ ps)
  s_pair : {p ws ps o a b : _} → Spells t (suc p) ws (expr a ∷ expr b ∷ ps) → Spells t p (EXPR (PAIR o) ∷ ws) (expr (pair_at p o a b) ∷ ps)
  s_if : {p ws ps c a b : _} → Spells t (suc p) ws (expr c ∷ expr a ∷ expr b ∷ ps) → Spells t p (EXPR IF ∷ ws) (expr (If p c a b) ∷ ps)
  s_many : {p ws ps n m : _} (es : Exprs) → n ≡ count es → Spells t (suc p) ws (exprs es ps) → Spells t p (EXPR (MANY n m) ∷ ws) (expr (many_at p m es) ∷ ps)
  s_match : {p ws ps a ms : _} → Spells t (suc p) ws (expr a ∷ arms ms ∷ ps) → Spells t p (EXPR MATCH ∷ ws) (expr (Match p a ms) ∷ ps)
  s_last_arm : {p ws ps n x c e : _} → Spells t (suc p) ws (expr e ∷ close ∷ ps) → Spells t p (ARM n x c ∷ ws) (arms (arm p c n x e no_arm) ∷ ps)
  s_arm : {p ws ps n x c e ms : _} → Spells t (suc p) ws (expr e ∷ arms ms ∷ ps) → Spells t p (ARM n x c ∷ ws) (arms (arm p c n x e ms) ∷ ps)
  s_exit : {p ws ps τ a : _} → Spells t (suc p) ws (type τ ∷ expr a ∷ ps) → Spells t p (EXPR EXIT ∷ ws) (expr (Exit p τ a) ∷ ps)
  s_last_case : {p ws ps n k τs : _} → n ≡ length τs → Spells t (suc p) ws (types τs (close ∷ ps)) → Spells t p (CASE n k ∷ ws) (cases (τs ∷ []) ∷ ps)
  s_case : {p ws ps n k τs cs : _} → n ≡ length τs → Spells t (suc p) ws (types τs (cases cs ∷ ps)) → Spells t p (CASE n k ∷ ws) (cases (τs ∷ cs) ∷ ps)
  s_enum : {p ws ps k cs : _} → Spells t (suc p) ws (cases cs ∷ ps) → Spells t p (ENUM k ∷ ws) (an_enum cs ∷ ps)
  s_def : {p ws ps n k τs τ e : _}
      → n ≡ length τs → Spells t (suc p) ws (types τs (type τ ∷ expr e ∷ close ∷ ps)) → Spells t p (DEF n k ∷ ws) (a_fn (fn_at p τs τ e) ∷ ps)

abbrev pub with_enum : List (List Ty) → Card → Card
with_enum E C = record { enums = E ∷ C.enums; fns = C.fns }

abbrev pub with_fn : Fn → Card → Card
with_fn fn C = record { enums = C.enums; fns = fn ∷ C.fns }

-- pieces that are ENUMs and DEFs alone make a card
pub data Items : List Piece → Card → Type 0 where
  no_item : Items [] (record { enums = []; fns = [] })
  enum_item : {ps E C : _} → Items ps C → Items (an_enum E ∷ ps) (with_enum E C)
  fn_item : {ps fn C : _} → Items ps C → Items (a_fn fn ∷ ps) (with_fn fn C)

-- one or more tokens spell a card
pub record Spelt (t : List ℕ) (ws : List Token) (C : Card) : Type 0 where
  pub pieces : List Piece
  pub spells : Spells t 0 ws pieces
  pub items : Items pieces C
  pub one_or_more : 0 < length ws

-- The reader, from the last token to the first: each token takes its parts from the pieces behind it.
abbrev pub take_expr : List Piece → Option (Expr × List Piece)
take_expr [] = None
take_expr (close ∷ ps) = None
take_expr (type τ ∷ ps) = None
take_expr (expr e ∷ ps) = Some (e, ps)
take_expr (cases cs ∷ ps) = None
take_expr (arms ms ∷ ps) = None
take_expr (an_enum E ∷ ps) = None
take_expr (a_fn fn ∷ ps) = None

abbrev pub take_type : List Piece → Option (Ty × List Piece)
take_type [] = None
take_type (close ∷ ps) = None
take_type (type τ ∷ ps) = Some (τ, ps)
take_type (expr e ∷ ps) = None
take_type (cases cs ∷ ps) = None
take_type (arms ms ∷ ps) = None
take_type (an_enum E ∷ ps) = None
take_type (a_fn fn ∷ ps) = None

abbrev pub take_close : List Piece → Option (List Piece)
take_close [] = None
take_close (close ∷ ps) = Some ps
take_close (type τ ∷ ps) = None
take_close (expr e ∷ ps) = None
take_close (cases cs ∷ ps) = None
take_close (arms ms ∷ ps) = None
take_close (an_enum E ∷ ps) = None
take_close (a_fn fn ∷ ps) = None

abbrev pub take_cases : List Piece → Option (List (List Ty) × List Piece)
take_cases [] = None
take_cases (close ∷ ps) = None
take_cases (type τ ∷ ps) = None
take_cases (expr e ∷ ps) = None
take_cases (cases cs ∷ ps) = Some (cs, ps)
take_cases (arms ms ∷ ps) = None
take_cases (an_enum E ∷ ps) = None
take_cases (a_fn fn ∷ ps) = None

abbrev pub take_arms : List Piece → Option (Arms × List Piece)
take_arms [] = None
take_arms (close ∷ ps) = None
take_arms (type τ ∷ ps) = None
take_arms (expr e ∷ ps) = None
take_arms (cases cs ∷ ps) = None
take_arms (arms ms ∷ ps) = Some (ms, ps)
take_arms (an_enum E ∷ ps) = None
take_arms (a_fn fn ∷ ps) = None

-- a CLOSE ends what may have no more
abbrev pub or_close : {A : Type 0} → A → List Piece → Option (A × List Piece) → Option (A × List Piece)
or_close a ps None = take_close ps ▸ λ qs. Some (a, qs)
or_close a ps (Some r) = Some r

abbrev pub take_exprs : ℕ → List Piece → Option (Exprs × List Piece)
take_exprs zero ps = Some (∅, ps)
take_exprs (suc n) ps = take_expr ps ▸ λ x. take_exprs n x.1 ▸ λ y. Some (x.0 & y.0, y.1)

abbrev pub take_types : ℕ → List Piece → Option (List Ty × List Piece)
take_types zero ps = Some ([], ps)
take_types (suc n) ps = take_type ps ▸ λ x. take_types n x.1 ▸ λ y. Some (x.0 ∷ y.0, y.1)

abbrev pub joined_expr : List ℕ → ℕ → Head → List Piece → Option (Expr × List Piece)
joined_expr t p (LEAF l) ps = Some (leaf_at t p l, ps)
joined_expr t p (PAIR o) ps = take_expr ps ▸ λ x. take_expr x.1 ▸ λ y. Some (pair_at p o x.0 y.0, y.1)
joined_expr t p IF ps = take_expr ps ▸ λ x. take_expr x.1 ▸ λ y. take_expr y.1 ▸ λ z. Some (If p x.0 y.0 z.0, z.1)
joined_expr t p MATCH ps = take_expr ps ▸ λ x. take_arms x.1 ▸ λ y. Some (Match p x.0 y.0, y.1)
joined_expr t p EXIT ps = take_type ps ▸ λ x. take_expr x.1 ▸ λ y. Some (Exit p x.0 y.0, y.1)
joined_expr t p (MANY n m) ps = take_exprs n ps ▸ λ x. Some (many_at p m x.0, x.1)

abbrev pub joined : List ℕ → ℕ → Token → List Piece → Option (List Piece)
joined t p CLOSE ps = Some (close ∷ ps)
joined t p (ENUM k) ps = take_cases ps ▸ λ x. Some (an_enum x.0 ∷ x.1)
joined t p (CASE n k) ps = take_types n ps ▸ λ x. or_close [] x.1 (take_cases x.1) ▸ λ y. Some (cases (x.0 ∷ y.0) ∷ y.1)
joined t p (DEF n k) ps =
    take_types n ps ▸ λ x. take_type x.1 ▸ λ y. take_expr y.1 ▸ λ z. take_close z.1 ▸ λ qs. Some (a_fn (fn_at p x.0 y.0 z.0) ∷ qs)
joined t p (TYPE τ) ps = Some (type τ ∷ ps)
joined t p (ARM n x c) ps = take_expr ps ▸ λ e. or_close no_arm e.1 (take_arms e.1) ▸ λ y. Some (arms (arm p c n x e.0 y.0) ∷ y.1)
joined t p (EXPR h) ps = joined_expr t p h ps ▸ λ x. Some (expr x.0 ∷ x.1)

abbrev pub pieces_of : List ℕ → ℕ → List Token → Option (List Piece)
pieces_of t p [] = Some []
pieces_of t p (w ∷ ws) = pieces_of t (suc p) ws ▸ joined t p w

abbrev pub items_of : List Piece → Option Card
items_of [] = Some (record { enums = []; fns = [] })
items_of (close ∷ ps) = None
items_of (type τ ∷ ps) = None
items_of (expr e ∷ ps) = None
items_of (cases cs ∷ ps) = None
items_of (arms ms ∷ ps) = None
items_of (an_enum E ∷ ps) = items_of ps ▸ λ C. Some (with_enum E C)
items_of (a_fn fn ∷ ps) = items_of ps ▸ λ C. Some (with_fn fn C)

abbrev pub card_of : List ℕ → List Token → Option Card
card_of t [] = None
card_of t (w ∷ ws) = pieces_of t 0 (w ∷ ws) ▸ items_of

-- What must still come, the next first; what a group's CLOSE ends is named by its opening record.
pub data Want : Type 0 where
  want_type want_expr : Want
  want_close : ℕ → Want
  want_cases want_arms : ℕ → Bool → Want

abbrev pub expecting : {A : Type 0} → ℕ → A → List A → List A
expecting zero a as' = as'
expecting (suc n) a as' = a ∷ expecting n a as'

-- what a token puts in the place of the first that is wanted, if it can follow
abbrev pub as_item : ℕ → Token → Option (List Want)
as_item p CLOSE = None
as_item p (ENUM k) = Some (want_cases p false ∷ [])
as_item p (CASE n k) = None
as_item p (DEF n k) = Some (expecting n want_type (want_type ∷ want_expr ∷ want_close p ∷ []))
as_item p (TYPE τ) = None
as_item p (ARM n x c) = None
as_item p (EXPR h) = None

abbrev pub as_type : List Want → Token → Option (List Want)
as_type K CLOSE = None
as_type K (ENUM k) = None
as_type K (CASE n k) = None
as_type K (DEF n k) = None
as_type K (TYPE τ) = Some K
as_type K (ARM n x c) = None
as_type K (EXPR h) = None

abbrev pub as_close : List Want → Token → Option (List Want)
as_close K CLOSE = Some K
as_close K (ENUM k) = None
as_close K (CASE n k) = None
as_close K (DEF n k) = None
as_close K (TYPE τ) = None
as_close K (ARM n x c) = None
as_close K (EXPR h) = None

abbrev pub parts : ℕ → List Want → Head → List Want
parts p K (LEAF l) = K
parts p K (PAIR o) = want_expr ∷ want_expr ∷ K
parts p K IF = want_expr ∷ want_expr ∷ want_expr ∷ K
parts p K MATCH = want_expr ∷ want_arms p false ∷ K
parts p K EXIT = want_type ∷ want_expr ∷ K
parts p K (MANY n m) = expecting n want_expr K

abbrev pub as_expr : ℕ → List Want → Token → Option (List Want)
as_expr p K CLOSE = None
as_expr p K (ENUM k) = None
as_expr p K (CASE n k) = None
as_expr p K (DEF n k) = None
as_expr p K (TYPE τ) = None
as_expr p K (ARM n x c) = None
as_expr p K (EXPR h) = Some (parts p K h)

abbrev pub as_case : ℕ → Bool → List Want → Token → Option (List Want)
as_case o b K CLOSE = cond b (Some K) None
as_case o b K (ENUM k) = None
as_case o b K (CASE n k) = Some (expecting n want_type (want_cases o true ∷ K))
as_case o b K (DEF n k) = None
as_case o b K (TYPE τ) = None
as_case o b K (ARM n x c) = None
as_case o b K (EXPR h) = None

abbrev pub as_arm : ℕ → Bool → List Want → Token → Option (List Want)
as_arm o b K CLOSE = cond b (Some K) None
as_arm o b K (ENUM k) = None
as_arm o b K (CASE n k) = None
as_arm o b K (DEF n k) = None
as_arm o b K (TYPE τ) = None
as_arm o b K (ARM n x c) = Some (want_expr ∷ want_arms o true ∷ K)
as_arm o b K (EXPR h) = None

-- the token at place p, where these are wanted: what is wanted then, if it can follow
abbrev pub follow : ℕ → List Want → Token → Option (List Want)
follow p [] w = as_item p w
follow p (want_type ∷ K) w = as_type K w
follow p (want_expr ∷ K) w = as_expr p K w
follow p (want_close o ∷ K) w = as_close K w
follow p (want_cases o b ∷ K) w = as_case o b K w
follow p (want_arms o b ∷ K) w = as_arm o b K w

-- the innermost open group
abbrev pub group : List Want → Option ℕ
group [] = None
group (want_type ∷ K) = group K
group (want_expr ∷ K) = group K
group (want_close o ∷ K) = Some o
group (want_cases o b ∷ K) = Some o
group (want_arms o b ∷ K) = Some o

-- test 8: the first token that cannot follow, or the tokens' end, with the group
abbrev pub misplaced : ℕ → List Want → List Token → Option (ℕ × Option ℕ)
misplaced p [] [] = None
misplaced p (k ∷ K) [] = Some (p, group (k ∷ K))
misplaced p K (w ∷ ws) = elim (follow p K w) [ None ↦ Some (p, group K) | Some K' ↦ misplaced (suc p) K' ws ]

-- The groups that tokens leave open, the innermost first, each by the place of its ENUM, DEF or MATCH.
abbrev pub innermost : List ℕ → Option ℕ
innermost [] = None
innermost (g ∷ gs) = Some g

abbrev pub outer : List ℕ → List ℕ
outer [] = []
outer (g ∷ gs) = gs

abbrev pub opened_by : ℕ → List ℕ → Head → List ℕ
opened_by p gs (LEAF l) = gs
opened_by p gs (PAIR o) = gs
opened_by p gs IF = gs
opened_by p gs MATCH = p ∷ gs
opened_by p gs EXIT = gs
opened_by p gs (MANY n m) = gs

abbrev pub opens : ℕ → List ℕ → Token → List ℕ
opens p gs CLOSE = outer gs
opens p gs (ENUM k) = p ∷ gs
opens p gs (CASE n k) = gs
opens p gs (DEF n k) = p ∷ gs
opens p gs (TYPE τ) = gs
opens p gs (ARM n x c) = gs
opens p gs (EXPR h) = opened_by p gs h

abbrev pub open_groups : ℕ → List ℕ → List Token → List ℕ
open_groups p gs [] = gs
open_groups p gs (w ∷ ws) = open_groups (suc p) (opens p gs w) ws

-- tokens that Some card begins with
pub record Begins (t : List ℕ) (vs : List Token) : Type 0 where
  pub rest : List Token
  pub card : Card
  pub spelt : Spelt t (vs ++ rest) card

-- the law of test 8: the tokens before place r begin a card, with the token at r they begin None, and g is the innermost group open before it
pub record Misplaced (t : List ℕ) (ws : List Token) (r : ℕ) (g : Option ℕ) : Type 0 where
  pub within : r ≤ length ws
  pub before : Begins t (take r ws)
  pub beyond : r < length ws → ¬ Begins t (take (suc r) ws)
  pub no_card : (C : Card) → ¬ Spelt t ws C
  pub innermost_open : g ≡ innermost (open_groups 0 [] (take r ws))

-- pieces one after the other are spelt by tokens one after the other
pub record Apart (t : List ℕ) (p : ℕ) (ws : List Token) (qs ps : List Piece) : Type 0 where
  pub front : List Token
  pub back : List Token
  pub joined_tokens : ws ≡ front ++ back
  pub front_spells : Spells t p front qs
  pub back_spells : Spells t (p + length front) back ps
