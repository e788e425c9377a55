-- What can follow: the reader's card is there exactly where no token is misplaced, and the misplaced token is the first that no card has there.
use Rattle.std.proofs.Common.{◌≡◌, ℕ, zero, suc, ◌+◌, ◌<◌, ◌≤◌, Bool, true, false, List, [], ◌∷◌, ◌++◌, length, take, Some, None, Option, sym, refl, ap, ◌∙◌, arith, length-append}
use Rattle.battery.specs.declared.Ty.{Ty}
use Rattle.battery.specs.declared.Ty.TheVariants.{Unit as unit}
use Rattle.battery.specs.Tree.{Expr, Exprs, ∅, ◌&◌, Card}
use Rattle.table.specs.declared.token.Token.{Token}
use Rattle.table.specs.declared.token.Token.TheVariants.{Close as CLOSE, Enum as ENUM, Case as CASE, Def as DEF, Ty as TYPE, Arm as ARM, Expr as EXPR}
use Rattle.table.specs.declared.token.Head.{Head}
use Rattle.table.specs.declared.token.Head.TheVariants.{Leaf as LEAF, Pair as PAIR, If as IF, Match as MATCH, Exit as EXIT, Many as MANY}
use Rattle.table.specs.declared.token.Leaf.TheVariants.{Unit as UNIT}
use Rattle.table.specs.declared.token.Many.{Many}
use Rattle.grammar.specs.Grammar.{Piece, close, type, expr, cases, arms, an_enum, a_fn, types, exprs, count, Spells, s_end, s_close, s_type, s_leaf, s_pair, s_if, s_many, s_match, s_last_arm, s_arm, s_exit, s_last_case, s_case, s_enum, s_def, with_enum, with_fn, Items, no_item, enum_item, fn_item, Spelt, Want, want_type, want_expr, want_close, want_cases, want_arms, expecting, parts, follow, group, misplaced, innermost, opened_by, opens, open_groups, Misplaced}
use Rattle.numbering.proofs.Options.{Some≡, never}

data Follows : ℕ → List Want → Token → List Want → Type 0 where
  f_enum : {p k : _} → Follows p [] (ENUM k) (want_cases p false ∷ [])
  f_def : {p n k : _} → Follows p [] (DEF n k) (expecting n want_type (want_type ∷ want_expr ∷ want_close p ∷ []))
  f_type : {p K τ : _} → Follows p (want_type ∷ K) (TYPE τ) K
  f_expr : {p K h : _} → Follows p (want_expr ∷ K) (EXPR h) (parts p K h)
  f_close : {p o K : _} → Follows p (want_close o ∷ K) CLOSE K
  f_case : {p o b K n k : _} → Follows p (want_cases o b ∷ K) (CASE n k) (expecting n want_type (want_cases o true ∷ K))
  f_cases_close : {p o K : _} → Follows p (want_cases o true ∷ K) CLOSE K
  f_arm : {p o b K n x c : _} → Follows p (want_arms o b ∷ K) (ARM n x c) (want_expr ∷ want_arms o true ∷ K)
  f_arms_close : {p o K : _} → Follows p (want_arms o true ∷ K) CLOSE K

followed : (p : ℕ) (K : List Want) (w : Token) (K' : List Want) → follow p K w ≡ Some K' → Follows p K w K'
followed p [] CLOSE K' e = never e
followed p [] (ENUM k) K' e = rw (← (Some≡ e)) f_enum
followed p [] (CASE n k) K' e = never e
followed p [] (DEF n k) K' e = rw (← (Some≡ e)) f_def
followed p [] (TYPE τ) K' e = never e
followed p [] (ARM n x c) K' e = never e
followed p [] (EXPR h) K' e = never e
followed p (want_type ∷ K) CLOSE K' e = never e
followed p (want_type ∷ K) (ENUM k) K' e = never e
followed p (want_type ∷ K) (CASE n k) K' e = never e
followed p (want_type ∷ K) (DEF n k) K' e = never e
followed p (want_type ∷ K) (TYPE τ) K' e = rw (← (Some≡ e)) f_type
followed p (want_type ∷ K) (ARM n x c) K' e = never e
followed p (want_type ∷ K) (EXPR h) K' e = never e
followed p (want_expr ∷ K) CLOSE K' e = never e
followed p (want_expr ∷ K) (ENUM k) K' e = never e
followed p (want_expr ∷ K) (CASE n k) K' e = never e
followed p (want_expr ∷ K) (DEF n k) K' e = never e
followed p (want_expr ∷ K) (TYPE τ) K' e = never e
followed p (want_expr ∷ K) (ARM n x c) K' e = never e
followed p (want_expr ∷ K) (EXPR h) K' e = rw (← (Some≡ e)) f_expr
followed p (want_close o ∷ K) CLOSE K' e = rw (← (Some≡ e)) f_close
followed p (want_close o ∷ K) (ENUM k) K' e = never e
followed p (want_close o ∷ K) (CASE n k) K' e = never e
followed p (want_close o ∷ K) (DEF n k) K' e = never e
followed p (want_close o ∷ K) (TYPE τ) K' e = never e
followed p (want_close o ∷ K) (ARM n x c) K' e = never e
followed p (want_close o ∷ K) (EXPR h) K' e = never e
followed p (want_cases o true ∷ K) CLOSE K' e = rw (← (Some≡ e)) f_cases_close
followed p (want_cases o false ∷ K) CLOSE K' e = never e
followed p (want_cases o b ∷ K) (ENUM k) K' e = never e
followed p (want_cases o b ∷ K) (CASE n k) K' e = rw (← (Some≡ e)) f_case
followed p (want_cases o b ∷ K) (DEF n k) K' e = never e
followed p (want_cases o b ∷ K) (TYPE τ) K' e = never e
followed p (want_cases o b ∷ K) (ARM n x c) K' e = never e
followed p (want_cases o b ∷ K) (EXPR h) K' e = never e
followed p (want_arms o true ∷ K) CLOSE K' e = rw (← (Some≡ e)) f_arms_close
followed p (want_arms o false ∷ K) CLOSE K' e = never e
followed p (want_arms o b ∷ K) (ENUM k) K' e = never e
followed p (want_arms o b ∷ K) (CASE n k) K' e = never e
followed p (want_arms o b ∷ K) (DEF n k) K' e = never e
followed p (want_arms o b ∷ K) (TYPE τ) K' e = never e
followed p (want_arms o b ∷ K) (ARM n x c) K' e = rw (← (Some≡ e)) f_arm
followed p (want_arms o b ∷ K) (EXPR h) K' e = never e

-- pieces as they are wanted, and then the items of a card
data Wanted : Card → List Want → List Piece → Type 0 where
  w_end : Wanted (record { enums = []; fns = [] }) [] []
  w_enum : {C E ps : _} → Wanted C [] ps → Wanted (with_enum E C) [] (an_enum E ∷ ps)
  w_fn : {C fn ps : _} → Wanted C [] ps → Wanted (with_fn fn C) [] (a_fn fn ∷ ps)
  w_type : {C K ps τ : _} → Wanted C K ps → Wanted C (want_type ∷ K) (type τ ∷ ps)
  w_expr : {C K ps e : _} → Wanted C K ps → Wanted C (want_expr ∷ K) (expr e ∷ ps)
  w_close : {C K ps o : _} → Wanted C K ps → Wanted C (want_close o ∷ K) (close ∷ ps)
  w_cases : {C K ps o b cs : _} → Wanted C K ps → Wanted C (want_cases o b ∷ K) (cases cs ∷ ps)
  w_cases_close : {C K ps o : _} → Wanted C K ps → Wanted C (want_cases o true ∷ K) (close ∷ ps)
  w_arms : {C K ps o b ms : _} → Wanted C K ps → Wanted C (want_arms o b ∷ K) (arms ms ∷ ps)
  w_arms_close : {C K ps o : _} → Wanted C K ps → Wanted C (want_arms o true ∷ K) (close ∷ ps)

wanted_items : {ps : List Piece} {C : Card} → Items ps C → Wanted C [] ps
wanted_items no_item = w_end
wanted_items (enum_item i) = w_enum (wanted_items i)
wanted_items (fn_item i) = w_fn (wanted_items i)

items_wanted : {C : Card} {ps : List Piece} → Wanted C [] ps → Items ps C
items_wanted w_end = no_item
items_wanted (w_enum i) = enum_item (items_wanted i)
items_wanted (w_fn i) = fn_item (items_wanted i)

wanted_exprs : {C : Card} {K : List Want} {ps : List Piece} (es : Exprs) → Wanted C K ps → Wanted C (expecting (count es) want_expr K) (exprs es ps)
wanted_exprs ∅ w = w
wanted_exprs (e & es) w = w_expr (wanted_exprs es w)

wanted_types : {C : Card} {K : List Want} {ps : List Piece} (τs : List Ty) → Wanted C K ps → Wanted C (expecting (length τs) want_type K) (types τs ps)
wanted_types [] w = w
wanted_types (τ ∷ τs) w = w_type (wanted_types τs w)

-- spelt as wanted: nothing is misplaced
forward : {t : List ℕ} {p : ℕ} {ws : List Token} {ps : List Piece} → Spells t p ws ps → {C : Card} {K : List Want} → Wanted C K ps → misplaced p K ws ≡ None
forward s_end w_end = refl
forward (s_close h) (w_close w) = forward h w
forward (s_close h) (w_cases_close w) = forward h w
forward (s_close h) (w_arms_close w) = forward h w
forward (s_type h) (w_type w) = forward h w
forward (s_leaf h) (w_expr w) = forward h w
forward (s_pair h) (w_expr w) = forward h (w_expr (w_expr w))
forward (s_if h) (w_expr w) = forward h (w_expr (w_expr (w_expr w)))
forward (s_many es n h) (w_expr w) = rw n (forward h (wanted_exprs es w))
forward (s_match h) (w_expr w) = forward h (w_expr (w_arms w))
forward (s_last_arm h) (w_arms w) = forward h (w_expr (w_arms_close w))
forward (s_arm h) (w_arms w) = forward h (w_expr (w_arms w))
forward (s_exit h) (w_expr w) = forward h (w_type (w_expr w))
forward (s_last_case {τs = τs} n h) (w_cases w) = rw n (forward h (wanted_types τs (w_cases_close w)))
forward (s_case {τs = τs} n h) (w_cases w) = rw n (forward h (wanted_types τs (w_cases w)))
forward (s_enum h) (w_enum w) = forward h (w_cases w)
forward (s_def {τs = τs} n h) (w_fn w) = rw n (forward h (wanted_types τs (w_type (w_expr (w_close w)))))

-- nothing misplaced: spelt as wanted
data Found (t : List ℕ) : ℕ → List Want → List Token → Type 0 where
  found : {p K ws ps C : _} → Spells t p ws ps → Wanted C K ps → Found t p K ws

data Types (C : Card) (K : List Want) (n : ℕ) : List Piece → Type 0 where
  are_types : {ps : _} (τs : List Ty) → n ≡ length τs → Wanted C K ps → Types C K n (types τs ps)

data Parts (C : Card) (K : List Want) (n : ℕ) : List Piece → Type 0 where
  are_parts : {ps : _} (es : Exprs) → n ≡ count es → Wanted C K ps → Parts C K n (exprs es ps)

one_type : {C : Card} {K : List Want} {n : ℕ} {ps : List Piece} {τ : Ty} → Types C K n ps → Types C K (suc n) (type τ ∷ ps)
one_type {τ = τ} (are_types τs l w) = are_types (τ ∷ τs) (ap suc l) w

one_part : {C : Card} {K : List Want} {n : ℕ} {ps : List Piece} {e : Expr} → Parts C K n ps → Parts C K (suc n) (expr e ∷ ps)
one_part {e = e} (are_parts es l w) = are_parts (e & es) (ap suc l) w

types_wanted : {C : Card} {K : List Want} (n : ℕ) {ps : List Piece} → Wanted C (expecting n want_type K) ps → Types C K n ps
types_wanted zero w = are_types [] refl w
types_wanted (suc n) (w_type w) = one_type (types_wanted n w)

parts_wanted : {C : Card} {K : List Want} (n : ℕ) {ps : List Piece} → Wanted C (expecting n want_expr K) ps → Parts C K n ps
parts_wanted zero w = are_parts ∅ refl w
parts_wanted (suc n) (w_expr w) = one_part (parts_wanted n w)

module _ {t : List ℕ} {p : ℕ} {ws : List Token} where
  found_many : {C : Card} {K : List Want} {n : ℕ} {m : Many} {ps : List Piece} → Spells t (suc p) ws ps → Parts C K n ps → Found t p (want_expr ∷ K) (EXPR (MANY n m) ∷ ws)
  found_many h (are_parts es l w) = found (s_many es l h) (w_expr w)

  found_expr : {C : Card} {K : List Want} {ps : List Piece} (a : Head) → Spells t (suc p) ws ps → Wanted C (parts p K a) ps → Found t p (want_expr ∷ K) (EXPR a ∷ ws)
  found_expr (LEAF l) h w = found (s_leaf h) (w_expr w)
  found_expr (PAIR o) h (w_expr (w_expr w)) = found (s_pair h) (w_expr w)
  found_expr IF h (w_expr (w_expr (w_expr w))) = found (s_if h) (w_expr w)
  found_expr MATCH h (w_expr (w_arms w)) = found (s_match h) (w_expr w)
  found_expr EXIT h (w_type (w_expr w)) = found (s_exit h) (w_expr w)
  found_expr (MANY n m) h w = found_many h (parts_wanted n w)

  found_def : {C : Card} {n k : ℕ} {ps : List Piece} → Spells t (suc p) ws ps → Types C (want_type ∷ want_expr ∷ want_close p ∷ []) n ps → Found t p [] (DEF n k ∷ ws)
  found_def h (are_types τs l (w_type (w_expr (w_close w)))) = found (s_def l h) (w_fn w)

  found_case : {C : Card} {o n k : ℕ} {b : Bool} {K : List Want} {ps : List Piece} → Spells t (suc p) ws ps → Types C (want_cases o true ∷ K) n ps → Found t p (want_cases o b ∷ K) (CASE n k ∷ ws)
  found_case h (are_types τs l (w_cases w)) = found (s_case l h) (w_cases w)
  found_case h (are_types τs l (w_cases_close w)) = found (s_last_case l h) (w_cases w)

  step : {K K' : List Want} {w : Token} {C : Card} {ps : List Piece} → Follows p K w K' → Spells t (suc p) ws ps → Wanted C K' ps → Found t p K (w ∷ ws)
  step f_enum h (w_cases w) = found (s_enum h) (w_enum w)
  step (f_def {n = n}) h w = found_def h (types_wanted n w)
  step f_type h w = found (s_type h) (w_type w)
  step (f_expr {h = a}) h w = found_expr a h w
  step f_close h w = found (s_close h) (w_close w)
  step (f_case {n = n}) h w = found_case h (types_wanted n w)
  step f_cases_close h w = found (s_close h) (w_cases_close w)
  step f_arm h (w_expr (w_arms w)) = found (s_arm h) (w_arms w)
  step f_arm h (w_expr (w_arms_close w)) = found (s_last_arm h) (w_arms w)
  step f_arms_close h w = found (s_close h) (w_arms_close w)

  stepped : {K K' : List Want} {w : Token} → Follows p K w K' → Found t (suc p) K' ws → Found t p K (w ∷ ws)
  stepped f (found h w) = step f h w

backward : (t : List ℕ) (p : ℕ) (K : List Want) (ws : List Token) → misplaced p K ws ≡ None → Found t p K ws
backward t p [] [] e = found s_end w_end
backward t p (k ∷ K) [] e = never (sym e)
backward t p K (w ∷ ws) e = go (follow p K w) refl e (λ K'. backward t (suc p) K' ws)
  where
    go : (o : Option (List Want)) → follow p K w ≡ o → ◌≡◌ {A = Option (ℕ × Option ℕ)} (elim o [ None ↦ Some (p, group K) | Some K' ↦ misplaced (suc p) K' ws ]) None
        → ((K' : List Want) → misplaced (suc p) K' ws ≡ None → Found t (suc p) K' ws) → Found t p K (w ∷ ws)
    go None q e r = never (sym e)
    go (Some K') q e r = stepped (followed p K w K' q) (r K' e)

spelt_of : {t : List ℕ} {ws : List Token} → 0 < length ws → Found t 0 [] ws → (C : Card) × Spelt t ws C
spelt_of l (found {ps = ps} {C = C} h w) = (C, record { pieces = ps; spells = h; items = items_wanted w; one_or_more = l })

-- what is wanted can come
finish : List Want → List Token
finish [] = ENUM 0 ∷ CASE 0 0 ∷ CLOSE ∷ []
finish (want_type ∷ K) = TYPE unit ∷ finish K
finish (want_expr ∷ K) = EXPR (LEAF UNIT) ∷ finish K
finish (want_close o ∷ K) = CLOSE ∷ finish K
finish (want_cases o true ∷ K) = CLOSE ∷ finish K
finish (want_cases o false ∷ K) = CASE 0 0 ∷ CLOSE ∷ finish K
finish (want_arms o true ∷ K) = CLOSE ∷ finish K
finish (want_arms o false ∷ K) = ARM 0 0 0 ∷ EXPR (LEAF UNIT) ∷ CLOSE ∷ finish K

finishes : (p : ℕ) (K : List Want) → misplaced p K (finish K) ≡ None
unfolding finish
finishes p [] = refl
finishes p (want_type ∷ K) = finishes (suc p) K
finishes p (want_expr ∷ K) = finishes (suc p) K
finishes p (want_close o ∷ K) = finishes (suc p) K
finishes p (want_cases o true ∷ K) = finishes (suc p) K
finishes p (want_cases o false ∷ K) = finishes (suc (suc p)) K
finishes p (want_arms o true ∷ K) = finishes (suc p) K
finishes p (want_arms o false ∷ K) = finishes (suc (suc (suc p))) K

finish_some : (K : List Want) → 0 < length (finish K)
unfolding finish
finish_some [] = omega arith
finish_some (want_type ∷ K) = omega arith
finish_some (want_expr ∷ K) = omega arith
finish_some (want_close o ∷ K) = omega arith
finish_some (want_cases o true ∷ K) = omega arith
finish_some (want_cases o false ∷ K) = omega arith
finish_some (want_arms o true ∷ K) = omega arith
finish_some (want_arms o false ∷ K) = omega arith

-- the groups that the wanted CLOSEs end
openers : List Want → List ℕ
openers [] = []
openers (want_type ∷ K) = openers K
openers (want_expr ∷ K) = openers K
openers (want_close o ∷ K) = o ∷ openers K
openers (want_cases o b ∷ K) = o ∷ openers K
openers (want_arms o b ∷ K) = o ∷ openers K

group_innermost : (K : List Want) → group K ≡ innermost (openers K)
unfolding openers
group_innermost [] = refl
group_innermost (want_type ∷ K) = group_innermost K
group_innermost (want_expr ∷ K) = group_innermost K
group_innermost (want_close o ∷ K) = refl
group_innermost (want_cases o b ∷ K) = refl
group_innermost (want_arms o b ∷ K) = refl

openers_types : (n : ℕ) (K : List Want) → openers (expecting n want_type K) ≡ openers K
unfolding openers
openers_types zero K = refl
openers_types (suc n) K = openers_types n K

openers_exprs : (n : ℕ) (K : List Want) → openers (expecting n want_expr K) ≡ openers K
unfolding openers
openers_exprs zero K = refl
openers_exprs (suc n) K = openers_exprs n K

openers_parts : (p : ℕ) (K : List Want) (h : Head) → openers (parts p K h) ≡ opened_by p (openers K) h
unfolding openers
openers_parts p K (LEAF l) = refl
openers_parts p K (PAIR o) = refl
openers_parts p K IF = refl
openers_parts p K MATCH = refl
openers_parts p K EXIT = refl
openers_parts p K (MANY n m) = openers_exprs n K

openers_step : {p : ℕ} {K : List Want} {w : Token} {K' : List Want} → Follows p K w K' → openers K' ≡ opens p (openers K) w
unfolding openers
openers_step f_enum = refl
openers_step (f_def {n = n}) = openers_types n _
openers_step f_type = refl
openers_step (f_expr {p = p} {K = K} {h = h}) = openers_parts p K h
openers_step f_close = refl
openers_step (f_case {n = n}) = openers_types n _
openers_step f_cases_close = refl
openers_step f_arm = refl
openers_step f_arms_close = refl

refused_here : (p : ℕ) (K : List Want) (w : Token) (us : List Token) → follow p K w ≡ None → misplaced p K (w ∷ us) ≡ Some (p, group K)
refused_here p K w us f = rw (f, misplaced)

goes_on : (p : ℕ) (K K' : List Want) (w : Token) (us : List Token) → follow p K w ≡ Some K' → misplaced p K (w ∷ us) ≡ misplaced (suc p) K' us
goes_on p K K' w us f = rw (f, misplaced)

-- where the tokens stop being placed: d tokens on, with K' wanted there
record Stop (p : ℕ) (K : List Want) (ws : List Token) (r : ℕ) (g : Option ℕ) : Type 0 where
  d : ℕ
  K' : List Want
  place : r ≡ p + d
  within : d ≤ length ws
  ran : (us : List Token) → misplaced p K (take d ws ++ us) ≡ misplaced r K' us
  stuck : (us : List Token) → d < length ws → misplaced p K (take (suc d) ws ++ us) ≡ Some (r, g)
  at_group : g ≡ group K'
  open_groups_lem : openers K' ≡ open_groups p (openers K) (take d ws)

stop : (p : ℕ) (K : List Want) (ws : List Token) (r : ℕ) (g : Option ℕ) → misplaced p K ws ≡ Some (r, g) → Stop p K ws r g
stop p [] [] r g e = never e
stop p (k ∷ K) [] r g e =
    let q : ◌≡◌ {A = ℕ × Option ℕ} (p, group (k ∷ K)) (r, g) = Some≡ e in
    let q0 : p ≡ r = ap (λ (x : ℕ × Option ℕ). x.0) q in
    let q1 : group (k ∷ K) ≡ g = ap (λ (x : ℕ × Option ℕ). x.1) q in
    record { d = 0; K' = k ∷ K; place = omega arith; within = omega arith; ran = λ us. rw q0; stuck = λ us l. absurd (omega arith); at_group = sym q1; open_groups_lem = refl }
stop p K (w ∷ ws) r g e = go (follow p K w) refl e (λ K₁. stop (suc p) K₁ ws r g)
  where
    go : (o : Option (List Want)) → follow p K w ≡ o → ◌≡◌ {A = Option (ℕ × Option ℕ)} (elim o [ None ↦ Some (p, group K) | Some K₁ ↦ misplaced (suc p) K₁ ws ]) (Some (r, g))
        → ((K₁ : List Want) → misplaced (suc p) K₁ ws ≡ Some (r, g) → Stop (suc p) K₁ ws r g) → Stop p K (w ∷ ws) r g
    go None f e ih =
        let q : ◌≡◌ {A = ℕ × Option ℕ} (p, group K) (r, g) = Some≡ e in
        let q0 : p ≡ r = ap (λ (x : ℕ × Option ℕ). x.0) q in
        let q1 : group K ≡ g = ap (λ (x : ℕ × Option ℕ). x.1) q in
        record { d = 0; K' = K; place = omega arith; within = omega arith; ran = λ us. rw q0; stuck = λ us l. refused_here p K w us f ∙ e; at_group = sym q1; open_groups_lem = refl }
    go (Some K₁) f e ih =
        let s = ih K₁ e in
        record {
          d = suc s.d;
          K' = s.K';
          place = omega (arith, s.place);
          within = omega (arith, s.within);
          ran = λ us. goes_on p K K₁ w _ f ∙ s.ran us;
          stuck = λ us l. goes_on p K K₁ w _ f ∙ s.stuck us (omega arith);
          at_group = s.at_group;
          open_groups_lem = s.open_groups_lem ∙ ap (λ (gs : List ℕ). open_groups (suc p) gs (take s.d ws)) (openers_step (followed p K w K₁ f));
        }

pub placed : (t : List ℕ) (ws : List Token) → 0 < length ws → misplaced 0 [] ws ≡ None → (C : Card) × Spelt t ws C
placed t ws l e = spelt_of l (backward t 0 [] ws e)

pub not_misplaced : (t : List ℕ) (ws : List Token) (C : Card) → Spelt t ws C → misplaced 0 [] ws ≡ None
not_misplaced t ws C h = forward h.spells (wanted_items h.items)

pub law_8 : (t : List ℕ) (ws : List Token) (r : ℕ) (g : Option ℕ) → misplaced 0 [] ws ≡ Some (r, g) → Misplaced t ws r g
unfolding openers
law_8 t ws r g e =
    let s = stop 0 [] ws r g e in
    let q : s.d ≡ r = omega (arith, s.place) in
    let l : 0 < length (take s.d ws ++ finish s.K') = simp length-append (omega (arith, finish_some s.K')) in
    let b = placed t (take s.d ws ++ finish s.K') l (s.ran (finish s.K') ∙ finishes r s.K') in
    record {
      within = omega (arith, s.within);
      before = rw (← q) (record { rest = finish s.K'; card = b.0; spelt = b.1 });
      beyond = rw (← q) (λ k c. never (sym (not_misplaced t _ c.card c.spelt) ∙ s.stuck c.rest k));
      no_card = λ C c. never (sym (not_misplaced t ws C c) ∙ e);
      innermost_open = rw (← q) (s.at_group ∙ group_innermost s.K' ∙ ap innermost s.open_groups_lem);
    }
