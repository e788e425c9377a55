-- A typed judgement has a derivation, whose outcome fits its type.
use Rattle.std.proofs.Common.{◌≡◌, ℕ, zero, suc, ◌+◌, ◌<◌, ◌≤◌, Bool, true, false, cond, eqb, List, [], ◌∷◌, ◌++◌, length, ℤ, Some, None, Option, sym, refl, ap, ◌∙◌, subst, arith, eqb→eq}
use native.Mathlib.Decide.{dec_le, ℕ_discrete}
use Rattle.battery.specs.declared.Ty.{Ty}
use Rattle.battery.specs.declared.Ty.TheVariants.{Number as number, Boolean as boolean, Text as text, Enum as enum}
use Rattle.battery.specs.declared.Arith.{Arith}
use Rattle.battery.specs.declared.value.Value.{Value}
use Rattle.battery.specs.declared.value.Value.TheVariants.{Number as number_v, Boolean as boolean_v, Place as place_v}
use Rattle.battery.specs.declared.outcome.Stop.{Stop}
use Rattle.battery.specs.declared.outcome.Stop.TheVariants.{FullStore as full_store, TooDeep as too_deep, Overrun as overrun}
use Rattle.battery.specs.Outcome.{Outcome}
use Rattle.std.specs.Prelude.{Ok as value, Err as stop}
use Rattle.battery.specs.Tree.{Expr, Calc, Concat, Eq, Lt, Seq, If, Val, Match, Exit, Exprs, ◌&◌, Arms, arm, Scope, find, bind, at, Card, in_range}
use Rattle.battery.specs.Typing.{◌∣◌⊢◌∶◌, t_unit, t_num, t_bool, t_str, t_local, t_calc, t_concat, t_eq, t_lt, t_seq, t_if, t_val, t_call, t_make, t_match, t_exit, ◌∣◌⊢⋆◌∶◌, t_nil, t_cons, TypedArms, t_no_arm, t_arm, TypedCard, arms_of}
use Rattle.battery.specs.Cell.{Cell, text_cell, enum_cell}
use Rattle.battery.specs.Rules.{Setup, Outcomes, values, cut, Judgement, ◌⊢◌, same, record_of, first, Move, gives, stops, goes, result_of, arm_of, Rule, r_unit, r_num, r_bool, r_str, r_str_full, r_local, r_calc, r_calc_out, r_calc_zero, r_concat, r_concat_long, r_concat_full, r_eq, r_lt, r_seq, r_if_true, r_if_false, r_val, r_call, r_make, r_make_full, r_match, r_exit, Comparison, answer, fields, pairs, Compare, c_unit, c_num, c_bool, c_text, c_cases, c_fields, Opens, Eval, at_overrun, at_too_deep, part_stops, by_giving, by_stopping, by_going, by_answer, by_fields, Parts, no_part, part, this_stops, later_stops, Pairs, all_equal, pair_equal, pair_differs, pair_stops}
use Rattle.battery.specs.Values.{Has, h_unit, h_num, h_bool, h_text, h_enum, HasAll, h_nil, h_cons, StopFits, OutcomeFits}
use Rattle.battery.specs.Claims.{Keeps, Lawful}

-- what an Option's constructors tell
pub never : {A P : Type 0} (a : A) → ◌≡◌ {A = Option A} None (Some a) → P
never a e = let z : ◌≡◌ {A = ℕ} 0 1 = cc in absurd (omega arith)

pub Some≡ : {A : Type 0} (a b : A) → Some a ≡ Some b → a ≡ b
Some≡ a b e = cc

-- the values that a scope binds have the types that another binds
pub data Fits (C : Card) (cs : List Cell) : Scope Value → Scope Ty → Type 0 where
  f_nil : Fits C cs [] []
  f_cons : {x v τ σ Γ : _} → Has C cs v τ → Fits C cs σ Γ → Fits C cs ((x, v) ∷ σ) ((x, τ) ∷ Γ)

abbrev pub OutcomesFit : Card → List Cell → Outcomes → List Ty → Type 0
OutcomesFit C cs (values vs) τs = HasAll C cs vs τs
OutcomesFit C cs (cut x) τs = StopFits C cs x

-- cells that stay
keeps_self : (cs : List Cell) → Keeps cs cs
keeps_self cs = record { kept = λ i c e. e }

keeps_on : {cs cs₁ cs₂ : List Cell} → Keeps cs cs₁ → Keeps cs₁ cs₂ → Keeps cs cs₂
keeps_on k l = record { kept = λ i c e. l.kept i c (k.kept i c e) }

mutual
  has_kept : {C : Card} {cs cs' : List Cell} {v : Value} {τ : Ty} → Keeps cs cs' → Has C cs v τ → Has C cs' v τ
  has_kept k h_unit = h_unit
  has_kept k (h_num r) = h_num r
  has_kept k h_bool = h_bool
  has_kept k (h_text {i} {s} e l) = h_text (k.kept i (text_cell s) e) l
  has_kept k (h_enum {i = i} {k = n} {c = c} {vs = vs} e f g hs) = h_enum (k.kept i (enum_cell n c vs) e) f g (all_kept k hs)

  all_kept : {C : Card} {cs cs' : List Cell} {vs : List Value} {τs : List Ty} → Keeps cs cs' → HasAll C cs vs τs → HasAll C cs' vs τs
  all_kept k h_nil = h_nil
  all_kept k (h_cons h hs) = h_cons (has_kept k h) (all_kept k hs)

fits_kept : {C : Card} {cs cs' : List Cell} {σ : Scope Value} {Γ : Scope Ty} → Keeps cs cs' → Fits C cs σ Γ → Fits C cs' σ Γ
fits_kept k f_nil = f_nil
fits_kept k (f_cons h f) = f_cons (has_kept k h) (fits_kept k f)

-- scopes
find_fits : {C : Card} {cs : List Cell} {σ : Scope Value} {Γ : Scope Ty} → Fits C cs σ Γ → (x : ℕ) (τ : Ty) → find Γ x ≡ Some τ → (v : Value) × (find σ x ≡ Some v) × Has C cs v τ
find_fits f_nil x τ e = never τ e
find_fits {C} {cs} (f_cons {x = y} {v} {τ = υ} {σ} {Γ} h f) x τ e = go (eqb x y) e (find_fits f x τ)
  where
    go : (b : Bool) → cond b (Some υ) (find Γ x) ≡ Some τ → (find Γ x ≡ Some τ → (w : Value) × (find σ x ≡ Some w) × Has C cs w τ)
        → (w : Value) × (cond b (Some v) (find σ x) ≡ Some w) × Has C cs w τ
    go true q r = (v, refl, subst (Has C cs v) (Some≡ υ τ q) h)
    go false q r = r q

pub bind_fits : {C : Card} {cs : List Cell} {vs : List Value} {τs : List Ty} {σ : Scope Value} {Γ : Scope Ty} (x : ℕ)
    → HasAll C cs vs τs → Fits C cs σ Γ → Fits C cs (bind x vs σ) (bind x τs Γ)
bind_fits x h_nil f = f
bind_fits x (h_cons h hs) f = bind_fits (suc x) hs (f_cons h f)

has_length : {C : Card} {cs : List Cell} {vs : List Value} {τs : List Ty} → HasAll C cs vs τs → length vs ≡ length τs
has_length h_nil = refl
has_length (h_cons h hs) = ap suc (has_length hs)

-- lists
at_below : {A : Type 0} (xs : List A) (i : ℕ) (a : A) → at xs i ≡ Some a → i < length xs
at_below [] i a e = never a e
at_below (x ∷ xs) zero a e = omega arith
at_below (x ∷ xs) (suc i) a e = let h : i < length xs = at_below xs i a e in omega arith

one_some : {A : Type 0} (o : Option A) (a b : A) → o ≡ Some a → o ≡ Some b → a ≡ b
one_some o a b p q = Some≡ a b (sym p ∙ q)

-- the arm that a case has
record Armed (C : Card) (Γ : Scope Ty) (ms : Arms) (c : ℕ) (τs : List Ty) (τ : Ty) : Type 0 where
  name : ℕ
  part_of : Expr
  found : arm_of ms c ≡ Some (length τs, name, part_of)
  typed : C ∣ bind name τs Γ ⊢ part_of ∶ τ

armed : {C : Card} {Γ : Scope Ty} {E : List (List Ty)} {ms : Arms} {τ : Ty} → TypedArms C Γ E ms τ → (c : ℕ) (τs : List Ty) → at E c ≡ Some τs → 1 ≤ arms_of c ms → Armed C Γ ms c τs τ
armed t_no_arm c τs e h = absurd (omega arith)
armed {C} {Γ} {E} {τ = τ} (t_arm {p = p} {c = c'} {n = n} {x = x} {e = a} {ms = ms} {τs = υs} q l t ts) c τs e h = go (eqb c c') refl h (armed ts c τs e)
  where
    skip : eqb c c' ≡ false → Armed C Γ ms c τs τ → Armed C Γ (arm p c' n x a ms) c τs τ
    skip w m = record { name = m.name; part_of = m.part_of; found = rw w m.found; typed = m.typed }

    go : (b : Bool) → eqb c c' ≡ b → 1 ≤ cond b 1 0 + arms_of c ms → (1 ≤ arms_of c ms → Armed C Γ ms c τs τ) → Armed C Γ (arm p c' n x a ms) c τs τ
    go true w k r =
        let same_case : c ≡ c' = eqb→eq c c' (rw w tt) in
        let same-fields : υs ≡ τs = one_some (at E c') υs τs q (rw (← same_case) e) in
        record { name = x; part_of = a; found = rw (w, l, same-fields); typed = subst (λ zs. C ∣ bind x zs Γ ⊢ a ∶ τ) same-fields t }
    go false w k r = skip w (r (omega arith))

-- a judgement fits a type
data JudgementFits (C : Card) (cs : List Cell) : Judgement → Ty → Type 0 where
  j_expr : {σ : Scope Value} {Γ : Scope Ty} {e : Expr} {τ : Ty} → Fits C cs σ Γ → C ∣ Γ ⊢ e ∶ τ → JudgementFits C cs (σ ⊢ e) τ
  j_same : {p : ℕ} {v w : Value} {υ : Ty} → Has C cs v υ → Has C cs w υ → JudgementFits C cs (same p v w) boolean

data PairsFit (C : Card) (cs : List Cell) : List (Value × Value) → Type 0 where
  p_nil : PairsFit C cs []
  p_cons : {v w : Value} {ps : List (Value × Value)} {υ : Ty} → Has C cs v υ → Has C cs w υ → PairsFit C cs ps → PairsFit C cs ((v, w) ∷ ps)

pairs_kept : {C : Card} {cs cs' : List Cell} {ps : List (Value × Value)} → Keeps cs cs' → PairsFit C cs ps → PairsFit C cs' ps
pairs_kept k p_nil = p_nil
pairs_kept k (p_cons h g f) = p_cons (has_kept k h) (has_kept k g) (pairs_kept k f)

pairs_fit : {C : Card} {cs : List Cell} {vs ws : List Value} {τs : List Ty} → HasAll C cs vs τs → HasAll C cs ws τs → PairsFit C cs (pairs vs ws)
pairs_fit h_nil h_nil = p_nil
pairs_fit (h_cons h hs) (h_cons g gs) = p_cons h g (pairs_fit hs gs)

abbrev ComparisonFits : Card → List Cell → Comparison → Type 0
ComparisonFits C cs (answer b) = Unit {0}
ComparisonFits C cs (fields ps) = PairsFit C cs ps

record Comparisons (C : Card) (cs : List Cell) (v w : Value) : Type 0 where
  comparison : Comparison
  rule : Compare cs v w comparison
  fits : ComparisonFits C cs comparison

comparable : {C : Card} {cs : List Cell} {v w : Value} {υ : Ty} → Has C cs v υ → Has C cs w υ → Comparisons C cs v w
comparable h_unit h_unit = record { comparison = answer _; rule = c_unit; fits = tt }
comparable (h_num h) (h_num g) = record { comparison = answer _; rule = c_num; fits = tt }
comparable h_bool h_bool = record { comparison = answer _; rule = c_bool; fits = tt }
comparable (h_text h l) (h_text g m) = record { comparison = answer _; rule = c_text h g; fits = tt }
comparable {C} {cs} (h_enum {i = i} {k = k} {c = c} {vs = vs} {E = E} {τs = τs} h a b hs) (h_enum {i = j} {c = c'} {vs = ws} {E = E'} {τs = υs} g a' b' gs) = go (ℕ_discrete c c')
  where
    go : Dec (c ≡ c') → Comparisons C cs (place_v i) (place_v j)
    go (no n) = record { comparison = answer false; rule = c_cases h g n; fits = tt }
    go (yes e) =
        let same-enum : E' ≡ E = one_some (at C.enums k) E' E a' a in
        let same-fields : υs ≡ τs = one_some (at E c) υs τs (rw (e, ← same-enum) b') b in
        record { comparison = fields (pairs vs ws); rule = c_fields h (rw e g); fits = pairs_fit hs (subst (HasAll C cs ws) same-fields gs) }

-- what a move leads to fits a type
abbrev MoveFits : Card → List Cell → Move → Ty → Type 0
MoveFits C cs (gives v cs') τ = Keeps cs cs' × Has C cs' v τ
MoveFits C cs (stops x) τ = StopFits C cs x
MoveFits C cs (goes j) τ = JudgementFits C cs j τ

module _ (S : Setup) (store : Lawful S.put) (typed_card : TypedCard S.card) where
  abbrev C : Card
  C = S.card

  record Moves (σ : Scope Value) (e : Expr) (vs : List Value) (cs : List Cell) (τ : Ty) : Type 0 where
    move : Move
    rule : Rule C S.put σ cs e vs move
    fits : MoveFits C cs move τ

  -- a typed expression's first parts are typed, and with values of those types a rule applies
  record Goes (Γ : Scope Ty) (e : Expr) (τ : Ty) : Type 0 where
    types : List Ty
    typed : C ∣ Γ ⊢⋆ first e ∶ types
    moves : (σ : Scope Value) (vs : List Value) (cs : List Cell) → Fits C cs σ Γ → HasAll C cs vs types → Moves σ e vs cs τ

  give : {σ : Scope Value} {e : Expr} {vs : List Value} {cs : List Cell} {v : Value} {τ : Ty} → Rule C S.put σ cs e vs (gives v cs) → Has C cs v τ → Moves σ e vs cs τ
  give {cs = cs} {v = v} r h = record { move = gives v cs; rule = r; fits = (keeps_self cs, h) }

  halt : {σ : Scope Value} {e : Expr} {vs : List Value} {cs : List Cell} {x : Stop} {τ : Ty} → Rule C S.put σ cs e vs (stops x) → StopFits C cs x → Moves σ e vs cs τ
  halt {x = x} r h = record { move = stops x; rule = r; fits = h }

  go_on : {σ : Scope Value} {e : Expr} {vs : List Value} {cs : List Cell} {j : Judgement} {τ : Ty} → Rule C S.put σ cs e vs (goes j) → JudgementFits C cs j τ → Moves σ e vs cs τ
  go_on {j = j} r h = record { move = goes j; rule = r; fits = h }

  -- a put, by either of its rules
  puts : {σ : Scope Value} {e : Expr} {vs : List Value} {cs : List Cell} {τ : Ty} (p : ℕ) (c : Cell)
      → ((i : ℕ) (cs' : List Cell) → Keeps cs cs' → at cs' i ≡ Some c → Has C cs' (place_v i) τ)
      → ((i : ℕ) (cs' : List Cell) → S.put cs c ≡ Some (i, cs') → Rule C S.put σ cs e vs (gives (place_v i) cs'))
      → (S.put cs c ≡ None → Rule C S.put σ cs e vs (stops (full_store p)))
      → Moves σ e vs cs τ
  puts {σ} {e} {vs} {cs} {τ} p c has done refused = go (S.put cs c) refl
    where
      go : (r : Option (ℕ × List Cell)) → S.put cs c ≡ r → Moves σ e vs cs τ
      go None q = halt (refused q) tt
      go (Some r) q =
          let k : Keeps cs r.1 = store.keeps cs c r.0 r.1 q in
          record { move = gives (place_v r.0) r.1; rule = done r.0 r.1 q; fits = (k, has r.0 r.1 k (store.holds cs c r.0 r.1 q)) }

  calcs : {cs : List Cell} {vs : List Value} (σ : Scope Value) (p : ℕ) (o : Arith) (a b : Expr) → HasAll C cs vs (number ∷ number ∷ []) → Moves σ (Calc p o a b) vs cs number
  calcs {cs = cs} σ p o a b (h_cons (h_num {k = m} r) (h_cons (h_num {k = n} q) h_nil)) = go (result_of o m n) refl
    where
      ranged : (k : ℤ) → result_of o m n ≡ Some k → (t : Bool) → in_range k ≡ t → Moves σ (Calc p o a b) (number_v m ∷ number_v n ∷ []) cs number
      ranged k w true e = give (r_calc w e) (h_num e)
      ranged k w false e = halt (r_calc_out w e) tt

      go : (r : Option ℤ) → result_of o m n ≡ r → Moves σ (Calc p o a b) (number_v m ∷ number_v n ∷ []) cs number
      go None w = halt (r_calc_zero w) tt
      go (Some k) w = ranged k w (in_range k) refl

  less : {cs : List Cell} {vs : List Value} (σ : Scope Value) (p : ℕ) (a b : Expr) → HasAll C cs vs (number ∷ number ∷ []) → Moves σ (Lt p a b) vs cs boolean
  less σ p a b (h_cons (h_num r) (h_cons (h_num q) h_nil)) = give r_lt h_bool

  joins : {cs : List Cell} {vs : List Value} (σ : Scope Value) (p : ℕ) (a b : Expr) → HasAll C cs vs (text ∷ text ∷ []) → Moves σ (Concat p a b) vs cs text
  joins {cs = cs} σ p a b (h_cons (h_text {i} {s} e l) (h_cons (h_text {i = j} {s = t} f m) h_nil)) = go (dec_le (length (s ++ t)) 24)
    where
      go : Dec (length (s ++ t) ≤ 24) → Moves σ (Concat p a b) (place_v i ∷ place_v j ∷ []) cs text
      go (yes h) = puts p (text_cell (s ++ t)) (λ k cs' w q. h_text q h) (λ k cs' q. r_concat e f h q) (λ q. r_concat_full e f h q)
      go (no h) = halt (r_concat_long e f (omega arith)) tt

  equals : {cs : List Cell} {vs : List Value} {υ : Ty} (σ : Scope Value) (p : ℕ) (a b : Expr) → HasAll C cs vs (υ ∷ υ ∷ []) → Moves σ (Eq p a b) vs cs boolean
  equals σ p a b (h_cons h (h_cons g h_nil)) = go_on r_eq (j_same h g)

  follows_on : {cs : List Cell} {vs : List Value} {σ : Scope Value} {Γ : Scope Ty} {υ τ : Ty} {b : Expr} (p : ℕ) (a : Expr) → Fits C cs σ Γ
      → C ∣ Γ ⊢ b ∶ τ → HasAll C cs vs (υ ∷ []) → Moves σ (Seq p a b) vs cs τ
  follows_on p a f tb (h_cons h h_nil) = go_on r_seq (j_expr f tb)

  chooses : {cs : List Cell} {vs : List Value} {σ : Scope Value} {Γ : Scope Ty} {τ : Ty} {a b : Expr} (p : ℕ) (c : Expr) → Fits C cs σ Γ
      → C ∣ Γ ⊢ a ∶ τ → C ∣ Γ ⊢ b ∶ τ → HasAll C cs vs (boolean ∷ []) → Moves σ (If p c a b) vs cs τ
  chooses p c f ta tb (h_cons (h_bool {b = true}) h_nil) = go_on r_if_true (j_expr f ta)
  chooses p c f ta tb (h_cons (h_bool {b = false}) h_nil) = go_on r_if_false (j_expr f tb)

  binds : {cs : List Cell} {vs : List Value} {σ : Scope Value} {Γ : Scope Ty} {υ τ : Ty} {b : Expr} (p x : ℕ) (a : Expr) → Fits C cs σ Γ
      → C ∣ (x, υ) ∷ Γ ⊢ b ∶ τ → HasAll C cs vs (υ ∷ []) → Moves σ (Val p x a b) vs cs τ
  binds p x a f tb (h_cons h h_nil) = go_on r_val (j_expr (f_cons h f) tb)

  matches : {cs : List Cell} {vs : List Value} {σ : Scope Value} {Γ : Scope Ty} {k : ℕ} {E : List (List Ty)} {ms : Arms} {τ : Ty} (p : ℕ) (a : Expr) → Fits C cs σ Γ
      → at C.enums k ≡ Some E → ((c : ℕ) → c < length E → arms_of c ms ≡ 1) → TypedArms C Γ E ms τ → HasAll C cs vs (enum k ∷ []) → Moves σ (Match p a ms) vs cs τ
  matches {cs} {σ = σ} {Γ = Γ} {k = k} {E = E} {ms = ms} {τ = τ} p a f q once ts (h_cons (h_enum {i = i} {c = c} {vs = ws} {E = E'} {τs = τs} h a' b hs) h_nil) = go (armed ts c τs b' (let z = once c (at_below E c τs b') in omega arith))
    where
      b' : at E c ≡ Some τs
      b' = rw (one_some (at C.enums k) E E' q a') b

      go : Armed C Γ ms c τs τ → Moves σ (Match p a ms) (place_v i ∷ []) cs τ
      go m = go_on (r_match h (rw (has_length hs) m.found)) (j_expr (bind_fits m.name hs f) m.typed)

  leaves : {cs : List Cell} {vs : List Value} (σ : Scope Value) (p : ℕ) (τ : Ty) (a : Expr) → HasAll C cs vs (text ∷ []) → Moves σ (Exit p τ a) vs cs τ
  leaves σ p τ a (h_cons (h_text e l) h_nil) = halt (r_exit e) (h_text e l)

  nothing : {cs : List Cell} {vs : List Value} {σ : Scope Value} {e : Expr} {τ : Ty} → HasAll C cs vs [] → Moves σ e [] cs τ → Moves σ e vs cs τ
  nothing h_nil m = m

  progress : {Γ : Scope Ty} {e : Expr} {τ : Ty} → C ∣ Γ ⊢ e ∶ τ → Goes Γ e τ
  progress t_unit = record { types = []; typed = t_nil; moves = λ σ vs cs f h. nothing h (give r_unit h_unit) }
  progress (t_num r) = record { types = []; typed = t_nil; moves = λ σ vs cs f h. nothing h (give r_num (h_num r)) }
  progress t_bool = record { types = []; typed = t_nil; moves = λ σ vs cs f h. nothing h (give r_bool h_bool) }
  progress (t_str {p = p} {s = s} l) =
      record { types = []; typed = t_nil; moves = λ σ vs cs f h. nothing h (puts p (text_cell s) (λ i cs' k q. h_text q l) (λ i cs' q. r_str q) (λ q. r_str_full q)) }
  progress (t_local {x = x} {τ = τ} e) =
      record { types = []; typed = t_nil; moves = λ σ vs cs f h. let r = find_fits f x τ e in nothing h (give (r_local r.1) r.2) }
  progress (t_calc {p = p} {o = o} {a = a} {b = b} s t) = record { types = number ∷ number ∷ []; typed = t_cons s (t_cons t t_nil); moves = λ σ vs cs f h. calcs σ p o a b h }
  progress (t_concat {p = p} {a = a} {b = b} s t) = record { types = text ∷ text ∷ []; typed = t_cons s (t_cons t t_nil); moves = λ σ vs cs f h. joins σ p a b h }
  progress (t_eq {p = p} {a = a} {b = b} {τ = υ} s t) = record { types = υ ∷ υ ∷ []; typed = t_cons s (t_cons t t_nil); moves = λ σ vs cs f h. equals σ p a b h }
  progress (t_lt {p = p} {a = a} {b = b} s t) = record { types = number ∷ number ∷ []; typed = t_cons s (t_cons t t_nil); moves = λ σ vs cs f h. less σ p a b h }
  progress (t_seq {p = p} {a = a} {σ = υ} s t) = record { types = υ ∷ []; typed = t_cons s t_nil; moves = λ σ vs cs f h. follows_on p a f t h }
  progress (t_if {p = p} {c = c} r s t) = record { types = boolean ∷ []; typed = t_cons r t_nil; moves = λ σ vs cs f h. chooses p c f s t h }
  progress (t_val {p = p} {x = x} {a = a} {σ = υ} s t) = record { types = υ ∷ []; typed = t_cons s t_nil; moves = λ σ vs cs f h. binds p x a f t h }
  progress (t_call {f = g} {fn = fn} e ts) =
      record { types = fn.params; typed = ts; moves = λ σ vs cs f h. go_on (r_call e (has_length h)) (j_expr (bind_fits 0 h f_nil) (typed_card.bodies g fn e)) }
  progress (t_make {p = p} {k = k} {c = c} {τs = τs} e q ts) =
      record {
        types = τs;
        typed = ts;
        moves = λ σ vs cs f h. puts p (enum_cell k c vs) (λ i cs' w s. h_enum s e q (all_kept w h)) (λ i cs' s. r_make s) (λ s. r_make_full s);
      }
  progress (t_match {p = p} {k = k} {a = a} t e some_case once ts) = record { types = enum k ∷ []; typed = t_cons t t_nil; moves = λ σ vs cs f h. matches p a f e once ts h }
  progress (t_exit {p = p} {τ = τ} {a = a} t) = record { types = text ∷ []; typed = t_cons t t_nil; moves = λ σ vs cs f h. leaves σ p τ a h }

  -- a judgement that ran: what it came to, and that this fits its type
  pub record Ran (d : ℕ) (j : Judgement) (u : ℕ) (cs : List Cell) (τ : Ty) : Type 0 where
    pub out : Outcome
    pub units' : ℕ
    pub cells' : List Cell
    pub eval : Eval S d j u cs out units' cells'
    pub more : u ≤ units'
    pub keep : Keeps cs cells'
    pub fits : OutcomeFits C cells' out τ

  record RanParts (d : ℕ) (σ : Scope Value) (es : Exprs) (u : ℕ) (cs : List Cell) (τs : List Ty) : Type 0 where
    outs : Outcomes
    units' : ℕ
    cells' : List Cell
    parts : Parts S d σ es u cs outs units' cells'
    more : u ≤ units'
    keep : Keeps cs cells'
    fits : OutcomesFit C cells' outs τs

  record RanPairs (d p : ℕ) (ps : List (Value × Value)) (u : ℕ) (cs : List Cell) : Type 0 where
    out : Outcome
    units' : ℕ
    cells' : List Cell
    compared : Pairs S d p ps u cs out units' cells'
    more : u ≤ units'
    keep : Keeps cs cells'
    fits : OutcomeFits C cells' out boolean

  -- every judgement that fits a type runs, where at most g judgements can still be opened
  record Runs (g : ℕ) : Type 0 where
    run : (d : ℕ) {j : Judgement} {τ : Ty} {u : ℕ} {cs : List Cell} → JudgementFits C cs j τ → S.units ≤ u + g → Ran d j u cs τ

  module _ (g : ℕ) (w : Runs g) (d : ℕ) where
    run_parts : {σ : Scope Value} {Γ : Scope Ty} {es : Exprs} {τs : List Ty} {u : ℕ} {cs : List Cell}
        → C ∣ Γ ⊢⋆ es ∶ τs → Fits C cs σ Γ → S.units ≤ u + g → RanParts d σ es u cs τs
    run_parts {u = u} {cs = cs} t_nil f h =
        record { outs = values []; units' = u; cells' = cs; parts = no_part; more = omega arith; keep = keeps_self cs; fits = h_nil }
    run_parts {σ} {u = u} {cs = cs} (t_cons {e = e} {es = es} {τ = τ} {τs = τs} t ts) f h =
        let r : Ran d (σ ⊢ e) u cs τ = w.run d (j_expr f t) h in
        go r.out r.units' r.cells' r.eval r.more r.keep r.fits (run_parts ts (fits_kept r.keep f) (let m = r.more in omega arith))
      where
        rest : (v : Value) (u₁ : ℕ) (cs₁ : List Cell) → Eval S d (σ ⊢ e) u cs (value v) u₁ cs₁ → u ≤ u₁ → Keeps cs cs₁ → Has C cs₁ v τ
            → (o : Outcomes) (u₂ : ℕ) (cs₂ : List Cell) → Parts S d σ es u₁ cs₁ o u₂ cs₂ → u₁ ≤ u₂ → Keeps cs₁ cs₂ → OutcomesFit C cs₂ o τs → RanParts d σ (e & es) u cs (τ ∷ τs)
        rest v u₁ cs₁ ev m k hv (values vs) u₂ cs₂ p n l hs =
            record { outs = values (v ∷ vs); units' = u₂; cells' = cs₂; parts = part ev p; more = omega arith; keep = keeps_on k l; fits = h_cons (has_kept l hv) hs }
        rest v u₁ cs₁ ev m k hv (cut x) u₂ cs₂ p n l hx =
            record { outs = cut x; units' = u₂; cells' = cs₂; parts = later_stops ev p; more = omega arith; keep = keeps_on k l; fits = hx }

        go : (o : Outcome) (u₁ : ℕ) (cs₁ : List Cell) → Eval S d (σ ⊢ e) u cs o u₁ cs₁ → u ≤ u₁ → Keeps cs cs₁ → OutcomeFits C cs₁ o τ → RanParts d σ es u₁ cs₁ τs → RanParts d σ (e & es) u cs (τ ∷ τs)
        go (value v) u₁ cs₁ ev m k hv r = rest v u₁ cs₁ ev m k hv r.outs r.units' r.cells' r.parts r.more r.keep r.fits
        go (stop x) u₁ cs₁ ev m k hx r = record { outs = cut x; units' = u₁; cells' = cs₁; parts = this_stops ev; more = m; keep = k; fits = hx }

    run_pairs : (p : ℕ) (ps : List (Value × Value)) {u : ℕ} {cs : List Cell} → PairsFit C cs ps → S.units ≤ u + g → RanPairs d p ps u cs
    run_pairs p [] {u = u} {cs = cs} p_nil h =
        record { out = value (boolean_v true); units' = u; cells' = cs; compared = all_equal; more = omega arith; keep = keeps_self cs; fits = h_bool }
    run_pairs p (q ∷ ps) {u = u} {cs = cs} (p_cons {v = v} {w = v'} hv hw f) h =
        let r : Ran d (same p v v') u cs boolean = w.run d (j_same hv hw) h in
        go r.out r.units' r.cells' r.eval r.more r.keep r.fits (run_pairs p ps (pairs_kept r.keep f) (let m = r.more in omega arith))
      where
        answered : (a : Value) (u₁ : ℕ) (cs₁ : List Cell) → Eval S d (same p v v') u cs (value a) u₁ cs₁ → u ≤ u₁ → Keeps cs cs₁ → Has C cs₁ a boolean → RanPairs d p ps u₁ cs₁ → RanPairs d p ((v, v') ∷ ps) u cs
        answered a u₁ cs₁ ev m k (h_bool {b = true}) r =
            let n : u₁ ≤ r.units' = r.more in
            record { out = r.out; units' = r.units'; cells' = r.cells'; compared = pair_equal ev r.compared; more = omega arith; keep = keeps_on k r.keep; fits = r.fits }
        answered a u₁ cs₁ ev m k (h_bool {b = false}) r =
            record { out = value (boolean_v false); units' = u₁; cells' = cs₁; compared = pair_differs ev; more = m; keep = k; fits = h_bool }

        go : (o : Outcome) (u₁ : ℕ) (cs₁ : List Cell) → Eval S d (same p v v') u cs o u₁ cs₁ → u ≤ u₁ → Keeps cs cs₁ → OutcomeFits C cs₁ o boolean → RanPairs d p ps u₁ cs₁ → RanPairs d p ((v, v') ∷ ps) u cs
        go (value a) u₁ cs₁ ev m k ha r = answered a u₁ cs₁ ev m k ha r
        go (stop x) u₁ cs₁ ev m k hx r = record { out = stop x; units' = u₁; cells' = cs₁; compared = pair_stops ev; more = m; keep = k; fits = hx }

  -- once a judgement is open
  module _ (g d : ℕ) (w : Runs g) {u : ℕ} {cs : List Cell} (o : Opens S d u) (enough : S.units ≤ suc u + g) where
    by_rule : {σ : Scope Value} {e : Expr} {τ : Ty} (u₁ : ℕ) (cs₁ : List Cell) (vs : List Value) → Parts S (suc d) σ (first e) (suc u) cs (values vs) u₁ cs₁ → suc u ≤ u₁ → Keeps cs cs₁
        → (m : Move) → Rule C S.put σ cs₁ e vs m → MoveFits C cs₁ m τ → Ran d (σ ⊢ e) u cs τ
    by_rule u₁ cs₁ vs p n k (gives v cs₂) r h =
        record { out = value v; units' = u₁; cells' = cs₂; eval = by_giving o p r; more = omega arith; keep = keeps_on k h.0; fits = h.1 }
    by_rule u₁ cs₁ vs p n k (stops x) r h =
        record { out = stop x; units' = u₁; cells' = cs₁; eval = by_stopping o p r; more = omega arith; keep = k; fits = h }
    by_rule {τ = τ} u₁ cs₁ vs p n k (goes j) r h =
        let q : Ran (suc d) j u₁ cs₁ τ = w.run (suc d) h (omega arith) in
        let m : u₁ ≤ q.units' = q.more in
        record { out = q.out; units' = q.units'; cells' = q.cells'; eval = by_going o p r q.eval; more = omega arith; keep = keeps_on k q.keep; fits = q.fits }

    by_parts : {σ : Scope Value} {e : Expr} {τ : Ty} {Γ : Scope Ty} → Fits C cs σ Γ → (t : Goes Γ e τ) (os : Outcomes) (u₁ : ℕ) (cs₁ : List Cell)
        → Parts S (suc d) σ (first e) (suc u) cs os u₁ cs₁ → suc u ≤ u₁ → Keeps cs cs₁ → OutcomesFit C cs₁ os t.types → Ran d (σ ⊢ e) u cs τ
    by_parts {σ} {e} {τ} f t (values vs) u₁ cs₁ p n k h =
        let m : Moves σ e vs cs₁ τ = t.moves σ vs cs₁ (fits_kept k f) h in by_rule u₁ cs₁ vs p n k m.move m.rule m.fits
    by_parts f t (cut x) u₁ cs₁ p n k h = record { out = stop x; units' = u₁; cells' = cs₁; eval = part_stops o p; more = omega arith; keep = k; fits = h }

    by_comparison : {v v' : Value} (p : ℕ) (r : Comparison) → Compare cs v v' r → ComparisonFits C cs r → Ran d (same p v v') u cs boolean
    by_comparison p (answer b) c f = record { out = value (boolean_v b); units' = suc u; cells' = cs; eval = by_answer o c; more = omega arith; keep = keeps_self cs; fits = h_bool }
    by_comparison p (fields ps) c f =
        let q : RanPairs (suc d) p ps (suc u) cs = run_pairs g w (suc d) p ps f enough in
        let m : suc u ≤ q.units' = q.more in
        record { out = q.out; units' = q.units'; cells' = q.cells'; eval = by_fields o c q.compared; more = omega arith; keep = q.keep; fits = q.fits }

    opened : {j : Judgement} {τ : Ty} → JudgementFits C cs j τ → Ran d j u cs τ
    opened (j_expr {σ} {Γ} {e} {τ} f t) =
        let s : Goes Γ e τ = progress t in
        let r : RanParts (suc d) σ (first e) (suc u) cs s.types = run_parts g w (suc d) s.typed f enough in
        by_parts f s r.outs r.units' r.cells' r.parts r.more r.keep r.fits
    opened (j_same {p = p} {v = v} {w = v'} hv hw) = let c : Comparisons C cs v v' = comparable hv hw in by_comparison p c.comparison c.rule c.fits

  spend : {d : ℕ} {j : Judgement} {τ : Ty} {u : ℕ} {cs : List Cell} → S.units ≤ u → Ran d j u cs τ
  spend {u = u} {cs = cs} h = record { out = stop (overrun _); units' = u; cells' = cs; eval = at_overrun h; more = omega arith; keep = keeps_self cs; fits = tt }

  run_more : (g : ℕ) → Runs g → (d : ℕ) {j : Judgement} {τ : Ty} {u : ℕ} {cs : List Cell} → JudgementFits C cs j τ → S.units ≤ u + suc g → Ran d j u cs τ
  run_more g w d {j} {τ} {u} {cs} f h = go (dec_le S.units u) (dec_le S.depth d)
    where
      go : Dec (S.units ≤ u) → Dec (S.depth ≤ d) → Ran d j u cs τ
      go (yes a) b = spend a
      go (no a) (yes b) =
          record { out = stop (too_deep (record_of j)); units' = suc u; cells' = cs; eval = at_too_deep (omega arith) b; more = omega arith; keep = keeps_self cs; fits = tt }
      go (no a) (no b) = opened g d w (record { unit_left = omega arith; room = omega arith }) (omega arith) f

  runs : (g : ℕ) → Runs g
  runs zero = record { run = λ d f h. spend (omega arith) }
  runs (suc g) = record { run = λ d f h. run_more g (runs g) d f h }

  pub total : (d u : ℕ) {σ : Scope Value} {Γ : Scope Ty} {e : Expr} {τ : Ty} {cs : List Cell} → C ∣ Γ ⊢ e ∶ τ → Fits C cs σ Γ → Ran d (σ ⊢ e) u cs τ
  total d u t f = (runs S.units).run d (j_expr f t) (omega arith)
