-- What the rules derive, the machine runs through.
use Rattle.std.proofs.Common.{◌≡◌, ℕ, zero, suc, ◌+◌, ◌<◌, ◌≤◌, Bool, true, false, T, eqb, leb, ◌≢◌, List, [], ◌∷◌, ◌++◌, length, Some, sym, refl, ap, ◌∙◌, subst, append_assoc, append-nil, suc-add, zero-add, arith, le→leb, eqb→eq, leb→le}
use lib.Dec.{eqb_refl}
use Rattle.battery.specs.declared.value.Value.{Value}
use Rattle.battery.specs.Outcome.{Outcome}
use Rattle.std.specs.Prelude.{Ok as value, Err as stop}
use Rattle.battery.specs.Tree.{Expr, Exprs, ∅, place, Scope}
use Rattle.battery.specs.Cell.{Cell}
use Rattle.battery.specs.Rules.{Setup, Outcomes, values, cut, Judgement, ◌⊢◌, same, Move, Rule, r_unit, r_num, r_bool, r_str, r_str_full, r_local, r_calc, r_calc_out, r_calc_zero, r_concat, r_concat_long, r_concat_full, r_eq, r_lt, r_seq, r_if_true, r_if_false, r_val, r_call, r_make, r_make_full, r_match, r_exit, Comparison, Compare, c_unit, c_num, c_bool, c_text, c_cases, c_fields, Opens, Eval, at_overrun, at_too_deep, part_stops, by_giving, by_stopping, by_going, by_answer, by_fields, Parts, no_part, part, this_stops, later_stops, Pairs, all_equal, pair_equal, pair_differs, pair_stops}
use Rattle.machine.specs.Machine.{after, compare, Frame, waits, compares, passes, State, ended, arrive, act, parting, pairing, settle, resume, begin, step, turn}

-- tests
T_true : (b : Bool) → T b → b ≡ true
T_true true t = refl
T_true false t = elim t [ ]

not_T_false : (b : Bool) → (T b → ⊥) → b ≡ false
not_T_false true n = absurd (n tt)
not_T_false false n = refl

leb_yes : (m n : ℕ) → m ≤ n → leb m n ≡ true
leb_yes m n h = T_true (leb m n) (le→leb m n h)

leb_no : (m n : ℕ) → n < m → leb m n ≡ false
leb_no m n h = not_T_false (leb m n) (λ t. let k : m ≤ n = leb→le m n t in omega arith)

eqb_same : (n : ℕ) → eqb n n ≡ true
eqb_same n = T_true (eqb n n) (eqb_refl n)

eqb_yes : (m n : ℕ) → m ≡ n → eqb m n ≡ true
eqb_yes m n e = rw e (eqb_same n)

eqb_no : (m n : ℕ) → m ≢ n → eqb m n ≡ false
eqb_no m n h = not_T_false (eqb m n) (λ t. h (eqb→eq m n t))

module _ (S : Setup) where
  rule_after : {σ : Scope Value} {cs : List Cell} {e : Expr} {vs : List Value} {m : Move} → Rule S.card S.put σ cs e vs m → after S σ cs e vs ≡ Some m
  rule_after r_unit = refl
  rule_after r_num = refl
  rule_after r_bool = refl
  rule_after (r_str h) = rw h
  rule_after (r_str_full h) = rw h
  rule_after (r_local h) = rw h
  rule_after (r_calc h k) = rw (h, k)
  rule_after (r_calc_out h k) = rw (h, k)
  rule_after (r_calc_zero h) = rw h
  rule_after (r_concat {s = s} {t = t} h k l w) = rw (h, k, leb_yes (length (s ++ t)) 24 l, w)
  rule_after (r_concat_long {s = s} {t = t} h k l) = rw (h, k, leb_no (length (s ++ t)) 24 l)
  rule_after (r_concat_full {s = s} {t = t} h k l w) = rw (h, k, leb_yes (length (s ++ t)) 24 l, w)
  rule_after r_eq = refl
  rule_after r_lt = refl
  rule_after r_seq = refl
  rule_after r_if_true = refl
  rule_after r_if_false = refl
  rule_after r_val = refl
  rule_after (r_call {fn = fn} {vs = vs} h l) = rw (h, eqb_yes (length vs) (length fn.params) l)
  rule_after (r_make h) = rw h
  rule_after (r_make_full h) = rw h
  rule_after (r_match {vs = vs} h k) = rw (h, k, eqb_same (length vs))
  rule_after (r_exit h) = rw h

  compared : {cs : List Cell} {v w : Value} {r : Comparison} → Compare cs v w r → compare cs v w ≡ Some r
  compared c_unit = refl
  compared c_num = refl
  compared c_bool = refl
  compared (c_text h k) = rw (h, k)
  compared (c_cases {k = k} {c = c} {c' = c'} h q n) = rw (h, q, eqb_same k, eqb_no c c' n)
  compared (c_fields {k = k} {c = c} h q) = rw (h, q, eqb_same k, eqb_same c)

  -- from s, in as many steps as u' exceeds u, to s'
  pub record Reaches (u : ℕ) (s : State) (u' : ℕ) (s' : State) : Type 0 where
    pub steps : ℕ
    pub counted : u + steps ≡ u'
    pub there : turn S steps s ≡ s'

  pub turn_more : (m n : ℕ) (s : State) → turn S (m + n) s ≡ turn S n (turn S m s)
  turn_more zero n s = rw zero-add
  turn_more (suc m) n s = rw suc-add (turn_more m n (step S s))

  abbrev pub finish : List Frame → Outcome → ℕ → List Cell → State
  finish K (value v) u cs = resume S K v u cs
  finish K (stop x) u cs = ended (stop x) u cs

  abbrev pub finishes : Scope Value → Expr → List Value → List Frame → Outcomes → ℕ → List Cell → State
  finishes σ e ws K (values vs) u cs = parting S (resume S K) σ e (ws ++ vs) ∅ K u cs
  finishes σ e ws K (cut x) u cs = ended (stop x) u cs

  stay : {u : ℕ} {s s' : State} → s ≡ s' → Reaches u s u s'
  stay e = record { steps = 0; counted = omega arith; there = e }

  and_then : {u u₁ u₂ : ℕ} {s s₁ s₂ : State} → Reaches u s u₁ s₁ → Reaches u₁ s₁ u₂ s₂ → Reaches u s u₂ s₂
  and_then {s = s} r q =
      record { steps = r.steps + q.steps; counted = omega arith; there = turn_more r.steps q.steps s ∙ ap (turn S q.steps) r.there ∙ q.there }

  opened : {d u : ℕ} (j : Judgement) (K : List Frame) (cs : List Cell) → length K ≡ d → Opens S d u → Reaches u (arrive S j K u cs) (suc u) (begin S j K (suc u) cs)
  opened {d} {u} j K cs l o =
      record { steps = 1; counted = omega arith; there = rw (leb_no S.units u o.unit_left, leb_no S.depth (length K) (subst (λ n. n < S.depth) (sym l) o.room)) }

  rules : {u : ℕ} {σ : Scope Value} {e : Expr} {vs : List Value} {cs : List Cell} {m : Move} (K : List Frame) → Rule S.card S.put σ cs e vs m
      → Reaches u (parting S (resume S K) σ e vs ∅ K u cs) u (act S (resume S K) (place e) K u cs (Some m))
  rules {u} {σ} {e} {vs} {cs} K r = stay (ap (act S (resume S K) (place e) K u cs) (rule_after r))

  judged : {u : ℕ} {v w : Value} {cs : List Cell} {r : Comparison} (p : ℕ) (K : List Frame) → Compare cs v w r
      → Reaches u (begin S (same p v w) K u cs) u (settle S (resume S K) p K u cs (Some r))
  judged {u} {cs = cs} p K c = stay (ap (settle S (resume S K) p K u cs) (compared c))

  passing : {u : ℕ} (cs : List Cell) (K : List Frame) (o : Outcome) → Reaches u (finish (passes ∷ K) o u cs) u (finish K o u cs)
  passing cs K (value v) = stay refl
  passing cs K (stop x) = stay refl

  mutual
    pub follows : {d : ℕ} {j : Judgement} {u : ℕ} {cs : List Cell} {o : Outcome} {u' : ℕ} {cs' : List Cell}
        → Eval S d j u cs o u' cs' → (K : List Frame) → length K ≡ d → Reaches u (arrive S j K u cs) u' (finish K o u' cs')
    follows (at_overrun {u = u} h) K l = stay (rw (leb_yes S.units u h))
    follows (at_too_deep {u = u} h k) K l =
        record { steps = 1; counted = omega arith; there = rw (leb_no S.units u h, leb_yes S.depth (length K) (subst (λ n. S.depth ≤ n) (sym l) k)) }
    follows (part_stops {σ = σ} {e = e} {cs = cs} o p) K l = and_then (opened (σ ⊢ e) K cs l o) (follows_parts p e [] K (ap suc l))
    follows (by_giving {σ = σ} {e = e} {cs = cs} o p r) K l = and_then (opened (σ ⊢ e) K cs l o) (and_then (follows_parts p e [] K (ap suc l)) (rules K r))
    follows (by_stopping {σ = σ} {e = e} {cs = cs} o p r) K l = and_then (opened (σ ⊢ e) K cs l o) (and_then (follows_parts p e [] K (ap suc l)) (rules K r))
    follows (by_going {σ = σ} {e = e} {cs = cs} {o = out} o p r q) K l =
        and_then (opened (σ ⊢ e) K cs l o)
        (and_then (follows_parts p e [] K (ap suc l)) (and_then (rules K r) (and_then (follows q (passes ∷ K) (ap suc l)) (passing _ K out))))
    follows (by_answer {p = p} {v = v} {w = w} {cs = cs} o c) K l = and_then (opened (same p v w) K cs l o) (judged p K c)
    follows (by_fields {p = p} {v = v} {w = w} {cs = cs} o c q) K l = and_then (opened (same p v w) K cs l o) (and_then (judged p K c) (follows_pairs q K (ap suc l)))

    pub follows_parts : {d : ℕ} {σ : Scope Value} {es : Exprs} {u : ℕ} {cs : List Cell} {r : Outcomes} {u' : ℕ} {cs' : List Cell}
        → Parts S d σ es u cs r u' cs' → (e : Expr) (ws : List Value) (K : List Frame) → suc (length K) ≡ d
        → Reaches u (parting S (resume S K) σ e ws es K u cs) u' (finishes σ e ws K r u' cs')
    follows_parts (no_part {σ = σ} {u = u} {cs = cs}) e ws K l = stay (ap (λ vs. parting S (resume S K) σ e vs ∅ K u cs) (sym (append-nil ws)))
    follows_parts (part {σ = σ} {es = es} {u' = u'} {cs' = cs'} {v = v} {vs = vs} h p) e ws K l =
        and_then (follows h (waits σ e ws es ∷ K) l)
        (and_then (follows_parts p e (ws ++ (v ∷ [])) K l) (stay (ap (λ ys. parting S (resume S K) σ e ys ∅ K u' cs') (append_assoc ws (v ∷ []) vs))))
    follows_parts (this_stops {σ = σ} {es = es} h) e ws K l = follows h (waits σ e ws es ∷ K) l
    follows_parts (later_stops {σ = σ} {es = es} {v = v} h p) e ws K l =
        and_then (follows h (waits σ e ws es ∷ K) l) (follows_parts p e (ws ++ (v ∷ [])) K l)

    pub follows_pairs : {d p : ℕ} {ps : List (Value × Value)} {u : ℕ} {cs : List Cell} {o : Outcome} {u' : ℕ} {cs' : List Cell}
        → Pairs S d p ps u cs o u' cs' → (K : List Frame) → suc (length K) ≡ d → Reaches u (pairing S (resume S K) p ps K u cs) u' (finish K o u' cs')
    follows_pairs all_equal K l = stay refl
    follows_pairs (pair_equal {p = p} {ps = ps} h q) K l = and_then (follows h (compares p ps ∷ K) l) (follows_pairs q K l)
    follows_pairs (pair_differs {p = p} {ps = ps} h) K l = follows h (compares p ps ∷ K) l
    follows_pairs (pair_stops {p = p} {ps = ps} h) K l = follows h (compares p ps ∷ K) l
