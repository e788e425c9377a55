-- The same run over two stores that answer alike unless one refuses.
use Rattle.std.proofs.Common.{◌≡◌, ℕ, zero, suc, ◌≤◌, Bool, true, false, cond, ltb, leb, ◌⊎◌, List, [], ◌∷◌, ◌++◌, length, Some, None, Option, sym, refl, ap, ◌∙◌, subst, inl, inr, arith}
use native.Mathlib.Decide.{dec_le}
use Rattle.battery.specs.declared.value.Value.{Value}
use Rattle.battery.specs.declared.value.Value.TheVariants.{Boolean as boolean_v}
use Rattle.battery.specs.declared.outcome.Stop.TheVariants.{FullStore as full_store, TooDeep as too_deep}
use Rattle.battery.specs.Outcome.{Outcome}
use Rattle.std.specs.Prelude.{Err as stop}
use Rattle.battery.specs.Tree.{Expr, Unit', Num, Bool', Str, Local, Calc, Concat, Eq, Lt, Seq, If, Val, Call, Make, Match, Exit, Exprs, ∅, ◌&◌, place, Scope, ◌▸◌}
use Rattle.battery.specs.Cell.{Cell, text_cell, enum_cell, Put, append}
use Rattle.battery.specs.Rules.{Setup, Judgement, ◌⊢◌, same, record_of, first, Move, gives, stops, goes, Comparison, answer, fields}
use Rattle.machine.specs.Machine.{two, of_bool, of_cell, of_text, putting, after, compare, Frame, waits, compares, passes, State, going, ended, stuck, Back, act, parting, pairing, settle, comparing, resume, begin, step, turn}
use Rattle.machine.specs.Claims.{start, Going, over, Full, is_full, Alike, AlikeOverStores}
use Rattle.machine.proofs.Turns.{follows_rules, whole, not_going, ended_alike}

-- a state, or a move, of a full store
data FullState : State → Type 0 where
  full_state : {p u : ℕ} {cs : List Cell} → FullState (ended (stop (full_store p)) u cs)

data FullMove : Option Move → Type 0 where
  full_move : {p : ℕ} → FullMove (Some (stops (full_store p)))

-- two things are the same, or one of them is that of a full store
data Lock {A : Type 0} (F : A → Type 0) (a b : A) : Type 0 where
  equal : a ≡ b → Lock F a b
  left : F a → Lock F a b
  right : F b → Lock F a b

then_lock : {A : Type 0} (o : Option A) (f g : A → Option Move) → ((a : A) → Lock FullMove (f a) (g a)) → Lock FullMove (o ▸ f) (o ▸ g)
then_lock None f g h = equal refl
then_lock (Some a) f g h = h a

cond_lock : (b : Bool) (m n k : Move) → Lock FullMove (Some m) (Some n) → Lock FullMove (Some (cond b m k)) (Some (cond b n k))
cond_lock true m n k h = h
cond_lock false m n k h = equal refl

-- two puts answer alike unless one of them refuses
abbrev Agree : Put → Put → Type 0
Agree put put' = (cs : List Cell) (c : Cell) → (put cs c ≡ put' cs c) ⊎ ((put cs c ≡ None) ⊎ (put' cs c ≡ None))

abbrev with_put : Setup → Put → Setup
with_put S put = record { card = S.card; put = put; depth = S.depth; units = S.units }

module _ (S : Setup) (put' : Put) (agree : Agree S.put put') where
  abbrev S' : Setup
  S' = with_put S put'

  put_lock : (p : ℕ) (cs : List Cell) (c : Cell) → Lock FullMove (Some (putting p (S.put cs c))) (Some (putting p (put' cs c)))
  put_lock p cs c = go (agree cs c)
    where
      go : (S.put cs c ≡ put' cs c) ⊎ ((S.put cs c ≡ None) ⊎ (put' cs c ≡ None)) → Lock FullMove (Some (putting p (S.put cs c))) (Some (putting p (put' cs c)))
      go (inl e) = equal (ap (λ r. Some (putting p r)) e)
      go (inr (inl e)) = left (rw e full_move)
      go (inr (inr e)) = right (rw e full_move)

  after_lock : (σ : Scope Value) (cs : List Cell) (e : Expr) (vs : List Value) → Lock FullMove (after S σ cs e vs) (after S' σ cs e vs)
  after_lock σ cs (Unit' p) vs = equal refl
  after_lock σ cs (Num p k) vs = equal refl
  after_lock σ cs (Bool' p b) vs = equal refl
  after_lock σ cs (Str p s) vs = put_lock p cs (text_cell s)
  after_lock σ cs (Local p x) vs = equal refl
  after_lock σ cs (Calc p o a b) vs = equal refl
  after_lock σ cs (Concat p a b) vs =
      then_lock (two vs) _ _ (λ w. then_lock (of_cell cs w.0) _ _ (λ c. then_lock (of_text c) _ _ (λ s. then_lock (of_cell cs w.1) _ _ (λ d. then_lock (of_text d) _ _ (λ t.
      cond_lock (leb (length (s ++ t)) 24) _ _ _ (put_lock p cs (text_cell (s ++ t))))))))
  after_lock σ cs (Eq p a b) vs = equal refl
  after_lock σ cs (Lt p a b) vs = equal refl
  after_lock σ cs (Seq p a b) vs = equal refl
  after_lock σ cs (If p c a b) vs = equal refl
  after_lock σ cs (Val p x a b) vs = equal refl
  after_lock σ cs (Call p f es) vs = equal refl
  after_lock σ cs (Make p k c es) vs = put_lock p cs (enum_cell k c vs)
  after_lock σ cs (Match p a ms) vs = equal refl
  after_lock σ cs (Exit p τ a) vs = equal refl

  module _ (K : List Frame) (back back' : Back) (h : (v : Value) (u : ℕ) (cs : List Cell) → Lock FullState (back v u cs) (back' v u cs)) where
    same_act : (p u : ℕ) (cs : List Cell) (m : Option Move) → Lock FullState (act S back p K u cs m) (act S' back' p K u cs m)
    same_act p u cs None = equal refl
    same_act p u cs (Some (gives v cs')) = h v u cs'
    same_act p u cs (Some (stops x)) = equal refl
    same_act p u cs (Some (goes j)) = equal refl

    full_left : (p u : ℕ) (cs : List Cell) (m : Option Move) → FullMove m → FullState (act S back p K u cs m)
    full_left p u cs m full_move = full_state

    full_right : (p u : ℕ) (cs : List Cell) (m : Option Move) → FullMove m → FullState (act S' back' p K u cs m)
    full_right p u cs m full_move = full_state

    act_lock : (p u : ℕ) (cs : List Cell) (m m' : Option Move) → Lock FullMove m m' → Lock FullState (act S back p K u cs m) (act S' back' p K u cs m')
    act_lock p u cs m m' (equal e) = subst (λ x. Lock FullState (act S back p K u cs m) (act S' back' p K u cs x)) e (same_act p u cs m)
    act_lock p u cs m m' (left f) = left (full_left p u cs m f)
    act_lock p u cs m m' (right f) = right (full_right p u cs m' f)

    parting_lock : (σ : Scope Value) (e : Expr) (vs : List Value) (es : Exprs) (u : ℕ) (cs : List Cell) → Lock FullState (parting S back σ e vs es K u cs) (parting S' back' σ e vs es K u cs)
    parting_lock σ e vs ∅ u cs = act_lock (place e) u cs (after S σ cs e vs) (after S' σ cs e vs) (after_lock σ cs e vs)
    parting_lock σ e vs (a & es) u cs = equal refl

    pairing_lock : (p : ℕ) (ps : List (Value × Value)) (u : ℕ) (cs : List Cell) → Lock FullState (pairing S back p ps K u cs) (pairing S' back' p ps K u cs)
    pairing_lock p [] u cs = h (boolean_v true) u cs
    pairing_lock p (q ∷ ps) u cs = equal refl

    settle_lock : (p u : ℕ) (cs : List Cell) (r : Option Comparison) → Lock FullState (settle S back p K u cs r) (settle S' back' p K u cs r)
    settle_lock p u cs None = equal refl
    settle_lock p u cs (Some (answer b)) = h (boolean_v b) u cs
    settle_lock p u cs (Some (fields ps)) = pairing_lock p ps u cs

  comparing_lock : (K : List Frame) (back back' : Back) → ((v : Value) (u : ℕ) (cs : List Cell) → Lock FullState (back v u cs) (back' v u cs))
      → (p : ℕ) (ps : List (Value × Value)) (u : ℕ) (cs : List Cell) (b : Option Bool) → Lock FullState (comparing S back p ps K u cs b) (comparing S' back' p ps K u cs b)
  comparing_lock K back back' h p ps u cs None = equal refl
  comparing_lock K back back' h p ps u cs (Some true) = pairing_lock K back back' h p ps u cs
  comparing_lock K back back' h p ps u cs (Some false) = h (boolean_v false) u cs

  resume_lock : (K : List Frame) (v : Value) (u : ℕ) (cs : List Cell) → Lock FullState (resume S K v u cs) (resume S' K v u cs)
  resume_lock [] v u cs = equal refl
  resume_lock (passes ∷ K) v u cs = resume_lock K v u cs
  resume_lock (waits σ e vs es ∷ K) v u cs = parting_lock K (resume S K) (resume S' K) (resume_lock K) σ e (vs ++ (v ∷ [])) es u cs
  resume_lock (compares p ps ∷ K) v u cs = comparing_lock K (resume S K) (resume S' K) (resume_lock K) p ps u cs (of_bool v)

  begin_lock : (j : Judgement) (K : List Frame) (u : ℕ) (cs : List Cell) → Lock FullState (begin S j K u cs) (begin S' j K u cs)
  begin_lock (σ ⊢ e) K u cs = parting_lock K (resume S K) (resume S' K) (resume_lock K) σ e [] (first e) u cs
  begin_lock (same p v w) K u cs = settle_lock K (resume S K) (resume S' K) (resume_lock K) p u cs (compare cs v w)

  step_lock : (s : State) → Lock FullState (step S s) (step S' s)
  step_lock (going j K u cs) = go (leb S.depth (length K))
    where
      go : (b : Bool) → Lock FullState (cond b (ended (stop (too_deep (record_of j))) (suc u) cs) (begin S j K (suc u) cs)) (cond b (ended (stop (too_deep (record_of j))) (suc u) cs) (begin S' j K (suc u) cs))
      go true = equal refl
      go false = begin_lock j K (suc u) cs
  step_lock (ended o u cs) = equal refl
  step_lock (stuck p u cs) = equal refl

  stays_full : (Q : Setup) (n : ℕ) (s : State) → FullState s → FullState (turn Q n s)
  stays_full Q zero s f = f
  stays_full Q (suc n) s full_state = stays_full Q n _ full_state

  turn_lock : (n : ℕ) (s : State) → Lock FullState (turn S n s) (turn S' n s)
  turn_lock zero s = equal refl
  turn_lock (suc n) s = go (step_lock s) (turn_lock n (step S s))
    where
      go : Lock FullState (step S s) (step S' s) → Lock FullState (turn S n (step S s)) (turn S' n (step S s)) → Lock FullState (turn S n (step S s)) (turn S' n (step S' s))
      go (equal e) ih = subst (λ t. Lock FullState (turn S n (step S s)) (turn S' n t)) e ih
      go (left f) ih = left (stays_full S n (step S s) f)
      go (right f) ih = right (stays_full S' n (step S' s) f)

full_out : {o : Outcome} {n : ℕ} {cs : List Cell} → FullState (ended o n cs) → Full o
full_out full_state = is_full

full_not_going : {s : State} {n : ℕ} → FullState s → ¬ (Going s n)
full_not_going full_state g = elim g [ ]

-- two appending stores, of any mosts, answer alike unless one refuses
appends_agree : (m m' : ℕ) → Agree (append m) (append m')
appends_agree m m' cs c = go (ltb (length cs) m) (ltb (length cs) m')
  where
    r : Bool → Option (ℕ × List Cell)
    r b = ◌▸◌ {B = ℕ × List Cell} (cond {A = Option ℕ} b (Some (length cs)) None) (λ i. Some (i, cond b (cs ++ c ∷ []) cs))

    go : (a b : Bool) → (r a ≡ r b) ⊎ ((r a ≡ None) ⊎ (r b ≡ None))
    go true true = inl refl
    go true false = inr (inr refl)
    go false b = inr (inl refl)

pub alike_over_stores : AlikeOverStores
alike_over_stores Q m m' fn vs cs o o' n n' cs₁ cs₂ d d' nf = go (turn_lock S put' (appends_agree m m') n s) (dec_le n' n)
  where
    S : Setup
    S = over Q m

    put' : Put
    put' = append m'

    s : State
    s = start S fn vs cs

    go : Lock FullState (turn S n s) (turn (with_put S put') n s) → Dec (n' ≤ n) → Alike o n cs₁ o' n' cs₂ ⊎ (Full o' × (n' ≤ n))
    go (left f) h = absurd (nf (full_out (subst FullState (whole S d) f)))
    go (equal e) (yes h) = inl (ended_alike (sym (whole S d) ∙ e ∙ (follows_rules (with_put S put') fn vs cs o' n' cs₂ d' n).done h))
    go (equal e) (no h) =
        let g : Going (turn (with_put S put') n s) n = (follows_rules (with_put S put') fn vs cs o' n' cs₂ d' n).paused (omega arith) in
        absurd (not_going (subst (λ t. Going t n) (sym e ∙ whole S d) g))
    go (right f) (yes h) = inr (full_out (subst FullState ((follows_rules (with_put S put') fn vs cs o' n' cs₂ d' n).done h) f), h)
    go (right f) (no h) = absurd (full_not_going f ((follows_rules (with_put S put') fn vs cs o' n' cs₂ d' n).paused (omega arith)))
