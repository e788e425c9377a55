-- A run ends as the rules say, whatever its turns.
use Rattle.std.proofs.Common.{◌≡◌, ℕ, zero, suc, ◌+◌, ◌-◌, ◌<◌, ◌≤◌, Bool, true, false, cond, leb, ◌⊎◌, List, [], ◌∷◌, ◌++◌, length, Some, None, Option, sym, refl, ap, ◌∙◌, subst, inl, inr, arith}
use mathlib.Core.Path.{subst₃}
use native.Mathlib.Decide.{dec_le}
use Rattle.battery.specs.declared.value.Value.{Value}
use Rattle.battery.specs.declared.value.Value.TheVariants.{Boolean as boolean_v}
use Rattle.battery.specs.declared.outcome.Stop.TheVariants.{TooDeep as too_deep, Overrun as overrun}
use Rattle.battery.specs.Outcome.{Outcome}
use Rattle.std.specs.Prelude.{Ok as value, Err as stop}
use Rattle.battery.specs.Tree.{Expr, Exprs, ∅, ◌&◌, place, Scope, bind, Fn}
use Rattle.battery.specs.Cell.{Cell}
use Rattle.battery.specs.Rules.{Setup, Judgement, ◌⊢◌, same, record_of, first, Move, gives, stops, goes, Comparison, answer, fields, Eval, Run}
use Rattle.battery.specs.Claims.{TypedRun, Ends}
use Rattle.battery.proofs.Appending.{every_run_ends}
use Rattle.machine.specs.Machine.{of_bool, Frame, waits, compares, passes, State, going, ended, stuck, arrive, act, parting, pairing, settle, comparing, resume, begin, step, turn, after, compare, Back}
use Rattle.machine.specs.Claims.{start, Going, is_going, TurnsAddUp, OneOutcome, RunsByTheRules, Alike, AlikeOverEqualMosts, KInTurns}
use Rattle.machine.proofs.Follows.{Reaches, turn_more, finish, follows}

-- the units that a state has spent
abbrev spent : State → ℕ
spent (going j K u cs) = u
spent (ended o u cs) = u
spent (stuck p u cs) = u

data Halted : State → Type 0 where
  h_ended : {o : Outcome} {u : ℕ} {cs : List Cell} → Halted (ended o u cs)
  h_stuck : {p u : ℕ} {cs : List Cell} → Halted (stuck p u cs)

-- where a state stands after n units in all
data Stands (s : State) (n : ℕ) : Type 0 where
  still : Going s n → Stands s n
  halted : Halted s → spent s ≤ n → Stands s n

module _ (S : Setup) where
  spent_arrive : (j : Judgement) (K : List Frame) (u : ℕ) (cs : List Cell) → spent (arrive S j K u cs) ≡ u
  spent_arrive j K u cs = go (leb S.units u)
    where
      go : (b : Bool) → spent (cond b (ended (stop (overrun (record_of j))) u cs) (going j K u cs)) ≡ u
      go true = refl
      go false = refl

  spent_act : (back : Back) → ((v : Value) (u : ℕ) (cs : List Cell) → spent (back v u cs) ≡ u) → (p : ℕ) (K : List Frame) (u : ℕ) (cs : List Cell) (m : Option Move)
      → spent (act S back p K u cs m) ≡ u
  spent_act back h p K u cs None = refl
  spent_act back h p K u cs (Some (gives v cs')) = h v u cs'
  spent_act back h p K u cs (Some (stops x)) = refl
  spent_act back h p K u cs (Some (goes j)) = spent_arrive j (passes ∷ K) u cs

  spent_parting : (back : Back) → ((v : Value) (u : ℕ) (cs : List Cell) → spent (back v u cs) ≡ u)
      → (σ : Scope Value) (e : Expr) (vs : List Value) (es : Exprs) (K : List Frame) (u : ℕ) (cs : List Cell) → spent (parting S back σ e vs es K u cs) ≡ u
  spent_parting back h σ e vs ∅ K u cs = spent_act back h (place e) K u cs (after S σ cs e vs)
  spent_parting back h σ e vs (a & es) K u cs = spent_arrive (σ ⊢ a) (waits σ e vs es ∷ K) u cs

  spent_pairing : (back : Back) → ((v : Value) (u : ℕ) (cs : List Cell) → spent (back v u cs) ≡ u)
      → (p : ℕ) (ps : List (Value × Value)) (K : List Frame) (u : ℕ) (cs : List Cell) → spent (pairing S back p ps K u cs) ≡ u
  spent_pairing back h p [] K u cs = h (boolean_v true) u cs
  spent_pairing back h p (q ∷ ps) K u cs = spent_arrive (same p q.0 q.1) (compares p ps ∷ K) u cs

  spent_settle : (back : Back) → ((v : Value) (u : ℕ) (cs : List Cell) → spent (back v u cs) ≡ u)
      → (p : ℕ) (K : List Frame) (u : ℕ) (cs : List Cell) (r : Option Comparison) → spent (settle S back p K u cs r) ≡ u
  spent_settle back h p K u cs None = refl
  spent_settle back h p K u cs (Some (answer b)) = h (boolean_v b) u cs
  spent_settle back h p K u cs (Some (fields ps)) = spent_pairing back h p ps K u cs

  spent_comparing : (back : Back) → ((v : Value) (u : ℕ) (cs : List Cell) → spent (back v u cs) ≡ u)
      → (p : ℕ) (ps : List (Value × Value)) (K : List Frame) (u : ℕ) (cs : List Cell) (b : Option Bool) → spent (comparing S back p ps K u cs b) ≡ u
  spent_comparing back h p ps K u cs None = refl
  spent_comparing back h p ps K u cs (Some true) = spent_pairing back h p ps K u cs
  spent_comparing back h p ps K u cs (Some false) = h (boolean_v false) u cs

  spent_resume : (K : List Frame) (v : Value) (u : ℕ) (cs : List Cell) → spent (resume S K v u cs) ≡ u
  spent_resume [] v u cs = refl
  spent_resume (passes ∷ K) v u cs = spent_resume K v u cs
  spent_resume (waits σ e vs es ∷ K) v u cs = spent_parting (resume S K) (spent_resume K) σ e (vs ++ (v ∷ [])) es K u cs
  spent_resume (compares p ps ∷ K) v u cs = spent_comparing (resume S K) (spent_resume K) p ps K u cs (of_bool v)

  spent_begin : (j : Judgement) (K : List Frame) (u : ℕ) (cs : List Cell) → spent (begin S j K u cs) ≡ u
  spent_begin (σ ⊢ e) K u cs = spent_parting (resume S K) (spent_resume K) σ e [] (first e) K u cs
  spent_begin (same p v w) K u cs = spent_settle (resume S K) (spent_resume K) p K u cs (compare cs v w)

  spent_step : (j : Judgement) (K : List Frame) (u : ℕ) (cs : List Cell) → spent (step S (going j K u cs)) ≡ suc u
  spent_step j K u cs = go (leb S.depth (length K))
    where
      go : (b : Bool) → spent (cond b (ended (stop (too_deep (record_of j))) (suc u) cs) (begin S j K (suc u) cs)) ≡ suc u
      go true = refl
      go false = spent_begin j K (suc u) cs

  halted_turn : (n : ℕ) (s : State) → Halted s → turn S n s ≡ s
  halted_turn zero s h = refl
  halted_turn (suc n) (ended o u cs) h = halted_turn n (ended o u cs) h
  halted_turn (suc n) (stuck p u cs) h = halted_turn n (stuck p u cs) h
  halted_turn (suc n) (going j K u cs) h = elim h [ ]

  halted_stands : (n m : ℕ) (s : State) → Halted s → spent s ≤ m → Stands (turn S n s) m
  halted_stands n m s h l = subst (λ t. Stands t m) (sym (halted_turn n s h)) (halted h l)

  after_units : (n : ℕ) (s : State) (u : ℕ) → spent s ≡ u → Stands (turn S n s) (u + n)
  after_units n (ended o u cs) w q = halted_stands n (w + n) (ended o u cs) h_ended (omega arith)
  after_units n (stuck p u cs) w q = halted_stands n (w + n) (stuck p u cs) h_stuck (omega arith)
  after_units zero (going j K u cs) w q = let r : u ≡ w + 0 = omega arith in still (subst (Going (going j K u cs)) r is_going)
  after_units (suc n) (going j K u cs) w q =
      let r : suc u + n ≡ w + suc n = omega arith in
      subst (Stands (turn S n (step S (going j K u cs)))) r (after_units n (step S (going j K u cs)) (suc u) (spent_step j K u cs))

  -- the state after a run of u units, seen earlier, is going
  still_going : (s : State) (n : ℕ) (o : Outcome) (cs : List Cell) → spent s ≡ 0 → turn S n s ≡ ended o n cs → (G : ℕ) → G < n → Going (turn S G s) G
  still_going s n o cs z e G h = go (after_units G s 0 z)
    where
      late : turn S n s ≡ turn S (n - G) (turn S G s)
      late = let q : n ≡ G + (n - G) = omega arith in ap (λ k. turn S k s) q ∙ turn_more S G (n - G) s

      go : Stands (turn S G s) (0 + G) → Going (turn S G s) G
      go (still g) = let q : 0 + G ≡ G = omega arith in subst (Going (turn S G s)) q g
      go (halted k l) =
          let q : spent (turn S G s) ≡ n = ap spent (sym (halted_turn (n - G) (turn S G s) k) ∙ sym late ∙ e) in
          absurd (omega arith)

  at_end : (s : State) (n : ℕ) (o : Outcome) (cs : List Cell) → turn S n s ≡ ended o n cs → (G : ℕ) → n ≤ G → turn S G s ≡ ended o n cs
  at_end s n o cs e G h =
      let q : G ≡ n + (G - n) = omega arith in
      ap (λ k. turn S k s) q ∙ turn_more S n (G - n) s ∙ ap (turn S (G - n)) e ∙ halted_turn (G - n) (ended o n cs) h_ended

  finish_none : (o : Outcome) (u : ℕ) (cs : List Cell) → finish S [] o u cs ≡ ended o u cs
  finish_none (value v) u cs = refl
  finish_none (stop x) u cs = refl

  -- a derivation of a whole run, as so many steps of the machine
  pub whole : {j : Judgement} {cs : List Cell} {o : Outcome} {n : ℕ} {cs' : List Cell} → Eval S 0 j 0 cs o n cs' → turn S n (arrive S j [] 0 cs) ≡ ended o n cs'
  whole {j} {cs} {o} {n} {cs'} d =
      let r : Reaches S 0 (arrive S j [] 0 cs) n (finish S [] o n cs') = follows S d [] refl in
      let q : n ≡ r.steps = (let c = r.counted in omega arith) in
      ap (λ k. turn S k (arrive S j [] 0 cs)) q ∙ r.there ∙ finish_none o n cs'

pub turns_add_up : TurnsAddUp
turns_add_up S m n s = sym (turn_more S m n s)

-- whatever turns grant G units in all: the machine has ended as the rules say if that took at most G, and else is paused
pub record FollowsRules (S : Setup) (fn : Fn) (vs : List Value) (cs : List Cell) (o : Outcome) (n : ℕ) (cs' : List Cell) (G : ℕ) : Type 0 where
  pub done : n ≤ G → turn S G (start S fn vs cs) ≡ ended o n cs'
  pub paused : G < n → Going (turn S G (start S fn vs cs)) G

pub follows_rules : (S : Setup) (fn : Fn) (vs : List Value) (cs : List Cell) (o : Outcome) (n : ℕ) (cs' : List Cell) → Run S fn vs cs o n cs' → (G : ℕ) → FollowsRules S fn vs cs o n cs' G
follows_rules S fn vs cs o n cs' d G =
    record {
      done = at_end S (start S fn vs cs) n o cs' (whole S d) G;
      paused = still_going S (start S fn vs cs) n o cs' (spent_arrive S (bind 0 vs [] ⊢ fn.body) [] 0 cs) (whole S d) G;
    }

one_end : (S : Setup) (s : State) (o o' : Outcome) (n n' : ℕ) (cs cs' : List Cell) → turn S n s ≡ ended o n cs → turn S n' s ≡ ended o' n' cs' → ended o n cs ≡ ended o' n' cs'
one_end S s o o' n n' cs cs' e e' = sym (at_end S s n o cs e (n + n') (omega arith)) ∙ at_end S s n' o' cs' e' (n + n') (omega arith)

pub ended_alike : {o o' : Outcome} {n n' : ℕ} {cs cs' : List Cell} → ended o n cs ≡ ended o' n' cs' → Alike o n cs o' n' cs'
ended_alike e = record { outcome = cc; units = cc; cells = cc }

pub alike_over_equal_mosts : AlikeOverEqualMosts
alike_over_equal_mosts S fn vs cs o o' n n' cs₁ cs₂ d d' = ended_alike (one_end S (start S fn vs cs) o o' n n' cs₁ cs₂ (whole S d) (whole S d'))

one_outcome : (S : Setup) (fn : Fn) (vs : List Value) (cs : List Cell) → TypedRun S fn vs cs → OneOutcome S fn vs cs
one_outcome S fn vs cs t =
    let r : Ends S fn vs cs = every_run_ends S fn vs cs t in
    record {
      run = r;
      only = λ o n cs' d.
          let a = alike_over_equal_mosts S fn vs cs o r.outcome n r.units cs' r.cells d r.derived in
          (a.outcome, a.units, a.cells);
    }

-- a state that has ended, or is stuck, is not going
pub not_going : {o : Outcome} {n : ℕ} {cs : List Cell} {G : ℕ} → ¬ (Going (ended o n cs) G)
not_going g = elim g [ ]

not_stuck_going : {p n : ℕ} {cs : List Cell} {G : ℕ} → ¬ (Going (stuck p n cs) G)
not_stuck_going g = elim g [ ]

module _ (S : Setup) (fn : Fn) (vs : List Value) (cs : List Cell) (r : Ends S fn vs cs) (G : ℕ) where
  f : FollowsRules S fn vs cs r.outcome r.units r.cells G
  f = follows_rules S fn vs cs r.outcome r.units r.cells r.derived G

  ended_so : (o : Outcome) (n : ℕ) (cs' : List Cell) → turn S G (start S fn vs cs) ≡ ended o n cs' → Dec (r.units ≤ G) → Run S fn vs cs o n cs' × (n ≤ G)
  ended_so o n cs' e (yes h) =
      let a : Alike r.outcome r.units r.cells o n cs' = ended_alike (sym (f.done h) ∙ e) in
      (subst₃ (λ x y z. Run S fn vs cs x y z) a.outcome a.units a.cells r.derived, let q = a.units in omega arith)
  ended_so o n cs' e (no h) = absurd (not_going (subst (λ s. Going s G) e (f.paused (omega arith))))

  or_going : Dec (r.units ≤ G) → ((o : Outcome) × (n : ℕ) × (cs' : List Cell) × (turn S G (start S fn vs cs) ≡ ended o n cs')) ⊎ Going (turn S G (start S fn vs cs)) G
  or_going (yes h) = inl (r.outcome, r.units, r.cells, f.done h)
  or_going (no h) = inr (f.paused (omega arith))

  never_stuck : (p n : ℕ) (cs' : List Cell) → turn S G (start S fn vs cs) ≡ stuck p n cs' → Dec (r.units ≤ G) → ⊥
  never_stuck p n cs' e (yes h) = let q : ◌≡◌ {A = ℕ} 0 1 = (let w = sym (f.done h) ∙ e in cc) in omega arith
  never_stuck p n cs' e (no h) = not_stuck_going (subst (λ s. Going s G) e (f.paused (omega arith)))

pub runs_by_the_rules : RunsByTheRules
runs_by_the_rules S fn vs cs t =
    let w = one_outcome S fn vs cs t in
    let r = w.run in
    record {
      one = w;
      after = λ G.
          record {
            ended_so = λ o n cs'. (λ e. ended_so S fn vs cs r G o n cs' e (dec_le r.units G), λ d. (follows_rules S fn vs cs o n cs' d.0 G).done d.1);
            or_going = or_going S fn vs cs r G (dec_le r.units G);
            never_stuck = λ p n cs' e. never_stuck S fn vs cs r G p n cs' e (dec_le r.units G);
          };
    }

pub k_in_turns : KInTurns
k_in_turns = refl
