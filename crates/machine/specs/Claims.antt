-- What holds of every run, by the rules and turn by turn.
use Rattle.std.specs.Prelude.{◌≡◌, ℕ, ◌+◌, ◌≤◌, ◌⊎◌, ◌↔◌, List, [], ◌∷◌, pos}
use Rattle.battery.specs.declared.value.Value.{Value}
use Rattle.battery.specs.declared.value.Value.TheVariants.{Number as number_v, Place as place_v}
use Rattle.battery.specs.Outcome.{Outcome}
use Rattle.std.specs.Prelude.{Ok as value, Err as stop}
use Rattle.battery.specs.declared.outcome.Stop.TheVariants.{FullStore as full_store}
use Rattle.battery.specs.Tree.{bind, Fn}
use Rattle.battery.specs.Cell.{Cell, enum_cell, append}
use Rattle.battery.specs.Rules.{Setup, Judgement, ◌⊢◌, Run, plotter}
use Rattle.battery.specs.Claims.{TypedRun, Ends}
use Rattle.battery.specs.Worked.{k_rule, card_K, Spit}
use Rattle.machine.specs.Machine.{Frame, State, going, ended, stuck, arrive, turn}

-- about to open the body of a function on arguments
abbrev pub start : Setup → Fn → List Value → List Cell → State
start S fn vs cs = arrive S (bind 0 vs [] ⊢ fn.body) [] 0 cs

-- paused, with so many units spent
pub data Going : State → ℕ → Type 0 where
  is_going : {j : Judgement} {K : List Frame} {u : ℕ} {cs : List Cell} → Going (going j K u cs) u

-- turns of m and then n units are one of m + n
abbrev pub TurnsAddUp : Type 0
TurnsAddUp = (S : Setup) (m n : ℕ) (s : State) → turn S n (turn S m s) ≡ turn S (m + n) s

-- the rules give each typed run exactly one outcome, with one count of units and one list of cells; it fits
pub record OneOutcome (S : Setup) (fn : Fn) (vs : List Value) (cs : List Cell) : Type 0 where
  pub run : Ends S fn vs cs
  pub only : (o : Outcome) (n : ℕ) (cs' : List Cell) → Run S fn vs cs o n cs' → (o ≡ run.outcome) × (n ≡ run.units) × (cs' ≡ run.cells)

-- after G units in all, whatever the turns: it has ended so exactly when the rules end it so in n ≤ G, and else is
-- going with all G spent; it is never stuck
pub record After (S : Setup) (fn : Fn) (vs : List Value) (cs : List Cell) (G : ℕ) : Type 0 where
  pub ended_so : (o : Outcome) (n : ℕ) (cs' : List Cell) → (turn S G (start S fn vs cs) ≡ ended o n cs') ↔ (Run S fn vs cs o n cs' × (n ≤ G))
  pub or_going : ((o : Outcome) × (n : ℕ) × (cs' : List Cell) × (turn S G (start S fn vs cs) ≡ ended o n cs')) ⊎ Going (turn S G (start S fn vs cs)) G
  pub never_stuck : (p n : ℕ) (cs' : List Cell) → ¬ (turn S G (start S fn vs cs) ≡ stuck p n cs')

-- all that is said of a typed run
pub record Runs (S : Setup) (fn : Fn) (vs : List Value) (cs : List Cell) : Type 0 where
  pub one : OneOutcome S fn vs cs
  pub after : (G : ℕ) → After S fn vs cs G

abbrev pub RunsByTheRules : Type 0
RunsByTheRules = (S : Setup) (fn : Fn) (vs : List Value) (cs : List Cell) → TypedRun S fn vs cs → Runs S fn vs cs

-- the same run over a store that appends up to a most
abbrev pub over : Setup → ℕ → Setup
over S most = record { card = S.card; put = append most; depth = S.depth; units = S.units }

pub data Full : Outcome → Type 0 where
  is_full : {p : ℕ} → Full (stop (full_store p))

pub record Alike (o : Outcome) (n : ℕ) (cs : List Cell) (o' : Outcome) (n' : ℕ) (cs' : List Cell) : Type 0 where
  pub outcome : o ≡ o'
  pub units : n ≡ n'
  pub cells : cs ≡ cs'

-- over two mosts: a run that does not end by a full store ends alike over the other, or by a full store in no more units
abbrev pub AlikeOverStores : Type 0
AlikeOverStores =
    (S : Setup) (m m' : ℕ) (fn : Fn) (vs : List Value) (cs : List Cell) (o o' : Outcome) (n n' : ℕ) (cs₁ cs₂ : List Cell)
    → Run (over S m) fn vs cs o n cs₁ → Run (over S m') fn vs cs o' n' cs₂ → ¬ Full o → Alike o n cs₁ o' n' cs₂ ⊎ (Full o' × (n' ≤ n))

-- over equal mosts: it ends alike, however it ends
abbrev pub AlikeOverEqualMosts : Type 0
AlikeOverEqualMosts =
    (S : Setup) (fn : Fn) (vs : List Value) (cs : List Cell) (o o' : Outcome) (n n' : ℕ) (cs₁ cs₂ : List Cell)
    → Run S fn vs cs o n cs₁ → Run S fn vs cs o' n' cs₂ → Alike o n cs₁ o' n' cs₂

-- K on 30000 and "Spit" in turns of 4 and 2 units
abbrev pub KInTurns : Type 0
KInTurns =
    turn (plotter card_K 9) 2 (turn (plotter card_K 9) 4 (start (plotter card_K 9) k_rule (number_v (pos 30000) ∷ place_v 0 ∷ []) (Spit ∷ [])))
    ≡ ended (value (place_v 1)) 6 (Spit ∷ enum_cell 0 1 (place_v 0 ∷ []) ∷ [])
