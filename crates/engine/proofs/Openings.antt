-- A judgement is opened, on lists.
use Rattle.std.proofs.Common.{◌≡◌, ℕ, zero, suc, ◌+◌, ◌-◌, ◌<◌, List, [], ◌∷◌, length, refl, ap, ◌∙◌, subst, add-one, arith, le-leb}
use borrow.Author.Tests.{lt-leb}
use Rattle.battery.specs.declared.value.Value.{Value}
use Rattle.battery.specs.declared.outcome.Stop.TheVariants.{TooDeep as too_deep}
use Rattle.std.specs.Prelude.{Err as stop}
use Rattle.battery.specs.Cell.{Cell}
use Rattle.battery.specs.Rules.{Setup}
use Rattle.machine.specs.Machine.{State, ended, begin, step, turn}
use Rattle.scope.specs.declared.Entry.{Entry}
use Rattle.program.specs.declared.program.Program.{Program}
use Rattle.frames.specs.declared.data.Job.{Job}
use Rattle.frames.specs.declared.data.Judgement.{Judgement}
use Rattle.frames.specs.declared.data.Judgement.TheVariants.{Of}
use Rattle.frames.specs.declared.data.Wait.{Wait}
use Rattle.frames.specs.declared.data.Frame.{Frame}
use Rattle.frames.specs.declared.data.Frame.TheVariants.{Waits}
use Rattle.frames.specs.declared.data.Stage.{Stage}
use Rattle.frames.specs.declared.data.Stage.TheVariants.{Going, Ended, Stuck}
use Rattle.frames.specs.Trees.{setup}
use Rattle.frames.specs.Views.{judgement, judged_for, frames, stage, carry, Carries, JudgementOk, StageOk, Opening, AtRest}
use Rattle.frames.proofs.Layers.{firsts_of_lem}
use Rattle.engine.proofs.Carries.{record_is}

module _ (k : Program) where
  length_frames : (es : List (Entry Value)) (l : List Frame) → length (frames k es l) ≡ length l
  length_frames es [] = refl
  length_frames es (f ∷ l) = ap suc (length_frames es l)

  -- the frame of a judgement that was just opened
  pub enters : (es : List (Entry Value)) (l l' : List Frame) (u most : ℕ) (cs : List Cell) (j : Job) (w : Wait) → JudgementOk k l (Of j) → Opening k j w → l' ≡ Waits w ∷ l
      → (carry k (setup k most) es l' u cs ≡ begin (setup k most) (judgement k es (Of j)) (frames k es l) u cs) × Carries k l'
  enters es l l' u most cs j w o i p =
      let f = firsts_of_lem k j.at o.0.start in
      let fp = f.parts in let few = f.few in
      let a = i.job in let b = i.next in let c = i.left in let v = i.vals in
      let n = ap length v in
      rw p (rw (a, b, c, v, ← fp), (record { job = rw a o.0; parts = rw (b, c) f.starts; few = omega arith }, rw a o.1))

  module _ (es : List (Entry Value)) (l : List Frame) (u most : ℕ) (cs : List Cell) (j : Judgement) (s : Stage) (q : s ≡ Going j) (o : StageOk k l u s) where
    opened_ok : JudgementOk k l j
    opened_ok = (subst (λ x. StageOk k l u x) q o).0

    pub opens_deep : length l ≡ 256 → ended (stop (too_deep (judged_for j))) (u + 1) cs ≡ step (setup k most) (stage k es l u cs s)
    opens_deep e =
        let p = record_is k es l j opened_ok in
        let t = le-leb 256 (length (frames k es l)) (omega (arith, length_frames es l)) in rw (q, t, p, add-one)

    pub opens : length l < 256 → begin (setup k most) (judgement k es j) (frames k es l) (u + 1) cs ≡ step (setup k most) (stage k es l u cs s)
    opens e = let t = lt-leb 256 (length (frames k es l)) (omega (arith, length_frames es l)) in rw (q, t, add-one)

  -- a state in which nothing is to be opened stays
  pub rests : (es : List (Entry Value)) (l : List Frame) (u most : ℕ) (cs : List Cell) (s : Stage) → AtRest s → (n : ℕ) → turn (setup k most) n (stage k es l u cs s) ≡ stage k es l u cs s
  rests es l u most cs s h zero = refl
  rests es l u most cs (Going j) h (suc n) = absurd (h j refl)
  rests es l u most cs (Ended o) h (suc n) = rests es l u most cs (Ended o) h n
  rests es l u most cs (Stuck p) h (suc n) = rests es l u most cs (Stuck p) h n

-- a turn's units one by one
pub turned : (S : Setup) (i n : ℕ) (s s' : State) → i < n → s' ≡ step S s → turn S (n - (i + 1)) s' ≡ turn S (n - i) s
turned S i n s s' h e = let m : suc (n - (i + 1)) ≡ n - i = omega arith in ap (turn S (n - (i + 1))) e ∙ ap (λ m. turn S m s) m
