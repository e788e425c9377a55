-- Frames under the height of a scope: their scopes stay while the entries below it do.
use Rattle.std.proofs.Common.{◌≡◌, ℕ, zero, suc, ◌+◌, ◌-◌, ◌≤◌, List, [], ◌∷◌, length, take, drop, sym, ap, refl, ◌∙◌, arith}
use Rattle.std.proofs.lemmas.List.{take-take, drop-take}
use Rattle.battery.specs.declared.value.Value.{Value}
use Rattle.machine.specs.Machine.{passes, compares}
use Rattle.scope.specs.declared.Entry.{Entry}
use Rattle.scope.specs.Bound.{scope_of}
use Rattle.program.specs.declared.program.Program.{Program}
use Rattle.frames.specs.declared.data.Job.{Job}
use Rattle.frames.specs.declared.data.Frame.{Frame}
use Rattle.frames.specs.declared.data.Frame.TheVariants.{Passes, Waits, Compares}
use Rattle.frames.specs.Stacks.{newest, Room}
use Rattle.frames.specs.Views.{window, scope, frames, pairs_of, Ok, Agree}

-- entries that agree below a height make the same scopes there
agree_less : (es es' : List (Entry Value)) (h h' : ℕ) → h ≤ h' → Agree es es' h' → Agree es es' h
agree_less es es' h h' l a = sym (take-take h h' es' l) ∙ ap (take h) a ∙ take-take h h' es l

window_agree : (es es' : List (Entry Value)) (h b n : ℕ) → Agree es es' h → b + n ≤ h → window es' b n ≡ window es b n
window_agree es es' h b n a l =
    let q = agree_less es es' (b + n) h l a in
    ap scope_of (sym (drop-take b n es') ∙ ap (drop b) q ∙ drop-take b n es)

scope_agree : (es es' : List (Entry Value)) (j : Job) (h : ℕ) → j.base ≤ j.height → j.height ≤ h → Agree es es' h → scope es' j ≡ scope es j
scope_agree es es' j h b l a = window_agree es es' h j.base (j.height - j.base) a (omega arith)

pub length_newest : (fs : List Frame) (n : ℕ) → length (newest fs n) ≡ n
length_newest fs zero = refl
length_newest fs (suc n) = ap suc (length_newest fs n)

module _ (k : Program) where
  pub ok_weaken : (l : List Frame) (h h' : ℕ) → h ≤ h' → Ok k l h → Ok k l h'
  ok_weaken [] h h' le o = tt
  ok_weaken (Passes ∷ l) h h' le o = ok_weaken l h h' le o
  ok_weaken (Waits w ∷ l) h h' le o = let q = o.2 in (o.0, o.1, omega arith, o.3)
  ok_weaken (Compares q ∷ l) h h' le o = (o.0, ok_weaken l h h' le o.1)

  pub ok_room : (l : List Frame) (h : ℕ) → Ok k l h → Room l
  ok_room [] h o = tt
  ok_room (Passes ∷ l) h o = (tt, ok_room l h o)
  ok_room (Waits w ∷ l) h o = let q = o.1 in (omega arith, ok_room l w.job.height o.3)
  ok_room (Compares q ∷ l) h o = (tt, ok_room l h o.1)

  pub frames_agree : (es es' : List (Entry Value)) (l : List Frame) (h : ℕ) → Ok k l h → Agree es es' h → frames k es' l ≡ frames k es l
  frames_agree es es' [] h o a = refl
  frames_agree es es' (Passes ∷ l) h o a = ap (λ K. passes ∷ K) (frames_agree es es' l h o a)
  frames_agree es es' (Waits w ∷ l) h o a =
      let q = o.2 in
      let s = scope_agree es es' w.job h o.0.job.based q a in
      let r = frames_agree es es' l w.job.height o.3 (agree_less es es' w.job.height h q a) in
      rw (s, r)
  frames_agree es es' (Compares q ∷ l) h o a = ap (λ K. compares q.at (pairs_of q) ∷ K) (frames_agree es es' l h o.1 a)
