-- One round of the newest frame, on lists.
use Rattle.std.proofs.Common.{◌≡◌, ℕ, zero, suc, ◌-◌, ◌<◌, ◌≤◌, Bool, true, false, cond, leb, List, [], ◌∷◌, length, drop, Some, None, Option, sym, refl, ap, ◌∙◌, subst, arith, length-append, length-drop}
use Rattle.std.proofs.lemmas.List.{drop-drop}
use borrow.Author.Tests.{leb-false}
use Rattle.battery.specs.declared.value.Value.{Value}
use Rattle.battery.specs.declared.value.Value.TheVariants.{Unit as unit_v, Number as number_v, Boolean as boolean_v, Place as place_v}
use Rattle.battery.specs.declared.outcome.Stop.TheVariants.{Overrun as overrun}
use Rattle.std.specs.Prelude.{Err as stop}
use Rattle.battery.specs.Cell.{Cell}
use Rattle.cells.specs.Meaning.{values_of}
use Rattle.battery.specs.Rules.{record_of, pairs}
use Rattle.machine.specs.Machine.{ended, going, stuck, arrive, act, resume}
use Rattle.scope.specs.declared.Entry.{Entry}
use Rattle.program.specs.declared.program.Program.{Program}
use Rattle.frames.specs.declared.data.Judgement.{Judgement}
use Rattle.frames.specs.declared.data.Judgement.TheVariants.{Of, Same}
use Rattle.frames.specs.declared.data.Wait.{Wait}
use Rattle.frames.specs.declared.data.Frame.{Frame}
use Rattle.frames.specs.declared.data.Frame.TheVariants.{Passes, Waits, Compares}
use Rattle.frames.specs.declared.data.Run.{Run}
use Rattle.frames.specs.declared.data.Pairs.{Pairs}
use Rattle.frames.specs.declared.data.Given.{Given}
use Rattle.frames.specs.declared.data.Move.{Move}
use Rattle.frames.specs.declared.data.Move.TheVariants.{Gives, Goes}
use Rattle.frames.specs.declared.data.Stage.{Stage}
use Rattle.frames.specs.declared.data.Stage.TheVariants.{Going, Ended}
use Rattle.frames.specs.declared.data.Part.TheVariants.{Next, Whole, Equal}
use Rattle.frames.specs.Trees.{Starts, setup}
use Rattle.frames.specs.Stacks.{held, vals, outcome, below, Took, waiting_in}
use Rattle.frames.specs.Views.{Rounded, judgement, judged_for, paired, pairs_of, Within, handed, Handed, frames, stage, carry, stepped, part_job, next_of, pair_of, past, job_or, pair_or, part_of, parted, JobOk, WaitOk, Ok, Carries, JudgementOk, StageOk, move, LeadsTo, Did, Ready, arrival}
use Rattle.frames.proofs.Layers.{within, firsts_of_lem}
use Rattle.constructs.proofs.Celled.{values_few}
use Rattle.engine.proofs.Levels.{length_newest, ok_weaken, frames_agree}

-- the pairs behind the first
behind_pair : (xs ys : List Value) (p : Value × Value) (ps : List (Value × Value)) → pairs xs ys ≡ p ∷ ps → pairs (drop 1 xs) (drop 1 ys) ≡ ps
behind_pair [] ys p ps e = cc
behind_pair (x ∷ xs) [] p ps e = cc
behind_pair (x ∷ xs) (y ∷ ys) p ps e = cc

pairs_behind : (q : Pairs) (p : Value × Value) (ps : List (Value × Value)) → pairs_of q ≡ p ∷ ps → pairs_of (paired q) ≡ ps
pairs_behind q p ps e =
    let a = drop-drop 1 q.next (values_of q.ones) in
    let b = drop-drop 1 q.next (values_of q.others) in
    rw (← a, ← b) (behind_pair (drop q.next (values_of q.ones)) (drop q.next (values_of q.others)) p ps e)

-- behind a pair, the next one is still within
some_there : (xs ys : List Value) (p : Value × Value) (ps : List (Value × Value)) → pairs xs ys ≡ p ∷ ps → 0 < length xs
some_there [] ys p ps e = absurd (cc)
some_there (x ∷ xs) ys p ps e = omega arith

within_behind : (q : Pairs) (p : Value × Value) (ps : List (Value × Value)) → pairs_of q ≡ p ∷ ps → Within (paired q)
within_behind q p ps e =
    let s = some_there (drop q.next (values_of q.ones)) (drop q.next (values_of q.others)) p ps e in
    let l = length-drop q.next (values_of q.ones) in
    let few = values_few q.ones in omega arith

module _ (k : Program) where
  -- the record that a judgement is opened for
  pub record_is : (es : List (Entry Value)) (l : List Frame) (j : Judgement) → JudgementOk k l j → record_of (judgement k es j) ≡ judged_for j
  record_is es l (Of j) o = (firsts_of_lem k j.at o.0.start).here
  record_is es l (Same p) o = refl

  arrives_by : (b : Bool) (es : List (Entry Value)) (l : List Frame) (u : ℕ) (cs : List Cell) (j : Judgement) → leb 1000000 u ≡ b → JudgementOk k l j
      → (stage k es l u cs (cond b (Ended (stop (overrun (judged_for j)))) (Going j)) ≡ cond b (ended (stop (overrun (record_of (judgement k es j)))) u cs) (going (judgement k es j) (frames k es l) u cs))
      × StageOk k l u (cond b (Ended (stop (overrun (judged_for j)))) (Going j))
  arrives_by true es l u cs j e o = let p = record_is es l j o in (rw p, tt)
  arrives_by false es l u cs j e o = (refl, (o, omega (arith, leb-false 1000000 u e)))

  -- a judgement is to be opened
  arrives : (es : List (Entry Value)) (l : List Frame) (u most : ℕ) (cs : List Cell) (j : Judgement) → JudgementOk k l j
      → (stage k es l u cs (arrival u j) ≡ arrive (setup k most) (judgement k es j) (frames k es l) u cs) × StageOk k l u (arrival u j)
  arrives es l u most cs j o = arrives_by (leb 1000000 u) es l u cs j refl o

  -- the next part of a frame that waits, and of one that compares
  module _ (es : List (Entry Value)) (l : List Frame) (u most : ℕ) (cs : List Cell) (j : Judgement) where
    job_by : (w : Wait) (n : ℕ) → w.left ≡ n → WaitOk k (length l) w → Ok k l w.job.height → Some (Next j) ≡ Some (job_or w (next_of n (part_job w)))
        → (stage k es (Waits (past (next_of n (part_job w)) w (stepped k w)) ∷ l) u cs (arrival u j) ≡ carry k (setup k most) es (Waits w ∷ l) u cs)
        × StageOk k (Waits (past (next_of n (part_job w)) w (stepped k w)) ∷ l) u (arrival u j)
    job_by w zero e o f p = absurd (cc)
    job_by w (suc n) e o f p =
        let q : j ≡ Of (part_job w) = cc in
        let m : w.left - 1 ≡ n = omega arith in
        let lo = o.job.low in let fw = o.few in
        let ps = subst (λ x. Starts k x w.next) e o.parts in
        let job : JobOk k (suc (length l)) (part_job w) = record { start = ps.0; based = o.job.based; low = omega arith } in
        let ok : WaitOk k (length l) (stepped k w) = record { job = o.job; parts = rw m ps.1; few = omega arith } in
        let a = arrives es (Waits (stepped k w) ∷ l) u most cs (Of (part_job w)) (job, (ok, omega arith, omega arith, f)) in
        rw q (a.0 ∙ rw (m, e), a.1)

    pair_by : (q : Pairs) (h : ℕ) (ps : List (Value × Value)) → pairs_of q ≡ ps → Ok k l h → Some (Next j) ≡ Some (pair_or (pair_of q.at ps))
        → (stage k es (Compares (past (pair_of q.at ps) q (paired q)) ∷ l) u cs (arrival u j) ≡ carry k (setup k most) es (Compares q ∷ l) u cs)
        × StageOk k (Compares (past (pair_of q.at ps) q (paired q)) ∷ l) u (arrival u j)
    pair_by q h [] e o p = absurd (cc)
    pair_by q h (x ∷ ps) e o p =
        let i : j ≡ Same (record { at = q.at; one = x.0; other = x.1 }) = cc in
        let b = pairs_behind q x ps e in
        let a = arrives es (Compares (paired q) ∷ l) u most cs (Same (record { at = q.at; one = x.0; other = x.1 })) (h, (within_behind q x ps e, o)) in
        rw i (a.0 ∙ rw (b, e), a.1)

  next_part : (es : List (Entry Value)) (l : List Frame) (u most : ℕ) (cs : List Cell) (j : Judgement) → Carries k l → Some (Next j) ≡ part_of l
      → (stage k es (parted k l) u cs (arrival u j) ≡ carry k (setup k most) es l u cs) × StageOk k (parted k l) u (arrival u j)
  next_part es [] u most cs j o e = absurd (cc)
  next_part es (Passes ∷ l) u most cs j o e = absurd (cc)
  next_part es (Waits w ∷ l) u most cs j o e = job_by es l u most cs j w w.left refl o.0 o.1 e
  next_part es (Compares q ∷ l) u most cs j o e = pair_by es l u most cs j q o.1.0 (pairs_of q) refl o.1.1 e

  pub next_done : (es : List (Entry Value)) (l l' : List Frame) (u most : ℕ) (cs : List Cell) (j : Judgement) (s : Stage) → Carries k l → Some (Next j) ≡ part_of l → l' ≡ parted k l → s ≡ arrival u j
      → (stage k es l' u cs s ≡ carry k (setup k most) es l u cs) × StageOk k l' u s
  next_done es l l' u most cs j s o e p q = rw (p, q) (next_part es l u most cs j o e)

  pub no_part : (es : List (Entry Value)) (l : List Frame) (u most : ℕ) (cs : List Cell) → None ≡ part_of l → stuck 0 u cs ≡ carry k (setup k most) es l u cs
  no_part es [] u most cs e = refl
  no_part es (Passes ∷ l) u most cs e = refl
  no_part es (Waits w ∷ l) u most cs e = absurd (cc)
  no_part es (Compares q ∷ l) u most cs e = absurd (cc)

  -- the whole frame
  pub record WholeFrame (l : List Frame) (w : Wait) : Type 0 where
    pub is : l ≡ Waits w ∷ below l
    pub none_left : w.left ≡ 0
    pub same : parted k l ≡ l
    pub ok : WaitOk k (length (below l)) w
    pub rest : Ok k (below l) w.job.height
    pub long : length l ≡ suc (length (below l))

  pub record WholeAt (l : List Frame) (p : ℕ) : Type 0 where
    pub wait : Wait
    pub frame : WholeFrame l wait
    pub at : wait.job.at ≡ p

  whole_by : (l : List Frame) (w : Wait) (p n : ℕ) → w.left ≡ n → Some (Whole p) ≡ Some (job_or w (next_of n (part_job w)))
      → (w.job.at ≡ p) × (w.left ≡ 0) × (Waits (past (next_of n (part_job w)) w (stepped k w)) ∷ l ≡ Waits w ∷ l)
  whole_by l w p zero e q = (cc, e, refl)
  whole_by l w p (suc n) e q = absurd (cc)

  not_whole : (p n : ℕ) (ps : List (Value × Value)) → ¬ (Some (Whole p) ≡ Some (pair_or (pair_of n ps)))
  not_whole p n [] e = cc
  not_whole p n (x ∷ ps) e = cc

  pub whole : (l : List Frame) (p : ℕ) → Carries k l → Some (Whole p) ≡ part_of l → WholeAt l p
  whole [] p o e = absurd (cc)
  whole (Passes ∷ l) p o e = absurd (cc)
  whole (Waits w ∷ l) p o e =
      let q = whole_by l w p w.left refl e in
      record { wait = w; frame = record { is = refl; none_left = q.1; same = q.2; ok = o.0; rest = o.1; long = refl }; at = q.0 }
  whole (Compares q ∷ l) p o e = absurd (not_whole p q.at (pairs_of q) e)

  ready : (l : List Frame) (w : Wait) → WholeFrame l w → length l ≤ 256 → Ready k w
  ready l w f h =
      let j = f.ok.job in let lo = j.low in let lg = f.long in
      record { start = j.start; small = within k w.job.at j.start; based = j.based; low = omega arith }

  -- the whole frame is the one that waits, and its rule may be applied
  pub waits_there : (l l' : List Frame) (w : Wait) → WholeFrame l w → l' ≡ parted k l → waiting_in l' ≡ Some w
  waits_there l l' w f e = ap waiting_in (e ∙ f.same ∙ f.is)

  pub readied : (l l' : List Frame) (p : ℕ) → WholeAt l p → l' ≡ parted k l → length l ≤ 256 → (w : Wait) → waiting_in l' ≡ Some w → Ready k w
  readied l l' p f e h w q =
      let t = waits_there l l' f.wait f.frame e in
      let s : f.wait ≡ w = cc in
      subst (Ready k) s (ready l f.wait f.frame h)

  -- what carrying on a whole frame comes to
  module _ (es es' : List (Entry Value)) (l : List Frame) (w : Wait) (u most : ℕ) (cs cs' : List Cell) (f : WholeFrame l w) where
    carried : (r : Option Move) → Did k most w es es' cs cs' r
        → carry k (setup k most) es l u cs ≡ act (setup k most) (resume (setup k most) (frames k es' (below l))) w.job.at (frames k es' (below l)) u cs (move k es' cs' r)
    carried r d =
        let n = f.none_left in
        let p = (firsts_of_lem k w.job.at f.ok.job.start).here in
        let q = frames_agree k es es' (below l) w.job.height f.rest d.agree in
        let m = d.does in
        ap (λ (x : List Frame). carry k (setup k most) es x u cs) f.is ∙ rw (n, p, q, m)

    -- after a rule
    pub rule_gives : (v : Value) → Did k most w es es' cs cs' (Some (Gives v)) → resume (setup k most) (frames k es' (below l)) v u cs' ≡ carry k (setup k most) es l u cs
    rule_gives v d = sym (carried (Some (Gives v)) d)

    pub rule_stuck : Did k most w es es' cs cs' None → stuck w.job.at u cs' ≡ carry k (setup k most) es l u cs
    rule_stuck d = let q = d.kept in rw q (sym (carried None d))

    leads_on : (j : Judgement) → LeadsTo k w j → JudgementOk k (Passes ∷ below l) j
    leads_on (Of j) d =
        let o = f.ok.job.low in let b = d.2 in let c = d.3 in
        (record { start = d.0; based = d.1; low = omega arith }, ok_weaken k (below l) w.job.height j.height b f.rest)
    leads_on (Same p) d = (w.job.height, f.rest)

    pub rule_goes : (l' : List Frame) (j : Judgement) (s : Stage) → Did k most w es es' cs cs' (Some (Goes j)) → l' ≡ Passes ∷ below l → s ≡ arrival u j
        → (stage k es' l' u cs' s ≡ carry k (setup k most) es l u cs) × StageOk k l' u s
    rule_goes l' j s d q e =
        let a = arrives es' (Passes ∷ below l) u most cs' j (leads_on j d.leads) in
        let c = d.kept in
        rw (q, e) ((a.0 ∙ rw c (sym (carried (Some (Goes j)) d))), a.1)

  -- a comparison with no pair left
  pub record EqualFrame (l : List Frame) : Type 0 where
    pub same : parted k l ≡ l
    pub height : ℕ
    pub rest : Ok k (below l) height
    pub long : length l ≡ suc (length (below l))
    pub does : (es : List (Entry Value)) (u most : ℕ) (cs : List Cell) → resume (setup k most) (frames k es (below l)) (boolean_v true) u cs ≡ carry k (setup k most) es l u cs

  not_equal : (w : Wait) (n : ℕ) → ¬ (Some Equal ≡ Some (job_or w (next_of n (part_job w))))
  not_equal w zero e = cc
  not_equal w (suc n) e = cc

  equal_by : (l : List Frame) (q : Pairs) (ps : List (Value × Value)) → pairs_of q ≡ ps → Some Equal ≡ Some (pair_or (pair_of q.at ps))
      → (Compares (past (pair_of q.at ps) q (paired q)) ∷ l ≡ Compares q ∷ l) × (pairs_of q ≡ [])
  equal_by l q [] e p = (refl, e)
  equal_by l q (x ∷ ps) e p = absurd (cc)

  pub equal : (l : List Frame) → Carries k l → Some Equal ≡ part_of l → EqualFrame l
  equal [] o e = absurd (cc)
  equal (Passes ∷ l) o e = absurd (cc)
  equal (Waits w ∷ l) o e = absurd (not_equal w w.left e)
  equal (Compares q ∷ l) o e =
      let x = equal_by l q (pairs_of q) refl e in
      let n = x.1 in
      record { same = x.0; height = o.1.0; rest = o.1.1; long = refl; does = λ es u most cs. rw n }

  -- what giving a value comes to
  pub record Handing (es : List (Entry Value)) (l l' : List Frame) (u most : ℕ) (cs : List Cell) (v : Value) (r : Given) : Type 0 where
    pub does : handed k (setup k most) es l' v u cs r ≡ resume (setup k most) (frames k es l) v u cs
    pub carries : Carries k l'
    pub short : length l' ≤ length l

  longer : {es : List (Entry Value)} {l l' : List Frame} {u most : ℕ} {cs : List Cell} {v : Value} {r : Given} (f : Frame)
      → handed k (setup k most) es l' v u cs r ≡ resume (setup k most) (frames k es (f ∷ l)) v u cs → Handing es l l' u most cs v r → Handing es (f ∷ l) l' u most cs v r
  longer f e h = let s = h.short in record { does = e; carries = h.carries; short = omega arith }

  module _ (es : List (Entry Value)) (u most : ℕ) (cs : List Cell) where
    compares_on : (l l' : List Frame) (q : Pairs) (h : ℕ) (v : Value) (r : Given) → Ok k (Compares q ∷ l) h → l' ≡ Compares q ∷ l
        → handed k (setup k most) es (Compares q ∷ l) v u cs r ≡ resume (setup k most) (frames k es (Compares q ∷ l)) v u cs → Handing es (Compares q ∷ l) l' u most cs v r
    compares_on l l' q h v r o t e = rw t (record { does = e; carries = (o.0, (h, o.1)); short = omega arith })

    handing : (l l' : List Frame) (h : ℕ) (v : Value) → Ok k l h → Took l v l' → Handing es l l' u most cs v (outcome l v)
    handing [] l' h v o t = rw t (record { does = refl; carries = tt; short = omega arith })
    handing (Passes ∷ l) l' h v o t = let n = handing l l' h v o t in longer Passes n.does n
    handing (Waits w ∷ l) l' h v o t =
        let m = t.1.1 in
        let i = t.2 ∙ ap (λ f. f ∷ l) t.1.2 in
        let j = m.job in let a = m.next in let b = m.left in let c = m.vals in
        let n = ap length c ∙ length-append (vals w) (v ∷ []) in
        let room = o.1 in
        rw i (record {
          does = rw (j, a, b, c);
          carries = (record { job = rw j o.0.job; parts = rw (a, b) o.0.parts; few = omega arith }, rw j o.3);
          short = omega arith;
        })
    handing (Compares q ∷ l) l' h unit_v o t = compares_on l l' q h unit_v _ o (t.2 ∙ ap (λ f. f ∷ l) t.1) refl
    handing (Compares q ∷ l) l' h (number_v n) o t = compares_on l l' q h (number_v n) _ o (t.2 ∙ ap (λ f. f ∷ l) t.1) refl
    handing (Compares q ∷ l) l' h (boolean_v true) o t = compares_on l l' q h (boolean_v true) _ o (t.2 ∙ ap (λ f. f ∷ l) t.1) refl
    handing (Compares q ∷ l) l' h (boolean_v false) o t = let n = handing l l' h (boolean_v false) o.1 t in longer (Compares q) n.does n
    handing (Compares q ∷ l) l' h (place_v i) o t = compares_on l l' q h (place_v i) _ o (t.2 ∙ ap (λ f. f ∷ l) t.1) refl

    pub handing_of : (l l' : List Frame) (h : ℕ) (v : Value) (r : Given) → Ok k l h → r ≡ outcome l v → Took l v l' → Handing es l l' u most cs v r
    handing_of l l' h v r o e t = rw e (handing l l' h v o t)

-- the newest frame is gone, and its value was given
module _ {X : Type 0} (cells : X → List Cell) (limit : X → ℕ) (k : Program) (r m r' : Run X) (v : Value) where
  rounds_by : (b : Bool) → Handed cells k (setup k (limit r.store)) m r' v b
      → resume (setup k (limit r.store)) (frames k m.entries (held m.stack)) v m.units (cells m.store) ≡ carry k (setup k (limit r.store)) r.entries (held r.stack) r.units (cells r.store)
      → m.stack.count < r.stack.count → Rounded cells limit k r r' b
  rounds_by true h e n = let x = h.2 in (h.0 ∙ e, h.1, omega arith)
  rounds_by false h e n = (h.0 ∙ e, h.1)

  pub popped : (b : Bool) (h : ℕ) → held m.stack ≡ below (held r.stack) → length (held r.stack) ≡ suc (length (below (held r.stack))) → Ok k (below (held r.stack)) h
      → resume (setup k (limit r.store)) (frames k m.entries (below (held r.stack))) v m.units (cells m.store) ≡ carry k (setup k (limit r.store)) r.entries (held r.stack) r.units (cells r.store)
      → ((k : Program) (most h : ℕ) → Ok k (held m.stack) h → Handed cells k (setup k most) m r' v b) → Rounded cells limit k r r' b
  popped b h p long o e d =
      let x = length_newest r.stack.frames r.stack.count in
      let y = length_newest m.stack.frames m.stack.count in
      let n = ap length p in
      rounds_by b (d k (limit r.store) h (rw p o)) (rw p e) (omega arith)
