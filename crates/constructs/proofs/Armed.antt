-- Arms one by one, and a match.
use Rattle.std.proofs.Common.{◌≡◌, ℕ, suc, ◌+◌, ◌-◌, ◌<◌, ◌≤◌, List, length, get_or, Some, None, Option, sym, refl, ap, ◌∙◌, subst, add-one, arith, eq-eqb, ne_eqb}
use Rattle.program.proofs.Spelt.{few_tokens}
use Rattle.battery.specs.declared.value.Value.{Value}
use Rattle.battery.specs.Tree.{Expr, Match, Arms, no_arm, arm, at, bind, ◌▸◌}
use Rattle.battery.specs.Cell.{Cell}
use Rattle.battery.specs.Rules.{arm_of, goes, ◌⊢◌}
use Rattle.machine.specs.Machine.{one, of_cell, of_enum, after}
use Rattle.table.specs.declared.token.Token.{Token}
use Rattle.table.specs.declared.token.Token.TheVariants.{Close as CLOSE, Enum as ENUM, Case as CASE, Def as DEF, Ty as TYPE, Arm as ARM, Expr as EXPR}
use Rattle.table.specs.declared.token.Arm.{Arm}
use Rattle.table.specs.Sorts.{arm_in}
use Rattle.numbering.proofs.Skip.{skips}
use Rattle.scope.specs.declared.Entry.{Entry}
use Rattle.program.specs.Stands.{tree_at, arms_at, Begins, ArmsStand, FirstArm, an_arm, no_more}
use Rattle.program.specs.Views.{tokens_in, text_in, ends_in}
use Rattle.program.specs.declared.program.Program.{Program}
use Rattle.program.proofs.Stands.{headed, first_arm}
use Rattle.frames.specs.declared.data.Wait.{Wait}
use Rattle.frames.specs.declared.data.Judgement.TheVariants.{Of}
use Rattle.frames.specs.declared.data.Move.TheVariants.{Goes}
use Rattle.frames.specs.Trees.{expr, setup}
use Rattle.frames.specs.Stacks.{vals}
use Rattle.frames.specs.Views.{window, scope, Agree, Did}
use Rattle.constructs.specs.Armed.{OfArm}
use Rattle.constructs.proofs.Moves.{bound}

arm_token : (o : Option Token) (a : Arm) → Some a ≡ arm_in o → o ≡ Some (ARM a.names a.first a.case)
arm_token None a e = cc
arm_token (Some CLOSE) a e = cc
arm_token (Some (ENUM k)) a e = cc
arm_token (Some (CASE n k)) a e = cc
arm_token (Some (DEF n k)) a e = cc
arm_token (Some (TYPE τ)) a e = cc
arm_token (Some (ARM n x c)) a e = cc
arm_token (Some (EXPR h)) a e = cc

module _ (k : Program) where
  abbrev behind : ℕ → ℕ
  behind i = get_or (ends_in k) i 0

  -- an arm, its part and what stands behind it
  pub record Armed (i : ℕ) (a : Arm) : Type 0 where
    pub within : i < 512
    pub begins : Begins (text_in k) (tokens_in k) (suc i)
    pub more : ArmsStand (text_in k) (tokens_in k) (behind (suc i))
    pub rises : suc i < behind (suc i)
    pub is : arms_at (text_in k) (tokens_in k) i ≡ arm i a.case a.names a.first (tree_at (text_in k) (tokens_in k) (suc i)) (arms_at (text_in k) (tokens_in k) (behind (suc i)))

  rises_at : (i : ℕ) → Begins (text_in k) (tokens_in k) i → i < behind i
  rises_at i b = ((skips (text_in k) (tokens_in k) (ends_in k) k.ended i (headed (text_in k) (tokens_in k) (ends_in k) k.ended i b).within).expression _ b.0 b.1).0

  armed_by : (i : ℕ) (a : Arm) → FirstArm (text_in k) (tokens_in k) (ends_in k) i → at (tokens_in k) i ≡ Some (ARM a.names a.first a.case) → Armed i a
  armed_by i a (an_arm {n} {x} {c} s l b m q) e =
      let w = few_tokens k in
      let p : n ≡ a.names = cc in
      let r : x ≡ a.first = cc in
      let v : c ≡ a.case = cc in
      record { within = omega arith; begins = b; more = m; rises = rises_at (suc i) b; is = cc }
  armed_by i a (no_more h q) e = absurd (h a.names a.first a.case e)

  pub armed : (i : ℕ) (a : Arm) → ArmsStand (text_in k) (tokens_in k) i → Some a ≡ arm_in (at (tokens_in k) i) → Armed i a
  armed i a s e = armed_by i a (first_arm (text_in k) (tokens_in k) (ends_in k) k.ended i s) (arm_token (at (tokens_in k) i) a e)

  unarmed_by : (i : ℕ) → FirstArm (text_in k) (tokens_in k) (ends_in k) i → None ≡ arm_in (at (tokens_in k) i) → arms_at (text_in k) (tokens_in k) i ≡ no_arm
  unarmed_by i (an_arm s l b m q) e = let d = rw s at e in cc
  unarmed_by i (no_more h q) e = q

  pub unarmed : (i : ℕ) → ArmsStand (text_in k) (tokens_in k) i → None ≡ arm_in (at (tokens_in k) i) → arms_at (text_in k) (tokens_in k) i ≡ no_arm
  unarmed i s e = unarmed_by i (first_arm (text_in k) (tokens_in k) (ends_in k) k.ended i s) e

  -- the arm of the case, and another
  pub arm_hit : (i c : ℕ) (a : Arm) → Armed i a → c ≡ a.case → arm_of (arms_at (text_in k) (tokens_in k) i) c ≡ Some (a.names, a.first, tree_at (text_in k) (tokens_in k) (suc i))
  arm_hit i c a h e = let q = h.is in let t = eq-eqb c a.case e in rw (q, t)

  pub arm_miss : (i c : ℕ) (a : Arm) → Armed i a → ¬ (c ≡ a.case) → arm_of (arms_at (text_in k) (tokens_in k) i) c ≡ arm_of (arms_at (text_in k) (tokens_in k) (behind (suc i))) c
  arm_miss i c a h e = let q = h.is in let t = ne_eqb c a.case e in rw (q, t)

  pub arm_found : (i : ℕ) (a : Arm) (o : Option (ℕ × ℕ × Expr)) → Armed i a → o ≡ Some (a.names, a.first, tree_at (text_in k) (tokens_in k) (suc i))
      → OfArm (text_in k) (tokens_in k) o (Some (a, i + 1))
  arm_found i a o h e = let b = h.begins in rw (e, add-one) (refl, refl, b, refl)

  -- behind an arm, or a match's first part
  pub next_arms : (i m : ℕ) → m ≡ behind (i + 1) → ArmsStand (text_in k) (tokens_in k) (behind (suc i)) → (m ≡ behind (suc i)) × ArmsStand (text_in k) (tokens_in k) m
  next_arms i m e s = let q : m ≡ behind (suc i) = e ∙ ap behind (add-one i) in (q, subst (ArmsStand (text_in k) (tokens_in k)) (sym q) s)

-- a match, by the arm of its value's case
module _ (k : Program) (w : Wait) (cs : List Cell) (x : Expr) (ms : Arms) (o : expr k w.job.at ≡ Match w.job.at x ms)
    (v : Value) (m : ℕ × ℕ × List Value) (e : Some v ≡ one (vals w)) (f : Some m ≡ (of_cell cs v ▸ of_enum)) where
  none_by : (es : List (Entry Value)) (a : Option (ℕ × ℕ × Expr)) → arm_of ms m.1 ≡ a → OfArm (text_in k) (tokens_in k) a None
      → (most : ℕ) → after (setup k most) (scope es w.job) cs (expr k w.job.at) (vals w) ≡ None
  none_by es None q h most = rw (o, ← e) (bound (of_cell cs v) of_enum m _ f ∙ rw q)
  none_by es (Some a) q h most = absurd h

  -- no arm
  pub match_none : (es : List (Entry Value)) → OfArm (text_in k) (tokens_in k) (arm_of ms m.1) None
      → (most : ℕ) → after (setup k most) (scope es w.job) cs (expr k w.job.at) (vals w) ≡ None
  match_none es h = none_by es (arm_of ms m.1) refl h

  unlike_by : (es : List (Entry Value)) (d : Arm × ℕ) (a : Option (ℕ × ℕ × Expr)) → arm_of ms m.1 ≡ a → OfArm (text_in k) (tokens_in k) a (Some d) → ¬ (length m.2 ≡ d.0.names)
      → (most : ℕ) → after (setup k most) (scope es w.job) cs (expr k w.job.at) (vals w) ≡ None
  unlike_by es d None q h n most = absurd h
  unlike_by es d (Some a) q h n most =
      let t = ne_eqb (length m.2) a.0 (λ y. n (y ∙ sym h.0)) in
      rw (o, ← e) (bound (of_cell cs v) of_enum m _ f ∙ rw (q, t))

  -- another number of fields
  pub match_not : (es : List (Entry Value)) (d : Arm × ℕ) → OfArm (text_in k) (tokens_in k) (arm_of ms m.1) (Some d) → ¬ (length m.2 ≡ d.0.names)
      → (most : ℕ) → after (setup k most) (scope es w.job) cs (expr k w.job.at) (vals w) ≡ None
  match_not es d h = unlike_by es d (arm_of ms m.1) refl h

  did_by : (es es' : List (Entry Value)) (d : Arm × ℕ) (n : ℕ) (a : Option (ℕ × ℕ × Expr)) → arm_of ms m.1 ≡ a → OfArm (text_in k) (tokens_in k) a (Some d) → length m.2 ≡ d.0.names
      → w.job.base ≤ w.job.height → n ≡ w.job.height + length m.2 → n ≤ w.job.height + 4 → Agree es es' w.job.height
      → window es' w.job.base (w.job.height + length m.2 - w.job.base) ≡ bind d.0.first m.2 (scope es w.job)
      → (most : ℕ) → Did k most w es es' cs cs (Some (Goes (Of (record { at = d.1; base = w.job.base; height = n }))))
  did_by es es' d n None q h l bh i few g b most = absurd h
  did_by es es' d n (Some a) q h l bh i few g b most =
      let t = eq-eqb (length m.2) a.0 (l ∙ h.0) in
      let y : after (setup k most) (scope es w.job) cs (expr k w.job.at) (vals w) ≡ Some (goes (bind a.1 m.2 (scope es w.job) ⊢ a.2)) =
      rw (o, ← e) (bound (of_cell cs v) of_enum m _ f ∙ rw (q, t)) in
      let p = h.1 in let r = h.3 in
      record { does = rw (i, b, p, ← r) (sym y); kept = refl; agree = g; leads = (h.2, omega arith, omega arith, few) }

  pub match_did : (es es' : List (Entry Value)) (d : Arm × ℕ) (n : ℕ) → OfArm (text_in k) (tokens_in k) (arm_of ms m.1) (Some d) → length m.2 ≡ d.0.names
      → w.job.base ≤ w.job.height → n ≡ w.job.height + length m.2 → n ≤ w.job.height + 4 → Agree es es' w.job.height
      → window es' w.job.base (w.job.height + length m.2 - w.job.base) ≡ bind d.0.first m.2 (scope es w.job)
      → (most : ℕ) → Did k most w es es' cs cs (Some (Goes (Of (record { at = d.1; base = w.job.base; height = n }))))
  match_did es es' d n h = did_by es es' d n (arm_of ms m.1) refl h
