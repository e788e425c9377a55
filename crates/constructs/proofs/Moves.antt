-- What a rule does that leaves the entries.
use Rattle.std.specs.Prelude.{int_lt}
use Rattle.std.proofs.Common.{◌≡◌, ℕ, suc, ◌+◌, Bool, true, false, cond, List, ℤ, Some, None, Option, sym, refl, ap, ◌∙◌, subst, add-one}
use Rattle.battery.specs.declared.value.Value.{Value}
use Rattle.battery.specs.declared.Arith.{Arith}
use Rattle.battery.specs.declared.value.Value.TheVariants.{Number as number_v, Boolean as boolean_v}
use Rattle.battery.specs.declared.outcome.Stop.TheVariants.{OutOfRange as out_of_range}
use Rattle.battery.specs.Tree.{Expr, Calc, Lt, Scope, in_range, ◌▸◌}
use Rattle.battery.specs.Cell.{Cell}
use Rattle.battery.specs.Rules.{Setup, Judgement, gives, stops, goes, result_of}
use Rattle.machine.specs.Machine.{two, of_num, after, calculated}
use Rattle.table.specs.declared.token.Head.{Head}
use Rattle.scope.specs.declared.Entry.{Entry}
use Rattle.program.specs.declared.program.Program.{Program}
use Rattle.program.specs.Stands.{Node}
use Rattle.program.specs.Views.{text_in, tokens_in, ends_in}
use Rattle.frames.specs.declared.data.Wait.{Wait}
use Rattle.frames.specs.declared.data.Move.{Move}
use Rattle.frames.specs.declared.data.Move.TheVariants.{Gives, Stops, Goes}
use Rattle.frames.specs.Trees.{expr, setup, after_it}
use Rattle.frames.specs.Stacks.{vals}
use Rattle.frames.specs.Views.{judgement, move, Kept, Leads, Did, scope}
use Rattle.frames.proofs.Layers.{standing, head_is}
use Rattle.constructs.specs.Rules.{RuleOf}
use Rattle.constructs.specs.Values.{two_numbers}

-- the tree of a rule's expression, and its parts
pub node_of : {k : Program} {w : Wait} {h : Head} → RuleOf k w h → Node (text_in k) (tokens_in k) (ends_in k) w.job.at h
node_of {k} {w} {h} r =
    let s = r.ready.start in
    let p = sym (head_is k w.job.at s) ∙ r.head in
    let q : (standing k w.job.at s).head ≡ h = cc in
    subst (Node (text_in k) (tokens_in k) (ends_in k) w.job.at) q (standing k w.job.at s).node

-- the place behind the first part, as code has it
pub behind_first : (k : Program) (i p : ℕ) → p ≡ after_it k (i + 1) → p ≡ after_it k (suc i)
behind_first k i p e = rw add-one at e

kept_same : (cs : List Cell) (r : Option Move) → Kept cs cs r
kept_same cs None = refl
kept_same cs (Some (Gives v)) = tt
kept_same cs (Some (Stops x)) = refl
kept_same cs (Some (Goes j)) = refl

module _ (k : Program) (w : Wait) (most : ℕ) (es : List (Entry Value)) (cs : List Cell) where
  -- a rule that leaves the entries and the cells
  pub still : (r : Option Move) → move k es cs r ≡ after (setup k most) (scope es w.job) cs (expr k w.job.at) (vals w) → Leads k w r → Did k most w es es cs cs r
  still r e l = record { does = e; kept = kept_same cs r; agree = refl; leads = l }

  -- no rule fits
  pub stuck_did : (r : Option Move) → r ≡ None → after (setup k most) (scope es w.job) cs (expr k w.job.at) (vals w) ≡ None → Did k most w es es cs cs r
  stuck_did r q e = rw q (still None (sym e) tt)

-- what is calculated leads to no other judgement
no_going : (b : Bool) (p : ℕ) (z : ℤ) (cs : List Cell) (j : Judgement) → ¬ (cond b (gives (number_v z) cs) (stops (out_of_range p)) ≡ goes j)
no_going true p z cs j e = cc
no_going false p z cs j e = cc

calculated_ends : (p : ℕ) (cs : List Cell) (o : Option ℤ) (j : Judgement) → ¬ (calculated p cs o ≡ goes j)
calculated_ends p cs None j e = cc
calculated_ends p cs (Some z) j e = no_going (in_range z) p z cs j e

pub calculating : (k : Program) (w : Wait) (p : ℕ) (o : Option ℤ) (es : List (Entry Value)) (cs : List Cell) (r : Move) → move k es cs (Some r) ≡ Some (calculated p cs o) → Leads k w (Some r)
calculating k w p o es cs (Gives v) e = tt
calculating k w p o es cs (Stops x) e = tt
calculating k w p o es cs (Goes j) e = absurd (calculated_ends p cs o (judgement k es j) (cc))

-- what is made of two numbers, one after the other
numbers_by : {B : Type 0} (o p : Option ℤ) (f : ℤ → ℤ → Option B) → (o ▸ λ m. p ▸ λ n. f m n) ≡ ((o ▸ λ m. p ▸ λ n. Some (m, n)) ▸ λ (x : ℤ × ℤ). f x.0 x.1)
numbers_by None p f = refl
numbers_by (Some m) None f = refl
numbers_by (Some m) (Some n) f = refl

of_two : {B : Type 0} (o : Option (Value × Value)) (f : ℤ → ℤ → Option B)
    → (o ▸ λ w. of_num w.0 ▸ λ m. of_num w.1 ▸ λ n. f m n) ≡ ((o ▸ λ w. of_num w.0 ▸ λ m. of_num w.1 ▸ λ n. Some (m, n)) ▸ λ (x : ℤ × ℤ). f x.0 x.1)
of_two None f = refl
of_two (Some w) f = numbers_by (of_num w.0) (of_num w.1) f

pub calc_is : (S : Setup) (σ : Scope Value) (cs : List Cell) (p : ℕ) (o : Arith) (a b : Expr) (vs : List Value)
    → after S σ cs (Calc p o a b) vs ≡ (two_numbers vs ▸ λ (x : ℤ × ℤ). Some (calculated p cs (result_of o x.0 x.1)))
calc_is S σ cs p o a b vs = of_two (two vs) (λ m n. Some (calculated p cs (result_of o m n)))

pub less_is : (S : Setup) (σ : Scope Value) (cs : List Cell) (p : ℕ) (a b : Expr) (vs : List Value)
    → after S σ cs (Lt p a b) vs ≡ (two_numbers vs ▸ λ (x : ℤ × ℤ). Some (gives (boolean_v (int_lt x.0 x.1)) cs))
less_is S σ cs p a b vs = of_two (two vs) (λ m n. Some (gives (boolean_v (int_lt m n)) cs))

-- a value that was found and looked into, and one that was not
pub bound : {A X B : Type 0} (o : Option A) (g : A → Option X) (x : X) (f : X → Option B) → Some x ≡ (o ▸ g) → (o ▸ λ a. g a ▸ f) ≡ f x
bound None g x f e = cc
bound (Some a) g x f e = ap (λ y. y ▸ f) (sym e)

pub unbound : {A X B : Type 0} (o : Option A) (g : A → Option X) (f : X → Option B) → None ≡ (o ▸ g) → (o ▸ λ a. g a ▸ f) ≡ None
unbound None g f e = refl
unbound (Some a) g f e = ap (λ y. y ▸ f) (sym e)
