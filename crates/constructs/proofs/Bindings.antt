-- Names bound above a scope, and a call.
use Rattle.std.proofs.Common.{◌≡◌, ℕ, ◌+◌, ◌-◌, ◌≤◌, List, ◌++◌, length, take, drop, Some, None, Option, sym, refl, ap, ◌∙◌, arith, length-take-le, take-take, take-add, eq-eqb, ne_eqb}
use lib.Seq.{take-append-add, take-append-le}
use Rattle.battery.specs.declared.value.Value.{Value}
use Rattle.battery.specs.Tree.{Fn, Exprs, Call, at, bind}
use Rattle.battery.specs.Cell.{Cell}
use Rattle.machine.specs.Machine.{after}
use Rattle.scope.specs.declared.Entry.{Entry}
use Rattle.program.specs.Called.{OfFunction}
use Rattle.program.specs.Views.{tokens_in, text_in, card_in}
use Rattle.program.specs.declared.program.Program.{Program}
use Rattle.program.specs.declared.function.Function.{Function}
use Rattle.frames.specs.declared.data.Wait.{Wait}
use Rattle.frames.specs.declared.data.Judgement.TheVariants.{Of}
use Rattle.frames.specs.declared.data.Move.TheVariants.{Goes}
use Rattle.frames.specs.Trees.{expr, setup}
use Rattle.frames.specs.Stacks.{vals}
use Rattle.frames.specs.Views.{window, scope, Agree, Did}

-- what lies below a height stays where a part from a base on is put back
pub part_agrees : {A : Type 0} (es ys post : List A) (b h k : ℕ) → b ≤ h → b ≤ length es → h - b ≤ length ys → h - b ≤ k
    → take (h - b) ys ≡ take (h - b) (take k (drop b es)) → take h (take b es ++ (ys ++ post)) ≡ take h es
part_agrees es ys post b h k bh l m n q =
    let t = length-take-le b es l in
    let e : h ≡ length (take b es) + (h - b) = omega arith in
    let f : b + (h - b) ≡ h = omega arith in
    ap (λ i. take i (take b es ++ (ys ++ post))) e ∙ take-append-add (take b es) (ys ++ post) (h - b)
    ∙ ap (λ z. take b es ++ z) (take-append-le (h - b) ys post m ∙ q ∙ take-take (h - b) k (drop b es) n)
    ∙ sym (take-add b (h - b) es) ∙ ap (λ i. take i es) f

-- a call, by the function that it names
module _ (k : Program) (w : Wait) (f : ℕ) {args : Exprs} (o : expr k w.job.at ≡ Call w.job.at f args) where
  none_by : (es : List (Entry Value)) (g : Option Fn) → at (card_in k).fns f ≡ g → OfFunction (text_in k) (tokens_in k) g None
      → (most : ℕ) (cs : List Cell) → after (setup k most) (scope es w.job) cs (expr k w.job.at) (vals w) ≡ None
  none_by es None a h most cs = rw (o, a)
  none_by es (Some fn) a h most cs = absurd h

  -- no such function
  pub call_none : (es : List (Entry Value)) → OfFunction (text_in k) (tokens_in k) (at (card_in k).fns f) None
      → (most : ℕ) (cs : List Cell) → after (setup k most) (scope es w.job) cs (expr k w.job.at) (vals w) ≡ None
  call_none es h = none_by es (at (card_in k).fns f) refl h

  unlike_by : (es : List (Entry Value)) (b : Function) (g : Option Fn) → at (card_in k).fns f ≡ g → OfFunction (text_in k) (tokens_in k) g (Some b)
      → ¬ (length (vals w) ≡ b.parameters) → (most : ℕ) (cs : List Cell) → after (setup k most) (scope es w.job) cs (expr k w.job.at) (vals w) ≡ None
  unlike_by es b None a h d most cs = absurd h
  unlike_by es b (Some fn) a h d most cs = let t = ne_eqb (length (vals w)) (length fn.params) (λ q. d (q ∙ sym h.0)) in rw (o, a, t)

  -- another number of values
  pub call_not : (es : List (Entry Value)) (b : Function) → OfFunction (text_in k) (tokens_in k) (at (card_in k).fns f) (Some b)
      → ¬ (length (vals w) ≡ b.parameters) → (most : ℕ) (cs : List Cell) → after (setup k most) (scope es w.job) cs (expr k w.job.at) (vals w) ≡ None
  call_not es b h = unlike_by es b (at (card_in k).fns f) refl h

  call_by : (es es' : List (Entry Value)) (b : Function) (m : ℕ) (g : Option Fn) → at (card_in k).fns f ≡ g → OfFunction (text_in k) (tokens_in k) g (Some b)
      → length (vals w) ≡ b.parameters → m ≡ w.job.height + length (vals w) → m ≤ w.job.height + 4 → Agree es es' w.job.height
      → window es' w.job.height (w.job.height + length (vals w) - w.job.height) ≡ bind 0 (vals w) (window es w.job.height (w.job.height - w.job.height))
      → (most : ℕ) (cs : List Cell) → Did k most w es es' cs cs (Some (Goes (Of (record { at = b.body; base = w.job.height; height = m }))))
  call_by es es' b m None a h d i few g v most cs = absurd h
  call_by es es' b m (Some fn) a h d i few g v most cs =
      let t = eq-eqb (length (vals w)) (length fn.params) (d ∙ h.0) in
      let z : w.job.height - w.job.height ≡ 0 = omega arith in
      let v' = rw z at v in
      let body = h.2 in
      record { does = rw (o, a, t, body, i, v'); kept = refl; agree = g; leads = (h.1, omega arith, omega arith, few) }

  pub call_did : (es es' : List (Entry Value)) (b : Function) (m : ℕ) → OfFunction (text_in k) (tokens_in k) (at (card_in k).fns f) (Some b)
      → length (vals w) ≡ b.parameters → m ≡ w.job.height + length (vals w) → m ≤ w.job.height + 4 → Agree es es' w.job.height
      → window es' w.job.height (w.job.height + length (vals w) - w.job.height) ≡ bind 0 (vals w) (window es w.job.height (w.job.height - w.job.height))
      → (most : ℕ) (cs : List Cell) → Did k most w es es' cs cs (Some (Goes (Of (record { at = b.body; base = w.job.height; height = m }))))
  call_did es es' b m h = call_by es es' b m (at (card_in k).fns f) refl h
