-- A run begins as the machine starts it, or not at all.
use Rattle.std.proofs.Common.{◌≡◌, ℕ, ◌+◌, ◌-◌, ◌≤◌, List, [], length, take, drop, Some, None, Option, Result, Ok, Err, sym, refl, ap, ◌∙◌, arith}
use Rattle.battery.specs.declared.value.Value.{Value}
use Rattle.battery.specs.Tree.{Fn, at, bind}
use Rattle.battery.specs.Cell.{Cell}
use Rattle.machine.specs.Claims.{start}
use Rattle.scope.specs.declared.Entry.{Entry}
use Rattle.scope.specs.Bound.{scope_of}
use Rattle.program.specs.Called.{OfFunction}
use Rattle.program.specs.Views.{tokens_in, text_in, card_in}
use Rattle.program.specs.declared.program.Program.{Program}
use Rattle.program.specs.declared.function.Function.{Function}
use Rattle.frames.specs.declared.data.Frame.{Frame}
use Rattle.frames.specs.declared.data.Judgement.TheVariants.{Of}
use Rattle.frames.specs.declared.data.Stage.TheVariants.{Going}
use Rattle.frames.specs.Trees.{setup}
use Rattle.frames.specs.Views.{stage, StageOk}
use Rattle.engine.specs.declared.beginning.NotBegun.TheVariants.{OtherCount}
use Rattle.engine.specs.Begun.{Takes, Because}
use Rattle.std.specs.Option.{ok_or}
use Rattle.std.specs.Result.{IsOk, OnOk}

module _ (k : Program) (f : ℕ) (b : Function) (vs : List Value) (es es₀ : List (Entry Value)) (l : List Frame) (cs : List Cell) (most n : ℕ) where
  pub record Began : Type 0 where
    pub fn : Fn
    pub takes : Takes k f vs fn
    pub view : stage k es l 0 cs (Going (Of (record { at = b.body; base = 0; height = n }))) ≡ start (setup k most) fn vs cs
    pub sound : StageOk k l 0 (Going (Of (record { at = b.body; base = 0; height = n })))

  begun_by : (o : Option Fn) → at (card_in k).fns f ≡ o → OfFunction (text_in k) (tokens_in k) o (Some b) → n ≡ length vs → length vs ≡ b.parameters → length vs ≤ 4 → l ≡ []
      → scope_of (take (0 + length vs) es) ≡ bind 0 vs (scope_of (take 0 es₀)) → Began
  begun_by None e o m h few q s = absurd o
  begun_by (Some fn) e o m h few q s =
      let is = o.2 in
      let z : n - 0 ≡ 0 + length vs = omega arith in
      let w : scope_of (take (n - 0) (drop 0 es)) ≡ bind 0 vs [] = rw z s in
      record {
        fn = fn;
        takes = record { there = e; counted = h ∙ o.0 };
        view = rw (q, w, is);
        sound = rw q ((record { start = o.1; based = omega arith; low = omega arith }, tt), omega arith);
      }

  pub begun : OfFunction (text_in k) (tokens_in k) (at (card_in k).fns f) (Some b) → n ≡ length vs → length vs ≡ b.parameters → length vs ≤ 4 → l ≡ []
      → scope_of (take (0 + length vs) es) ≡ bind 0 vs (scope_of (take 0 es₀)) → Began
  begun o m h few q s = begun_by (at (card_in k).fns f) refl o m h few q s

module _ (k : Program) (f : ℕ) (b : Function) (vs : List Value) where
  other_by : (o : Option Fn) → at (card_in k).fns f ≡ o → OfFunction (text_in k) (tokens_in k) o (Some b) → ¬ (length vs ≡ b.parameters)
      → Because k f vs OtherCount × ((fn : Fn) → ¬ Takes k f vs fn)
  other_by None e o h = absurd o
  other_by (Some fn) e o h = (
    (fn, e, λ c. h (c ∙ sym o.0)),
    λ g t. let s = t.there in let same : g ≡ fn = cc in h (t.counted ∙ ap (λ (x : Fn). length x.params) same ∙ sym o.0),
  )

  -- another count of arguments than the function takes
  pub other_count : OfFunction (text_in k) (tokens_in k) (at (card_in k).fns f) (Some b) → ¬ (length vs ≡ b.parameters) → Because k f vs OtherCount × ((fn : Fn) → ¬ Takes k f vs fn)
  other_count o h = other_by (at (card_in k).fns f) refl o h

-- an option of which an error was made, and was not returned
pub found : {A E : Type 0} (o : Option A) (e : E) (a : A) → Ok a ≡ ok_or o e → o ≡ Some a
found None e a h = cc
found (Some b) e a h = cc

pub on_ok : {A E P : Type 0} (r : Result A E) → IsOk r → OnOk r P → P
on_ok (Ok x) h p = p
on_ok (Err e) h p = absurd (cc)
