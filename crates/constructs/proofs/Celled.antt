-- What a rule does with the cells, by what its frame has.
use Rattle.std.proofs.Common.{◌≡◌, ℕ, ◌+◌, ◌<◌, ◌≤◌, Bool, true, false, cond, ltb, leb, ◌↔◌, List, [], ◌∷◌, ◌++◌, length, get_or, take, drop, Some, None, Decides, Option, sym, refl, ap, ◌∙◌, arith, length-take, rules, le-leb, lt-ltb, append_assoc, length-append}
use Rattle.std.proofs.lemmas.List.{length-take-le, take_more}
use Rattle.std.proofs.lemmas.Slice.Eq.{compares_Decides}
use Rattle.battery.specs.declared.value.Value.{Value}
use Rattle.battery.specs.declared.outcome.Stop.TheVariants.{TooLong as too_long}
use Rattle.battery.specs.Tree.{Expr, Concat, Scope, ◌▸◌}
use Rattle.battery.specs.Cell.{Cell, text_cell, append}
use Rattle.battery.specs.Rules.{Setup, stops, same_bytes}
use Rattle.battery.specs.Rules.{Move as RuleMove}
use Rattle.few.specs.declared.items.short.Short.{Short}
use Rattle.cells.specs.Meaning.{values_of}
use Rattle.table.specs.declared.token.Token.TheVariants.{Expr as EXPR}
use Rattle.table.specs.declared.token.Head.TheVariants.{Leaf as LEAF}
use Rattle.table.specs.declared.token.Leaf.TheVariants.{Text as STR}
use Rattle.numbering.proofs.Bounds.{limited_at}
use Rattle.scope.specs.declared.Entry.{Entry}
use Rattle.program.specs.Views.{tokens_in, text_in}
use Rattle.program.specs.declared.program.Program.{Program}
use Rattle.frames.specs.declared.data.Wait.{Wait}
use Rattle.frames.specs.declared.data.Move.{Move}
use Rattle.frames.specs.declared.data.Move.TheVariants.{Gives, Stops, Goes}
use Rattle.frames.specs.Trees.{Start, head_at, setup, expr}
use Rattle.frames.specs.Stacks.{vals}
use Rattle.frames.specs.Views.{scope, move, Kept, Leads, Did}
use Rattle.frames.proofs.Layers.{standing, head_is}
use Rattle.machine.specs.Machine.{two, of_cell, of_text, putting, after}
use Rattle.constructs.proofs.Moves.{bound}

pub values_few : (v : Short Value 4) → length (values_of v) ≤ 4
values_few v = let r = v.room in let w = v.whole in let l = length-take-le v.len v.items (omega arith) in omega arith

-- a rule that puts a cell
putting_ends : (k : Program) (w : Wait) (es : List (Entry Value)) (cs : List Cell) (p : ℕ) (o : Option (ℕ × List Cell)) (r : Move) → move k es cs (Some r) ≡ Some (putting p o) → Leads k w (Some r)
putting_ends k w es cs p o (Gives v) e = tt
putting_ends k w es cs p o (Stops x) e = tt
putting_ends k w es cs p None (Goes j) e = absurd (cc)
putting_ends k w es cs p (Some x) (Goes j) e = absurd (cc)

pub put_did : (k : Program) (w : Wait) (most p : ℕ) (c : Cell) (cs cs' : List Cell) (r : Move) (es : List (Entry Value))
    → after (setup k most) (scope es w.job) cs (expr k w.job.at) (vals w) ≡ Some (putting p (append most cs c))
    → ((k : Program) (es : List (Entry Value)) → move k es cs' (Some r) ≡ Some (putting p (append most cs c))) → Kept cs cs' (Some r) → Did k most w es es cs cs' (Some r)
put_did k w most p c cs cs' r es a d t = record { does = d k es ∙ sym a; kept = t; agree = refl; leads = putting_ends k w es cs' p (append most cs c) r (d k es) }

-- `==` of texts answers as the rules do
one_test : (a b : Bool) {P : Type 0} → (a ≡ true) ↔ P → (b ≡ true) ↔ P → a ≡ b
one_test true b h k = sym (k.1 (h.0 refl))
one_test false true h k = h.1 (k.0 refl)
one_test false false h k = refl

pub same_texts : (r : Bool) (s t : List ℕ) → Decides r (s ≡ t) → r ≡ same_bytes s t
same_texts r s t d = one_test r (same_bytes s t) d (compares_Decides same_bytes (search rules) s t)

-- one byte more of a text that is joined to another
pub one_more : (s t u u' : List ℕ) (i b d : ℕ) → length (s ++ t) ≤ 24 → i < length t → b ≡ get_or t i d → u ≡ s ++ take i t
    → u' ≡ cond (ltb (length u) 24) (u ++ b ∷ []) u → u' ≡ s ++ take (i + 1) t
one_more s t u u' i b d few h g e q =
    let l = length-take-le i t (omega arith) in
    let m = length-append s (take i t) in
    let n = length-append s t in
    let w : length u ≡ length s + i = ap length e ∙ m ∙ ap (λ n. length s + n) l in
    let x : ltb (length u) 24 ≡ true = lt-ltb (length u) 24 (omega arith) in
    let y = take_more t i d h in
    let z = append_assoc s (take i t) (b ∷ []) in
    q ∙ rw (x, e, z, y, g)

-- two texts joined, where both are found
concat_is : (S : Setup) (σ : Scope Value) (cs : List Cell) (p : ℕ) (x y : Expr) (vs : List Value) (a b : Value) (s t : List ℕ)
    → Some (a, b) ≡ two vs → Some s ≡ (of_cell cs a ▸ of_text) → Some t ≡ (of_cell cs b ▸ of_text)
    → after S σ cs (Concat p x y) vs ≡ Some (cond (leb (length (s ++ t)) 24) (putting p (S.put cs (text_cell (s ++ t)))) (stops (too_long p)))
concat_is S σ cs p x y vs a b s t e f g = rw (← e) (bound (of_cell cs a) of_text s _ f ∙ bound (of_cell cs b) of_text t _ g)

long_by : (b : Bool) (u : List ℕ) (m x : RuleMove) → None ≡ cond b (Some u) None → cond b m x ≡ x
long_by true u m x e = cc
long_by false u m x e = refl

short_by : (b : Bool) (u v : List ℕ) (m x : RuleMove) → Some u ≡ cond b (Some v) None → (v ≡ u) × (cond b m x ≡ m)
short_by true u v m x e = (cc, refl)
short_by false u v m x e = absurd (cc)

module _ (k : Program) (w : Wait) (most : ℕ) (es : List (Entry Value)) (cs : List Cell) {x y : Expr} (o : expr k w.job.at ≡ Concat w.job.at x y) (a b : Value) (s t : List ℕ)
    (e : Some (a, b) ≡ two (vals w)) (f : Some s ≡ (of_cell cs a ▸ of_text)) (g : Some t ≡ (of_cell cs b ▸ of_text)) where
  pub concat_long : None ≡ cond (leb (length (s ++ t)) 24) (Some (s ++ t)) None → after (setup k most) (scope es w.job) cs (expr k w.job.at) (vals w) ≡ Some (stops (too_long w.job.at))
  concat_long h = rw o (concat_is (setup k most) (scope es w.job) cs w.job.at x y (vals w) a b s t e f g ∙ ap Some (long_by (leb (length (s ++ t)) 24) (s ++ t) _ _ h))

  pub concat_puts : (u : List ℕ) → Some u ≡ cond (leb (length (s ++ t)) 24) (Some (s ++ t)) None
      → after (setup k most) (scope es w.job) cs (expr k w.job.at) (vals w) ≡ Some (putting w.job.at (append most cs (text_cell u)))
  concat_puts u h =
      let q = short_by (leb (length (s ++ t)) 24) u (s ++ t) (putting w.job.at (append most cs (text_cell (s ++ t)))) (stops (too_long w.job.at)) h in
      rw o (concat_is (setup k most) (scope es w.job) cs w.job.at x y (vals w) a b s t e f g ∙ ap Some (q.1 ∙ ap (λ v. putting w.job.at (append most cs (text_cell v))) q.0))

-- the text of a record is never too long
text_short : (k : Program) (i b n : ℕ) → Start k i → head_at k i ≡ Some (LEAF (STR b n)) → leb (length (take n (drop b (text_in k)))) 24 ≡ true
text_short k i b n s e =
    let d = head_is k i s in
    let q : (standing k i s).head ≡ LEAF (STR b n) = cc in
    let few : n ≤ 24 = limited_at (tokens_in k) i (EXPR (LEAF (STR b n))) k.limited ((standing k i s).stands ∙ ap (λ h. Some (EXPR h)) q) in
    let l = length-take n (drop b (text_in k)) in
    le-leb (length (take n (drop b (text_in k)))) 24 (omega arith)

pub text_there : (k : Program) (i b n : ℕ) (o : Option (List ℕ)) → Start k i → head_at k i ≡ Some (LEAF (STR b n))
    → o ≡ cond (leb (length (take n (drop b (text_in k)))) 24) (Some (take n (drop b (text_in k)))) None → o ≡ Some (take n (drop b (text_in k)))
text_there k i b n o s e h = let t = text_short k i b n s e in rw t at h
