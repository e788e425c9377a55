-- The worked cases of specs/Worked.antt, each by its derivation.
use Rattle.std.proofs.Common.{◌≡◌, ℕ, zero, suc, ◌+◌, ◌<◌, ◌≤◌, T, ltb, List, [], ◌∷◌, ℤ, pos, Some, refl, append-nil, arith, lit<, length-append}
use lib.Signed.{lt_z}
use Rattle.battery.specs.declared.value.Value.{Value}
use Rattle.battery.specs.declared.value.Value.TheVariants.{Number as number_v, Boolean as boolean_v, Place as place_v}
use Rattle.battery.specs.declared.outcome.Stop.TheVariants.{TooDeep as too_deep}
use Rattle.std.specs.Prelude.{Ok as value, Err as stop}
use Rattle.battery.specs.Tree.{Num, Str, Local, Lt, Call, Make, ∅, ◌&◌, Scope, at, Fn, Card}
use Rattle.battery.specs.Cell.{Cell, text_cell, enum_cell}
use Rattle.battery.specs.Rules.{Setup, Opens, ◌⊢◌, Eval, at_too_deep, by_giving, by_stopping, by_going, by_answer, by_fields, Parts, values, no_part, part, all_equal, pair_equal, c_text, c_fields, r_num, r_str, r_local, r_calc, r_calc_out, r_concat, r_concat_long, r_eq, r_lt, r_if_true, r_if_false, r_call, r_make, r_make_full, plotter}
use Rattle.battery.specs.Worked.{card_K, Spit, KNear, KFar, KFull, Division, Joins24, Joins25, EqualMakes, CallsItself}

-- a judgement may be opened, where the counts are written out
opens : {S : Setup} {d u : ℕ} → T (ltb u S.units) → T (ltb d S.depth) → Opens S d u
opens t r = record { unit_left = lit< t; room = lit< r }

-- card K: its scope, its test, and the field of its case 1
abbrev KScope : ℤ → Scope Value
KScope k = (1, place_v 0) ∷ (0, number_v k) ∷ []

KTests : (most : ℕ) (k : ℤ)
    → Parts (plotter card_K most) 1 (KScope k) (Lt 10 (Local 11 0) (Num 12 (pos 50000)) & ∅) 1 (Spit ∷ []) (values (boolean_v (lt_z k (pos 50000)) ∷ [])) 4 (Spit ∷ [])
KTests most k =
    part (by_giving (opens tt tt) (part (by_giving (opens tt tt) no_part (r_local refl)) (part (by_giving (opens tt tt) no_part r_num) no_part)) r_lt) no_part

KField : (most : ℕ) {k : ℤ} → Parts (plotter card_K most) 2 (KScope k) (Local 14 1 & ∅) 5 (Spit ∷ []) (values (place_v 0 ∷ [])) 6 (Spit ∷ [])
KField most = part (by_giving (opens tt tt) no_part (r_local refl)) no_part

pub k_near : KNear
k_near = by_going (opens tt tt) (KTests 9 (pos 30000)) r_if_true (by_giving (opens tt tt) (KField 9) (r_make refl))

pub k_far : KFar
k_far = by_going (opens tt tt) (KTests 9 (pos 50000)) r_if_false (by_giving (opens tt tt) no_part (r_make refl))

pub k_full : KFull
k_full = by_going (opens tt tt) (KTests 1 (pos 30000)) r_if_true (by_stopping (opens tt tt) (KField 1) (r_make_full refl))

-- division: two numbers, and the operator's rule
two_numbers : {m n : ℤ} → Parts (plotter card_K 9) 1 [] (Num 1 m & Num 2 n & ∅) 1 [] (values (number_v m ∷ number_v n ∷ [])) 3 []
two_numbers = part (by_giving (opens tt tt) no_part r_num) (part (by_giving (opens tt tt) no_part r_num) no_part)

pub division : Division
division =
    record {
      quotient = by_giving (opens tt tt) two_numbers (r_calc refl refl);
      remainder = by_giving (opens tt tt) two_numbers (r_calc refl refl);
      least = by_stopping (opens tt tt) two_numbers (r_calc_out refl refl);
      nothing_left = by_giving (opens tt tt) two_numbers (r_calc refl refl);
    }

-- joins: two texts, and how long they are together
two_texts : (s t : List ℕ) → Parts (plotter card_K 9) 1 [] (Str 1 s & Str 2 t & ∅) 1 [] (values (place_v 0 ∷ place_v 1 ∷ [])) 3 (text_cell s ∷ text_cell t ∷ [])
two_texts s t = part (by_giving (opens tt tt) no_part (r_str refl)) (part (by_giving (opens tt tt) no_part (r_str refl)) no_part)

pub joins_24 : Joins24
joins_24 s h = by_giving (opens tt tt) (two_texts s []) (r_concat {s = s} {t = []} refl refl (rw append-nil (omega arith)) (rw append-nil))

pub joins_25 : Joins25
joins_25 s b h = by_stopping (opens tt tt) (two_texts s (b ∷ [])) (r_concat_long {s = s} {t = b ∷ []} refl refl (rw length-append (omega arith)))

-- EQ of two MAKEs, each of case 1 on a text
made : {S : Setup} {d u p q i j : ℕ} {s : List ℕ} {cs cs₁ cs₂ : List Cell}
    → Opens S d u → Opens S (suc d) (suc u) → S.put cs (text_cell s) ≡ Some (i, cs₁) → S.put cs₁ (enum_cell 0 1 (place_v i ∷ [])) ≡ Some (j, cs₂)
    → Eval S d ([] ⊢ Make p 0 1 (Str q s & ∅)) u cs (value (place_v j)) (suc (suc u)) cs₂
made o o₁ puts makes = by_giving o (part (by_giving o₁ no_part (r_str puts)) no_part) (r_make makes)

pub equal_makes : EqualMakes
equal_makes =
    by_going (opens tt tt) (part (made (opens tt tt) (opens tt tt) refl refl) (part (made (opens tt tt) (opens tt tt) refl refl) no_part)) r_eq
    (by_fields (opens tt tt) (c_fields refl refl) (pair_equal (by_answer (opens tt tt) (c_text refl refl)) all_equal))

-- a body that only calls its own function: d judgements are open, all that were opened, and k more may be
module _ (C : Card) (most f p : ℕ) (fn : Fn) (cs : List Cell) (here : at C.fns f ≡ Some fn) (none : fn.params ≡ []) (body : fn.body ≡ Call p f ∅) where
  deeper : (k d : ℕ) → d + k ≡ 256 → Eval (plotter C most) d ([] ⊢ fn.body) d cs (stop (too_deep p)) 257 cs
  deeper zero d e =
      let last : suc d ≡ 257 = omega arith in
      let unit_left : d < 1000000 = omega arith in
      let no_room : 256 ≤ d = omega arith in
      rw (body, ← last) (at_too_deep unit_left no_room)
  deeper (suc k) d e =
      let o : Opens (plotter C most) d d = record { unit_left = omega arith; room = omega arith } in
      let next : suc d + k ≡ 256 = omega arith in
      rw body (by_going o no_part (r_call {vs = []} here (rw none)) (deeper k (suc d) next))

pub calls_itself : CallsItself
calls_itself C most f p fn cs here none body = deeper C most f p fn cs here none body 256 0 refl
