-- Worked cases of the rules.
use Rattle.std.specs.Prelude.{◌≡◌, ℕ, true, List, [], ◌∷◌, length, ℤ, pos, negsuc, Some}
use Rattle.battery.specs.declared.Ty.TheVariants.{Number as number, Text as text, Enum as enum}
use Rattle.battery.specs.declared.Arith.{Arith}
use Rattle.battery.specs.declared.Arith.TheVariants.{Div, Mod}
use Rattle.battery.specs.declared.value.Value.TheVariants.{Number as number_v, Boolean as boolean_v, Place as place_v}
use Rattle.battery.specs.declared.outcome.Stop.TheVariants.{OutOfRange as out_of_range, TooLong as too_long, FullStore as full_store, TooDeep as too_deep}
use Rattle.battery.specs.Outcome.{Outcome}
use Rattle.std.specs.Prelude.{Ok as value, Err as stop}
use Rattle.battery.specs.Tree.{Expr, Num, Str, Local, Calc, Concat, Eq, Lt, If, Call, Make, ∅, ◌&◌, at, Fn, Card}
use Rattle.battery.specs.Cell.{Cell, text_cell, enum_cell}
use Rattle.battery.specs.Rules.{◌⊢◌, Eval, Run, plotter}

-- card K: near names its case 1, far its case 0
abbrev pub k_rule : Fn
k_rule =
    record {
      opened = 5;
      params = number ∷ text ∷ [];
      result = enum 0;
      body = If 9 (Lt 10 (Local 11 0) (Num 12 (pos 50000))) (Make 13 0 1 (Local 14 1 & ∅)) (Make 15 0 0 ∅);
    }

abbrev pub card_K : Card
card_K = record { enums = ([] ∷ (text ∷ []) ∷ []) ∷ []; fns = k_rule ∷ [] }

abbrev pub Spit : Cell
Spit = text_cell (83 ∷ 112 ∷ 105 ∷ 116 ∷ [])

-- K on a number and "Spit", over a store of a most
abbrev pub KRun : ℕ → ℤ → Outcome → ℕ → List Cell → Type 0
KRun most k o n cs = Run (plotter card_K most) k_rule (number_v k ∷ place_v 0 ∷ []) (Spit ∷ []) o n cs

-- on 30000: case 1 with "Spit", in 6 units, with 2 cells; on 50000: case 0, in 5 units
abbrev pub KNear : Type 0
KNear = KRun 9 (pos 30000) (value (place_v 1)) 6 (Spit ∷ enum_cell 0 1 (place_v 0 ∷ []) ∷ [])

abbrev pub KFar : Type 0
KFar = KRun 9 (pos 50000) (value (place_v 1)) 5 (Spit ∷ enum_cell 0 0 [] ∷ [])

-- with a most of 1: a full store at record 13, after 6 units
abbrev pub KFull : Type 0
KFull = KRun 1 (pos 30000) (stop (full_store 13)) 6 (Spit ∷ [])

-- what an expression comes to by itself, over an empty store of a most of 9
abbrev pub ComesTo : Expr → Outcome → ℕ → List Cell → Type 0
ComesTo e o n cs = Eval (plotter card_K 9) 0 ([] ⊢ e) 0 [] o n cs

-- two numbers, at the records 1 and 2, under an operator at record 0
abbrev pub WorksOut : Arith → ℤ → ℤ → Outcome → Type 0
WorksOut o m n r = ComesTo (Calc 0 o (Num 1 m) (Num 2 n)) r 3 []

pub record Division : Type 0 where
  pub quotient : WorksOut Div (negsuc 6) (pos 2) (value (number_v (negsuc 2)))
  pub remainder : WorksOut Mod (negsuc 6) (pos 2) (value (number_v (negsuc 0)))
  pub least : WorksOut Div (negsuc 2147483647) (negsuc 0) (stop (out_of_range 0))
  pub nothing_left : WorksOut Mod (negsuc 2147483647) (negsuc 0) (value (number_v (pos 0)))

-- 24 bytes joined to none pass, and to one byte end the run
abbrev pub Joins24 : Type 0
Joins24 = (s : List ℕ) → length s ≡ 24 → ComesTo (Concat 0 (Str 1 s) (Str 2 [])) (value (place_v 2)) 3 (text_cell s ∷ text_cell [] ∷ text_cell s ∷ [])

abbrev pub Joins25 : Type 0
Joins25 = (s : List ℕ) (b : ℕ) → length s ≡ 24 → ComesTo (Concat 0 (Str 1 s) (Str 2 (b ∷ []))) (stop (too_long 0)) 3 (text_cell s ∷ text_cell (b ∷ []) ∷ [])

-- EQ of two MAKEs of case 1 on STR "a": true, in 7 units
abbrev pub EqualMakes : Type 0
EqualMakes =
    ComesTo (Eq 0 (Make 1 0 1 (Str 2 (97 ∷ []) & ∅)) (Make 3 0 1 (Str 4 (97 ∷ []) & ∅))) (value (boolean_v true)) 7
    (text_cell (97 ∷ []) ∷ enum_cell 0 1 (place_v 0 ∷ []) ∷ text_cell (97 ∷ []) ∷ enum_cell 0 1 (place_v 2 ∷ []) ∷ [])

-- a body that only calls its own function is too deep after 257 units, on every card and over every store
abbrev pub CallsItself : Type 0
CallsItself =
    (C : Card) (most f p : ℕ) (fn : Fn) (cs : List Cell) → at C.fns f ≡ Some fn → fn.params ≡ [] → fn.body ≡ Call p f ∅
    → Run (plotter C most) fn [] cs (stop (too_deep p)) 257 cs
