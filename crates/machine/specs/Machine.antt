-- A machine for the rules, which can pause: a step opens one judgement, and so spends one unit.
use Rattle.std.specs.Prelude.{ℕ, zero, suc, Bool, true, false, cond, List, [], ◌∷◌, ◌++◌, length, ℤ, Some, None, Option, ◌==◌, int_lt, nat_le}
use Rattle.battery.specs.declared.value.Value.{Value}
use Rattle.battery.specs.declared.value.Value.TheVariants.{Unit as unit_v, Number as number_v, Boolean as boolean_v, Place as place_v}
use Rattle.battery.specs.declared.outcome.Stop.TheVariants.{Exit as exits, ZeroDivisor as zero_divisor, OutOfRange as out_of_range, TooLong as too_long, FullStore as full_store, TooDeep as too_deep, Overrun as overrun}
use Rattle.battery.specs.Outcome.{Outcome}
use Rattle.std.specs.Prelude.{Ok as value, Err as stop}
use Rattle.battery.specs.Tree.{Expr, Unit', Num, Bool', Str, Local, Calc, Concat, Eq, Lt, Seq, If, Val, Call, Make, Match, Exit, Exprs, ∅, ◌&◌, place, Scope, find, bind, at, in_range, ◌▸◌}
use Rattle.battery.specs.Cell.{Cell, text_cell, enum_cell}
use Rattle.battery.specs.Rules.{Setup, Judgement, ◌⊢◌, same, record_of, first, Move, gives, stops, goes, result_of, arm_of, same_z, same_bool, same_bytes, Comparison, answer, fields, pairs}

abbrev pub one : List Value → Option Value
one [] = None
one (v ∷ []) = Some v
one (v ∷ w ∷ vs) = None

abbrev pub two : List Value → Option (Value × Value)
two [] = None
two (v ∷ []) = None
two (v ∷ w ∷ []) = Some (v, w)
two (v ∷ w ∷ z ∷ vs) = None

abbrev pub of_unit : Value → Option (Unit {0})
of_unit unit_v = Some tt
of_unit (number_v k) = None
of_unit (boolean_v b) = None
of_unit (place_v i) = None

abbrev pub of_num : Value → Option ℤ
of_num unit_v = None
of_num (number_v k) = Some k
of_num (boolean_v b) = None
of_num (place_v i) = None

abbrev pub of_bool : Value → Option Bool
of_bool unit_v = None
of_bool (number_v k) = None
of_bool (boolean_v b) = Some b
of_bool (place_v i) = None

abbrev pub of_cell : List Cell → Value → Option Cell
of_cell cs unit_v = None
of_cell cs (number_v k) = None
of_cell cs (boolean_v b) = None
of_cell cs (place_v i) = at cs i

abbrev pub of_text : Cell → Option (List ℕ)
of_text (text_cell s) = Some s
of_text (enum_cell k c vs) = None

abbrev pub of_enum : Cell → Option (ℕ × ℕ × List Value)
of_enum (text_cell s) = None
of_enum (enum_cell k c vs) = Some (k, c, vs)

-- a put by the record p
abbrev pub putting : ℕ → Option (ℕ × List Cell) → Move
putting p None = stops (full_store p)
putting p (Some r) = gives (place_v r.0) r.1

abbrev pub calculated : ℕ → List Cell → Option ℤ → Move
calculated p cs None = stops (zero_divisor p)
calculated p cs (Some k) = cond (in_range k) (gives (number_v k) cs) (stops (out_of_range p))

-- what the rule of an expression does, or none where no rule applies
abbrev pub after : Setup → Scope Value → List Cell → Expr → List Value → Option Move
after S σ cs (Unit' p) vs = Some (gives unit_v cs)
after S σ cs (Num p k) vs = Some (gives (number_v k) cs)
after S σ cs (Bool' p b) vs = Some (gives (boolean_v b) cs)
after S σ cs (Str p s) vs = Some (putting p (S.put cs (text_cell s)))
after S σ cs (Local p x) vs = find σ x ▸ λ v. Some (gives v cs)
after S σ cs (Calc p o a b) vs = two vs ▸ λ w. of_num w.0 ▸ λ m. of_num w.1 ▸ λ n. Some (calculated p cs (result_of o m n))
after S σ cs (Concat p a b) vs =
    two vs ▸ λ w. of_cell cs w.0 ▸ λ c. of_text c ▸ λ s. of_cell cs w.1 ▸ λ d. of_text d ▸ λ t.
    Some (cond (nat_le (length (s ++ t)) 24) (putting p (S.put cs (text_cell (s ++ t)))) (stops (too_long p)))
after S σ cs (Eq p a b) vs = two vs ▸ λ w. Some (goes (same p w.0 w.1))
after S σ cs (Lt p a b) vs = two vs ▸ λ w. of_num w.0 ▸ λ m. of_num w.1 ▸ λ n. Some (gives (boolean_v (int_lt m n)) cs)
after S σ cs (Seq p a b) vs = one vs ▸ λ w. Some (goes (σ ⊢ b))
after S σ cs (If p c a b) vs = one vs ▸ λ w. of_bool w ▸ λ t. Some (goes (σ ⊢ cond t a b))
after S σ cs (Val p x a b) vs = one vs ▸ λ w. Some (goes ((x, w) ∷ σ ⊢ b))
after S σ cs (Call p f es) vs = at S.card.fns f ▸ λ fn. cond (length vs == length fn.params) (Some (goes (bind 0 vs [] ⊢ fn.body))) None
after S σ cs (Make p k c es) vs = Some (putting p (S.put cs (enum_cell k c vs)))
after S σ cs (Match p a ms) vs =
    one vs ▸ λ w. of_cell cs w ▸ λ c. of_enum c ▸ λ m. arm_of ms m.1 ▸ λ r. cond (length m.2 == r.0) (Some (goes (bind r.1 m.2 σ ⊢ r.2))) None
after S σ cs (Exit p τ a) vs = one vs ▸ λ w. of_cell cs w ▸ λ c. of_text c ▸ λ s. Some (stops (exits p w))

abbrev pub compare_cells : Cell → Cell → Option Comparison
compare_cells (text_cell s) (text_cell t) = Some (answer (same_bytes s t))
compare_cells (text_cell s) (enum_cell k c vs) = None
compare_cells (enum_cell k c vs) (text_cell s) = None
compare_cells (enum_cell k c vs) (enum_cell k' c' ws) = cond (k == k') (Some (cond (c == c') (fields (pairs vs ws)) (answer false))) None

abbrev pub compare : List Cell → Value → Value → Option Comparison
compare cs unit_v w = of_unit w ▸ λ t. Some (answer true)
compare cs (number_v m) w = of_num w ▸ λ n. Some (answer (same_z m n))
compare cs (boolean_v a) w = of_bool w ▸ λ b. Some (answer (same_bool a b))
compare cs (place_v i) w = at cs i ▸ λ c. of_cell cs w ▸ λ d. compare_cells c d

-- an open judgement: it waits for the values of its first parts, with those that it has and the parts after the one that
-- is being evaluated; it compares pairs for the EQ of a record, with those that are left; or it passes on the value of its last part
pub data Frame : Type 0 where
  waits : Scope Value → Expr → List Value → Exprs → Frame
  compares : ℕ → List (Value × Value) → Frame
  passes : Frame

-- about to open a judgement, under the open ones, the newest first; ended; or stuck at a record
pub data State : Type 0 where
  going : Judgement → List Frame → ℕ → List Cell → State
  ended : Outcome → ℕ → List Cell → State
  stuck : ℕ → ℕ → List Cell → State

-- a judgement is to be opened
abbrev pub arrive : Setup → Judgement → List Frame → ℕ → List Cell → State
arrive S j K u cs = cond (nat_le S.units u) (ended (stop (overrun (record_of j))) u cs) (going j K u cs)

abbrev pub Back : Type 0
Back = Value → ℕ → List Cell → State

abbrev pub act : Setup → Back → ℕ → List Frame → ℕ → List Cell → Option Move → State
act S back p K u cs None = stuck p u cs
act S back p K u cs (Some (gives v cs')) = back v u cs'
act S back p K u cs (Some (stops x)) = ended (stop x) u cs
act S back p K u cs (Some (goes j)) = arrive S j (passes ∷ K) u cs

-- an open judgement goes on, with the values that it has and the parts that are left
abbrev pub parting : Setup → Back → Scope Value → Expr → List Value → Exprs → List Frame → ℕ → List Cell → State
parting S back σ e vs ∅ K u cs = act S back (place e) K u cs (after S σ cs e vs)
parting S back σ e vs (a & es) K u cs = arrive S (σ ⊢ a) (waits σ e vs es ∷ K) u cs

-- a comparison goes on, with the pairs that are left
abbrev pub pairing : Setup → Back → ℕ → List (Value × Value) → List Frame → ℕ → List Cell → State
pairing S back p [] K u cs = back (boolean_v true) u cs
pairing S back p (q ∷ ps) K u cs = arrive S (same p q.0 q.1) (compares p ps ∷ K) u cs

abbrev pub settle : Setup → Back → ℕ → List Frame → ℕ → List Cell → Option Comparison → State
settle S back p K u cs None = stuck p u cs
settle S back p K u cs (Some (answer b)) = back (boolean_v b) u cs
settle S back p K u cs (Some (fields ps)) = pairing S back p ps K u cs

-- a comparison's pair has its answer
abbrev pub comparing : Setup → Back → ℕ → List (Value × Value) → List Frame → ℕ → List Cell → Option Bool → State
comparing S back p ps K u cs None = stuck p u cs
comparing S back p ps K u cs (Some true) = pairing S back p ps K u cs
comparing S back p ps K u cs (Some false) = back (boolean_v false) u cs

-- a value goes back to the newest open judgement
abbrev pub resume : Setup → List Frame → Back
resume S [] v u cs = ended (value v) u cs
resume S (passes ∷ K) v u cs = resume S K v u cs
resume S (waits σ e vs es ∷ K) v u cs = parting S (resume S K) σ e (vs ++ (v ∷ [])) es K u cs
resume S (compares p ps ∷ K) v u cs = comparing S (resume S K) p ps K u cs (of_bool v)

-- a judgement that was just opened
abbrev pub begin : Setup → Judgement → List Frame → ℕ → List Cell → State
begin S (σ ⊢ e) K u cs = parting S (resume S K) σ e [] (first e) K u cs
begin S (same p v w) K u cs = settle S (resume S K) p K u cs (compare cs v w)

abbrev pub step : Setup → State → State
step S (going j K u cs) = cond (nat_le S.depth (length K)) (ended (stop (too_deep (record_of j))) (suc u) cs) (begin S j K (suc u) cs)
step S (ended o u cs) = ended o u cs
step S (stuck p u cs) = stuck p u cs

-- a turn of n units
abbrev pub turn : Setup → ℕ → State → State
turn S zero s = s
turn S (suc n) s = turn S n (step S s)
