-- The rules of evaluation.
use Rattle.std.specs.Prelude.{◌≡◌, ℕ, zero, suc, ◌<◌, ◌≤◌, Bool, true, false, cond, ◌≢◌, List, [], ◌∷◌, ◌++◌, length, ℤ, pos, negsuc, ◌+ℤ◌, ◌*ℤ◌, Some, None, Option, ◌==◌, int_div, int_lt, int_rem}
use Rattle.battery.specs.declared.Arith.{Arith}
use Rattle.battery.specs.declared.Arith.TheVariants.{Add, Mul, Div, Mod}
use Rattle.battery.specs.declared.value.Value.{Value}
use Rattle.battery.specs.declared.value.Value.TheVariants.{Unit as unit_v, Number as number_v, Boolean as boolean_v, Place as place_v}
use Rattle.battery.specs.declared.outcome.Stop.{Stop}
use Rattle.battery.specs.declared.outcome.Stop.TheVariants.{Exit as exits, ZeroDivisor as zero_divisor, OutOfRange as out_of_range, TooLong as too_long, FullStore as full_store, TooDeep as too_deep, Overrun as overrun}
use Rattle.battery.specs.Outcome.{Outcome}
use Rattle.std.specs.Prelude.{Ok as value, Err as stop}
use Rattle.battery.specs.Tree.{Expr, Unit', Num, Bool', Str, Local, Calc, Concat, Eq, Lt, Seq, If, Val, Call, Make, Match, Exit, Exprs, ∅, ◌&◌, Arms, no_arm, arm, place, Scope, find, bind, at, Fn, Card, in_range}
use Rattle.battery.specs.Cell.{Cell, text_cell, enum_cell, Put, append}

-- what a run is made over: its card, its store's put, and how many judgements may be open at once and opened in all
pub record Setup : Type 0 where
  pub card : Card
  pub put : Put
  pub depth : ℕ
  pub units : ℕ

-- what a judgement is of: an expression in a scope, or two values that the EQ of a record compares
pub data Judgement : Type 0 where
  ◌⊢◌ : Scope Value → Expr → Judgement
  same : ℕ → Value → Value → Judgement

infix 20 ◌⊢◌
-- the record that a judgement is opened for
abbrev pub record_of : Judgement → ℕ
record_of (σ ⊢ e) = place e
record_of (same p v w) = p

-- the parts that an expression's judgement evaluates first, in order
abbrev pub first : Expr → Exprs
first (Unit' p) = ∅
first (Num p k) = ∅
first (Bool' p b) = ∅
first (Str p s) = ∅
first (Local p x) = ∅
first (Calc p o a b) = a & b & ∅
first (Concat p a b) = a & b & ∅
first (Eq p a b) = a & b & ∅
first (Lt p a b) = a & b & ∅
first (Seq p a b) = a & ∅
first (If p c a b) = c & ∅
first (Val p x a b) = a & ∅
first (Call p f es) = es
first (Make p k c es) = es
first (Match p a ms) = a & ∅
first (Exit p τ a) = a & ∅

-- what a judgement does when those have their values: it gives a value, with the cells then;
-- it stops the run; or its value is that of one more judgement
pub data Move : Type 0 where
  gives : Value → List Cell → Move
  stops : Stop → Move
  goes : Judgement → Move

abbrev pub is_zero : ℤ → Bool
is_zero (pos zero) = true
is_zero (pos (suc n)) = false
is_zero (negsuc n) = false

-- the exact result, or none for a zero divisor; a quotient is cut toward zero
abbrev pub result_of : Arith → ℤ → ℤ → Option ℤ
result_of Add m n = Some (m +ℤ n)
result_of Mul m n = Some (m *ℤ n)
result_of Div m n = cond (is_zero n) None (Some (int_div m n))
result_of Mod m n = cond (is_zero n) None (Some (int_rem m n))

-- the arm of the case c: how many names it binds, the first, and its part
abbrev pub arm_of : Arms → ℕ → Option (ℕ × ℕ × Expr)
arm_of no_arm c = None
arm_of (arm p c' n x e ms) c = cond (c == c') (Some (n, x, e)) (arm_of ms c)

pub data Rule (C : Card) (put : Put) (σ : Scope Value) (cs : List Cell) : Expr → List Value → Move → Type 0 where
  r_unit : {p : _} → Rule C put σ cs (Unit' p) [] (gives unit_v cs)
  r_num : {p k : _} → Rule C put σ cs (Num p k) [] (gives (number_v k) cs)
  r_bool : {p b : _} → Rule C put σ cs (Bool' p b) [] (gives (boolean_v b) cs)
  r_str : {p s i cs' : _} → put cs (text_cell s) ≡ Some (i, cs') → Rule C put σ cs (Str p s) [] (gives (place_v i) cs')
  r_str_full : {p s : _} → put cs (text_cell s) ≡ None → Rule C put σ cs (Str p s) [] (stops (full_store p))
  r_local : {p x v : _} → find σ x ≡ Some v → Rule C put σ cs (Local p x) [] (gives v cs)
  r_calc : {p o a b m n k : _}
      → result_of o m n ≡ Some k → in_range k ≡ true → Rule C put σ cs (Calc p o a b) (number_v m ∷ number_v n ∷ []) (gives (number_v k) cs)
  r_calc_zero : {p o a b m n : _}
      → result_of o m n ≡ None → Rule C put σ cs (Calc p o a b) (number_v m ∷ number_v n ∷ []) (stops (zero_divisor p))
  r_calc_out : {p o a b m n k : _}
      → result_of o m n ≡ Some k → in_range k ≡ false → Rule C put σ cs (Calc p o a b) (number_v m ∷ number_v n ∷ []) (stops (out_of_range p))
  r_concat : {p a b i j k s t cs' : _}
      → at cs i ≡ Some (text_cell s) → at cs j ≡ Some (text_cell t) → length (s ++ t) ≤ 24 → put cs (text_cell (s ++ t)) ≡ Some (k, cs')
      → Rule C put σ cs (Concat p a b) (place_v i ∷ place_v j ∷ []) (gives (place_v k) cs')
  r_concat_long : {p a b i j s t : _}
      → at cs i ≡ Some (text_cell s) → at cs j ≡ Some (text_cell t) → 24 < length (s ++ t)
      → Rule C put σ cs (Concat p a b) (place_v i ∷ place_v j ∷ []) (stops (too_long p))
  r_concat_full : {p a b i j s t : _}
      → at cs i ≡ Some (text_cell s) → at cs j ≡ Some (text_cell t) → length (s ++ t) ≤ 24 → put cs (text_cell (s ++ t)) ≡ None
      → Rule C put σ cs (Concat p a b) (place_v i ∷ place_v j ∷ []) (stops (full_store p))
  r_eq : {p a b v w : _} → Rule C put σ cs (Eq p a b) (v ∷ w ∷ []) (goes (same p v w))
  r_lt : {p a b m n : _} → Rule C put σ cs (Lt p a b) (number_v m ∷ number_v n ∷ []) (gives (boolean_v (int_lt m n)) cs)
  r_seq : {p a b v : _} → Rule C put σ cs (Seq p a b) (v ∷ []) (goes (σ ⊢ b))
  r_if_true : {p c a b : _} → Rule C put σ cs (If p c a b) (boolean_v true ∷ []) (goes (σ ⊢ a))
  r_if_false : {p c a b : _} → Rule C put σ cs (If p c a b) (boolean_v false ∷ []) (goes (σ ⊢ b))
  r_val : {p x a b v : _} → Rule C put σ cs (Val p x a b) (v ∷ []) (goes ((x, v) ∷ σ ⊢ b))
  r_call : {p f es fn vs : _}
      → at C.fns f ≡ Some fn → length vs ≡ length fn.params → Rule C put σ cs (Call p f es) vs (goes (bind 0 vs [] ⊢ fn.body))
  r_make : {p k c es vs i cs' : _}
      → put cs (enum_cell k c vs) ≡ Some (i, cs') → Rule C put σ cs (Make p k c es) vs (gives (place_v i) cs')
  r_make_full : {p k c es vs : _} → put cs (enum_cell k c vs) ≡ None → Rule C put σ cs (Make p k c es) vs (stops (full_store p))
  r_match : {p i k c x a e ms vs : _}
      → at cs i ≡ Some (enum_cell k c vs) → arm_of ms c ≡ Some (length vs, x, e) → Rule C put σ cs (Match p a ms) (place_v i ∷ []) (goes (bind x vs σ ⊢ e))
  r_exit : {p i τ a s : _} → at cs i ≡ Some (text_cell s) → Rule C put σ cs (Exit p τ a) (place_v i ∷ []) (stops (exits p (place_v i)))

-- equal numbers, booleans and texts
abbrev pub same_z : ℤ → ℤ → Bool
same_z (pos m) (pos n) = m == n
same_z (pos m) (negsuc n) = false
same_z (negsuc m) (pos n) = false
same_z (negsuc m) (negsuc n) = m == n

abbrev pub same_bool : Bool → Bool → Bool
same_bool true b = b
same_bool false true = false
same_bool false false = true

abbrev pub same_bytes : List ℕ → List ℕ → Bool
same_bytes [] [] = true
same_bytes [] (n ∷ t) = false
same_bytes (m ∷ s) [] = false
same_bytes (m ∷ s) (n ∷ t) = cond (m == n) (same_bytes s t) false

-- what comparing two values leads to: an answer, or their fields, pair by pair
pub data Comparison : Type 0 where
  answer : Bool → Comparison
  fields : List (Value × Value) → Comparison

abbrev pub pairs : List Value → List Value → List (Value × Value)
pairs [] ws = []
pairs (v ∷ vs) [] = []
pairs (v ∷ vs) (w ∷ ws) = (v, w) ∷ pairs vs ws

pub data Compare (cs : List Cell) : Value → Value → Comparison → Type 0 where
  c_unit : Compare cs unit_v unit_v (answer true)
  c_num : {m n : _} → Compare cs (number_v m) (number_v n) (answer (same_z m n))
  c_bool : {a b : _} → Compare cs (boolean_v a) (boolean_v b) (answer (same_bool a b))
  c_text : {i j s t : _} → at cs i ≡ Some (text_cell s) → at cs j ≡ Some (text_cell t) → Compare cs (place_v i) (place_v j) (answer (same_bytes s t))
  c_cases : {i j k c c' vs ws : _}
      → at cs i ≡ Some (enum_cell k c vs) → at cs j ≡ Some (enum_cell k c' ws) → c ≢ c' → Compare cs (place_v i) (place_v j) (answer false)
  c_fields : {i j k c vs ws : _}
      → at cs i ≡ Some (enum_cell k c vs) → at cs j ≡ Some (enum_cell k c ws) → Compare cs (place_v i) (place_v j) (fields (pairs vs ws))

-- what several parts come to: their values, or one of them stops the run
pub data Outcomes : Type 0 where
  values : List Value → Outcomes
  cut : Stop → Outcomes

-- a judgement may be opened: units are left in the run, and fewer than the most are open
pub record Opens (S : Setup) (d u : ℕ) : Type 0 where
  pub unit_left : u < S.units
  pub room : d < S.depth

-- Eval S d j u cs o u' cs': with d judgements open, u opened so far and the cells cs, the judgement of j comes out
-- as o, with u' opened and the cells cs'.
-- Parts: expressions evaluated one after the other. Pairs: pairs compared until one differs.
mutual
  pub data Eval (S : Setup) : ℕ → Judgement → ℕ → List Cell → Outcome → ℕ → List Cell → Type 0 where
    at_overrun : {d j u cs : _} → S.units ≤ u → Eval S d j u cs (stop (overrun (record_of j))) u cs
    at_too_deep : {d j u cs : _} → u < S.units → S.depth ≤ d → Eval S d j u cs (stop (too_deep (record_of j))) (suc u) cs
    part_stops : {d σ e u u' cs cs' x : _}
        → Opens S d u → Parts S (suc d) σ (first e) (suc u) cs (cut x) u' cs' → Eval S d (σ ⊢ e) u cs (stop x) u' cs'
    by_giving : {d σ e u u' cs cs₁ cs' vs v : _}
        → Opens S d u → Parts S (suc d) σ (first e) (suc u) cs (values vs) u' cs₁ → Rule S.card S.put σ cs₁ e vs (gives v cs') → Eval S d (σ ⊢ e) u cs (value v) u' cs'
    by_stopping : {d σ e u u' cs cs' vs x : _}
        → Opens S d u → Parts S (suc d) σ (first e) (suc u) cs (values vs) u' cs' → Rule S.card S.put σ cs' e vs (stops x) → Eval S d (σ ⊢ e) u cs (stop x) u' cs'
    by_going : {d σ e j u u₁ u' cs cs₁ cs' vs o : _}
        → Opens S d u → Parts S (suc d) σ (first e) (suc u) cs (values vs) u₁ cs₁ → Rule S.card S.put σ cs₁ e vs (goes j) → Eval S (suc d) j u₁ cs₁ o u' cs'
        → Eval S d (σ ⊢ e) u cs o u' cs'
    by_answer : {d p v w u cs b : _} → Opens S d u → Compare cs v w (answer b) → Eval S d (same p v w) u cs (value (boolean_v b)) (suc u) cs
    by_fields : {d p v w u u' cs cs' ps o : _}
        → Opens S d u → Compare cs v w (fields ps) → Pairs S (suc d) p ps (suc u) cs o u' cs' → Eval S d (same p v w) u cs o u' cs'

  pub data Parts (S : Setup) : ℕ → Scope Value → Exprs → ℕ → List Cell → Outcomes → ℕ → List Cell → Type 0 where
    no_part : {d σ u cs : _} → Parts S d σ ∅ u cs (values []) u cs
    part : {d σ e es u u₁ u' cs cs₁ cs' v vs : _}
        → Eval S d (σ ⊢ e) u cs (value v) u₁ cs₁ → Parts S d σ es u₁ cs₁ (values vs) u' cs' → Parts S d σ (e & es) u cs (values (v ∷ vs)) u' cs'
    this_stops : {d σ e es u u' cs cs' x : _}
        → Eval S d (σ ⊢ e) u cs (stop x) u' cs' → Parts S d σ (e & es) u cs (cut x) u' cs'
    later_stops : {d σ e es u u₁ u' cs cs₁ cs' v x : _}
        → Eval S d (σ ⊢ e) u cs (value v) u₁ cs₁ → Parts S d σ es u₁ cs₁ (cut x) u' cs' → Parts S d σ (e & es) u cs (cut x) u' cs'

  pub data Pairs (S : Setup) : ℕ → ℕ → List (Value × Value) → ℕ → List Cell → Outcome → ℕ → List Cell → Type 0 where
    all_equal : {d p u cs : _} → Pairs S d p [] u cs (value (boolean_v true)) u cs
    pair_equal : {d p v w ps u u₁ u' cs cs₁ cs' o : _}
        → Eval S d (same p v w) u cs (value (boolean_v true)) u₁ cs₁ → Pairs S d p ps u₁ cs₁ o u' cs' → Pairs S d p ((v, w) ∷ ps) u cs o u' cs'
    pair_differs : {d p v w ps u u' cs cs' : _}
        → Eval S d (same p v w) u cs (value (boolean_v false)) u' cs' → Pairs S d p ((v, w) ∷ ps) u cs (value (boolean_v false)) u' cs'
    pair_stops : {d p v w ps u u' cs cs' x : _}
        → Eval S d (same p v w) u cs (stop x) u' cs' → Pairs S d p ((v, w) ∷ ps) u cs (stop x) u' cs'

-- the run of a function's body on arguments, over the cells that hold them
abbrev pub Run : Setup → Fn → List Value → List Cell → Outcome → ℕ → List Cell → Type 0
Run S fn vs cs o n cs' = Eval S 0 (bind 0 vs [] ⊢ fn.body) 0 cs o n cs'

-- a plotter's run of a card: its limits, and a store that appends up to a most
abbrev pub plotter : Card → ℕ → Setup
plotter C most = record { card = C; put = append most; depth = 256; units = 1000000 }
