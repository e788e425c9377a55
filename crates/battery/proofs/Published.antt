-- The rules of evaluation are the published ones: a judgement has a value exactly when a published rule gives it.
use Rattle.std.proofs.Common.{◌≡◌, ℕ, zero, suc, Bool, true, false, cond, ◌≢◌, ◌↔◌, List, ℤ, pos, negsuc, Some, None, sym, refl, ap, arith, rules, eq-eqb, eqb-true}
use Rattle.std.proofs.lemmas.Slice.Eq.{compares_Decides}
use lib.Signed.{quot_z, rem_z}
use Rattle.battery.specs.declared.Arith.{Arith}
use Rattle.battery.specs.declared.Arith.TheVariants.{Add, Mul, Div, Mod}
use Rattle.battery.specs.declared.value.Value.{Value}
use Rattle.battery.specs.declared.value.Value.TheVariants.{Number as number_v, Boolean as boolean_v}
use Rattle.std.specs.Prelude.{Ok as value}
use Rattle.battery.specs.Tree.{Expr, Calc, Eq, Scope, in_range}
use Rattle.battery.specs.Cell.{Cell}
use Rattle.battery.specs.Rules.{Setup, Judgement, ◌⊢◌, same, first, gives, goes, is_zero, result_of, Rule, r_unit, r_num, r_bool, r_str, r_local, r_calc, r_concat, r_eq, r_lt, r_seq, r_if_true, r_if_false, r_val, r_call, r_make, r_match, same_z, same_bool, same_bytes, answer, fields, Compare, c_unit, c_num, c_bool, c_text, c_cases, c_fields, values, Opens, Eval, by_giving, by_going, by_answer, by_fields, Parts, no_part, part, Pairs, all_equal, pair_equal, pair_differs}
use Rattle.battery.specs.Published.{At, ◌∣◌⊢◌⇒◌∣◌, Published, EUnit, ENum, EBool, EStr, EId, EAdd, EMul, EDiv, EMod, EEq, ELt, EConcat, ESeq, EIfT, EIfF, EVal, EApp, EAppCase, EMatch, EqFields, eq_none, eq_both, eq_differ, PublishedEq, eq_unit, eq_number, eq_boolean, eq_text, eq_cases, eq_fields, EvaluatesAsPublished, ComparesAsPublished}

-- a result of a division, for a divisor that is not zero
divided : (n q k : ℤ) → cond (is_zero n) None (Some q) ≡ Some k → (n ≢ pos 0) × (k ≡ q)
divided (pos zero) q k e = let z : ◌≡◌ {A = ℕ} 0 1 = cc in absurd (omega arith)
divided (pos (suc n)) q k e = ((λ h. let z : suc n ≡ 0 = cc in omega arith), cc)
divided (negsuc n) q k e = ((λ h. let z : ◌≡◌ {A = ℕ} 0 1 = cc in omega arith), cc)

divides : (n q k : ℤ) → n ≢ pos 0 → k ≡ q → cond (is_zero n) None (Some q) ≡ Some k
divides (pos zero) q k h e = absurd (h refl)
divides (pos (suc n)) q k h e = cc
divides (negsuc n) q k h e = cc

-- the tests of equality, and that a statement has one test
same_z_is : (m n : ℤ) → (same_z m n ≡ true) ↔ (m ≡ n)
same_z_is (pos m) (pos n) = ((λ h. ap pos (eqb-true m n h)), λ e. eq-eqb m n (cc))
same_z_is (pos m) (negsuc n) = ((λ h. cc), λ e. cc)
same_z_is (negsuc m) (pos n) = ((λ h. cc), λ e. cc)
same_z_is (negsuc m) (negsuc n) = ((λ h. ap negsuc (eqb-true m n h)), λ e. eq-eqb m n (cc))

same_bool_is : (a b : Bool) → (same_bool a b ≡ true) ↔ (a ≡ b)
same_bool_is true b = (sym, sym)
same_bool_is false true = ((λ h. h), λ e. e)
same_bool_is false false = ((λ h. refl), λ e. refl)

same_bytes_is : (s t : List ℕ) → (same_bytes s t ≡ true) ↔ (s ≡ t)
same_bytes_is s t = compares_Decides same_bytes (search rules) s t

one_test : (a b : Bool) {P : Type 0} → (a ≡ true) ↔ P → (b ≡ true) ↔ P → a ≡ b
one_test true b h k = sym (k.1 (h.0 refl))
one_test false true h k = h.1 (k.0 refl)
one_test false false h k = refl

-- a comparison's value is a boolean
data IsBoolean : Value → Type 0 where
  is_boolean : (b : Bool) → IsBoolean (boolean_v b)

module _ {S : Setup} {d p : ℕ} where
  pairs_boolean : {ps : List (Value × Value)} {x : Value} {u u' : ℕ} {cs cs' : List Cell} → Pairs S d p ps u cs (value x) u' cs' → IsBoolean x
  pairs_boolean all_equal = is_boolean true
  pairs_boolean (pair_equal h ps) = pairs_boolean ps
  pairs_boolean (pair_differs h) = is_boolean false

same_boolean : {S : Setup} {d p : ℕ} {v w x : Value} {u u' : ℕ} {cs cs' : List Cell} → Eval S d (same p v w) u cs (value x) u' cs' → IsBoolean x
same_boolean (by_answer {b = b} o c) = is_boolean b
same_boolean (by_fields o c ps) = pairs_boolean ps

-- from a rule, its published rule: for the operators, for one that gives a value, and for one that goes on
module _ {S : Setup} {d : ℕ} {σ : Scope Value} where
  calculated : {p : ℕ} {a b : Expr} {m n k : ℤ} {s s₁ s₂ : At} (o : Arith) → result_of o m n ≡ Some k → in_range k ≡ true
      → ◌∣◌⊢◌⇒◌∣◌ S d s σ a (number_v m) s₁ → ◌∣◌⊢◌⇒◌∣◌ S d s₁ σ b (number_v n) s₂ → Published S d σ s (Calc p o a b) (number_v k) s₂
  calculated Add e r a b = EAdd a b (cc) r
  calculated Mul e r a b = EMul a b (cc) r
  calculated {m = m} {n = n} {k = k} Div e r a b = let q = divided n (quot_z m n) k e in EDiv a b q.0 q.1 r
  calculated {m = m} {n = n} {k = k} Mod e r a b = let q = divided n (rem_z m n) k e in EMod a b q.0 q.1 r

  equated : {p : ℕ} {a b : Expr} {v w x : Value} {s s₁ s₂ s₃ : At} → IsBoolean x
      → ◌∣◌⊢◌⇒◌∣◌ S d s σ a v s₁ → ◌∣◌⊢◌⇒◌∣◌ S d s₁ σ b w s₂ → Eval S d (same p v w) s₂.0 s₂.1 (value x) s₃.0 s₃.1 → Published S d σ s (Eq p a b) x s₃
  equated (is_boolean r) a b h = EEq a b h

  given : {e : Expr} {vs : List Value} {v : Value} {u u' : ℕ} {cs cs₁ cs' : List Cell}
      → Rule S.card S.put σ cs₁ e vs (gives v cs') → Parts S d σ (first e) u cs (values vs) u' cs₁ → Published S d σ (u, cs) e v (u', cs')
  given r_unit no_part = EUnit
  given r_num no_part = ENum
  given r_bool no_part = EBool
  given (r_str h) no_part = EStr h
  given (r_local h) no_part = EId h
  given (r_calc {o = o} e r) (part a (part b no_part)) = calculated o e r a b
  given (r_concat h g l q) (part a (part b no_part)) = EConcat a b h g l q
  given r_lt (part a (part b no_part)) = ELt a b refl
  given (r_make h) es = EAppCase es h

  gone : {e : Expr} {vs : List Value} {j : Judgement} {v : Value} {u u₁ u' : ℕ} {cs cs₁ cs' : List Cell}
      → Rule S.card S.put σ cs₁ e vs (goes j) → Parts S d σ (first e) u cs (values vs) u₁ cs₁ → Eval S d j u₁ cs₁ (value v) u' cs'
      → Published S d σ (u, cs) e v (u', cs')
  gone r_eq (part a (part b no_part)) h = equated (same_boolean h) a b h
  gone r_seq (part a no_part) b = ESeq a b
  gone r_if_true (part c no_part) a = EIfT c a
  gone r_if_false (part c no_part) b = EIfF c b
  gone r_val (part a no_part) b = EVal a b
  gone (r_call h l) es b = EApp h es l b
  gone (r_match h g) (part a no_part) b = EMatch a h g b

-- an expression's judgement, both ways
module _ {S : Setup} {d : ℕ} {σ : Scope Value} where
  published : {e : Expr} {v : Value} {u u' : ℕ} {cs cs' : List Cell}
      → Eval S d (σ ⊢ e) u cs (value v) u' cs' → Opens S d u × Published S (suc d) σ (suc u, cs) e v (u', cs')
  published (by_giving o es r) = (o, given r es)
  published (by_going o es r h) = (o, gone r es h)

  evaluated : {e : Expr} {v : Value} {u u' : ℕ} {cs cs' : List Cell}
      → Opens S d u → Published S (suc d) σ (suc u, cs) e v (u', cs') → Eval S d (σ ⊢ e) u cs (value v) u' cs'
  evaluated o EUnit = by_giving o no_part r_unit
  evaluated o ENum = by_giving o no_part r_num
  evaluated o EBool = by_giving o no_part r_bool
  evaluated o (EStr h) = by_giving o no_part (r_str h)
  evaluated o (EId h) = by_giving o no_part (r_local h)
  evaluated o (EAdd a b q r) = by_giving o (part a (part b no_part)) (r_calc (cc) r)
  evaluated o (EMul a b q r) = by_giving o (part a (part b no_part)) (r_calc (cc) r)
  evaluated o (EDiv {m = m} {n = n} {k = k} a b h q r) = by_giving o (part a (part b no_part)) (r_calc (divides n (quot_z m n) k h q) r)
  evaluated o (EMod {m = m} {n = n} {k = k} a b h q r) = by_giving o (part a (part b no_part)) (r_calc (divides n (rem_z m n) k h q) r)
  evaluated o (EEq a b h) = by_going o (part a (part b no_part)) r_eq h
  evaluated o (ELt a b q) = by_giving o (part a (part b no_part)) (rw q r_lt)
  evaluated o (EConcat a b h g l q) = by_giving o (part a (part b no_part)) (r_concat h g l q)
  evaluated o (ESeq a b) = by_going o (part a no_part) r_seq b
  evaluated o (EIfT c a) = by_going o (part c no_part) r_if_true a
  evaluated o (EIfF c b) = by_going o (part c no_part) r_if_false b
  evaluated o (EVal a b) = by_going o (part a no_part) r_val b
  evaluated o (EApp h es l b) = by_going o es (r_call h l) b
  evaluated o (EAppCase es h) = by_giving o es (r_make h)
  evaluated o (EMatch a h g b) = by_going o (part a no_part) (r_match h g) b

pub evaluates_as_published : EvaluatesAsPublished
evaluates_as_published S d σ e v u u' cs cs' = (published, λ h. evaluated h.0 h.1)

-- the fields that a comparison goes through, both ways
module _ {S : Setup} {d p : ℕ} where
  to_fields : {ps : List (Value × Value)} {b : Bool} {u u' : ℕ} {cs cs' : List Cell}
      → Pairs S d p ps u cs (value (boolean_v b)) u' cs' → EqFields S d p (u, cs) ps b (u', cs')
  to_fields all_equal = eq_none
  to_fields (pair_equal h ps) = eq_both h (to_fields ps)
  to_fields (pair_differs h) = eq_differ h

  to_pairs : {ps : List (Value × Value)} {b : Bool} {s s' : At} → EqFields S d p s ps b s' → Pairs S d p ps s.0 s.1 (value (boolean_v b)) s'.0 s'.1
  to_pairs eq_none = all_equal
  to_pairs (eq_both h ps) = pair_equal h (to_pairs ps)
  to_pairs (eq_differ h) = pair_differs h

-- from a comparison, its published clause: for one that answers, and for one that goes through fields
module _ {S : Setup} {d p u : ℕ} {cs : List Cell} where
  answered : {v w : Value} {b : Bool} → Compare cs v w (answer b) → PublishedEq S d p (u, cs) v w b (u, cs)
  answered c_unit = eq_unit
  answered (c_num {m = m} {n = n}) = eq_number (same_z_is m n)
  answered (c_bool {a = a} {b = a'}) = eq_boolean (same_bool_is a a')
  answered (c_text {s = s} {t = t} h g) = eq_text h g (same_bytes_is s t)
  answered (c_cases h g n) = eq_cases h g n

  went : {v w : Value} {ps : List (Value × Value)} {b : Bool} {s : At} → Compare cs v w (fields ps) → EqFields S d p (u, cs) ps b s → PublishedEq S d p (u, cs) v w b s
  went (c_fields h g) ps = eq_fields h g ps

-- a comparison's judgement, both ways
module _ {S : Setup} {d p : ℕ} where
  published_eq : {v w : Value} {b : Bool} {u u' : ℕ} {cs cs' : List Cell}
      → Eval S d (same p v w) u cs (value (boolean_v b)) u' cs' → Opens S d u × PublishedEq S (suc d) p (suc u, cs) v w b (u', cs')
  published_eq (by_answer o c) = (o, answered c)
  published_eq (by_fields o c ps) = (o, went c (to_fields ps))

  compared : {v w : Value} {b : Bool} {u u' : ℕ} {cs cs' : List Cell}
      → Opens S d u → PublishedEq S (suc d) p (suc u, cs) v w b (u', cs') → Eval S d (same p v w) u cs (value (boolean_v b)) u' cs'
  compared o eq_unit = by_answer o c_unit
  compared o (eq_number {m = m} {n = n} {b = r} h) = by_answer o (rw (one_test r (same_z m n) h (same_z_is m n)) c_num)
  compared o (eq_boolean {m = m} {n = n} {b = r} h) = by_answer o (rw (one_test r (same_bool m n) h (same_bool_is m n)) c_bool)
  compared o (eq_text {t = t} {t' = t'} {b = r} h g q) = by_answer o (rw (one_test r (same_bytes t t') q (same_bytes_is t t')) (c_text h g))
  compared o (eq_cases h g n) = by_answer o (c_cases h g n)
  compared o (eq_fields h g ps) = by_fields o (c_fields h g) (to_pairs ps)

pub compares_as_published : ComparesAsPublished
compares_as_published S d p v w b u u' cs cs' = (published_eq, λ h. compared h.0 h.1)
