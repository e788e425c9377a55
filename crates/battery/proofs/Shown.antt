-- What trees values show.
use Rattle.std.proofs.Common.{◌≡◌, ℕ, List, refl, ap, subst, arith}
use Rattle.battery.specs.declared.Ty.{Ty}
use Rattle.battery.specs.declared.value.Value.{Value}
use Rattle.battery.specs.Tree.{Card}
use Rattle.battery.specs.Cell.{Cell}
use Rattle.battery.specs.Values.{Has, h_unit, h_num, h_bool, h_text, h_enum, HasAll, h_nil, h_cons, Shown, AllShown, none_shown, ◌and◌, unit_shown, number_shown, boolean_shown, text_shown, enum_shown, Shows, s_unit, s_num, s_bool, s_text, s_enum, ShowAll, s_nil, s_cons}
use Rattle.battery.specs.Claims.{OneTree, TypedValuesShow}

mutual
  one : {cs : List Cell} {v : Value} {t t' : Shown} → Shows cs v t → Shows cs v t' → t ≡ t'
  one s_unit s_unit = refl
  one s_num s_num = refl
  one s_bool s_bool = refl
  one (s_text {s = s} e) (s_text {s = t} f) = let q : s ≡ t = cc in ap text_shown q
  one (s_text e) (s_enum f all) = let z : ◌≡◌ {A = ℕ} 0 1 = cc in absurd (omega arith)
  one (s_enum f all) (s_text e) = let z : ◌≡◌ {A = ℕ} 0 1 = cc in absurd (omega arith)
  one {cs} (s_enum {k = k} {c = c} {vs = vs} {ts = ts} e all) (s_enum {k = k'} {c = c'} {vs = ws} {ts = ts'} f more) =
      let a : k ≡ k' = cc in
      let b : c ≡ c' = cc in
      let w : ws ≡ vs = cc in
      let q : ts ≡ ts' = all_one all (subst (λ us. ShowAll cs us ts') w more) in
      cc

  all_one : {cs : List Cell} {vs : List Value} {ts ts' : AllShown} → ShowAll cs vs ts → ShowAll cs vs ts' → ts ≡ ts'
  all_one s_nil s_nil = refl
  all_one (s_cons a as') (s_cons b bs) = let p = one a b in let q = all_one as' bs in cc

pub one_tree : OneTree
one_tree cs v t t' a b = one a b

mutual
  shows : {C : Card} {cs : List Cell} {v : Value} {τ : Ty} → Has C cs v τ → ((t : Shown) × Shows cs v t)
  shows h_unit = (unit_shown, s_unit)
  shows (h_num {k = k} r) = (number_shown k, s_num)
  shows (h_bool {b = b}) = (boolean_shown b, s_bool)
  shows (h_text {s = s} e l) = (text_shown s, s_text e)
  shows (h_enum {k = k} {c = c} e f g hs) = let r = all_show hs in (enum_shown k c r.0, s_enum e r.1)

  all_show : {C : Card} {cs : List Cell} {vs : List Value} {τs : List Ty} → HasAll C cs vs τs → ((ts : AllShown) × ShowAll cs vs ts)
  all_show h_nil = (none_shown, s_nil)
  all_show (h_cons h hs) = let r = shows h in let q = all_show hs in (◌and◌ r.0 q.0, s_cons r.1 q.1)

pub typed_values_show : TypedValuesShow
typed_values_show C cs v τ h = shows h
