-- What `==` answers of two values, and why: it is true exactly of equal values, and so keeps the laws of `==`.
use Rattle.std.specs.Prelude.{◌≡◌, Bool, true, false, ◌==◌, Decides}
use Rattle.std.specs.Ordering.{int_eq}
use Rattle.std.specs.Cmp.{IsPartialEquivalence, both_ways, signed_Decides, unsigned_Decides}
use Rattle.std.proofs.Common.{refl, sym, ap, ◌∙◌}
use Rattle.battery.specs.declared.value.Value.{Value}
use Rattle.battery.specs.declared.value.Value.TheVariants.{Unit as unit_v, Number as number_v, Boolean as boolean_v, Place as place_v}
use Rattle.battery.specs.Rules.{same_bool}

abbrev pub same_value : Value → Value → Bool
same_value unit_v unit_v = true
same_value (number_v m) (number_v n) = int_eq m n
same_value (boolean_v a) (boolean_v b) = same_bool a b
same_value (place_v i) (place_v j) = i == j
same_value v w = false

same_bool_means : (a b : Bool) → Decides (same_bool a b) (a ≡ b)
same_bool_means true b = (sym, sym)
same_bool_means false true = ((λ h. h), λ e. e)
same_bool_means false false = ((λ h. refl), λ e. refl)

pub same_value_means : (v w : Value) → Decides (same_value v w) (v ≡ w)
same_value_means unit_v unit_v = ((λ h. refl), λ e. refl)
same_value_means unit_v (number_v n) = ((λ h. cc), λ e. cc)
same_value_means unit_v (boolean_v b) = ((λ h. cc), λ e. cc)
same_value_means unit_v (place_v j) = ((λ h. cc), λ e. cc)
same_value_means (number_v m) unit_v = ((λ h. cc), λ e. cc)
same_value_means (number_v m) (number_v n) = let d = signed_Decides m n in ((λ h. ap number_v (d.0 h)), λ e. d.1 (cc))
same_value_means (number_v m) (boolean_v b) = ((λ h. cc), λ e. cc)
same_value_means (number_v m) (place_v j) = ((λ h. cc), λ e. cc)
same_value_means (boolean_v a) unit_v = ((λ h. cc), λ e. cc)
same_value_means (boolean_v a) (number_v n) = ((λ h. cc), λ e. cc)
same_value_means (boolean_v a) (boolean_v b) = let d = same_bool_means a b in ((λ h. ap boolean_v (d.0 h)), λ e. d.1 (cc))
same_value_means (boolean_v a) (place_v j) = ((λ h. cc), λ e. cc)
same_value_means (place_v i) unit_v = ((λ h. cc), λ e. cc)
same_value_means (place_v i) (number_v n) = ((λ h. cc), λ e. cc)
same_value_means (place_v i) (boolean_v b) = ((λ h. cc), λ e. cc)
same_value_means (place_v i) (place_v j) = let d = unsigned_Decides i j in ((λ h. ap place_v (d.0 h)), λ e. d.1 (cc))

-- a test that tells a meaning is symmetric and transitive
pub laws_of : {A B : Type 0} {E : A → A → Bool} (f : A → B) → ((a b : A) → Decides (E a b) (f a ≡ f b)) → IsPartialEquivalence E
laws_of {E = E} f d =
    record {
      symm = λ x y. both_ways (E x y) (E y x) (λ h. (d y x).1 (sym ((d x y).0 h))) (λ h. (d x y).1 (sym ((d y x).0 h)));
      trans = λ x y z h k. (d x z).1 ((d x y).0 h ∙ (d y z).0 k);
    }

pub same_value_laws : IsPartialEquivalence same_value
same_value_laws = laws_of (λ v. v) same_value_means
