-- A search from the newest entry back finds what the scope does.
use Rattle.std.proofs.Common.{◌≡◌, ℕ, Bool, eqb, List, [], ◌∷◌, reverse, Some, None, Option, sym, ap, ◌∙◌, refl, rules, arith}
use Rattle.std.specs.Option.{option_map, option_or}
use Rattle.std.specs.List.{find as first}
use Rattle.std.proofs.lemmas.List.Folds.{find-append}
use Rattle.std.proofs.lemmas.Grind.{reverse_onto}
use Rattle.battery.specs.Tree.{Scope, find}
use Rattle.scope.specs.declared.Entry.{Entry}
use Rattle.scope.specs.Bound.{upon, scope_of}

module _ {T : Type 0} (n : ℕ) where
  abbrev pub test : Entry T → Bool
  test e = eqb e.name n

  abbrev pub value_of : Entry T → T
  value_of e = e.value

  last : (r : Option (Entry T)) (e : Entry T) (s : Scope T) → option_or (option_map value_of r) (find ((e.name, e.value) ∷ s) n) ≡ option_or (option_map value_of (option_or r (first test (e ∷ [])))) (find s n)
  last (Some x) e s = refl
  last None e s = grind (rules, arith)

  pub back : (es : List (Entry T)) (s : Scope T) → find (upon es s) n ≡ option_or (option_map value_of (first test (reverse es))) (find s n)
  back [] s = refl
  back (e ∷ es) s =
      back es ((e.name, e.value) ∷ s)
      ∙ last (first test (reverse es)) e s
      ∙ ap (λ r. option_or (option_map value_of r) (find s n)) (sym (find-append test (reverse es) (e ∷ [])) ∙ ap (first test) (sym (reverse_onto es e [])))

  none_or : (o : Option T) → option_or o None ≡ o
  none_or None = refl
  none_or (Some x) = refl

  -- what the search finds, as a look-up in the scope
  pub back_all : (es : List (Entry T)) → find (scope_of es) n ≡ option_map value_of (first test (reverse es))
  back_all es = back es [] ∙ none_or _
