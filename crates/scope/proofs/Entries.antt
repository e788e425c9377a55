-- What one entry more does to the scope that entries stand for.
use Rattle.std.proofs.Common.{◌≡◌, ℕ, suc, ◌+◌, ◌<◌, List, [], ◌∷◌, ◌++◌, length, get_or, take, set, sym, refl, ap, ◌∙◌, arith}
use Rattle.std.proofs.lemmas.List.{take_more, take_more_set, take_all, length-take-le}
use Rattle.battery.specs.Tree.{Scope, bind}
use Rattle.scope.specs.declared.Entry.{Entry}
use Rattle.scope.specs.Bound.{upon, scope_of}

module _ {T : Type 0} where
  pub upon_push : (es : List (Entry T)) (e : Entry T) (s : Scope T) → upon (es ++ e ∷ []) s ≡ (e.name, e.value) ∷ upon es s
  upon_push [] e s = refl
  upon_push (x ∷ es) e s = upon_push es e ((x.name, x.value) ∷ s)

  pub scope_push : (es : List (Entry T)) (e : Entry T) → scope_of (es ++ e ∷ []) ≡ (e.name, e.value) ∷ scope_of es
  scope_push es e = upon_push es e []

  -- the scope of the first entries, with one that stands there already, or one that is written
  pub scope_more : (es : List (Entry T)) (i : ℕ) (d : Entry T) → i < length es → scope_of (take (i + 1) es) ≡ ((get_or es i d).name, (get_or es i d).value) ∷ scope_of (take i es)
  scope_more es i d h = ap scope_of (take_more es i d h) ∙ scope_push (take i es) (get_or es i d)

  pub scope_set : (es : List (Entry T)) (i : ℕ) (e : Entry T) → i < length es → scope_of (take (i + 1) (set es i e)) ≡ (e.name, e.value) ∷ scope_of (take i es)
  scope_set es i e h = ap scope_of (take_more_set es i e h) ∙ scope_push (take i es) e

  -- names bound in order, and one more
  pub bind_push : (x : ℕ) (vs : List T) (v : T) (s : Scope T) → bind x (vs ++ v ∷ []) s ≡ (x + length vs, v) ∷ bind x vs s
  bind_push x [] v s = let z : x ≡ x + 0 = omega arith in ap (λ n. (n, v) ∷ s) z
  bind_push x (u ∷ vs) v s =
      let z : suc x + length vs ≡ x + suc (length vs) = omega arith in
      bind_push (suc x) vs v ((x, u) ∷ s) ∙ ap (λ n. (n, v) ∷ bind (suc x) vs ((x, u) ∷ s)) z

  -- entries from len on bind the first i values to the names from x on, and so with one value more
  pub bind_more : (es : List (Entry T)) (vs : List T) (len i x : ℕ) (v : T) (s : Scope T) → len + i < length es → i < length vs → v ≡ get_or vs i v → scope_of (take (len + i) es) ≡ bind x (take i vs) s → scope_of (take (len + (i + 1)) (set es (len + i) (record { name = x + i; value = v }))) ≡ bind x (take (i + 1) vs) s
  bind_more es vs len i x v s room h is inv =
      let place : len + (i + 1) ≡ len + i + 1 = omega arith in
      let long = length-take-le i vs (omega arith) in
      let more : bind x (take (i + 1) vs) s ≡ (x + i, v) ∷ bind x (take i vs) s =
      ap (λ us. bind x us s) (take_more vs i v h)
      ∙ bind_push x (take i vs) (get_or vs i v) s
      ∙ ap (λ n. (x + n, get_or vs i v) ∷ bind x (take i vs) s) long
      ∙ ap (λ u. (x + i, u) ∷ bind x (take i vs) s) (sym is) in
      rw place (scope_set es (len + i) (record { name = x + i; value = v }) room ∙ ap (λ t. (x + i, v) ∷ t) inv ∙ sym more)

  pub bind_all : (es : List (Entry T)) (vs : List T) (len i x : ℕ) (s : Scope T) → i ≡ length vs → scope_of (take (len + i) es) ≡ bind x (take i vs) s → scope_of (take (len + length vs) es) ≡ bind x vs s
  bind_all es vs len i x s all inv =
      ap (λ n. scope_of (take (len + n) es)) (sym all) ∙ inv ∙ ap (λ us. bind x us s) (take_all i vs (omega arith))
