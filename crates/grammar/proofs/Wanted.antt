-- Several wanted of a kind: the first of them, and the group that they are in.
use Rattle.std.proofs.Common.{◌≡◌, ℕ, zero, suc, ◌+◌, ◌-◌, ◌<◌, List, ◌∷◌, refl, arith}
use Rattle.grammar.specs.Grammar.{Want, want_type, want_expr, expecting, group}

pub first_left : (n i : ℕ) (k : Want) (K : List Want) → i < n → expecting (n - i) k K ≡ k ∷ expecting (n - (i + 1)) k K
first_left n i k K h =
    let e : n - i ≡ suc (n - (i + 1)) = omega arith in
    rw e

pub group_types : (n : ℕ) (K : List Want) → group (expecting n want_type K) ≡ group K
group_types zero K = refl
group_types (suc n) K = group_types n K

pub group_exprs : (n : ℕ) (K : List Want) → group (expecting n want_expr K) ≡ group K
group_exprs zero K = refl
group_exprs (suc n) K = group_exprs n K

pub ruleset wanted = (first_left, group_types, group_exprs)
