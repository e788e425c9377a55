-- Types compared one by one, as `==` of slices does.
use Rattle.std.proofs.Common.{◌≡◌, Bool, ◌&&◌, List, [], ◌∷◌, refl, ap}
use Rattle.std.specs.Cmp.Lexicographic.{pointwise}
use Rattle.battery.specs.declared.Ty.{Ty}
use Rattle.verdict.specs.Order.{same_ty, same_tys}

pub all_same : (σs τs : List Ty) → pointwise same_ty σs τs ≡ same_tys σs τs
all_same [] [] = refl
all_same [] (τ ∷ τs) = refl
all_same (σ ∷ σs) [] = refl
all_same (σ ∷ σs) (τ ∷ τs) = ap (λ (b : Bool). same_ty σ τ && b) (all_same σs τs)
