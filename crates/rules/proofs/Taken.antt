-- Types read one after the other.
use Rattle.std.proofs.Common.{◌≡◌, ℕ, zero, suc, ◌+◌, ◌-◌, ◌<◌, ◌≤◌, Bool, cond, ltb, List, [], ◌∷◌, ◌++◌, length, drop, Some, None, Option, sym, refl, ap, ◌∙◌, arith, lt-ltb}
use Rattle.battery.specs.declared.Ty.{Ty}
use Rattle.battery.specs.Tree.{at, ◌▸◌}
use Rattle.table.specs.declared.token.Token.{Token}
use Rattle.table.specs.declared.token.Token.TheVariants.{Close as CLOSE, Enum as ENUM, Case as CASE, Def as DEF, Ty as TYPE, Arm as ARM, Expr as EXPR}
use Rattle.table.specs.Sorts.{type_of}
use Rattle.numbering.specs.Places.{types_in}
use Rattle.numbering.proofs.Options.{never, Some≡, through}

pub as_many : (k : ℕ) (vs : List Token) (τs : List Ty) → types_in k vs ≡ Some τs → length τs ≡ k
as_many zero vs τs e = sym (ap length (Some≡ e))
as_many (suc k) [] τs e = never e
as_many (suc k) (CLOSE ∷ vs) τs e = never e
as_many (suc k) (ENUM j ∷ vs) τs e = never e
as_many (suc k) (CASE n j ∷ vs) τs e = never e
as_many (suc k) (DEF n j ∷ vs) τs e = never e
as_many (suc k) (TYPE τ ∷ vs) τs e = let r = through (types_in k vs) _ τs e in sym (ap length (Some≡ r.gave)) ∙ ap suc (as_many k vs r.mid r.got)
as_many (suc k) (ARM n x j ∷ vs) τs e = never e
as_many (suc k) (EXPR h ∷ vs) τs e = never e

-- one type more
pub one_more : (k : ℕ) (vs : List Token) (τs : List Ty) (τ : Ty) → types_in k vs ≡ Some τs → Some τ ≡ type_of (at vs k) → types_in (suc k) vs ≡ Some (τs ++ τ ∷ [])
one_more zero [] τs τ e h = never (sym h)
one_more zero (CLOSE ∷ vs) τs τ e h = never (sym h)
one_more zero (ENUM j ∷ vs) τs τ e h = never (sym h)
one_more zero (CASE n j ∷ vs) τs τ e h = never (sym h)
one_more zero (DEF n j ∷ vs) τs τ e h = never (sym h)
one_more zero (TYPE υ ∷ vs) τs τ e h = ap (λ (σ : Ty). Some (σ ∷ [])) (sym (Some≡ h)) ∙ ap (λ (σs : List Ty). Some (σs ++ τ ∷ [])) (Some≡ e)
one_more zero (ARM n x j ∷ vs) τs τ e h = never (sym h)
one_more zero (EXPR g ∷ vs) τs τ e h = never (sym h)
one_more (suc k) [] τs τ e h = never e
one_more (suc k) (CLOSE ∷ vs) τs τ e h = never e
one_more (suc k) (ENUM j ∷ vs) τs τ e h = never e
one_more (suc k) (CASE n j ∷ vs) τs τ e h = never e
one_more (suc k) (DEF n j ∷ vs) τs τ e h = never e
one_more (suc k) (TYPE υ ∷ vs) τs τ e h =
    let r = through (types_in k vs) _ τs e in
    ap (λ (o : Option (List Ty)). o ▸ λ σs. Some (υ ∷ σs)) (one_more k vs r.mid τ r.got h) ∙ ap (λ (σs : List Ty). Some (σs ++ τ ∷ [])) (Some≡ r.gave)
one_more (suc k) (ARM n x j ∷ vs) τs τ e h = never e
one_more (suc k) (EXPR g ∷ vs) τs τ e h = never e

-- and none where one is missing
pub one_missing : (n : ℕ) (vs : List Token) (k : ℕ) → k < n → None ≡ type_of (at vs k) → types_in n vs ≡ None
one_missing zero vs k l h = absurd (omega arith)
one_missing (suc n) [] k l h = refl
one_missing (suc n) (CLOSE ∷ vs) k l h = refl
one_missing (suc n) (ENUM j ∷ vs) k l h = refl
one_missing (suc n) (CASE m j ∷ vs) k l h = refl
one_missing (suc n) (DEF m j ∷ vs) k l h = refl
one_missing (suc n) (TYPE υ ∷ vs) zero l h = never h
one_missing (suc n) (TYPE υ ∷ vs) (suc k) l h = ap (λ (o : Option (List Ty)). o ▸ λ σs. Some (υ ∷ σs)) (one_missing n vs k (omega arith) h)
one_missing (suc n) (ARM m x j ∷ vs) k l h = refl
one_missing (suc n) (EXPR g ∷ vs) k l h = refl

pub at_behind : {A : Type 0} (p k : ℕ) (as' : List A) → at (drop p as') k ≡ at as' (p + k)
at_behind zero k as' = let e : k ≡ 0 + k = omega arith in ap (at as') e
at_behind (suc p) k [] = refl
at_behind (suc p) k (a ∷ as') = let e : suc (p + k) ≡ suc p + k = omega arith in at_behind p k as' ∙ ap (at (a ∷ as')) e

-- the types between two places, where four are enough
abbrev pub TakenAt : List Token → ℕ → ℕ → List Ty → Type 0
TakenAt ws p q τs = q - p ≤ 4 → types_in (q - p) (drop p ws) ≡ Some τs

pub taken_none : (ws : List Token) (p : ℕ) (τs : List Ty) → τs ≡ [] → TakenAt ws p p τs
taken_none ws p τs e l = let z : p - p ≡ 0 = omega arith in rw (z, e)

pub taken_more : (ws : List Token) (p q : ℕ) (τs υs : List Ty) (τ : Ty) → p ≤ q → TakenAt ws p q τs → Some τ ≡ type_of (at ws q) → υs ≡ cond (ltb (length τs) 4) (τs ++ τ ∷ []) τs → TakenAt ws p (q + 1) υs
taken_more ws p q τs υs τ h t e g l =
    let k : q + 1 - p ≡ suc (q - p) = omega arith in
    let s : types_in (q - p) (drop p ws) ≡ Some τs = t (omega arith) in
    let n : length τs ≡ q - p = as_many (q - p) (drop p ws) τs s in
    let a : υs ≡ τs ++ τ ∷ [] = g ∙ ap (λ (b : Bool). cond b (τs ++ τ ∷ []) τs) (lt-ltb (length τs) 4 (omega arith)) in
    let i : p + (q - p) ≡ q = omega arith in
    let w : Some τ ≡ type_of (at (drop p ws) (q - p)) = rw (at_behind p (q - p) ws, i) e in
    rw (k, a) (one_more (q - p) (drop p ws) τs τ s w)

pub taken_all : (ws : List Token) (p n q : ℕ) (τs : List Ty) → q ≡ p + n → TakenAt ws p q τs → n ≤ 4 → Some τs ≡ types_in n (drop p ws)
taken_all ws p n q τs e t l = let k : q - p ≡ n = omega arith in sym (rw k at (t (omega arith)))

pub taken_short : (ws : List Token) (p n q : ℕ) → p ≤ q → q < p + n → None ≡ type_of (at ws q) → None ≡ types_in n (drop p ws)
taken_short ws p n q h l e =
    let i : p + (q - p) ≡ q = omega arith in
    let w : None ≡ type_of (at (drop p ws) (q - p)) = rw (at_behind p (q - p) ws, i) e in
    sym (one_missing n (drop p ws) (q - p) (omega arith) w)
