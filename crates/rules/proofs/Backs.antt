-- From what stands at a place back to its token.
use Rattle.std.proofs.Common.{◌≡◌, ℕ, zero, suc, ◌<◌, List, [], ◌∷◌, length, Some, None, Option, sym, ap, ◌∙◌, arith}
use Rattle.battery.specs.declared.Ty.{Ty}
use Rattle.battery.specs.Tree.{at}
use Rattle.table.specs.declared.token.Token.{Token}
use Rattle.table.specs.declared.token.Token.TheVariants.{Close as CLOSE, Enum as ENUM, Case as CASE, Def as DEF, Ty as TYPE, Arm as ARM, Expr as EXPR}
use Rattle.table.specs.declared.token.Head.{Head}
use Rattle.numbering.proofs.Options.{never, Some≡}
use Rattle.table.specs.declared.token.Arm.{Arm}
use Rattle.table.specs.Sorts.{head_of, arm_in, type_of, field_count}

pub arm_is : (o : Option Token) (a : Arm) → Some a ≡ arm_in o → o ≡ Some (ARM a.names a.first a.case)
arm_is None a e = never (sym e)
arm_is (Some CLOSE) a e = never (sym e)
arm_is (Some (ENUM k)) a e = never (sym e)
arm_is (Some (CASE n k)) a e = never (sym e)
arm_is (Some (DEF n k)) a e = never (sym e)
arm_is (Some (TYPE τ)) a e = never (sym e)
arm_is (Some (ARM n x c)) a e = ap (λ (b : Arm). Some (ARM b.names b.first b.case)) (sym (Some≡ e))
arm_is (Some (EXPR h)) a e = never (sym e)

pub arm_not : (o : Option Token) → None ≡ arm_in o → (n x c : ℕ) → o ≡ Some (ARM n x c) → ⊥
arm_not o e n x c h = never (e ∙ ap arm_in h)

pub head_is : (o : Option Token) (h : Head) → Some h ≡ head_of o → o ≡ Some (EXPR h)
head_is None h e = never (sym e)
head_is (Some CLOSE) h e = never (sym e)
head_is (Some (ENUM k)) h e = never (sym e)
head_is (Some (CASE n k)) h e = never (sym e)
head_is (Some (DEF n k)) h e = never (sym e)
head_is (Some (TYPE τ)) h e = never (sym e)
head_is (Some (ARM n x c)) h e = never (sym e)
head_is (Some (EXPR g)) h e = ap (λ (b : Head). Some (EXPR b)) (sym (Some≡ e))

pub head_not : (o : Option Token) → None ≡ head_of o → (h : Head) → o ≡ Some (EXPR h) → ⊥
head_not o e h q = never (e ∙ ap head_of q)

pub type_is : (o : Option Token) (τ : Ty) → Some τ ≡ type_of o → o ≡ Some (TYPE τ)
type_is None h e = never (sym e)
type_is (Some CLOSE) h e = never (sym e)
type_is (Some (ENUM k)) h e = never (sym e)
type_is (Some (CASE n k)) h e = never (sym e)
type_is (Some (DEF n k)) h e = never (sym e)
type_is (Some (TYPE τ)) h e = ap (λ (b : Ty). Some (TYPE b)) (sym (Some≡ e))
type_is (Some (ARM n x c)) h e = never (sym e)
type_is (Some (EXPR g)) h e = never (sym e)

pub type_not : (o : Option Token) → None ≡ type_of o → (τ : Ty) → o ≡ Some (TYPE τ) → ⊥
type_not o e τ q = never (e ∙ ap type_of q)

pub fields_is : (o : Option Token) (n k m : ℕ) → Some m ≡ field_count o → o ≡ Some (CASE n k) → m ≡ n
fields_is o n k m e q = Some≡ (e ∙ ap field_count q)

pub fields_not : (o : Option Token) → None ≡ field_count o → (n k : ℕ) → o ≡ Some (CASE n k) → ⊥
fields_not o e n k q = never (e ∙ ap field_count q)

-- what is read off a token at a place stands there
pub stands : {A : Type 0} (ws : List Token) (p : ℕ) (f : Option Token → Option A) (a : A) → f None ≡ None → Some a ≡ f (at ws p) → p < length ws
stands [] p f a n e = never (sym (e ∙ n))
stands (w ∷ ws) zero f a n e = omega arith
stands (w ∷ ws) (suc p) f a n e = let h = stands ws p f a n e in omega arith
