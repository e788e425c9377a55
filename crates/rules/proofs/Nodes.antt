-- A head that types its parts in one scope: its rule over the types of its parts.
use Rattle.std.proofs.Common.{◌≡◌, ℕ, suc, Bool, true, false, ◌&&◌, List, [], ◌∷◌, Some, refl, ap, ◌∙◌, arith}
use Rattle.battery.specs.declared.Ty.{Ty}
use Rattle.battery.specs.declared.Ty.TheVariants.{Number as number, Boolean as boolean, Text as text}
use Rattle.battery.specs.Tree.{Expr, If, Exprs, ∅, ◌&◌, Scope, Card}
use Rattle.table.specs.declared.token.Token.{Token}
use Rattle.table.specs.declared.token.Token.TheVariants.{Expr as EXPR}
use Rattle.table.specs.declared.token.Head.{Head}
use Rattle.table.specs.declared.token.Head.TheVariants.{Leaf as LEAF, Pair as PAIR, If as IF, Match as MATCH, Exit as EXIT, Many as MANY}
use Rattle.table.specs.declared.token.Pair.{Pair}
use Rattle.table.specs.declared.token.Pair.TheVariants.{Calc as CALC, Concat as CONCAT, Eq as EQ, Lt as LT, Seq as SEQ, Val as VAL}
use Rattle.table.specs.declared.token.Many.{Many}
use Rattle.table.specs.declared.token.Many.TheVariants.{Call as CALL, Make as MAKE}
use Rattle.grammar.specs.Grammar.{Piece, expr, exprs, count, pair_at, many_at, pieces_of}
use Rattle.numbering.proofs.Parts.{of_pair, of_if, of_many}
use Rattle.verdict.specs.Order.{Checked, has, fault, ◌▹◌, rule, there, same_ty, check, check_all}
use Rattle.rules.specs.Rules.{given, pair_type, pair_rule, if_rule, many_rule, ruled, parts_of}

-- all heads but leaves, VAL, MATCH and EXIT
abbrev pub plain : Head → Bool
plain (LEAF l) = false
plain (PAIR (CALC o)) = true
plain (PAIR CONCAT) = true
plain (PAIR EQ) = true
plain (PAIR LT) = true
plain (PAIR SEQ) = true
plain (PAIR (VAL x)) = false
plain IF = true
plain MATCH = false
plain EXIT = false
plain (MANY n m) = true

there_rule : (n p : ℕ) (b : Bool) (τ : Ty) → (rule n p b ▹ λ u. has τ) ≡ there n p (given b τ)
there_rule n p true τ = refl
there_rule n p false τ = refl

two_types : (p : ℕ) (σ τ : Checked Ty) (o : Pair) → (σ ▹ λ a. τ ▹ λ b. there 11 p (pair_type o a b)) ≡ ((σ ▹ λ a. (τ ▹ λ b. has [] ▹ λ τs. has (b ∷ τs)) ▹ λ τs. has (a ∷ τs)) ▹ pair_rule p o)
two_types p (fault n q) τ o = refl
two_types p (has a) (fault n q) o = refl
two_types p (has a) (has b) o = refl

in_two : (p : ℕ) (σ τ : Checked Ty) (f g : Ty → Ty → Checked Ty) → ((a b : Ty) → f a b ≡ g a b) → (σ ▹ λ a. τ ▹ λ b. f a b) ≡ (σ ▹ λ a. τ ▹ λ b. g a b)
in_two p (fault n q) τ f g h = refl
in_two p (has a) (fault n q) f g h = refl
in_two p (has a) (has b) f g h = h a b

pair_check : (C : Card) (Γ : Scope Ty) (p : ℕ) (o : Pair) (a b : Expr) → plain (PAIR o) ≡ true → check C Γ (pair_at p o a b) ≡ (check_all C Γ (a & b & ∅) ▹ pair_rule p o)
pair_check C Γ p (CALC o) a b h =
    in_two p (check C Γ a) (check C Γ b) _ _ (λ σ τ. there_rule 11 p (same_ty σ number && same_ty τ number) number) ∙ two_types p (check C Γ a) (check C Γ b) (CALC o)
pair_check C Γ p CONCAT a b h =
    in_two p (check C Γ a) (check C Γ b) _ _ (λ σ τ. there_rule 11 p (same_ty σ text && same_ty τ text) text) ∙ two_types p (check C Γ a) (check C Γ b) CONCAT
pair_check C Γ p EQ a b h =
    in_two p (check C Γ a) (check C Γ b) _ _ (λ σ τ. there_rule 11 p (same_ty τ σ) boolean) ∙ two_types p (check C Γ a) (check C Γ b) EQ
pair_check C Γ p LT a b h =
    in_two p (check C Γ a) (check C Γ b) _ _ (λ σ τ. there_rule 11 p (same_ty σ number && same_ty τ number) boolean) ∙ two_types p (check C Γ a) (check C Γ b) LT
pair_check C Γ p SEQ a b h = go (check C Γ a) (check C Γ b)
  where
    go : (σ τ : Checked Ty) → (σ ▹ λ a. τ) ≡ ((σ ▹ λ a. (τ ▹ λ b. has [] ▹ λ τs. has (b ∷ τs)) ▹ λ τs. has (a ∷ τs)) ▹ pair_rule p SEQ)
    go (fault n q) τ = refl
    go (has a) (fault n q) = refl
    go (has a) (has b) = refl
pair_check C Γ p (VAL x) a b h = let z : ◌≡◌ {A = ℕ} 0 1 = cc in absurd (omega arith)

if_check : (C : Card) (Γ : Scope Ty) (p : ℕ) (c a b : Expr) → check C Γ (If p c a b) ≡ (check_all C Γ (c & a & b & ∅) ▹ if_rule p)
if_check C Γ p c a b = go (check C Γ c) (check C Γ a) (check C Γ b)
  where
    go : (κ σ τ : Checked Ty) → (κ ▹ λ k. σ ▹ λ a. τ ▹ λ b. rule 11 p (same_ty k boolean && same_ty b a) ▹ λ u. has a)
        ≡ ((κ ▹ λ k. (σ ▹ λ a. (τ ▹ λ b. has [] ▹ λ τs. has (b ∷ τs)) ▹ λ τs. has (a ∷ τs)) ▹ λ τs. has (k ∷ τs)) ▹ if_rule p)
    go (fault n q) σ τ = refl
    go (has k) (fault n q) τ = refl
    go (has k) (has a) (fault n q) = refl
    go (has k) (has a) (has b) = there_rule 11 p (same_ty k boolean && same_ty b a) a

many_check : (C : Card) (Γ : Scope Ty) (p : ℕ) (m : Many) (es : Exprs) → check C Γ (many_at p m es) ≡ (check_all C Γ es ▹ many_rule C p m)
many_check C Γ p (CALL f) es = refl
many_check C Γ p (MAKE k c) es = refl

-- the parts of such a head
pub record Node (C : Card) (Γ : Scope Ty) (t : List ℕ) (p : ℕ) (h : Head) (ws : List Token) (e : Expr) (ps : List Piece) : Type 0 where
  pub es : Exprs
  pub counted : parts_of h ≡ count es
  pub parts : pieces_of t (suc p) ws ≡ Some (exprs es ps)
  pub checks : check C Γ e ≡ (check_all C Γ es ▹ ruled C p h)

pub node : (C : Card) (Γ : Scope Ty) (t : List ℕ) (p : ℕ) (h : Head) (ws : List Token) (e : Expr) (ps : List Piece) → plain h ≡ true → pieces_of t p (EXPR h ∷ ws) ≡ Some (expr e ∷ ps) → Node C Γ t p h ws e ps
node C Γ t p (LEAF l) ws e ps h q = let z : ◌≡◌ {A = ℕ} 0 1 = cc in absurd (omega arith)
node C Γ t p (PAIR o) ws e ps h q =
    let x = of_pair t p o ws e ps q in
    record { es = x.a & x.b & ∅; counted = refl; parts = x.parts; checks = ap (check C Γ) x.is ∙ pair_check C Γ p o x.a x.b h }
node C Γ t p IF ws e ps h q =
    let x = of_if t p ws e ps q in
    record { es = x.c & x.a & x.b & ∅; counted = refl; parts = x.parts; checks = ap (check C Γ) x.is ∙ if_check C Γ p x.c x.a x.b }
node C Γ t p MATCH ws e ps h q = let z : ◌≡◌ {A = ℕ} 0 1 = cc in absurd (omega arith)
node C Γ t p EXIT ws e ps h q = let z : ◌≡◌ {A = ℕ} 0 1 = cc in absurd (omega arith)
node C Γ t p (MANY n m) ws e ps h q =
    let x = of_many t p n m ws e ps q in
    record { es = x.es; counted = x.counted; parts = x.parts; checks = ap (check C Γ) x.is ∙ many_check C Γ p m x.es }
