-- Typing finds faults 10 to 13 alone: what CALL, MAKE and an enum's TYPE name is there.
use Rattle.std.proofs.Common.{◌≡◌, ℕ, suc, ◌≤◌, Bool, true, false, cond, ◌&&◌, eqb, List, [], ◌∷◌, length, Some, None, Option, refl, subst, arith}
use Rattle.battery.specs.declared.Ty.{Ty}
use Rattle.battery.specs.declared.Ty.TheVariants.{Number as number, Boolean as boolean, Text as text, Enum as enum}
use Rattle.battery.specs.Tree.{Expr, Unit', Num, Bool', Str, Local, Calc, Concat, Eq, Lt, Seq, If, Val, Call, Make, Match, Exit, Exprs, ∅, ◌&◌, Arms, no_arm, arm, Scope, find, bind, at, Fn, Card}
use Rattle.numbering.specs.Numbering.{case_of, is_there, type_there}
use Rattle.verdict.specs.Order.{Checked, has, fault, ◌▹◌, rule, there, same_ty, same_tys, enum_of, all_once, arms_named, fields_of, all_as, common, check, check_all, check_arms, check_fn, check_fns, check_card}
use Rattle.verdict.specs.Formed.{all_there, Formed, FormedAll, FormedArms, FormedFn, FormedCard}
use Rattle.numbering.proofs.Options.{through, Some≡, never, false≢true}
use Rattle.verdict.proofs.Check.{enum_of_lem}

abbrev pub OfTyping : ℕ → Type 0
OfTyping n = (10 ≤ n) × (n ≤ 13)

f10 : OfTyping 10
f10 = (omega arith, omega arith)

f11 : OfTyping 11
f11 = (omega arith, omega arith)

f12 : OfTyping 12
f12 = (omega arith, omega arith)

f13 : OfTyping 13
f13 = (omega arith, omega arith)

abbrev pub Fine : {A : Type 0} → (A → Type 0) → Checked A → Type 0
Fine P (has a) = P a
Fine P (fault n p) = OfTyping n

then_fine : {A B : Type 0} (P : A → Type 0) (Q : B → Type 0) (c : Checked A) (f : A → Checked B) → Fine P c → ((a : A) → P a → Fine Q (f a)) → Fine Q (c ▹ f)
then_fine P Q (has a) f h k = k a h
then_fine P Q (fault n p) f h k = h

rule_then : {B : Type 0} (Q : B → Type 0) (n p : ℕ) (b : Bool) (c : Checked B) → OfTyping n → Fine Q c → Fine Q (rule n p b ▹ λ u. c)
rule_then Q n p true c h k = k
rule_then Q n p false c h k = h

there_fine : {A : Type 0} (n p : ℕ) (o : Option A) → OfTyping n → Fine (λ a. o ≡ Some a) (there n p o)
there_fine n p None h = h
there_fine n p (Some a) h = refl

is_there_lem : {A : Type 0} (n p : ℕ) (o : Option A) → is_there o ≡ true → Fine (λ a. o ≡ Some a) (there n p o)
is_there_lem n p None e = false≢true e
is_there_lem n p (Some a) e = refl

module _ (C : Card) (F : FormedCard C) where
  abbrev pub Known : Ty → Type 0
  Known τ = type_there C τ ≡ true

  abbrev pub KnownIn : Scope Ty → Type 0
  KnownIn Γ = (x : ℕ) (τ : Ty) → find Γ x ≡ Some τ → Known τ

  pub known_more : (y : ℕ) (σ : Ty) (Γ : Scope Ty) → Known σ → KnownIn Γ → KnownIn ((y, σ) ∷ Γ)
  known_more y σ Γ h g x τ e = go (eqb x y) e
    where
      go : (b : Bool) → cond b (Some σ) (find Γ x) ≡ Some τ → Known τ
      go true e = subst Known (Some≡ e) h
      go false e = g x τ e

  pub known_bind : (x : ℕ) (τs : List Ty) (Γ : Scope Ty) → all_there C τs → KnownIn Γ → KnownIn (bind x τs Γ)
  known_bind x [] Γ h g = g
  known_bind x (τ ∷ τs) Γ h g = known_bind (suc x) τs ((x, τ) ∷ Γ) h.1 (known_more x τ Γ h.0 g)

  known_fields : (E : List (List Ty)) → ((c : ℕ) (τs : List Ty) → at E c ≡ Some τs → all_there C τs) → (c : ℕ) → all_there C (fields_of (at E c))
  known_fields E h c = go (at E c) (h c)
    where
      go : (o : Option (List Ty)) → ((τs : List Ty) → o ≡ Some τs → all_there C τs) → all_there C (fields_of o)
      go None k = tt
      go (Some τs) k = k τs refl

  common_fine : (p : ℕ) (τs : List Ty) → all_there C τs → Fine Known (common p τs)
  common_fine p [] h = f11
  common_fine p (τ ∷ τs) h = rule_then Known 11 p (all_as τ τs) (has τ) f11 h.0

  enum_there : (j c : ℕ) (υs : List Ty) → case_of C j c ≡ Some υs → is_there (at C.enums j) ≡ true
  enum_there j c υs q = let r = through (at C.enums j) (λ E. at E c) υs q in rw r.got

  local_fine : (p x : ℕ) (Γ : Scope Ty) → KnownIn Γ → (o : Option Ty) → find Γ x ≡ o → Fine Known (there 10 p o)
  local_fine p x Γ k None q = f10
  local_fine p x Γ k (Some τ) q = k x τ q

  abbrev Any : List Ty → Type 0
  Any τs = Unit {0}

  mutual
    pub fine : (e : Expr) (Γ : Scope Ty) → KnownIn Γ → Formed C e → Fine Known (check C Γ e)
    fine (Unit' p) Γ k g = refl
    fine (Num p n) Γ k g = refl
    fine (Bool' p b) Γ k g = refl
    fine (Str p s) Γ k g = refl
    fine (Local p x) Γ k g = local_fine p x Γ k (find Γ x) refl
    fine (Calc p o a b) Γ k g =
        then_fine Known Known (check C Γ a) _ (fine a Γ k g.0) λ σ h. then_fine Known Known (check C Γ b) _ (fine b Γ k g.1) λ τ i.
        rule_then Known 11 p (same_ty σ number && same_ty τ number) (has number) f11 refl
    fine (Concat p a b) Γ k g =
        then_fine Known Known (check C Γ a) _ (fine a Γ k g.0) λ σ h. then_fine Known Known (check C Γ b) _ (fine b Γ k g.1) λ τ i.
        rule_then Known 11 p (same_ty σ text && same_ty τ text) (has text) f11 refl
    fine (Eq p a b) Γ k g =
        then_fine Known Known (check C Γ a) _ (fine a Γ k g.0) λ σ h. then_fine Known Known (check C Γ b) _ (fine b Γ k g.1) λ τ i.
        rule_then Known 11 p (same_ty τ σ) (has boolean) f11 refl
    fine (Lt p a b) Γ k g =
        then_fine Known Known (check C Γ a) _ (fine a Γ k g.0) λ σ h. then_fine Known Known (check C Γ b) _ (fine b Γ k g.1) λ τ i.
        rule_then Known 11 p (same_ty σ number && same_ty τ number) (has boolean) f11 refl
    fine (Seq p a b) Γ k g = then_fine Known Known (check C Γ a) _ (fine a Γ k g.0) λ σ h. fine b Γ k g.1
    fine (If p c a b) Γ k g =
        then_fine Known Known (check C Γ c) _ (fine c Γ k g.0) λ κ h. then_fine Known Known (check C Γ a) _ (fine a Γ k g.1) λ σ i. then_fine Known Known (check C Γ b) _ (fine b Γ k g.2) λ τ j.
        rule_then Known 11 p (same_ty κ boolean && same_ty τ σ) (has σ) f11 i
    fine (Val p x a b) Γ k g = then_fine Known Known (check C Γ a) _ (fine a Γ k g.0) λ σ h. fine b ((x, σ) ∷ Γ) (known_more x σ Γ h k) g.1
    fine (Call p f es) Γ k g =
        then_fine Any Known (check_all C Γ es) _ (fine_all es Γ k g.1) λ τs h.
        then_fine (λ fn. at C.fns f ≡ Some fn) Known (there 12 p (at C.fns f)) _ (is_there_lem 12 p (at C.fns f) g.0) λ fn q.
        rule_then Known 12 p (eqb (length τs) (length fn.params)) (rule 11 p (same_tys τs fn.params) ▹ λ v. has fn.result) f12
        (rule_then Known 11 p (same_tys τs fn.params) (has fn.result) f11 (F.functions f fn q).result)
    fine (Make p j c es) Γ k g =
        then_fine Any Known (check_all C Γ es) _ (fine_all es Γ k g.1) λ τs h.
        then_fine (λ υs. case_of C j c ≡ Some υs) Known (there 12 p (case_of C j c)) _ (is_there_lem 12 p (case_of C j c) g.0) λ υs q.
        rule_then Known 12 p (eqb (length τs) (length υs)) (rule 11 p (same_tys τs υs) ▹ λ v. has (enum j)) f12
        (rule_then Known 11 p (same_tys τs υs) (has (enum j)) f11 (enum_there j c υs q))
    fine (Match p a ms) Γ k g =
        then_fine Known Known (check C Γ a) _ (fine a Γ k g.0) λ σ h.
        then_fine (λ j. enum_of σ ≡ Some j) Known (there 11 p (enum_of σ)) _ (there_fine 11 p (enum_of σ) f11) λ j q.
        then_fine (λ E. at C.enums j ≡ Some E) Known (there 13 p (at C.enums j)) _ (is_there_lem 13 p (at C.enums j) (subst Known (enum_of_lem σ j q) h)) λ E w.
        rule_then Known 13 p (all_once (length E) ms && arms_named E ms) (check_arms C Γ E ms ▹ λ τs. common p τs) f13
        (then_fine (all_there C) Known (check_arms C Γ E ms) _ (fine_arms ms Γ E (F.fields j E w) k g.1) λ τs z. common_fine p τs z)
    fine (Exit p τ a) Γ k g = then_fine Known Known (check C Γ a) _ (fine a Γ k g.1) λ σ h. rule_then Known 11 p (same_ty σ text) (has τ) f11 g.0

    fine_all : (es : Exprs) (Γ : Scope Ty) → KnownIn Γ → FormedAll C es → Fine Any (check_all C Γ es)
    fine_all ∅ Γ k g = tt
    fine_all (e & es) Γ k g = then_fine Known Any (check C Γ e) _ (fine e Γ k g.0) λ τ h. then_fine Any Any (check_all C Γ es) _ (fine_all es Γ k g.1) λ τs i. tt

    fine_arms : (ms : Arms) (Γ : Scope Ty) (E : List (List Ty)) → ((c : ℕ) (τs : List Ty) → at E c ≡ Some τs → all_there C τs) → KnownIn Γ → FormedArms C ms → Fine (all_there C) (check_arms C Γ E ms)
    fine_arms no_arm Γ E f k g = tt
    fine_arms (arm p c n x e ms) Γ E f k g =
        then_fine Known (all_there C) (check C (bind x (fields_of (at E c)) Γ) e) _ (fine e (bind x (fields_of (at E c)) Γ) (known_bind x (fields_of (at E c)) Γ (known_fields E f c) k) g.0) λ τ h.
        then_fine (all_there C) (all_there C) (check_arms C Γ E ms) _ (fine_arms ms Γ E f k g.1) λ τs i. (h, i)

  abbrev Done : Unit {0} → Type 0
  Done u = Unit {0}

  rule_fine : (p : ℕ) (b : Bool) → Fine Done (rule 11 p b)
  rule_fine p true = tt
  rule_fine p false = f11

  fine_fns : (fns : List Fn) → ((f : ℕ) (fn : Fn) → at fns f ≡ Some fn → FormedFn C fn) → Fine Done (check_fns C fns)
  fine_fns [] g = tt
  fine_fns (fn ∷ fns) g =
      let h = g 0 fn refl in
      then_fine Done Done (check_fn C fn) _
      (then_fine Known Done (check C (bind 0 fn.params []) fn.body) _ (fine fn.body (bind 0 fn.params []) (known_bind 0 fn.params [] h.params (λ x τ e. never e)) h.body)
      λ τ i. rule_fine fn.opened (same_ty τ fn.result))
      λ u w. fine_fns fns (λ f. g (suc f))

  pub type_faults : (n p : ℕ) → check_card C ≡ fault n p → OfTyping n
  type_faults n p e = subst (Fine Done) e (fine_fns C.fns F.functions)
