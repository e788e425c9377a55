-- The checker gives a type exactly where the typing rules give it, and no fault exactly to a typed card.
use Rattle.std.proofs.Common.{◌≡◌, ℕ, zero, suc, ◌<◌, Bool, true, false, ◌&&◌, eqb, List, [], ◌∷◌, length, Some, None, Option, sym, refl, ap, ◌∙◌, subst, ap₂, arith, eq-eqb, eqb-true}
use native.Mathlib.Decide.{ℕ_discrete}
use Rattle.battery.specs.declared.Ty.{Ty}
use Rattle.battery.specs.declared.Ty.TheVariants.{Unit as unit, Number as number, Boolean as boolean, Text as text, Enum as enum}
use Rattle.battery.specs.Tree.{Expr, Unit', Num, Bool', Str, Local, Calc, Concat, Eq, Lt, Seq, If, Val, Call, Make, Match, Exit, Exprs, ∅, ◌&◌, Arms, no_arm, arm, Scope, find, bind, at, Fn, Card}
use Rattle.battery.specs.Typing.{arms_of, ◌∣◌⊢◌∶◌, t_unit, t_num, t_bool, t_str, t_local, t_calc, t_concat, t_eq, t_lt, t_seq, t_if, t_val, t_call, t_make, t_match, t_exit, ◌∣◌⊢⋆◌∶◌, t_nil, t_cons, TypedArms, t_no_arm, t_arm, TypedCard}
use Rattle.table.specs.Naming.{type_named}
use Rattle.numbering.specs.Numbering.{case_of}
use Rattle.verdict.specs.Order.{Checked, has, fault, ◌▹◌, rule, there, kind_of, enum_number, same_ty, same_tys, enum_of, all_once, as_fields, arms_named, fields_of, all_as, common, check, check_all, check_arms, check_fn, check_fns, check_card}
use Rattle.verdict.specs.Formed.{Formed, FormedAll, FormedArms, FormedFn, FormedCard}
use Rattle.numbering.proofs.Options.{through, Some≡, never, false≢true, both}

-- a check that went through
pub record Passed {A B : Type 0} (o : Checked A) (f : A → Checked B) (b : B) : Type 0 where
  pub mid : A
  pub got : o ≡ has mid
  pub gave : f mid ≡ has b

pub faulty : {A P : Type 0} {n p : ℕ} {a : A} → ◌≡◌ {A = Checked A} (fault n p) (has a) → P
faulty e = let z : ◌≡◌ {A = ℕ} 0 1 = cc in absurd (omega arith)

pub has≡ : {A : Type 0} {a b : A} → has a ≡ has b → a ≡ b
has≡ e = cc

pub passed : {A B : Type 0} (o : Checked A) (f : A → Checked B) (b : B) → (o ▹ f) ≡ has b → Passed o f b
passed (has a) f b e = record { mid = a; got = refl; gave = e }
passed (fault n p) f b e = faulty e

pub rule_true : (n p : ℕ) (b : Bool) (u : Unit {0}) → rule n p b ≡ has u → b ≡ true
rule_true n p true u e = refl
rule_true n p false u e = faulty e

pub was_there : {A : Type 0} (n p : ℕ) (o : Option A) (a : A) → there n p o ≡ has a → o ≡ Some a
was_there n p None a e = faulty e
was_there n p (Some b) a e = ap {B = Option _} Some (has≡ e)

told : (τ : Ty) → type_named (kind_of τ) (enum_number τ) ≡ τ
told unit = refl
told number = refl
told boolean = refl
told text = refl
told (enum k) = refl

pub same : (σ τ : Ty) → same_ty σ τ ≡ true → σ ≡ τ
same σ τ e =
    let b = both (eqb (kind_of σ) (kind_of τ)) (eqb (enum_number σ) (enum_number τ)) e in
    sym (told σ) ∙ ap₂ type_named (eqb-true _ _ b.0) (eqb-true _ _ b.1) ∙ told τ

pub same_self : (τ : Ty) → same_ty τ τ ≡ true
same_self τ = rw (eq-eqb (kind_of τ) _ refl) (eq-eqb (enum_number τ) _ refl)

pub same_all : (σs τs : List Ty) → same_tys σs τs ≡ true → σs ≡ τs
same_all [] [] e = refl
same_all [] (τ ∷ τs) e = false≢true e
same_all (σ ∷ σs) [] e = false≢true e
same_all (σ ∷ σs) (τ ∷ τs) e =
    let b = both (same_ty σ τ) (same_tys σs τs) e in
    let p = same σ τ b.0 in
    let q = same_all σs τs b.1 in
    cc

pub same_all_self : (τs : List Ty) → same_tys τs τs ≡ true
same_all_self [] = refl
same_all_self (τ ∷ τs) = rw (same_self τ) (same_all_self τs)

pub all_once_lem : (n : ℕ) (ms : Arms) → all_once n ms ≡ true → (c : ℕ) → c < n → arms_of c ms ≡ 1
all_once_lem zero ms e c h = absurd (omega arith)
all_once_lem (suc n) ms e c h = let b = both (eqb (arms_of n ms) 1) (all_once n ms) e in go (ℕ_discrete c n) (eqb-true _ _ b.0) (all_once_lem n ms b.1 c)
  where
    go : Dec (c ≡ n) → arms_of n ms ≡ 1 → (c < n → arms_of c ms ≡ 1) → arms_of c ms ≡ 1
    go (yes s) q r = rw s q
    go (no s) q r = r (omega arith)

pub once_all : (n : ℕ) (ms : Arms) → ((c : ℕ) → c < n → arms_of c ms ≡ 1) → all_once n ms ≡ true
once_all zero ms h = refl
once_all (suc n) ms h = rw (eq-eqb (arms_of n ms) 1 (h n (omega arith))) (once_all n ms (λ c k. h c (omega arith)))

pub data All (τ : Ty) : List Ty → Type 0 where
  a_nil : All τ []
  a_cons : {υ : Ty} {υs : List Ty} → υ ≡ τ → All τ υs → All τ (υ ∷ υs)

pub all_as_lem : (τ : Ty) (τs : List Ty) → all_as τ τs ≡ true → All τ τs
all_as_lem τ [] e = a_nil
all_as_lem τ (υ ∷ υs) e = let b = both (same_ty υ τ) (all_as τ υs) e in a_cons (same υ τ b.0) (all_as_lem τ υs b.1)

all_common : (p : ℕ) (τs : List Ty) (τ : Ty) → common p τs ≡ has τ → All τ τs
all_common p [] τ e = faulty e
all_common p (υ ∷ υs) τ e =
    let r = passed (rule 11 p (all_as υ υs)) _ τ e in
    let q : υ ≡ τ = has≡ r.gave in
    a_cons q (subst (λ t. All t υs) q (all_as_lem υ υs (rule_true 11 p _ r.mid r.got)))

abbrev copies : Ty → Arms → List Ty
copies τ no_arm = []
copies τ (arm p c n x e ms) = τ ∷ copies τ ms

copies_all : (τ : Ty) (ms : Arms) → all_as τ (copies τ ms) ≡ true
copies_all τ no_arm = refl
copies_all τ (arm p c n x e ms) = rw (same_self τ) (copies_all τ ms)

copies_common : (p : ℕ) (τ : Ty) (ms : Arms) → arms_of 0 ms ≡ 1 → common p (copies τ ms) ≡ has τ
copies_common p τ no_arm e = absurd (omega arith)
copies_common p τ (arm q c n x e ms) h = rw (copies_all τ ms)

pub enum_of_lem : (τ : Ty) (k : ℕ) → enum_of τ ≡ Some k → τ ≡ enum k
enum_of_lem unit k e = never e
enum_of_lem number k e = never e
enum_of_lem boolean k e = never e
enum_of_lem text k e = never e
enum_of_lem (enum j) k e = ap enum (Some≡ e)

-- an arm of a case: there is a case
some_case : (p : ℕ) (E : List (List Ty)) (ms : Arms) (C : Card) (Γ : Scope Ty) (τs : List Ty) (τ : Ty) → arms_named E ms ≡ true → check_arms C Γ E ms ≡ has τs → common p τs ≡ has τ → 0 < length E
some_case p E no_arm C Γ τs τ n e c = faulty (subst (λ ts. common p ts ≡ has τ) (sym (has≡ e)) c)
some_case p [] (arm q c n x e ms) C Γ τs τ h _ _ = false≢true h
some_case p (c₁ ∷ E) (arm q c n x e ms) C Γ τs τ h _ _ = omega arith

module _ (C : Card) where
  pub as_type_lem : {Γ : Scope Ty} {e : Expr} {σ τ : Ty} → same_ty σ τ ≡ true → C ∣ Γ ⊢ e ∶ σ → C ∣ Γ ⊢ e ∶ τ
  as_type_lem {Γ = Γ} {e = e} h d = subst (λ υ. C ∣ Γ ⊢ e ∶ υ) (same _ _ h) d

  mutual
    pub sound : (e : Expr) (Γ : Scope Ty) (τ : Ty) → Formed C e → check C Γ e ≡ has τ → C ∣ Γ ⊢ e ∶ τ
    sound (Unit' p) Γ τ g e = rw (← (has≡ e)) t_unit
    sound (Num p k) Γ τ g e = rw (← (has≡ e)) (t_num g)
    sound (Bool' p b) Γ τ g e = rw (← (has≡ e)) t_bool
    sound (Str p s) Γ τ g e = rw (← (has≡ e)) (t_str g)
    sound (Local p x) Γ τ g e = t_local (was_there 10 p (find Γ x) τ e)
    sound (Calc p o a b) Γ τ g e =
        let r = passed (check C Γ a) _ τ e in
        let q = passed (check C Γ b) _ τ r.gave in
        let s = passed (rule 11 p (same_ty r.mid number && same_ty q.mid number)) _ τ q.gave in
        let h = both _ _ (rule_true 11 p _ s.mid s.got) in
        rw (← (has≡ s.gave)) (t_calc (as_type_lem h.0 (sound a Γ r.mid g.0 r.got)) (as_type_lem h.1 (sound b Γ q.mid g.1 q.got)))
    sound (Concat p a b) Γ τ g e =
        let r = passed (check C Γ a) _ τ e in
        let q = passed (check C Γ b) _ τ r.gave in
        let s = passed (rule 11 p (same_ty r.mid text && same_ty q.mid text)) _ τ q.gave in
        let h = both _ _ (rule_true 11 p _ s.mid s.got) in
        rw (← (has≡ s.gave)) (t_concat (as_type_lem h.0 (sound a Γ r.mid g.0 r.got)) (as_type_lem h.1 (sound b Γ q.mid g.1 q.got)))
    sound (Eq p a b) Γ τ g e =
        let r = passed (check C Γ a) _ τ e in
        let q = passed (check C Γ b) _ τ r.gave in
        let s = passed (rule 11 p (same_ty q.mid r.mid)) _ τ q.gave in
        let h = rule_true 11 p _ s.mid s.got in
        rw (← (has≡ s.gave)) (t_eq (sound a Γ r.mid g.0 r.got) (as_type_lem h (sound b Γ q.mid g.1 q.got)))
    sound (Lt p a b) Γ τ g e =
        let r = passed (check C Γ a) _ τ e in
        let q = passed (check C Γ b) _ τ r.gave in
        let s = passed (rule 11 p (same_ty r.mid number && same_ty q.mid number)) _ τ q.gave in
        let h = both _ _ (rule_true 11 p _ s.mid s.got) in
        rw (← (has≡ s.gave)) (t_lt (as_type_lem h.0 (sound a Γ r.mid g.0 r.got)) (as_type_lem h.1 (sound b Γ q.mid g.1 q.got)))
    sound (Seq p a b) Γ τ g e = let r = passed (check C Γ a) _ τ e in t_seq (sound a Γ r.mid g.0 r.got) (sound b Γ τ g.1 r.gave)
    sound (If p c a b) Γ τ g e =
        let k = passed (check C Γ c) _ τ e in
        let r = passed (check C Γ a) _ τ k.gave in
        let q = passed (check C Γ b) _ τ r.gave in
        let s = passed (rule 11 p (same_ty k.mid boolean && same_ty q.mid r.mid)) _ τ q.gave in
        let h = both _ _ (rule_true 11 p _ s.mid s.got) in
        rw (← (has≡ s.gave))
        (t_if (as_type_lem h.0 (sound c Γ k.mid g.0 k.got)) (sound a Γ r.mid g.1 r.got)
        (as_type_lem h.1 (sound b Γ q.mid g.2 q.got)))
    sound (Val p x a b) Γ τ g e =
        let r = passed (check C Γ a) _ τ e in t_val (sound a Γ r.mid g.0 r.got) (sound b ((x, r.mid) ∷ Γ) τ g.1 r.gave)
    sound (Call p f es) Γ τ g e =
        let r = passed (check_all C Γ es) _ τ e in
        let q = passed (there 12 p (at C.fns f)) _ τ r.gave in
        let s = passed (rule 12 p (eqb (length r.mid) (length q.mid.params))) _ τ q.gave in
        let v = passed (rule 11 p (same_tys r.mid q.mid.params)) _ τ s.gave in
        let h = same_all _ _ (rule_true 11 p _ v.mid v.got) in
        rw (← (has≡ v.gave)) (t_call (was_there 12 p _ _ q.got) (subst (λ υs. C ∣ Γ ⊢⋆ es ∶ υs) h (sound_all es Γ r.mid g.1 r.got)))
    sound (Make p k c es) Γ τ g e =
        let r = passed (check_all C Γ es) _ τ e in
        let q = passed (there 12 p (case_of C k c)) _ τ r.gave in
        let s = passed (rule 12 p (eqb (length r.mid) (length q.mid))) _ τ q.gave in
        let v = passed (rule 11 p (same_tys r.mid q.mid)) _ τ s.gave in
        let h = same_all _ _ (rule_true 11 p _ v.mid v.got) in
        let w = through (at C.enums k) (λ E. at E c) q.mid (was_there 12 p _ _ q.got) in
        rw (← (has≡ v.gave)) (t_make w.got w.gave (subst (λ υs. C ∣ Γ ⊢⋆ es ∶ υs) h (sound_all es Γ r.mid g.1 r.got)))
    sound (Match p a ms) Γ τ g e =
        let r = passed (check C Γ a) _ τ e in
        let q = passed (there 11 p (enum_of r.mid)) _ τ r.gave in
        let s = passed (there 13 p (at C.enums q.mid)) _ τ q.gave in
        let v = passed (rule 13 p (all_once (length s.mid) ms && arms_named s.mid ms)) _ τ s.gave in
        let z = passed (check_arms C Γ s.mid ms) _ τ v.gave in
        let h = both _ _ (rule_true 13 p _ v.mid v.got) in
        let k = enum_of_lem r.mid q.mid (was_there 11 p _ _ q.got) in
        t_match (subst (λ υ. C ∣ Γ ⊢ a ∶ υ) k (sound a Γ r.mid g.0 r.got)) (was_there 13 p _ _ s.got)
        (some_case p s.mid ms C Γ z.mid τ h.1 z.got z.gave)
        (all_once_lem (length s.mid) ms h.0)
        (sound_arms ms Γ s.mid τ z.mid g.1 h.1 z.got (all_common p z.mid τ z.gave))
    sound (Exit p υ a) Γ τ g e =
        let r = passed (check C Γ a) _ τ e in
        let s = passed (rule 11 p (same_ty r.mid text)) _ τ r.gave in
        let h = rule_true 11 p _ s.mid s.got in
        rw (← (has≡ s.gave)) (t_exit (as_type_lem h (sound a Γ r.mid g.1 r.got)))

    pub sound_all : (es : Exprs) (Γ : Scope Ty) (τs : List Ty) → FormedAll C es → check_all C Γ es ≡ has τs → C ∣ Γ ⊢⋆ es ∶ τs
    sound_all ∅ Γ τs g e = rw (← (has≡ e)) t_nil
    sound_all (a & es) Γ τs g e =
        let r = passed (check C Γ a) _ τs e in
        let q = passed (check_all C Γ es) _ τs r.gave in
        rw (← (has≡ q.gave)) (t_cons (sound a Γ r.mid g.0 r.got) (sound_all es Γ q.mid g.1 q.got))

    sound_arms : (ms : Arms) (Γ : Scope Ty) (E : List (List Ty)) (τ : Ty) (τs : List Ty) → FormedArms C ms → arms_named E ms ≡ true → check_arms C Γ E ms ≡ has τs → All τ τs → TypedArms C Γ E ms τ
    sound_arms no_arm Γ E τ τs g n e h = t_no_arm
    sound_arms (arm p c n x a ms) Γ E τ τs g fit e h =
        let r = passed (check C (bind x (fields_of (at E c)) Γ) a) _ τs e in
        let q = passed (check_arms C Γ E ms) _ τs r.gave in
        let b = both (as_fields n (at E c)) (arms_named E ms) fit in
        go (at E c) refl b.0 r.mid q.mid (subst (All τ) (sym (has≡ q.gave)) h) (sound a (bind x (fields_of (at E c)) Γ) r.mid g.0 r.got) (sound_arms ms Γ E τ q.mid g.1 b.1 q.got)
      where
        go : (o : Option (List Ty)) → at E c ≡ o → as_fields n o ≡ true → (υ : Ty) (ts : List Ty) → All τ (υ ∷ ts) → C ∣ bind x (fields_of o) Γ ⊢ a ∶ υ → (All τ ts → TypedArms C Γ E ms τ) → TypedArms C Γ E (arm p c n x a ms) τ
        go None w f υ ts k typed rest = false≢true f
        go (Some υs) w f υ ts (a_cons k ks) typed rest = t_arm w (eqb-true _ _ f) (rw k at typed) (rest ks)

  mutual
    pub complete : {Γ : Scope Ty} {e : Expr} {τ : Ty} → C ∣ Γ ⊢ e ∶ τ → check C Γ e ≡ has τ
    complete t_unit = refl
    complete (t_num h) = refl
    complete t_bool = refl
    complete (t_str h) = refl
    complete (t_local h) = rw h
    complete (t_calc a b) = rw (complete a, complete b)
    complete (t_concat a b) = rw (complete a, complete b)
    complete (t_eq {τ = τ} a b) = rw (complete a, complete b, same_self τ)
    complete (t_lt a b) = rw (complete a, complete b)
    complete (t_seq a b) = rw (complete a) (complete b)
    complete (t_if {τ = τ} c a b) = rw (complete c, complete a, complete b, same_self τ)
    complete (t_val a b) = rw (complete a) (complete b)
    complete (t_call {fn = fn} h es) = rw (complete_all es, h, eq-eqb (length fn.params) _ refl, same_all_self fn.params)
    complete (t_make {τs = τs} h k es) = rw (complete_all es, h, k, eq-eqb (length τs) _ refl, same_all_self τs)
    complete (t_match {p = p} {ms = ms} {E = E} {τ = τ} a h n once ts) =
        rw (complete a, h, once_all (length E) ms once, named ts, complete_arms ts) (copies_common p τ ms (once 0 n))
    complete (t_exit a) = rw (complete a)

    pub complete_all : {Γ : Scope Ty} {es : Exprs} {τs : List Ty} → C ∣ Γ ⊢⋆ es ∶ τs → check_all C Γ es ≡ has τs
    complete_all t_nil = refl
    complete_all (t_cons a es) = rw (complete a, complete_all es)

    complete_arms : {Γ : Scope Ty} {E : List (List Ty)} {ms : Arms} {τ : Ty} → TypedArms C Γ E ms τ → check_arms C Γ E ms ≡ has (copies τ ms)
    complete_arms t_no_arm = refl
    complete_arms (t_arm h l a ts) = rw (h, complete a, complete_arms ts)

    named : {Γ : Scope Ty} {E : List (List Ty)} {ms : Arms} {τ : Ty} → TypedArms C Γ E ms τ → arms_named E ms ≡ true
    named t_no_arm = refl
    named (t_arm {τs = τs} h l a ts) = rw (h, l, eq-eqb (length τs) _ refl) (named ts)

  checked_fns : (fns : List Fn) → ((f : ℕ) (fn : Fn) → at fns f ≡ Some fn → FormedFn C fn) → check_fns C fns ≡ has tt → (f : ℕ) (fn : Fn) → at fns f ≡ Some fn → C ∣ bind 0 fn.params [] ⊢ fn.body ∶ fn.result
  checked_fns [] g e f fn w = never w
  checked_fns (gn ∷ fns) g e zero fn w =
      let r = passed (check_fn C gn) _ tt e in
      let q = passed (check C (bind 0 gn.params []) gn.body) _ r.mid r.got in
      let h = rule_true 11 gn.opened _ r.mid q.gave in
      subst (λ (x : Fn). C ∣ bind 0 x.params [] ⊢ x.body ∶ x.result) (Some≡ w) (as_type_lem h (sound gn.body _ q.mid (g 0 gn refl).body q.got))
  checked_fns (gn ∷ fns) g e (suc f) fn w =
      let r = passed (check_fn C gn) _ tt e in checked_fns fns (λ i. g (suc i)) r.gave f fn w

  fns_checked : (fns : List Fn) → ((f : ℕ) (fn : Fn) → at fns f ≡ Some fn → C ∣ bind 0 fn.params [] ⊢ fn.body ∶ fn.result) → check_fns C fns ≡ has tt
  fns_checked [] h = refl
  fns_checked (fn ∷ fns) h = rw (complete (h 0 fn refl), same_self fn.result) (fns_checked fns (λ f. h (suc f)))

  pub card_typed : FormedCard C → check_card C ≡ has tt → TypedCard C
  card_typed g e = record { bodies = checked_fns C.fns g.functions e }

  pub typed_card : TypedCard C → check_card C ≡ has tt
  typed_card h = fns_checked C.fns h.bodies
