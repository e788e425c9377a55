-- The checker gives a fault exactly where the typing rules break first.
use Rattle.std.proofs.Common.{◌≡◌, ℕ, zero, suc, Bool, true, false, ◌&&◌, eqb, List, [], ◌∷◌, length, Some, None, Option, sym, refl, ap, ◌∙◌, subst, eq-eqb, ne_eqb, eqb-true}
use borrow.Author.Tests.{eqb-false}
use Rattle.battery.specs.declared.Ty.{Ty}
use Rattle.battery.specs.declared.Ty.TheVariants.{Unit as unit, Number as number, Boolean as boolean, Text as text, Enum as enum}
use Rattle.battery.specs.Tree.{Expr, Unit', Num, Bool', Str, Local, Calc, Concat, Eq, Lt, Seq, If, Val, Call, Make, Match, Exit, Exprs, ∅, ◌&◌, Arms, no_arm, arm, Scope, find, bind, at, Fn, Card}
use Rattle.battery.specs.Typing.{◌∣◌⊢◌∶◌}
use Rattle.numbering.specs.Numbering.{case_of, is_there}
use Rattle.verdict.specs.Order.{Checked, has, fault, ◌▹◌, rule, there, same_ty, same_tys, enum_of, all_once, as_fields, arms_named, all_as, common, check, check_all, check_arms, check_fns}
use Rattle.verdict.specs.Formed.{all_there, Formed, FormedAll, FormedArms, FormedFn, FormedCard}
use Rattle.verdict.specs.Breaks.{parts, Named, no_more, names, Fits, ArmTypes, no_type, arm_type, Breaks, b_part, b_local, b_calc, b_concat, b_eq, b_lt, b_if, b_exit, b_val, b_call_count, b_call, b_make_count, b_make, b_match_type, b_match_cases, b_match_arm, b_match, BreaksPart, b_this, b_later, BreaksArm, b_this_arm, b_later_arm, BreaksFn, b_body, b_result, b_later_fn}
use Rattle.verdict.specs.Claims.{FirstBroken}
use Rattle.numbering.proofs.Options.{through, Some≡, never, false≢true, both}
use Rattle.verdict.proofs.Check.{faulty, has≡, passed, rule_true, was_there, same, same_self, same_all, same_all_self, all_once_lem, once_all, All, a_nil, a_cons, all_as_lem, enum_of_lem, as_type_lem, sound, sound_all, complete, complete_all}
use Rattle.verdict.proofs.Formed.{card_formed}
use Rattle.verdict.proofs.Faults.{Fine, Known, KnownIn, known_more, known_bind, fine}

-- a fault is the same fault of whatever was to be checked
refault : {A B : Type 0} {m q n r : ℕ} → ◌≡◌ {A = Checked A} (fault m q) (fault n r) → ◌≡◌ {A = Checked B} (fault m q) (fault n r)
refault {m = m} {q = q} {n = n} {r = r} e =
    let a : m ≡ n = cc in
    let b : q ≡ r = cc in
    cc

-- checks in turn, either way bracketed
in_order : {A B D : Type 0} {c : Checked D} (o : Checked A) (f : A → Checked B) (g : B → Checked D) → ((o ▹ f) ▹ g) ≡ c → (o ▹ λ a. f a ▹ g) ≡ c
in_order (has a) f g e = e
in_order (fault n p) f g e = e

-- where a check stopped
stopped : {A B P : Type 0} (o : Checked A) (f : A → Checked B) (n r : ℕ) → (o ▹ f) ≡ fault n r → (o ≡ fault n r → P) → ((a : A) → o ≡ has a → f a ≡ fault n r → P) → P
stopped (has a) f n r e h k = k a refl e
stopped (fault m q) f n r e h k = h (refault e)

ruled : (P : ℕ → ℕ → Type 0) (m p : ℕ) (b : Bool) (n r : ℕ) → rule m p b ≡ fault n r → (b ≡ false → P m p) → P n r
ruled P m p true n r e h = faulty (sym e)
ruled P m p false n r e h =
    let a : m ≡ n = cc in
    let b : p ≡ r = cc in
    rw (← a, ← b) (h refl)

broken : {B : Type 0} (P : ℕ → ℕ → Type 0) (m p : ℕ) (b : Bool) (c : Checked B) (n r : ℕ) → (rule m p b ▹ λ u. c) ≡ fault n r → (b ≡ false → P m p) → (b ≡ true → c ≡ fault n r → P n r) → P n r
broken P m p b c n r e h k = stopped (rule m p b) _ n r e (λ q. ruled P m p b n r q h) λ u q d. k (rule_true m p b u q) d

-- the last test of a rule
at_last : {B : Type 0} (P : ℕ → ℕ → Type 0) (m p : ℕ) (b : Bool) (a : B) (n r : ℕ) → (rule m p b ▹ λ u. has a) ≡ fault n r → (b ≡ false → P m p) → P n r
at_last P m p b a n r e h = broken P m p b (has a) n r e h (λ q d. faulty (sym d))

found_none : {A : Type 0} (P : ℕ → ℕ → Type 0) (m p : ℕ) (o : Option A) (n r : ℕ) → there m p o ≡ fault n r → (o ≡ None → P m p) → P n r
found_none P m p (Some a) n r e h = faulty (sym e)
found_none P m p None n r e h =
    let a : m ≡ n = cc in
    let b : p ≡ r = cc in
    rw (← a, ← b) (h refl)

not_missing : {A P : Type 0} (m p : ℕ) (o : Option A) (n r : ℕ) → is_there o ≡ true → there m p o ≡ fault n r → P
not_missing m p None n r h e = false≢true h
not_missing m p (Some a) n r h e = faulty (sym e)

-- tests that fail, and what they test
untrue : (b : Bool) → ¬ (b ≡ true) → b ≡ false
untrue true h = absurd (h refl)
untrue false h = refl

failed : (b : Bool) → b ≡ false → ¬ (b ≡ true)
failed b e t = false≢true (sym e ∙ t)

both_true : (a b : Bool) → a ≡ true → b ≡ true → (a && b) ≡ true
both_true true b p q = q
both_true false b p q = false≢true p

self : (σ τ : Ty) → σ ≡ τ → same_ty σ τ ≡ true
self σ τ e = rw e (same_self τ)

differ : (σ τ : Ty) → same_ty σ τ ≡ false → ¬ (σ ≡ τ)
differ σ τ e q = failed _ e (self σ τ q)

differs : (σ τ : Ty) → ¬ (σ ≡ τ) → same_ty σ τ ≡ false
differs σ τ h = untrue _ (λ e. h (same σ τ e))

not_both : (σ σ' τ τ' : Ty) → (same_ty σ σ' && same_ty τ τ') ≡ false → ¬ ((σ ≡ σ') × (τ ≡ τ'))
not_both σ σ' τ τ' e q = failed _ e (both_true _ _ (self σ σ' q.0) (self τ τ' q.1))

both_not : (σ σ' τ τ' : Ty) → ¬ ((σ ≡ σ') × (τ ≡ τ')) → (same_ty σ σ' && same_ty τ τ') ≡ false
both_not σ σ' τ τ' h = untrue _ (λ e. let b = both _ _ e in h (same σ σ' b.0, same τ τ' b.1))

all_differ : (σs τs : List Ty) → same_tys σs τs ≡ false → ¬ (σs ≡ τs)
all_differ σs τs e q = failed _ e (rw q (same_all_self τs))

all_differs : (σs τs : List Ty) → ¬ (σs ≡ τs) → same_tys σs τs ≡ false
all_differs σs τs h = untrue _ (λ e. h (same_all σs τs e))

no_enum : (τ : Ty) → ((k : ℕ) → ¬ (τ ≡ enum k)) → enum_of τ ≡ None
no_enum unit h = refl
no_enum number h = refl
no_enum boolean h = refl
no_enum text h = refl
no_enum (enum k) h = absurd (h k refl)

enum_none : (τ : Ty) → enum_of τ ≡ None → (k : ℕ) → ¬ (τ ≡ enum k)
enum_none τ e k q = never (sym e ∙ ap enum_of q)

-- arms that fit
named : (E : List (List Ty)) (ms : Arms) → arms_named E ms ≡ true → Named E ms
named E no_arm e = no_more
named E (arm p c n x a ms) e = let b = both (as_fields n (at E c)) (arms_named E ms) e in go (at E c) refl b.0 (named E ms b.1)
  where
    go : (o : Option (List Ty)) → at E c ≡ o → as_fields n o ≡ true → Named E ms → Named E (arm p c n x a ms)
    go None w f k = false≢true f
    go (Some τs) w f k = names w (eqb-true _ _ f) k

is_named : {E : List (List Ty)} {ms : Arms} → Named E ms → arms_named E ms ≡ true
is_named no_more = refl
is_named (names {τs = τs} h l k) = rw (h, l, eq-eqb (length τs) _ refl) (is_named k)

fits : (E : List (List Ty)) (ms : Arms) → (all_once (length E) ms && arms_named E ms) ≡ true → Fits E ms
fits E ms e = let b = both (all_once (length E) ms) (arms_named E ms) e in record { once = all_once_lem (length E) ms b.0; named = named E ms b.1 }

is_fit : (E : List (List Ty)) (ms : Arms) → Fits E ms → (all_once (length E) ms && arms_named E ms) ≡ true
is_fit E ms f = both_true _ _ (once_all (length E) ms f.once) (is_named f.named)

-- types that are not all one
record Other (τ : Ty) (τs : List Ty) : Type 0 where
  place : ℕ
  type : Ty
  there_is : at τs place ≡ Some type
  another : ¬ (τ ≡ type)

other : (τ : Ty) (τs : List Ty) → all_as τ τs ≡ false → Other τ τs
other τ [] e = false≢true (sym e)
other τ (υ ∷ υs) e = go (same_ty υ τ) refl e (other τ υs)
  where
    go : (b : Bool) → same_ty υ τ ≡ b → (b && all_as τ υs) ≡ false → (all_as τ υs ≡ false → Other τ υs) → Other τ (υ ∷ υs)
    go false q e k = record { place = 0; type = υ; there_is = refl; another = λ w. differ υ τ q (sym w) }
    go true q e k = let r = k e in record { place = suc r.place; type = r.type; there_is = r.there_is; another = r.another }

one_of : {τ : Ty} {τs : List Ty} → All τ τs → (i : ℕ) (σ : Ty) → at τs i ≡ Some σ → σ ≡ τ
one_of a_nil i σ e = never e
one_of (a_cons q h) zero σ e = sym (Some≡ e) ∙ q
one_of (a_cons q h) (suc i) σ e = one_of h i σ e

not_common : (p : ℕ) (τs : List Ty) (i j : ℕ) (σ τ : Ty) → at τs i ≡ Some σ → at τs j ≡ Some τ → ¬ (σ ≡ τ) → common p τs ≡ fault 11 p
not_common p [] i j σ τ e d h = refl
not_common p (υ ∷ υs) i j σ τ e d h = rw (untrue (all_as υ υs) (λ q. let a = a_cons refl (all_as_lem υ υs q) in h (one_of a i σ e ∙ sym (one_of a j τ d))))

-- the parts typed first
module _ {A : Type 0} where
  one_part : (o : Checked Ty) (f : Ty → Checked A) (n r : ℕ) → (o ▹ λ σ. has (σ ∷ [])) ≡ fault n r → (o ▹ f) ≡ fault n r
  one_part (has σ) f n r e = faulty (sym e)
  one_part (fault m q) f n r e = refault e

  two_parts : (o u : Checked Ty) (f : Ty → Ty → Checked A) (n r : ℕ) → (o ▹ λ σ. (u ▹ λ τ. has (τ ∷ [])) ▹ λ τs. has (σ ∷ τs)) ≡ fault n r → (o ▹ λ σ. u ▹ λ τ. f σ τ) ≡ fault n r
  two_parts (fault m q) u f n r e = refault e
  two_parts (has σ) (fault m q) f n r e = refault e
  two_parts (has σ) (has τ) f n r e = faulty (sym e)

  three_parts : (o u v : Checked Ty) (f : Ty → Ty → Ty → Checked A) (n r : ℕ)
      → (o ▹ λ κ. (u ▹ λ σ. (v ▹ λ τ. has (τ ∷ [])) ▹ λ τs. has (σ ∷ τs)) ▹ λ τs. has (κ ∷ τs)) ≡ fault n r → (o ▹ λ κ. u ▹ λ σ. v ▹ λ τ. f κ σ τ) ≡ fault n r
  three_parts (fault m q) u v f n r e = refault e
  three_parts (has κ) (fault m q) v f n r e = refault e
  three_parts (has κ) (has σ) (fault m q) f n r e = refault e
  three_parts (has κ) (has σ) (has τ) f n r e = faulty (sym e)

  all_parts : (o : Checked (List Ty)) (f : List Ty → Checked A) (n r : ℕ) → o ≡ fault n r → (o ▹ f) ≡ fault n r
  all_parts (has τs) f n r e = faulty (sym e)
  all_parts (fault m q) f n r e = refault e

in_turn : (o u : Checked Ty) (n r : ℕ) → (o ▹ λ σ. (u ▹ λ τ. has (τ ∷ [])) ▹ λ τs. has (σ ∷ τs)) ≡ fault n r → (o ▹ λ σ. u) ≡ fault n r
in_turn (fault m q) u n r e = refault e
in_turn (has σ) (fault m q) n r e = refault e
in_turn (has σ) (has τ) n r e = faulty (sym e)

-- what breaks, the checker finds
module _ (C : Card) where
  by_part : (e : Expr) (Γ : Scope Ty) (n r : ℕ) → check_all C Γ (parts e) ≡ fault n r → check C Γ e ≡ fault n r
  by_part (Unit' p) Γ n r h = faulty (sym h)
  by_part (Num p k) Γ n r h = faulty (sym h)
  by_part (Bool' p b) Γ n r h = faulty (sym h)
  by_part (Str p s) Γ n r h = faulty (sym h)
  by_part (Local p x) Γ n r h = faulty (sym h)
  by_part (Calc p o a b) Γ n r h = two_parts (check C Γ a) (check C Γ b) _ n r h
  by_part (Concat p a b) Γ n r h = two_parts (check C Γ a) (check C Γ b) _ n r h
  by_part (Eq p a b) Γ n r h = two_parts (check C Γ a) (check C Γ b) _ n r h
  by_part (Lt p a b) Γ n r h = two_parts (check C Γ a) (check C Γ b) _ n r h
  by_part (Seq p a b) Γ n r h = in_turn (check C Γ a) (check C Γ b) n r h
  by_part (If p c a b) Γ n r h = three_parts (check C Γ c) (check C Γ a) (check C Γ b) _ n r h
  by_part (Val p x a b) Γ n r h = one_part (check C Γ a) _ n r h
  by_part (Call p f es) Γ n r h = all_parts (check_all C Γ es) _ n r h
  by_part (Make p k c es) Γ n r h = all_parts (check_all C Γ es) _ n r h
  by_part (Match p a ms) Γ n r h = one_part (check C Γ a) _ n r h
  by_part (Exit p τ a) Γ n r h = one_part (check C Γ a) _ n r h

  arm_types : {Γ : Scope Ty} {E : List (List Ty)} {ms : Arms} {τs : List Ty} → ArmTypes C Γ E ms τs → check_arms C Γ E ms ≡ has τs
  arm_types no_type = refl
  arm_types (arm_type h a ts) = rw (h, complete C a, arm_types ts)

  mutual
    finds : {Γ : Scope Ty} {e : Expr} {n r : ℕ} → Breaks C Γ e n r → check C Γ e ≡ fault n r
    finds (b_part {Γ = Γ} {e = e} {n = n} {r = r} h) = by_part e Γ n r (finds_part h)
    finds (b_local h) = rw h
    finds (b_calc {σ = σ} {τ = τ} a b h) = rw (complete C a, complete C b, both_not σ number τ number h)
    finds (b_concat {σ = σ} {τ = τ} a b h) = rw (complete C a, complete C b, both_not σ text τ text h)
    finds (b_eq {σ = σ} {τ = τ} a b h) = rw (complete C a, complete C b, differs τ σ (λ q. h (sym q)))
    finds (b_lt {σ = σ} {τ = τ} a b h) = rw (complete C a, complete C b, both_not σ number τ number h)
    finds (b_if {κ = κ} {σ = σ} {τ = τ} c a b h) = rw (complete C c, complete C a, complete C b, both_not κ boolean τ σ (λ q. h (q.0, sym q.1)))
    finds (b_exit {σ = σ} a h) = rw (complete C a, differs σ text h)
    finds (b_val a b) = rw (complete C a) (finds b)
    finds (b_call_count es w h) = rw (complete_all C es, w, ne_eqb _ _ h)
    finds (b_call {fn = fn} {τs = τs} es w l h) = rw (complete_all C es, w, eq-eqb _ _ l, all_differs τs fn.params h)
    finds (b_make_count es w v h) = rw (complete_all C es, w, v, ne_eqb _ _ h)
    finds (b_make {τs = τs} {υs = υs} es w v l h) = rw (complete_all C es, w, v, eq-eqb _ _ l, all_differs τs υs h)
    finds (b_match_type {σ = σ} a h) = rw (complete C a, no_enum σ h)
    finds (b_match_cases {ms = ms} {E = E} a w h) = rw (complete C a, w, untrue (all_once (length E) ms && arms_named E ms) (λ q. h (fits E ms q)))
    finds (b_match_arm {ms = ms} {E = E} a w f h) = rw (complete C a, w, is_fit E ms f, finds_arm h)
    finds (b_match {p = p} {ms = ms} {E = E} {τs = τs} {σ = σ} {τ = τ} a w f ts i j x y h) = rw (complete C a, w, is_fit E ms f, arm_types ts) (not_common p τs i j σ τ x y h)

    finds_part : {Γ : Scope Ty} {es : Exprs} {n r : ℕ} → BreaksPart C Γ es n r → check_all C Γ es ≡ fault n r
    finds_part (b_this h) = rw (finds h)
    finds_part (b_later a h) = rw (complete C a, finds_part h)

    finds_arm : {Γ : Scope Ty} {E : List (List Ty)} {ms : Arms} {n r : ℕ} → BreaksArm C Γ E ms n r → check_arms C Γ E ms ≡ fault n r
    finds_arm (b_this_arm w h) = rw (w, finds h)
    finds_arm (b_later_arm w a h) = rw (w, complete C a, finds_arm h)

  finds_fn : {fns : List Fn} {n r : ℕ} → BreaksFn C fns n r → check_fns C fns ≡ fault n r
  finds_fn (b_body h) = rw (finds h)
  finds_fn (b_result {fn = fn} {τ = τ} h d q) = rw (complete C h, differs τ fn.result d, q)
  finds_fn (b_later_fn {fn = fn} h k) = rw (complete C h, same_self fn.result) (finds_fn k)

-- what the checker finds, breaks
module _ (C : Card) (F : FormedCard C) where
  typed_known : (e : Expr) (Γ : Scope Ty) (σ : Ty) → KnownIn C F Γ → Formed C e → check C Γ e ≡ has σ → Known C F σ
  typed_known e Γ σ k g q = subst (Fine (Known C F)) q (fine C F e Γ k g)

  typed_arms : {E : List (List Ty)} {ms : Arms} → Named E ms → (Γ : Scope Ty) (τs : List Ty) → FormedArms C ms → check_arms C Γ E ms ≡ has τs → ArmTypes C Γ E ms τs
  typed_arms no_more Γ τs g e = rw (← (has≡ e)) no_type
  typed_arms {E = E} (names {x = x} {e = a} {ms = ms} {τs = υs} w l h) Γ τs g e =
      let q = passed (check C (bind x υs Γ) a) _ τs (rw w at e) in
      let s = passed (check_arms C Γ E ms) _ τs q.gave in
      rw (← (has≡ s.gave)) (arm_type w (sound C a (bind x υs Γ) q.mid g.0 q.got) (typed_arms h Γ s.mid g.1 s.got))

  -- arms that are typed, but not alike
  unlike : {Γ : Scope Ty} {a : Expr} {ms : Arms} {k : ℕ} {E : List (List Ty)} {τs : List Ty} (p n r : ℕ)
      → C ∣ Γ ⊢ a ∶ enum k → at C.enums k ≡ Some E → Fits E ms → ArmTypes C Γ E ms τs → ¬ (ms ≡ no_arm) → common p τs ≡ fault n r → Breaks C Γ (Match p a ms) n r
  unlike p n r u w f no_type m e = absurd (m refl)
  unlike {Γ = Γ} {a = a} {ms = ms} p n r u w f (arm_type {υ = υ} {υs = υs} v x ts) m e =
      at_last (Breaks C Γ (Match p a ms)) 11 p (all_as υ υs) υ n r e λ q.
      let o = other υ υs q in b_match u w f (arm_type v x ts) 0 (suc o.place) refl o.there_is o.another

  -- two parts in the scope of the whole
  pair : {P : Type 0} (Γ : Scope Ty) (a b : Expr) (n r : ℕ) (f : Ty → Ty → Checked Ty) → (check C Γ a ▹ λ σ. check C Γ b ▹ λ τ. f σ τ) ≡ fault n r → Formed C a × Formed C b
      → (check C Γ a ≡ fault n r → Breaks C Γ a n r) → (check C Γ b ≡ fault n r → Breaks C Γ b n r) → (BreaksPart C Γ (a & b & ∅) n r → P)
      → ((σ τ : Ty) → C ∣ Γ ⊢ a ∶ σ → C ∣ Γ ⊢ b ∶ τ → f σ τ ≡ fault n r → P) → P
  pair Γ a b n r f e g h k part own =
      stopped (check C Γ a) _ n r e (λ q. part (b_this (h q))) λ σ x e.
      stopped (check C Γ b) _ n r e (λ q. part (b_later (sound C a Γ σ g.0 x) (b_this (k q)))) λ τ y e.
      own σ τ (sound C a Γ σ g.0 x) (sound C b Γ τ g.1 y) e

  mutual
    breaks : (e : Expr) (Γ : Scope Ty) (n r : ℕ) → KnownIn C F Γ → Formed C e → check C Γ e ≡ fault n r → Breaks C Γ e n r
    breaks (Unit' p) Γ n r k g e = faulty (sym e)
    breaks (Num p i) Γ n r k g e = faulty (sym e)
    breaks (Bool' p b) Γ n r k g e = faulty (sym e)
    breaks (Str p s) Γ n r k g e = faulty (sym e)
    breaks (Local p x) Γ n r k g e = found_none (Breaks C Γ (Local p x)) 10 p (find Γ x) n r e b_local
    breaks (Calc p o a b) Γ n r k g e =
        pair Γ a b n r _ e g (breaks a Γ n r k g.0) (breaks b Γ n r k g.1) b_part λ σ τ x y e.
        at_last (Breaks C Γ (Calc p o a b)) 11 p (same_ty σ number && same_ty τ number) number n r e λ q. b_calc x y (not_both σ number τ number q)
    breaks (Concat p a b) Γ n r k g e =
        pair Γ a b n r _ e g (breaks a Γ n r k g.0) (breaks b Γ n r k g.1) b_part λ σ τ x y e.
        at_last (Breaks C Γ (Concat p a b)) 11 p (same_ty σ text && same_ty τ text) text n r e λ q. b_concat x y (not_both σ text τ text q)
    breaks (Eq p a b) Γ n r k g e =
        pair Γ a b n r _ e g (breaks a Γ n r k g.0) (breaks b Γ n r k g.1) b_part λ σ τ x y e.
        at_last (Breaks C Γ (Eq p a b)) 11 p (same_ty τ σ) boolean n r e λ q. b_eq x y (λ w. differ τ σ q (sym w))
    breaks (Lt p a b) Γ n r k g e =
        pair Γ a b n r _ e g (breaks a Γ n r k g.0) (breaks b Γ n r k g.1) b_part λ σ τ x y e.
        at_last (Breaks C Γ (Lt p a b)) 11 p (same_ty σ number && same_ty τ number) boolean n r e λ q. b_lt x y (not_both σ number τ number q)
    breaks (Seq p a b) Γ n r k g e =
        stopped (check C Γ a) _ n r e (λ q. b_part (b_this (breaks a Γ n r k g.0 q))) λ σ x e.
        b_part (b_later (sound C a Γ σ g.0 x) (b_this (breaks b Γ n r k g.1 e)))
    breaks (If p c a b) Γ n r k g e =
        stopped (check C Γ c) _ n r e (λ q. b_part (b_this (breaks c Γ n r k g.0 q))) λ κ x e.
        let t = sound C c Γ κ g.0 x in
        pair Γ a b n r _ e (g.1, g.2) (breaks a Γ n r k g.1) (breaks b Γ n r k g.2) (λ h. b_part (b_later t h)) λ σ τ x y e.
        at_last (Breaks C Γ (If p c a b)) 11 p (same_ty κ boolean && same_ty τ σ) σ n r e λ q. b_if t x y (λ w. not_both κ boolean τ σ q (w.0, sym w.1))
    breaks (Val p x a b) Γ n r k g e =
        stopped (check C Γ a) _ n r e (λ q. b_part (b_this (breaks a Γ n r k g.0 q))) λ σ y e.
        b_val (sound C a Γ σ g.0 y) (breaks b ((x, σ) ∷ Γ) n r (known_more C F x σ Γ (typed_known a Γ σ k g.0 y) k) g.1 e)
    breaks (Call p f es) Γ n r k g e =
        stopped (check_all C Γ es) _ n r e (λ q. b_part (breaks_part es Γ n r k g.1 q)) λ τs x e.
        let t = sound_all C es Γ τs g.1 x in
        stopped (there 12 p (at C.fns f)) _ n r e (λ q. not_missing 12 p (at C.fns f) n r g.0 q) λ fn y e.
        let w = was_there 12 p (at C.fns f) fn y in
        broken (Breaks C Γ (Call p f es)) 12 p (eqb (length τs) (length fn.params)) _ n r e (λ q. b_call_count t w (eqb-false _ _ q)) λ l e.
        at_last (Breaks C Γ (Call p f es)) 11 p (same_tys τs fn.params) fn.result n r e λ q. b_call t w (eqb-true _ _ l) (all_differ τs fn.params q)
    breaks (Make p j c es) Γ n r k g e =
        stopped (check_all C Γ es) _ n r e (λ q. b_part (breaks_part es Γ n r k g.1 q)) λ τs x e.
        let t = sound_all C es Γ τs g.1 x in
        stopped (there 12 p (case_of C j c)) _ n r e (λ q. not_missing 12 p (case_of C j c) n r g.0 q) λ υs y e.
        let w = through (at C.enums j) (λ E. at E c) υs (was_there 12 p (case_of C j c) υs y) in
        broken (Breaks C Γ (Make p j c es)) 12 p (eqb (length τs) (length υs)) _ n r e (λ q. b_make_count t w.got w.gave (eqb-false _ _ q)) λ l e.
        at_last (Breaks C Γ (Make p j c es)) 11 p (same_tys τs υs) (enum j) n r e λ q. b_make t w.got w.gave (eqb-true _ _ l) (all_differ τs υs q)
    breaks (Match p a ms) Γ n r k g e =
        stopped (check C Γ a) _ n r e (λ q. b_part (b_this (breaks a Γ n r k g.0 q))) λ σ x e.
        let t = sound C a Γ σ g.0 x in
        stopped (there 11 p (enum_of σ)) _ n r e (λ q. found_none (Breaks C Γ (Match p a ms)) 11 p (enum_of σ) n r q (λ o. b_match_type t (enum_none σ o))) λ j y e.
        let d = enum_of_lem σ j (was_there 11 p (enum_of σ) j y) in
        let u = subst (λ υ. C ∣ Γ ⊢ a ∶ υ) d t in
        stopped (there 13 p (at C.enums j)) _ n r e (λ q. not_missing 13 p (at C.enums j) n r (subst (Known C F) d (typed_known a Γ σ k g.0 x)) q) λ E z e.
        let w = was_there 13 p (at C.enums j) E z in
        broken (Breaks C Γ (Match p a ms)) 13 p (all_once (length E) ms && arms_named E ms) _ n r e (λ q. b_match_cases u w (λ f. failed _ q (is_fit E ms f))) λ q e.
        let f = fits E ms q in
        stopped (check_arms C Γ E ms) _ n r e (λ q. b_match_arm u w f (breaks_arm ms Γ E n r k (F.fields j E w) g.1 f.named q)) λ τs v e.
        unlike p n r u w f (typed_arms f.named Γ τs g.1 v) g.2 e
    breaks (Exit p τ a) Γ n r k g e =
        stopped (check C Γ a) _ n r e (λ q. b_part (b_this (breaks a Γ n r k g.1 q))) λ σ x e.
        at_last (Breaks C Γ (Exit p τ a)) 11 p (same_ty σ text) τ n r e λ q. b_exit (sound C a Γ σ g.1 x) (differ σ text q)

    breaks_part : (es : Exprs) (Γ : Scope Ty) (n r : ℕ) → KnownIn C F Γ → FormedAll C es → check_all C Γ es ≡ fault n r → BreaksPart C Γ es n r
    breaks_part ∅ Γ n r k g e = faulty (sym e)
    breaks_part (a & es) Γ n r k g e =
        stopped (check C Γ a) _ n r e (λ q. b_this (breaks a Γ n r k g.0 q)) λ σ x e.
        stopped (check_all C Γ es) _ n r e (λ q. b_later (sound C a Γ σ g.0 x) (breaks_part es Γ n r k g.1 q)) λ τs y e. faulty (sym e)

    breaks_arm : (ms : Arms) (Γ : Scope Ty) (E : List (List Ty)) (n r : ℕ)
        → KnownIn C F Γ → ((c : ℕ) (τs : List Ty) → at E c ≡ Some τs → all_there C τs) → FormedArms C ms → Named E ms → check_arms C Γ E ms ≡ fault n r → BreaksArm C Γ E ms n r
    breaks_arm no_arm Γ E n r k f g h e = faulty (sym e)
    breaks_arm (arm p c m x a ms) Γ E n r k f g (names {τs = υs} w l h) e =
        stopped (check C (bind x υs Γ) a) _ n r (rw w at e) (λ q. b_this_arm w (breaks a (bind x υs Γ) n r (known_bind C F x υs Γ (f c υs w) k) g.0 q)) λ σ y e.
        stopped (check_arms C Γ E ms) _ n r e (λ q. b_later_arm w (sound C a (bind x υs Γ) σ g.0 y) (breaks_arm ms Γ E n r k f g.1 h q)) λ τs z e. faulty (sym e)

  breaks_fn : (fns : List Fn) (n r : ℕ) → ((f : ℕ) (fn : Fn) → at fns f ≡ Some fn → FormedFn C fn) → check_fns C fns ≡ fault n r → BreaksFn C fns n r
  breaks_fn [] n r g e = faulty (sym e)
  breaks_fn (fn ∷ fns) n r g e =
      let h = g 0 fn refl in
      let Γ = bind 0 fn.params [] in
      stopped (check C Γ fn.body) _ n r (in_order (check C Γ fn.body) _ _ e)
      (λ q. b_body (breaks fn.body Γ n r (known_bind C F 0 fn.params [] h.params (λ x τ e. never e)) h.body q)) λ τ x e.
      let t = sound C fn.body Γ τ h.body x in
      broken (BreaksFn C (fn ∷ fns)) 11 fn.opened (same_ty τ fn.result) _ n r e (λ q. b_result t (differ τ fn.result q) refl) λ q e.
      b_later_fn (as_type_lem C q t) (breaks_fn fns n r (λ f. g (suc f)) e)

pub first_broken : FirstBroken
first_broken image C f n r =
    let F = card_formed image C f in
    (breaks_fn C F C.fns n r F.functions, finds_fn C)
