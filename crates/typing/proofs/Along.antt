-- From one walk to another on the same card, with the same names.
use Rattle.std.proofs.Common.{◌≡◌, ℕ, ◌+◌, ◌≤◌, Bool, true, None, List, Ok, Err, OnOk, is_ok, Option, Result, length, take, sym, ap, ◌∙◌, subst, arith}
use Rattle.std.specs.Option.{ok_or}
use Rattle.std.proofs.lemmas.List.{take-take, length-take-le}
use Rattle.battery.specs.declared.Ty.{Ty}
use Rattle.battery.specs.Tree.{Scope, bind}
use Rattle.table.specs.declared.token.Token.{Token}
use Rattle.table.specs.declared.token.Head.{Head}
use Rattle.numbering.specs.Views.{OnCard}
use Rattle.rules.specs.Rules.{ruled}
use Rattle.scope.specs.declared.Entry.{Entry}
use Rattle.scope.specs.Bound.{scope_of}
use Rattle.few.specs.declared.items.Few.{Few}
use Rattle.few.specs.Listed.{listed}
use Rattle.rules.specs.declared.fault.TypeFault.{TypeFault}
use Rattle.rules.specs.Typed.{checked_by, TypedAt, ArmAt, ArmsAt}
use Rattle.typing.specs.declared.walk.Walk.{Walk}
use Rattle.typing.specs.Walks.{tokens_at, bound_at, WalksOn}

pub record Along (w v : Walk) : Type 0 where
  pub tokens : tokens_at v ≡ tokens_at w
  pub no_sooner : w.place ≤ v.place
  pub bound : v.bound ≡ w.bound
  pub names : take w.bound v.entries ≡ take w.bound w.entries

pub along : {w v : Walk} → WalksOn w v → Along w v
along o = record { tokens = o.tokens; no_sooner = omega (arith, o.later); bound = o.bound; names = o.names }

pub further : {u v w : Walk} → Along u v → Along v w → Along u w
further {u} {v} {w} a b = record {
  tokens = b.tokens ∙ a.tokens;
  no_sooner = omega (arith, a.no_sooner, b.no_sooner);
  bound = b.bound ∙ a.bound;
  names = subst (λ n. take n w.entries ≡ take n v.entries) a.bound b.names ∙ a.names;
}

same_names : {w v : Walk} → Along w v → bound_at v ≡ bound_at w
same_names {w} {v} a = ap (λ (n : ℕ). scope_of (take n v.entries)) a.bound ∙ ap scope_of a.names

pub typed_along : {w v : Walk} → Along w v → (p : ℕ) (r : Result (Ty × ℕ) TypeFault) → TypedAt (tokens_at v) (bound_at v) p r → TypedAt (tokens_at w) (bound_at w) p r
typed_along {w} {v} a p r h = subst (λ Γ. TypedAt (tokens_at w) Γ p r) (same_names a) (subst (λ ws. TypedAt ws (bound_at v) p r) a.tokens h)

pub arms_along : {w v : Walk} → Along w v → (k : ℕ) (τ : Ty) (p : ℕ) (r : Result (Bool × ℕ) TypeFault) → ArmsAt (tokens_at v) (bound_at v) k τ p r → ArmsAt (tokens_at w) (bound_at w) k τ p r
arms_along {w} {v} a k τ p r h = subst (λ Γ. ArmsAt (tokens_at w) Γ k τ p r) (same_names a) (subst (λ ws. ArmsAt ws (bound_at v) k τ p r) a.tokens h)

pub arm_along : {w v : Walk} → Along w v → (k p : ℕ) (r : Result (Ty × ℕ) TypeFault) → ArmAt (tokens_at v) (bound_at v) k p r → ArmAt (tokens_at w) (bound_at w) k p r
arm_along {w} {v} a k p r h = subst (λ Γ. ArmAt (tokens_at w) Γ k p r) (same_names a) (subst (λ ws. ArmAt ws (bound_at v) k p r) a.tokens h)

pub then_on : {u v w : Walk} → WalksOn u v → WalksOn v w → WalksOn u w
then_on {u} {v} {w} a b =
    let f = further (along a) (along b) in
    record { tokens = f.tokens; later = omega (arith, a.later, b.later); within = omega (arith, b.within, ap length a.tokens); bound = f.bound; names = f.names }

pub typed_in : {us ws : List Token} {Δ Γ : Scope Ty} → us ≡ ws → Δ ≡ Γ → (p : ℕ) (r : Result (Ty × ℕ) TypeFault) → TypedAt us Δ p r → TypedAt ws Γ p r
typed_in {ws = ws} {Δ = Δ} e i p r h = subst (λ Γ. TypedAt ws Γ p r) i (subst (λ vs. TypedAt vs Δ p r) e h)

pub ruled_in : {us ws : List Token} {υs τs : List Ty} → us ≡ ws → υs ≡ τs → (p : ℕ) (h : Head) (r : Result Ty TypeFault) → OnCard us (λ C. checked_by r ≡ ruled C p h υs) → OnCard ws (λ C. checked_by r ≡ ruled C p h τs)
ruled_in {ws = ws} {υs = υs} e i p h r g = subst (λ σs. OnCard ws (λ C. checked_by r ≡ ruled C p h σs)) i (subst (λ vs. OnCard vs (λ C. checked_by r ≡ ruled C p h υs)) e g)

-- the entries bound to fields
pub with_fields : (b n x : ℕ) (es : List (Entry Ty)) (υs τs : List Ty) (Γ : Scope Ty) → υs ≡ τs → n ≡ length τs → scope_of (take (b + length υs) es) ≡ bind x υs Γ → scope_of (take (b + n) es) ≡ bind x τs Γ
with_fields b n x es υs τs Γ e i g =
    let j : n ≡ length υs = i ∙ sym (ap length e) in
    ap (λ (k : ℕ). scope_of (take (b + k) es)) j ∙ g ∙ ap (λ (σs : List Ty). bind x σs Γ) e

-- fewer entries agree where more do
pub fewer : {A : Type 0} (b k : ℕ) (s u : List A) → take (b + k) s ≡ take (b + k) u → take b s ≡ take b u
fewer b k s u e = sym (take-take b (b + k) s (omega arith)) ∙ ap (take b) e ∙ take-take b (b + k) u (omega arith)

-- what `ok_or` gives in place of nothing
pub in_place_of : {A E : Type 0} (o : Option A) (e f : E) → Err e ≡ ok_or o f → o ≡ None → e ≡ f
in_place_of {A = A} {E = E} o e f h n = told (h ∙ ap (λ v. ok_or v f) n)
  where
    told : {a b : E} → ◌≡◌ {A = Result A E} (Err a) (Err b) → a ≡ b
    told h = cc

pub at_ok : {A E P : Type 0} (r : Result A E) → is_ok r ≡ true → OnOk r P → P
at_ok (Ok a) h p = p
at_ok (Err e) h p = let z : ◌≡◌ {A = ℕ} 0 1 = cc in absurd (omega arith)

pub few_types : (t : Few Ty 4) → length (listed t) ≤ 4
few_types t = let e = length-take-le t.len t.items (let w = t.whole in let m = t.room in omega arith) in let m = t.room in omega arith
