-- From one arm of a MATCH on to the next.
use Rattle.std.proofs.Common.{◌≡◌, ℕ, zero, suc, ◌+◌, ◌<◌, max, Bool, cond, ltb, List, [], ◌∷◌, length, get_or, drop, Some, None, Option, sym, refl, ap, ◌∙◌, subst, arith, lt-ltb}
use Rattle.battery.specs.Tree.{Arms, no_arm, arm, at, ◌▸◌}
use Rattle.table.specs.declared.token.Token.{Token}
use Rattle.table.specs.declared.token.Token.TheVariants.{Arm as ARM}
use Rattle.grammar.specs.Grammar.{Piece, take_arms, or_close, pieces_of}
use Rattle.numbering.specs.Ends.{Ends}
use Rattle.numbering.proofs.Options.{never, Some≡}
use Rattle.numbering.proofs.Standing.{Matched, neither, each}
use Rattle.numbering.proofs.Skip.{skips}
use Rattle.rules.specs.Typed.{arms_from}
use Rattle.rules.specs.Standing.{NextAt}
use Rattle.numbering.proofs.Parts.{Armed}
use Rattle.rules.proofs.Steps.{first_arm}

within : (t : List ℕ) (ws : List Token) (p : ℕ) (q : Piece) (qs : List Piece) → pieces_of t p (drop p ws) ≡ Some (q ∷ qs) → p < length ws
within t [] zero q qs e = let z : ◌≡◌ {A = List Piece} [] (q ∷ qs) = Some≡ e in let y : ◌≡◌ {A = ℕ} 0 1 = cc in absurd (omega arith)
within t [] (suc p) q qs e = let z : ◌≡◌ {A = List Piece} [] (q ∷ qs) = Some≡ e in let y : ◌≡◌ {A = ℕ} 0 1 = cc in absurd (omega arith)
within t (w ∷ ws) zero q qs e = omega arith
within t (w ∷ ws) (suc p) q qs e = let h = inside ws p (λ n. subst (λ vs. pieces_of t (suc p) vs ≡ Some (q ∷ qs)) n e) in omega arith
  where
    inside : (vs : List Token) (k : ℕ) → (drop k vs ≡ [] → pieces_of t (suc p) [] ≡ Some (q ∷ qs)) → k < length vs
    inside [] zero f = let z : ◌≡◌ {A = List Piece} [] (q ∷ qs) = Some≡ (f refl) in let y : ◌≡◌ {A = ℕ} 0 1 = cc in absurd (omega arith)
    inside [] (suc k) f = let z : ◌≡◌ {A = List Piece} [] (q ∷ qs) = Some≡ (f refl) in let y : ◌≡◌ {A = ℕ} 0 1 = cc in absurd (omega arith)
    inside (v ∷ vs) zero f = omega arith
    inside (v ∷ vs) (suc k) f = let h = inside vs k f in omega arith

-- the table's entry, never before the arm's part itself
pub next_at : (ws : List Token) (es : List ℕ) → Ends ws es → (p e m : ℕ) → e ≡ cond (ltb (p + 1) (length ws)) (get_or es (p + 1) 0) (length ws) → m ≡ max e (p + 1) → NextAt ws p m
next_at ws es ends p e m is big t x ps q =
    let l : suc p < length ws = within t ws (suc p) _ ps q in
    let k : p + 1 ≡ suc p = omega arith in
    let s = (skips t ws es ends (suc p) l).expression x ps q in
    let v : e ≡ get_or es (suc p) 0 = rw (← k) (is ∙ ap (λ (b : Bool). cond b (get_or es (p + 1) 0) (length ws)) (lt-ltb _ _ (omega arith))) in
    let u : m ≡ get_or es (suc p) 0 = omega (arith, s.0) in
    subst (λ n. pieces_of t n (drop n ws) ≡ Some ps) (sym u) s.2

pub matched_none : {A B : Type 0} {R : A → B → Type 0} {o : Option A} {v : Option B} → Matched R o v → o ≡ None → v ≡ None
matched_none neither h = refl
matched_none (each r) h = never (sym h)

pub matched_some : {A B : Type 0} {R : A → B → Type 0} {o : Option A} {v : Option B} → Matched R o v → (p : A) → o ≡ Some p → (b : B) × (v ≡ Some b) × R p b
matched_some neither p h = never h
matched_some {R = R} (each {b = b} r) p h = (b, refl, subst (λ y. R y b) (Some≡ h) r)

module _ (ws : List Token) where
  -- the arms behind an arm
  pub behind_arm : (t : List ℕ) (p m i x c : ℕ) (ms : Arms) (ps : List Piece) (z : Armed t p i x c (drop (suc p) ws) ms ps) → NextAt ws p m → arms_from t ws m ≡ Some (z.more, ps)
  behind_arm t p m i x c ms ps z n = ap (λ (o : Option (List Piece)). o ▸ λ qs. or_close no_arm qs (take_arms qs)) (n t z.e z.next z.part) ∙ z.rest

  pub no_arm_left : (t : List ℕ) (p : ℕ) (ms : Arms) (ps : List Piece) → ((i x c : ℕ) → at ws p ≡ Some (ARM i x c) → ⊥) → arms_from t ws p ≡ Some (ms, ps) → ms ≡ no_arm
  no_arm_left t p no_arm ps n q = refl
  no_arm_left t p (arm a b d x e ms) ps n q =
      let z = first_arm ws t p _ ps q (λ g. let y : ◌≡◌ {A = ℕ} 0 1 = cc in omega arith) in absurd (n z.n z.x z.c z.token)
