-- A step taken several times over, and a table of ends that is filled from the last place back.
use Rattle.std.proofs.Common.{◌≡◌, ℕ, suc, ◌+◌, ◌-◌, ◌<◌, ◌≤◌, Bool, true, false, cond, ◌&&◌, ltb, ◌≢◌, ◌⊎◌, List, [], ◌∷◌, ◌++◌, length, get_or, set, take, Some, sym, refl, ap, ◌∙◌, subst, inl, inr, arith, length-append}
use mathlib.Core.Path.{fun_ext}
use Rattle.std.proofs.lemmas.List.{get_or-set_same, get_or-set_other, get_or_push, take-take}
use Rattle.std.proofs.Math.Seq.{take-append_seam}
use Rattle.std.proofs.lemmas.Bool.{ltb-true, cases_eq}
use Rattle.battery.specs.Tree.{at}
use Rattle.table.specs.declared.token.Token.{Token}
use Rattle.numbering.specs.Ends.{look, times, past}
use Rattle.numbering.proofs.Options.{Some≡}
use Rattle.numbering.proofs.Indexed.{at_in, at_below, at_take}

pub times_more : (f : ℕ → ℕ) (n i q : ℕ) → i < n → times (n - (i + 1)) f (f q) ≡ times (n - i) f q
times_more f n i q h = let e : n - i ≡ suc (n - (i + 1)) = omega arith in sym (ap (λ k. times k f q) e)

-- what is written at a place is not read from behind a later one, nor from behind it
pub look_set : (ws : List Token) (es : List ℕ) (q v p : ℕ) → q ≤ p → look ws (set es q v) p ≡ look ws es p
look_set ws es q v p h = fun_ext (λ m. go m (ltb p m) refl)
  where
    go : (m : ℕ) (b : Bool) → ltb p m ≡ b → cond (b && ltb m (length ws)) (get_or (set es q v) m 0) (length ws) ≡ cond (b && ltb m (length ws)) (get_or es m 0) (length ws)
    go m false e = refl
    go m true e =
        let l = ltb-true p m e in
        let ne : m ≢ q = omega arith in
        ap (λ u. cond (ltb m (length ws)) u (length ws)) (get_or-set_other es q m v 0 ne)

-- the table is right from place i on
abbrev pub EndsFrom : List Token → List ℕ → ℕ → Type 0
EndsFrom ws es i = (p : ℕ) (w : Token) → i ≤ p → at ws p ≡ Some w → get_or es p 0 ≡ past ws (look ws es p) p w

-- what is written at a place, where those behind it are right
ends_more : (ws : List Token) (es : List ℕ) (k v : ℕ) (u : Token) → at ws k ≡ Some u → k < length es
    → v ≡ past ws (look ws es k) k u → EndsFrom ws es (k + 1) → EndsFrom ws (set es k v) k
ends_more ws es k v u there l is f p w h e = go (cases_eq p k) ∙ ap (λ g. past ws g p w) (sym (look_set ws es k v p h))
  where
    go : (p ≡ k) ⊎ (p ≡ k → ⊥) → get_or (set es k v) p 0 ≡ past ws (look ws es p) p w
    go (inl q) =
        let same : u ≡ w = Some≡ (sym there ∙ ap (at ws) (sym q) ∙ e) in
        ap (λ m. get_or (set es k v) m 0) q ∙ get_or-set_same es k v 0 l ∙ is
        ∙ ap (λ m. past ws (look ws es m) m u) (sym q) ∙ ap (past ws (look ws es p) p) same
    go (inr ne) = get_or-set_other es k p v 0 ne ∙ f p w (omega arith) e

-- one turn more: of the tokens us that are left, the last is w at k
pub one_back : (ws us rest : List Token) (w : Token) (es : List ℕ) (k v : ℕ) → us ≡ rest ++ w ∷ [] → take (length us) ws ≡ us → k ≡ length rest → length ws ≤ length es
    → v ≡ past ws (look ws es k) k w → EndsFrom ws es (length us) → (take (length rest) ws ≡ rest) × EndsFrom ws (set es k v) (length rest)
one_back ws us rest w es k v is left last room ended f =
    let one_more : length us ≡ k + 1 = omega (arith, ap length is, length-append rest (w ∷ [])) in
    let found : at (rest ++ w ∷ []) k ≡ Some w = at_in (rest ++ w ∷ []) k w (omega (arith, length-append rest (w ∷ []))) ∙ ap Some (get_or_push rest w w k (sym last)) in
    let there : at ws k ≡ Some w = sym (at_take (length us) ws k (omega arith)) ∙ ap (λ vs. at vs k) (left ∙ is) ∙ found in
    let below = at_below ws k w there in (
      sym (take-take (length rest) (length us) ws (omega arith)) ∙ ap (take (length rest)) (left ∙ is) ∙ take-append_seam rest (w ∷ []),
      subst (EndsFrom ws (set es k v)) last (ends_more ws es k v w there (omega arith) ended (subst (EndsFrom ws es) one_more f)),
    )
