-- What the card has is what was found, and the test of numbering goes token by token.
use Rattle.std.proofs.Common.{◌≡◌, ℕ, zero, suc, ◌+◌, ◌<◌, ◌≤◌, false, cond, ltb, List, [], ◌∷◌, length, get_or, drop, is_some, Some, Option, sym, refl, ap, ◌∙◌, arith}
use Rattle.std.proofs.lemmas.List.{drop_more}
use Rattle.std.proofs.lemmas.Bool.{le-ltb, lt-ltb}
use Rattle.std.proofs.lemmas.Bool.Decides.{nat_tests}
use Rattle.battery.specs.Tree.{at, Card}
use Rattle.table.specs.declared.token.Token.{Token}
use Rattle.table.specs.declared.token.Token.TheVariants.{Close as CLOSE}
use Rattle.numbering.specs.Numbering.{is_there, Seen, seen, numbered, misnumbered}
use Rattle.numbering.proofs.Standing.{Matched, neither, each}

pub below_there : {A : Type 0} (xs : List A) (k : ℕ) → ltb k (length xs) ≡ is_there (at xs k)
below_there [] k = le-ltb k 0 (omega arith)
below_there (x ∷ xs) zero = lt-ltb 0 (suc (length xs)) (omega arith)
below_there (x ∷ xs) (suc k) = shifted k (length xs) ∙ below_there xs k
  where
    shifted : (k n : ℕ) → ltb (suc k) (suc n) ≡ ltb k n
    shifted k n = grind (arith, nat_tests)

pub matched_there : {A B : Type 0} {R : A → B → Type 0} {o : Option A} {q : Option B} → Matched R o q → is_some o ≡ is_there q
matched_there neither = refl
matched_there (each r) = refl

-- the counts are no more than the tokens that went before
abbrev pub Within : ℕ → Seen → Type 0
Within i s = (s.enums ≤ i) × (s.defs ≤ i) × (s.cases ≤ i)

pub out_of_order : (C : Card) (t : ℕ) (ws : List Token) (i : ℕ) (s : Seen) → i < length ws → false ≡ numbered C t s (get_or ws i CLOSE) → misnumbered C t i s (drop i ws) ≡ Some i
out_of_order C t ws i s h e =
    ap (misnumbered C t i s) (drop_more ws i CLOSE h)
    ∙ ap (λ b. cond b (misnumbered C t (suc i) (seen s (get_or ws i CLOSE)) (drop (i + 1) ws)) (Some i)) (sym e)
