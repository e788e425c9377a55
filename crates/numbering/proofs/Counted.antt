-- What one more token adds to the places found, and how many there can be.
use Rattle.std.proofs.Common.{◌≡◌, ℕ, suc, ◌+◌, ◌<◌, ◌≤◌, List, [], ◌∷◌, ◌++◌, length, get_or, take, sym, ap, ◌∙◌, arith}
use Rattle.std.proofs.lemmas.List.{length-take-le, take_more}
use Rattle.table.specs.declared.token.Token.{Token}
use Rattle.table.specs.declared.token.Token.TheVariants.{Close as CLOSE, Enum as ENUM, Case as CASE, Def as DEF, Ty as TYPE, Arm as ARM, Expr as EXPR}
use Rattle.numbering.specs.Places.{firsts_in, cases_in, functions_in}

under : {a : ℕ} {xs ys : List ℕ} → xs ≡ ys → a ∷ xs ≡ a ∷ ys
under {a = a} e = ap (λ (u : List ℕ). a ∷ u) e

moved : (f : ℕ → List Token → List ℕ) (w : Token) {m n : ℕ} → m ≡ n → f m (w ∷ []) ≡ f n (w ∷ [])
moved f w e = ap (λ k. f k (w ∷ [])) e

-- what one more token at q adds behind the tokens from p on
cases_more : (p q : ℕ) (us : List Token) (w : Token) → q ≡ p + length us → cases_in p (us ++ w ∷ []) ≡ cases_in p us ++ cases_in q (w ∷ [])
cases_more p q [] w e = moved cases_in w (omega arith)
cases_more p q (CLOSE ∷ us) w e = cases_more (suc p) q us w (omega arith)
cases_more p q (ENUM k ∷ us) w e = cases_more (suc p) q us w (omega arith)
cases_more p q (CASE n k ∷ us) w e = under (cases_more (suc p) q us w (omega arith))
cases_more p q (DEF n k ∷ us) w e = cases_more (suc p) q us w (omega arith)
cases_more p q (TYPE τ ∷ us) w e = cases_more (suc p) q us w (omega arith)
cases_more p q (ARM n x k ∷ us) w e = cases_more (suc p) q us w (omega arith)
cases_more p q (EXPR h ∷ us) w e = cases_more (suc p) q us w (omega arith)

functions_more : (p q : ℕ) (us : List Token) (w : Token) → q ≡ p + length us → functions_in p (us ++ w ∷ []) ≡ functions_in p us ++ functions_in q (w ∷ [])
functions_more p q [] w e = moved functions_in w (omega arith)
functions_more p q (CLOSE ∷ us) w e = functions_more (suc p) q us w (omega arith)
functions_more p q (ENUM k ∷ us) w e = functions_more (suc p) q us w (omega arith)
functions_more p q (CASE n k ∷ us) w e = functions_more (suc p) q us w (omega arith)
functions_more p q (DEF n k ∷ us) w e = under (functions_more (suc p) q us w (omega arith))
functions_more p q (TYPE τ ∷ us) w e = functions_more (suc p) q us w (omega arith)
functions_more p q (ARM n x k ∷ us) w e = functions_more (suc p) q us w (omega arith)
functions_more p q (EXPR h ∷ us) w e = functions_more (suc p) q us w (omega arith)

-- the count of cases goes on from any number of them, and their places from any
firsts_more : (c p q : ℕ) (us : List Token) (w : Token) → q ≡ c + length (cases_in p us) → firsts_in c (us ++ w ∷ []) ≡ firsts_in c us ++ firsts_in q (w ∷ [])
firsts_more c p q [] w e = moved firsts_in w (omega arith)
firsts_more c p q (CLOSE ∷ us) w e = firsts_more c (suc p) q us w e
firsts_more c p q (ENUM k ∷ us) w e = under (firsts_more c (suc p) q us w e)
firsts_more c p q (CASE n k ∷ us) w e = firsts_more (suc c) (suc p) q us w (omega arith)
firsts_more c p q (DEF n k ∷ us) w e = firsts_more c (suc p) q us w e
firsts_more c p q (TYPE τ ∷ us) w e = firsts_more c (suc p) q us w e
firsts_more c p q (ARM n x k ∷ us) w e = firsts_more c (suc p) q us w e
firsts_more c p q (EXPR h ∷ us) w e = firsts_more c (suc p) q us w e

-- no more of each than there are tokens
pub few_found : (c p : ℕ) (us : List Token) → (length (firsts_in c us) ≤ length us) × (length (cases_in p us) ≤ length us) × (length (functions_in p us) ≤ length us)
few_found c p [] = (omega arith, omega arith, omega arith)
few_found c p (CLOSE ∷ us) = let h = few_found c (suc p) us in (omega arith, omega arith, omega arith)
few_found c p (ENUM k ∷ us) = let h = few_found c (suc p) us in (omega arith, omega arith, omega arith)
few_found c p (CASE n k ∷ us) = let h = few_found (suc c) (suc p) us in (omega arith, omega arith, omega arith)
few_found c p (DEF n k ∷ us) = let h = few_found c (suc p) us in (omega arith, omega arith, omega arith)
few_found c p (TYPE τ ∷ us) = let h = few_found c (suc p) us in (omega arith, omega arith, omega arith)
few_found c p (ARM n x k ∷ us) = let h = few_found c (suc p) us in (omega arith, omega arith, omega arith)
few_found c p (EXPR h ∷ us) = let l = few_found c (suc p) us in (omega arith, omega arith, omega arith)

-- one more token read
module _ (ws : List Token) (i : ℕ) (h : i < length ws) where
  taken : take (i + 1) ws ≡ take i ws ++ get_or ws i CLOSE ∷ []
  taken = take_more ws i CLOSE h

  counted : 0 + length (take i ws) ≡ i
  counted = omega (arith, length-take-le i ws (omega arith))

  pub cases_read : (xs ys : List ℕ) → xs ≡ cases_in 0 (take i ws) → ys ≡ xs ++ cases_in i (get_or ws i CLOSE ∷ []) → ys ≡ cases_in 0 (take (i + 1) ws)
  cases_read xs ys e q =
      q ∙ ap (λ u. u ++ cases_in i (get_or ws i CLOSE ∷ [])) e
      ∙ sym (ap (cases_in 0) taken ∙ cases_more 0 i (take i ws) (get_or ws i CLOSE) (sym counted))

  pub functions_read : (xs ys : List ℕ) → xs ≡ functions_in 0 (take i ws) → ys ≡ xs ++ functions_in i (get_or ws i CLOSE ∷ []) → ys ≡ functions_in 0 (take (i + 1) ws)
  functions_read xs ys e q =
      q ∙ ap (λ u. u ++ functions_in i (get_or ws i CLOSE ∷ [])) e
      ∙ sym (ap (functions_in 0) taken ∙ functions_more 0 i (take i ws) (get_or ws i CLOSE) (sym counted))

  pub firsts_read : (xs ys cs : List ℕ) → xs ≡ firsts_in 0 (take i ws) → cs ≡ cases_in 0 (take i ws) → ys ≡ xs ++ firsts_in (length cs) (get_or ws i CLOSE ∷ []) → ys ≡ firsts_in 0 (take (i + 1) ws)
  firsts_read xs ys cs e d q =
      q ∙ ap (λ u. u ++ firsts_in (length cs) (get_or ws i CLOSE ∷ [])) e
      ∙ sym (ap (firsts_in 0) taken ∙ firsts_more 0 0 (length cs) (take i ws) (get_or ws i CLOSE) (omega (arith, ap length d)))
