-- A pass over the records: the tokens written so far, before those that are still to be read.
use Rattle.std.proofs.Common.{◌≡◌, ℕ, suc, ◌+◌, ◌-◌, ◌<◌, ◌≤◌, List, [], ◌∷◌, ◌++◌, length, take, set, Some, None, Ok, Err, Result, sym, refl, ap, ◌∙◌, subst, arith}
use Rattle.std.proofs.lemmas.List.{append_assoc, append-nil, take_all, take_more_set}
use Rattle.table.specs.declared.token.Token.{Token}
use Rattle.table.specs.Naming.{token_in, before, tokens_from}

abbrev after : List Token → Result (List Token) ℕ → Result (List Token) ℕ
after ws (Ok vs) = Ok (ws ++ vs)
after ws (Err q) = Err q

-- what is read from the place p, with the first i tokens written and the others from `place` on to come
abbrev pub Passed : List ℕ → ℕ → ℕ → List Token → ℕ → ℕ → Type 0
Passed image p n tokens place i = tokens_from image p 0 n ≡ after (take i tokens) (tokens_from image place i (n - i))

-- a record more that is not there or not known ends it
abbrev pub Stops : List ℕ → ℕ → ℕ → List ℕ → ℕ → ℕ → Type 0
Stops image p n bytes place i = i < n → token_in bytes place ≡ None → tokens_from image p 0 n ≡ Err i

after_none : (r : Result (List Token) ℕ) → r ≡ after [] r
after_none (Ok vs) = refl
after_none (Err q) = refl

after_before : (ws : List Token) (w : Token) (i : ℕ) (r : Result (List Token) ℕ) → after ws (before (Some w) i r) ≡ after (ws ++ w ∷ []) r
after_before ws w i (Ok vs) = ap Ok (sym (append_assoc ws (w ∷ []) vs))
after_before ws w i (Err q) = refl

-- the next record of a pass that is not at its end
next : (image : List ℕ) (place i n : ℕ) → i < n → tokens_from image place i (n - i) ≡ before (token_in image place) i (tokens_from image (place + 8) (i + 1) (n - (i + 1)))
unfolding tokens_from
next image place i n h =
    let left : n - i ≡ suc (n - (i + 1)) = omega arith in
    let one : suc i ≡ i + 1 = omega arith in
    ap (tokens_from image place i) left ∙ ap (λ k. before (token_in image place) i (tokens_from image (place + 8) k (n - (i + 1)))) one

passed_stop : (image : List ℕ) (p n : ℕ) (tokens : List Token) (bytes : List ℕ) (place i : ℕ) → bytes ≡ image → Passed image p n tokens place i → Stops image p n bytes place i
passed_stop image p n tokens bytes place i same so h is =
    so
    ∙ ap (after (take i tokens)) (next image place i n h
    ∙ ap (λ o. before o i (tokens_from image (place + 8) (i + 1) (n - (i + 1)))) (ap (λ b. token_in b place) (sym same) ∙ is))

pub passed_none : (image : List ℕ) (p n : ℕ) (tokens : List Token) → Passed image p n tokens p 0 × Stops image p n image p 0
passed_none image p n tokens =
    let all : n ≡ n - 0 = omega arith in
    let so : Passed image p n tokens p 0 = ap (tokens_from image p 0) all ∙ after_none (tokens_from image p 0 (n - 0)) in
    (so, passed_stop image p n tokens image p 0 refl so)

more : (image : List ℕ) (p n : ℕ) (tokens : List Token) (place i : ℕ) (w : Token) → n ≡ length tokens → i < n → Some w ≡ token_in image place → Passed image p n tokens place i → Passed image p n (set tokens i w) (place + 8) (i + 1)
more image p n tokens place i w long h is so =
    let rest : Result (List Token) ℕ = tokens_from image (place + 8) (i + 1) (n - (i + 1)) in
    so
    ∙ ap (after (take i tokens)) (next image place i n h ∙ ap (λ o. before o i rest) (sym is))
    ∙ after_before (take i tokens) w i rest
    ∙ ap (λ ws. after ws rest) (sym (take_more_set tokens i w (omega arith)))

-- one record more, whose token is w: the reader's bytes are the image still, and its place is eight further
pub passed_more : (image : List ℕ) (p n : ℕ) (tokens : List Token) (bytes bytes' : List ℕ) (place place' i : ℕ) (w : Token) → n ≡ length tokens → i < n → bytes ≡ image → bytes' ≡ bytes → place' ≡ place + 8 → Some w ≡ token_in bytes place → Passed image p n tokens place i → (bytes' ≡ image) × Passed image p n (set tokens i w) place' (i + 1) × Stops image p n bytes' place' (i + 1)
passed_more image p n tokens bytes bytes' place place' i w long h same same' on is so =
    let to : Passed image p n (set tokens i w) (place + 8) (i + 1) = more image p n tokens place i w long h (is ∙ ap (λ b. token_in b place) same) so in
    let there : Passed image p n (set tokens i w) place' (i + 1) = subst (λ q. Passed image p n (set tokens i w) q (i + 1)) (sym on) to in
    (same' ∙ same, there, passed_stop image p n (set tokens i w) bytes' place' (i + 1) (same' ∙ same) there)

pub passed_all : (image : List ℕ) (p n : ℕ) (tokens : List Token) (place i : ℕ) → n ≡ length tokens → n ≤ i → Passed image p n tokens place i → tokens_from image p 0 n ≡ Ok tokens
unfolding tokens_from
passed_all image p n tokens place i long h so =
    let none : n - i ≡ 0 = omega arith in
    so
    ∙ ap (λ k. after (take i tokens) (tokens_from image place i k)) none
    ∙ ap Ok (append-nil (take i tokens) ∙ take_all i tokens (omega arith))
