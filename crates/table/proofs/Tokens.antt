-- The tokens read from a place on are those of the records there, and a refusal is the lowest unknown record.
use Rattle.std.proofs.Common.{◌≡◌, ℕ, zero, suc, ◌+◌, ◌*◌, ◌≤◌, cond, List, ◌∷◌, length, Some, None, Ok, Err, Option, Result, sym, refl, ap, ◌∙◌, arith, le-leb}
use Rattle.battery.specs.Tree.{◌▸◌}
use Rattle.image.specs.Bytes.{records_from, fields_of, part}
use Rattle.table.specs.declared.token.Token.{Token}
use Rattle.table.specs.Naming.{token_of, tokens_of, unknown, token_in, before, tokens_from}

-- within the image a place has a record
pub token_in_lem : (image : List ℕ) (p : ℕ) → p + 8 ≤ length image → token_in image p ≡ token_of (fields_of (part image p 8))
unfolding token_in
token_in_lem image p h = ap (λ b. cond b (Some (fields_of (part image p 8))) None ▸ token_of) (le-leb (p + 8) (length image) h)

known_first : (o : Option Token) (i : ℕ) (r : Result (List Token) ℕ) (os : Option (List Token)) (ws : List Token) → ((vs : List Token) → r ≡ Ok vs → os ≡ Some vs) → before o i r ≡ Ok ws → (o ▸ λ v. os ▸ λ vs. Some (v ∷ vs)) ≡ Some ws
known_first None i r os ws rest e = let z : ◌≡◌ {A = ℕ} 0 1 = cc in absurd (omega arith)
known_first (Some w) i (Ok vs) os ws rest e = ap (λ o. o ▸ λ us. Some (w ∷ us)) (rest vs refl) ∙ (cc)
known_first (Some w) i (Err q) os ws rest e = let z : ◌≡◌ {A = ℕ} 0 1 = cc in absurd (omega arith)

unknown_first : (o : Option Token) (i q : ℕ) (r : Result (List Token) ℕ) (os : Option ℕ) → (r ≡ Err q → os ≡ Some q) → before o i r ≡ Err q → elim o [ None ↦ Some i | Some w ↦ os ] ≡ Some q
unknown_first None i q r os rest e = cc
unknown_first (Some w) i q (Ok vs) os rest e = let z : ◌≡◌ {A = ℕ} 0 1 = cc in absurd (omega arith)
unknown_first (Some w) i q (Err q') os rest e = rest e

pub known_from : (image : List ℕ) (p i n : ℕ) (ws : List Token) → p + 8 * n ≤ length image → tokens_from image p i n ≡ Ok ws → tokens_of (records_from image p n) ≡ Some ws
unfolding tokens_from
known_from image p i zero ws h e = cc
known_from image p i (suc n) ws h e =
    let here = token_in_lem image p (omega arith) in
    let first = ap (λ o. before o i (tokens_from image (p + 8) (suc i) n)) (sym here) ∙ e in
    known_first (token_of (fields_of (part image p 8))) i (tokens_from image (p + 8) (suc i) n) (tokens_of (records_from image (p + 8) n)) ws (λ vs f. known_from image (p + 8) (suc i) n vs (omega arith) f) first

pub unknown_from : (image : List ℕ) (p i n q : ℕ) → p + 8 * n ≤ length image → tokens_from image p i n ≡ Err q → unknown i (records_from image p n) ≡ Some q
unfolding tokens_from
unknown_from image p i zero q h e = let z : ◌≡◌ {A = ℕ} 0 1 = cc in absurd (omega arith)
unknown_from image p i (suc n) q h e =
    let here = token_in_lem image p (omega arith) in
    let first = ap (λ o. before o i (tokens_from image (p + 8) (suc i) n)) (sym here) ∙ e in
    unknown_first (token_of (fields_of (part image p 8))) i q (tokens_from image (p + 8) (suc i) n) (unknown (suc i) (records_from image (p + 8) n)) (λ f. unknown_from image (p + 8) (suc i) n q (omega arith) f) first
