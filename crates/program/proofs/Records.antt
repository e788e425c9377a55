-- The tokens read behind a header are those of the records there.
use Rattle.std.proofs.Common.{◌≡◌, ℕ, suc, ◌+◌, ◌*◌, ◌≤◌, List, [], ◌∷◌, length, Some, None, Ok, Err, Option, Result, MatchResult, sym, refl, ap, subst}
use Rattle.std.specs.Result.{result_ok}
use Rattle.battery.specs.Tree.{◌▸◌}
use Rattle.image.specs.Bytes.{records_from}
use Rattle.image.specs.declared.record.Record.{Record}
use Rattle.table.specs.declared.token.Token.{Token}
use Rattle.table.specs.Naming.{token_of, tokens_of, tokens_from, unknown}
use Rattle.table.proofs.Tokens.{known_from, unknown_from}
use Rattle.numbering.proofs.Options.{never}

head_unknown : (o : Option Token) (p q : ℕ) (os : Option ℕ) (ts : Option (List Token)) → (os ≡ Some q → ts ≡ None) → elim o [ None ↦ Some p | Some w ↦ os ] ≡ Some q → (o ▸ λ w. ts ▸ λ ws. Some (w ∷ ws)) ≡ None
head_unknown None p q os ts rest e = refl
head_unknown (Some w) p q os ts rest e = ap (λ (o : Option (List Token)). o ▸ λ ws. Some (w ∷ ws)) (rest e)

no_tokens : (p : ℕ) (rs : List Record) (q : ℕ) → unknown p rs ≡ Some q → tokens_of rs ≡ None
no_tokens p [] q e = never e
no_tokens p (r ∷ rs) q e = head_unknown (token_of r) p q (unknown (suc p) rs) (tokens_of rs) (no_tokens (suc p) rs q) e

-- what a reader at byte 9 of the image found, and what `ok()` keeps of it
module _ (image : List ℕ) (n : ℕ) (within : 9 + 8 * n ≤ length image) (bytes : List ℕ) (p m : ℕ) (same : bytes ≡ image) (at_9 : p ≡ 9) (as_many : m ≡ n) (ws : List Token) where
  found : (r : Result (List Token) ℕ) → tokens_from bytes p 0 m ≡ r → tokens_from image 9 0 n ≡ r
  found r e = subst (λ bs. tokens_from bs 9 0 n ≡ r) same (subst (λ q. tokens_from bytes q 0 n ≡ r) at_9 (subst (λ k. tokens_from bytes p 0 k ≡ r) as_many e))

  abbrev Told : Result (Unit {0}) ℕ → Type 0
  Told r = MatchResult r (λ _. tokens_from bytes p 0 m ≡ Ok ws) (λ q. tokens_from bytes p 0 m ≡ Err q)

  pub all_known : (r : Result (Unit {0}) ℕ) {u : Unit {0}} → Told r → Some u ≡ result_ok r → tokens_of (records_from image 9 n) ≡ Some ws
  all_known (Ok u) told e = known_from image 9 0 n ws within (found (Ok ws) told)
  all_known (Err q) told e = never (sym e)

  pub one_unknown : (r : Result (Unit {0}) ℕ) → Told r → None ≡ result_ok r → tokens_of (records_from image 9 n) ≡ None
  one_unknown (Ok u) told e = never e
  one_unknown (Err q) told e = no_tokens 0 (records_from image 9 n) q (unknown_from image 9 0 n q within (found (Err q) told))
