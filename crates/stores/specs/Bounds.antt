-- Why each make of store keeps its list within its most: `Store` asks for it as a member, so it stands here.
use Rattle.std.specs.Prelude.{ℕ, Bool, true, false, cond, List, ◌++◌, length, take, nat_lt}
use Rattle.std.proofs.Common.{arith, length-take, length-append}
use Rattle.std.proofs.lemmas.List.{length-map}
use Rattle.cells.specs.declared.cell.Cell.{Cell}
use Rattle.stores.specs.Within.{Within}
use Rattle.stores.specs.Pair.{chain, sum}
use Rattle.stores.specs.Plain.{held, room}

pub held_within : (used : ℕ) (slots : List Cell) → Within (held used slots) (room slots)
held_within used slots = record { list = simp (length-map, length-take) (omega arith); small = omega arith }

module _ {C : Type 0} where
  chain_cases : (b : Bool) (xs ys : List C) (m n : ℕ) → Within xs m → Within ys n → Within (cond b xs (take 65535 (xs ++ ys))) (sum m n)
  chain_cases true xs ys m n a b = record { list = omega arith; small = omega arith }
  chain_cases false xs ys m n a b = record { list = simp (length-take, length-append) (omega arith); small = omega arith }

  pub chain_within : (xs ys : List C) (m n : ℕ) → Within xs m → Within ys n → Within (chain xs m ys) (sum m n)
  chain_within xs ys m n a b = chain_cases (nat_lt (length xs) m) xs ys m n a b
