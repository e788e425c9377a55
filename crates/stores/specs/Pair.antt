-- What two stores mean of which one is filled after the other.
use Rattle.std.specs.Prelude.{ℕ, ◌+◌, min, cond, List, ◌++◌, length, take, nat_lt}

-- the most, from those of the two
abbrev pub sum : ℕ → ℕ → ℕ
sum m n = min (m + n) 65535

module _ {C : Type 0} where
  -- the list: the second's cells count once the first has as many as it can, up to 65,535 in all
  abbrev pub chain : List C → ℕ → List C → List C
  chain xs m ys = cond (nat_lt (length xs) m) xs (take 65535 (xs ++ ys))
