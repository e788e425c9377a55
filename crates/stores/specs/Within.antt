-- What bounds the list of every store.
use Rattle.std.specs.Prelude.{ℕ, ◌≤◌, List, length}

pub record Within {C : Type 0} (cells : List C) (most : ℕ) : Type 0 where
  pub list : length cells ≤ most
  pub small : most ≤ 65535
