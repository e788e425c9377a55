-- The arms from a place on, each behind the part of the one before it, as a layout's ends have them.
use Rattle.std.specs.Prelude.{ℕ, zero, suc, ◌+◌, max, Bool, false, cond, List, [], ◌∷◌, length, filter, Some, None, Option, ◌==◌, nat_lt, slice_index}
use Rattle.battery.specs.Tree.{at, ◌▸◌}
use Rattle.table.specs.declared.token.Arm.{Arm}
use Rattle.table.specs.declared.token.Token.{Token}
use Rattle.table.specs.Sorts.{arm_in, field_count}
use Rattle.numbering.specs.Places.{case_place}
use Rattle.numbering.specs.Views.{tokens_in, ends_in}
use Rattle.rules.specs.declared.arms.ArmsFrom.{ArmsFrom}

-- the end of an arm's part, never before the part itself
abbrev pub next_place : List Token → List ℕ → ℕ → ℕ
next_place ws es p = max (cond (nat_lt (p + 1) (length ws)) (slice_index es (p + 1)) (length ws)) (p + 1)

abbrev pub while_some : {A : Type 0} → Option A → List A → List A
while_some None xs = []
while_some (Some a) xs = a ∷ xs

-- n of them at most
abbrev pub next_arms : ℕ → List Token → List ℕ → ℕ → List Arm
next_arms zero ws es p = []
next_arms (suc n) ws es p = while_some (arm_in (at ws p)) (next_arms n ws es (next_place ws es p))

abbrev pub arms_left : ArmsFrom → List Arm
arms_left s = next_arms (length (tokens_in s.card.now)) (tokens_in s.card.now) (ends_in s.card.now) s.place

abbrev pub taken_once : List Arm → ℕ → Bool
taken_once as' k = length (filter (λ a. a.case == k) as') == 1

-- how many fields a case of an enum has
abbrev pub so_many : ℕ → Option ℕ → Bool
so_many n None = false
so_many n (Some m) = n == m

abbrev pub fields_in : List Token → ℕ → ℕ → Option ℕ
fields_in ws k c = case_place ws k c ▸ λ p. field_count (at ws p)

abbrev pub names_fit : List Token → ℕ → Arm → Bool
names_fit ws k a = so_many a.names (fields_in ws k a.case)
