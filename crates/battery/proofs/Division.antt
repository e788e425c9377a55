-- Division of integers toward zero: the remainder is what the dividend has over the divisor's product with the quotient, and it is smaller than the divisor.
use Rattle.std.proofs.Common.{◌≡◌, ℕ, zero, suc, ◌*◌, ◌/◌, ◌%◌, ◌<◌, ◌≢◌, ℤ, pos, negsuc, ◌-ℤ◌, ◌*ℤ◌, neg_ℤ, nat_abs, sym, refl, ap, ◌∙◌, mod-lt, mul-zero, arith}
use native.Mathlib.Nat.{mod-add-div}
use lib.IntN.{neg_ℤ-+ℤ, +ℤ-neg_ℤ_cancel}
use lib.Signed.{quot_z, rem_z}

-- of two naturals, and both sides negated
over : (a b : ℕ) → pos (a % b) ≡ pos a -ℤ pos (b * (a / b))
over a b = sym (+ℤ-neg_ℤ_cancel (pos (a % b)) (pos (b * (a / b)))) ∙ ap (λ (x : ℕ). pos x -ℤ pos (b * (a / b))) (mod-add-div a b)

under : (a b : ℕ) → neg_ℤ (pos (a % b)) ≡ neg_ℤ (pos a) -ℤ neg_ℤ (pos (b * (a / b)))
under a b = ap neg_ℤ (over a b) ∙ neg_ℤ-+ℤ (pos a) (neg_ℤ (pos (b * (a / b))))

-- a product with a quotient that is not positive
pos_times : (b k : ℕ) → pos b *ℤ neg_ℤ (pos k) ≡ neg_ℤ (pos (b * k))
pos_times b zero = rw mul-zero
pos_times b (suc k) = refl

neg_times : (b k : ℕ) → negsuc b *ℤ neg_ℤ (pos k) ≡ pos (suc b * k)
neg_times b zero = rw mul-zero
neg_times b (suc k) = refl

pub remainder_is_left : (m n : ℤ) → n ≢ pos 0 → rem_z m n ≡ m -ℤ (n *ℤ quot_z m n)
remainder_is_left (pos a) (pos b) h = over a b
remainder_is_left (pos a) (negsuc b) h = rw (neg_times b (a / suc b)) (over a (suc b))
remainder_is_left (negsuc a) (pos b) h = rw (pos_times b (suc a / b)) (under (suc a) b)
remainder_is_left (negsuc a) (negsuc b) h = under (suc a) (suc b)

-- the size of a number does not depend on its sign
size_neg : (k : ℕ) → nat_abs (neg_ℤ (pos k)) ≡ k
size_neg zero = refl
size_neg (suc k) = refl

size_pos : (n : ℤ) → n ≢ pos 0 → 0 < nat_abs n
size_pos (pos zero) h = absurd (h refl)
size_pos (pos (suc b)) h = omega arith
size_pos (negsuc b) h = omega arith

pub remainder_is_small : (m n : ℤ) → n ≢ pos 0 → nat_abs (rem_z m n) < nat_abs n
remainder_is_small (pos a) n h = mod-lt a (size_pos n h)
remainder_is_small (negsuc a) n h = rw size_neg (mod-lt (suc a) (size_pos n h))
