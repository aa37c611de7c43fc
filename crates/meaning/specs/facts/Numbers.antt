-- Numbers: what is left of a count, a number and the one before it, a bit of a byte.
use Rattle.std.specs.Prelude.{◌≡◌, ℕ, zero, suc, pred, ◌+◌, ◌-◌, ◌*◌, ◌%◌, ◌^◌, ◌≤◌, ◌<◌, max}
use Rattle.std.proofs.Common.{arith}
use Rattle.std.proofs.Math.Pow.{pow-lt}

-- What is left before a turn is one more than after it.
pub one_less : (n k : ℕ) → k < n → n - k ≡ suc (n - (k + 1))
one_less n k l = omega arith

pub none_left : (n k : ℕ) → n ≤ k → n - k ≡ 0
none_left n k l = omega arith

-- Places of a list, counted from n on.
pub no_further : (n : ℕ) → n + 0 ≡ n
no_further n = omega arith

pub one_further : (n m : ℕ) → n + suc m ≡ suc n + m
one_further n m = omega arith

pub from_none : (n : ℕ) → 0 + n ≡ n
from_none n = omega arith

pub max_assoc : (a b c : ℕ) → max (max a b) c ≡ max a (max b c)
max_assoc a b c = omega arith

pub pred_below : (n : ℕ) → 1 ≤ n → pred n < n
pred_below zero le = absurd (omega arith)
pred_below (suc n) le = omega arith

pub one_bit : (bit : ℕ) → 1 * 2 ^ (bit % 8) % 256 ≡ 2 ^ (bit % 8)
one_bit bit = let small : 2 ^ (bit % 8) < 256 = pow-lt {j = 8} (omega arith) in omega arith
