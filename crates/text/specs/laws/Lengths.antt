-- How long a text is: numbers of two bytes have at most five digits, of four bytes ten, and a list a comma for each item.
use Rattle.std.specs.Prelude.{◌≡◌, refl, Bool, true, false, ℕ, zero, suc, ◌+◌, ◌*◌, ◌/◌, ◌%◌, ◌^◌, ◌≤◌, ◌<◌, length, ltb}
use mathlib.Core.List.{List, [], ◌∷◌, map}
use Prim.Native.String.{String}
use Rattle.std.proofs.Math.Nat.{pow-succ'}
use native.Mathlib.Omega.{arith}
use Rattle.std.proofs.Math.ListN.{length-append}
use Rattle.std.proofs.Common.{ltb-true, ltb-false}
use Rattle.meaning.specs.Lists.{total}
use Rattle.meaning.specs.Text.{Text, ascii, decimal, joined, listed}
use Rattle.text.specs.Text.{labeled, refusal_text}
use Rattle.text.specs.laws.Digits.{decimal_small, decimal_more}

-- One digit more for ten times the bound.
digit_more : (k b : ℕ) → ((m : ℕ) → m < b → length (decimal m) ≤ k) → (n : ℕ) → n < 10 * b → length (decimal n) ≤ suc k
digit_more k b few n h = by_size (ltb n 10) refl
  where
    by_size : (t : Bool) → ltb n 10 ≡ t → length (decimal n) ≤ suc k
    by_size true e = rw (decimal_small n (ltb-true n 10 e)) (omega arith)
    by_size false e =
        rw (decimal_more n (ltb-false n 10 e), length-append (decimal (n / 10)) ((48 + n % 10) ∷ []))
        (omega (arith, few (n / 10) (omega arith)))

few_digits : (k n : ℕ) → n < 10 ^ suc k → length (decimal n) ≤ suc k
few_digits zero n h = rw (decimal_small n h) (omega arith)
few_digits (suc k) n h = digit_more (suc k) (10 ^ suc k) (few_digits k) n (rw pow-succ' at h)

pub five_digits : (n : ℕ) → n < 65536 → length (decimal n) ≤ 5
five_digits n h = few_digits 4 n (omega arith)

pub ten_digits : (n : ℕ) → n < 4294967296 → length (decimal n) ≤ 10
ten_digits n h = few_digits 9 n (omega arith)

pub labeled_length : (label : String) (n : ℕ) → n < 65536 → length (labeled label n) ≤ length (ascii label) + 5
unfolding labeled
labeled_length label n h = rw length-append (omega (arith, five_digits n h))

-- The line of a refusal.
pub refusal_length : (n w : ℕ) → n < 65536 → w < 65536 → length (refusal_text n w) ≤ 20
unfolding refusal_text
refusal_length n w p q = simp length-append (omega (arith, labeled_length "refused " n p, labeled_length " " w q))

module _ {A : Type 0} (show : A → Text) where
  -- An item with its comma.
  abbrev pub item_length : A → ℕ
  item_length x = suc (length (show x))

  joined_length : (x : A) (xs : List A) → length (joined (ascii ",") (map show (x ∷ xs))) ≤ total item_length (x ∷ xs)
  unfolding joined
  joined_length x [] = omega arith
  joined_length x (y ∷ ys) = simp length-append (omega (arith, joined_length y ys))

  pub listed_length : (xs : List A) → length (listed show xs) ≤ 1 + total item_length xs
  unfolding listed
  listed_length [] = omega arith
  listed_length (x ∷ xs) = omega (arith, joined_length x xs)

  -- The first item is no longer than the list.
  pub first_length : (x : A) (xs : List A) → length (show x) ≤ length (listed show (x ∷ xs))
  unfolding listed joined
  first_length x [] = omega arith
  first_length x (y ∷ ys) = simp length-append (omega arith)
