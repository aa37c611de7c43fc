-- Laws of numbers in base ten: the last digit, and those before it.
use Rattle.std.specs.Prelude.{◌≡◌, refl, Bool, true, false, [], ◌∷◌, ◌++◌, ℕ, zero, suc, ◌+◌, ◌/◌, ◌%◌, ◌≤◌, ◌<◌, ltb}
use Rattle.std.proofs.Common.{sym, ap, ◌∙◌, not-suc-le-zero, arith, lt-ltb, le-ltb, ltb-true, ltb-false}
use Rattle.meaning.specs.Text.{digits, decimal}

digits_small : (k n : ℕ) → n < 10 → digits (suc k) n ≡ (48 + n) ∷ []
unfolding digits
digits_small k n h = rw (digits, lt-ltb n 10 h)

digits_more : (k n : ℕ) → 10 ≤ n → digits (suc k) n ≡ digits k (n / 10) ++ ((48 + n % 10) ∷ [])
unfolding digits
digits_more k n h = rw (digits, le-ltb n 10 h)

digits_enough : (k m n : ℕ) → n < k → n < m → digits k n ≡ digits m n
digits_enough zero m n p q = absurd (not-suc-le-zero p)
digits_enough (suc k) zero n p q = absurd (not-suc-le-zero q)
digits_enough (suc k) (suc m) n p q =
    by_size (ltb n 10) refl λ h. digits_enough k m (n / 10) (omega arith) (omega arith)
  where
    by_size : (t : Bool) → ltb n 10 ≡ t → (10 ≤ n → digits k (n / 10) ≡ digits m (n / 10)) → digits (suc k) n ≡ digits (suc m) n
    by_size true e more = let h = ltb-true n 10 e in digits_small k n h ∙ sym (digits_small m n h)
    by_size false e more =
        let h = ltb-false n 10 e in
        digits_more k n h ∙ ap (λ l. l ++ ((48 + n % 10) ∷ [])) (more h) ∙ sym (digits_more m n h)

pub decimal_small : (n : ℕ) → n < 10 → decimal n ≡ (48 + n) ∷ []
unfolding decimal
decimal_small n h = digits_small n n h

pub decimal_more : (n : ℕ) → 10 ≤ n → decimal n ≡ decimal (n / 10) ++ ((48 + n % 10) ∷ [])
unfolding decimal
decimal_more n h =
    digits_more n n h ∙ ap (λ l. l ++ ((48 + n % 10) ∷ [])) (digits_enough n (suc (n / 10)) (n / 10) (omega arith) (omega arith))
