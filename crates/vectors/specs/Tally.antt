-- How a tally counts.
use Rattle.std.specs.Prelude.{◌≡◌, Bool, true, false, ℕ, zero, suc, ◌+◌, ltb}
use Rattle.std.proofs.Common.{sym, ap, ◌∙◌, add-one}
use Rattle.vectors.specs.declared.Tally.{Tally}

-- The next number, as long as it fits 32 bits.
abbrev pub one_more_told : ℕ → ℕ
one_more_told n = elim (ltb n 4294967295) [ true ↦ n + 1 | false ↦ n ]

-- One more answer, which agrees or differs.
abbrev pub told_of : Tally → Bool → Tally
told_of t true = record { agree = one_more_told t.agree; differ = t.differ }
told_of t false = record { agree = t.agree; differ = one_more_told t.differ }

-- The answers to questions 0 to n - 1.
unfoldable pub tally_of : (ℕ → Bool) → ℕ → Tally
tally_of agrees zero = record { agree = 0; differ = 0 }
tally_of agrees (suc n) = told_of (tally_of agrees n) (agrees n)

pub tally_next : (agrees : ℕ → Bool) (n : ℕ) → {t next : Tally} → t ≡ tally_of agrees n → {a : Bool} → a ≡ agrees n → next ≡ told_of t a
    → next ≡ tally_of agrees (n + 1)
unfolding tally_of
tally_next agrees n {t} before {a} is same =
    same ∙ ap (λ x. told_of x a) before ∙ ap (told_of (tally_of agrees n)) is ∙ ap (tally_of agrees) (sym (add-one n))
