-- Sums, and answers in two bytes.
use mathlib.Core.Path.{◌≡◌, refl, ap, ◌∙◌}
use mathlib.Core.Bool.{Bool}
use mathlib.Core.List.{List, [], ◌∷◌}
use Prim.Native.Nat.{ℕ, ◌+◌, ◌%◌, ◌≤◌, ◌<◌}
use native.Mathlib.Omega.{arith}
use lib.ListN.{take}
use Rattle.std.specs.Prelude.{Ok, Err, fold}
use Rattle.format.specs.Accept.{accept}
use Rattle.format.proofs.laws.Refusals.{refusal_range}
use Rattle.text_parts.specs.Listing.{shown_text}
use Rattle.store.specs.Refusals.{refusal_number, refusal_word}
use Rattle.store.specs.declared.refusals.Refusal.{Refusal}
use Rattle.accept.specs.Judged.{words_given, not_given}
use Rattle.accept.specs.Accepts.{Accepts}
use Rattle.text.specs.Whole.{InFront}
use Rattle.damage.specs.declared.answers.Brief.{Brief}
use Rattle.damage.specs.Answers.{sum_from, brief, is_listed, as_listed}

pub folded : (n : ℕ) (text : List ℕ) → fold (λ a b. (a + b) % 256) n text ≡ sum_from n text
unfolding sum_from
folded n [] = refl
folded n (b ∷ bs) = folded ((n + b) % 256) bs

pub summed_shown : {text after : List ℕ} {n r : ℕ} → InFront text after n → r ≡ sum_from 0 (take n after) → r ≡ sum_from 0 text
summed_shown front is = is ∙ ap (sum_from 0) front.is

module _ (s old new : List ℕ) where
  -- a refusal's number and word fit a byte
  pub of_refusal : {why : Refusal} → Accepts s old new (Err why) → {n w : ℕ} → n ≡ refusal_number why → w ≡ refusal_word why
      → ◌≡◌ {A = Brief} (record { number = n % 256; word = w % 256 }) (brief (accept s))
  of_refusal {why} x {n} {w} p q =
      let bad = not_given (accept s) x.answer in
      let range = rw bad at (refusal_range s) in
      let small : refusal_number why ≤ 8 = range.0.1 in
      let low : refusal_word why < 32 = range.1 in
      let number : n % 256 ≡ refusal_number why = omega arith in
      let word : w % 256 ≡ refusal_word why = omega arith in
      rw bad (cc)

  pub of_record : {u : Unit {0}} → Accepts s old new (Ok u) → {b : ℕ} → b ≡ sum_from 0 (shown_text (accept s))
      → ◌≡◌ {A = Brief} (record { number = 0; word = b }) (brief (accept s))
  of_record x q =
      let taken = words_given (accept s) x.answer in
      let sum = rw taken.is at q in
      rw taken.is (cc)

-- One question's answer, compared.
pub listed_right : (s answers : List ℕ) (k : ℕ) {t : List ℕ} {a : Brief} {r : Bool} → a ≡ brief (accept t) → t ≡ s
    → r ≡ is_listed a answers k
    → r ≡ as_listed s answers k
listed_right s answers k is same told = told ∙ ap (λ x. is_listed x answers k) (is ∙ ap (λ x. brief (accept x)) same)
