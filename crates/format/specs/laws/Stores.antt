-- A store by its tests: the zero words, the checks and the blocks one more at a time; each path through the whole; what an accepted
-- store is; the words of a store of bytes.
use Rattle.std.specs.Prelude.{◌≡◌, refl, Bool, true, false, ◌&&◌, List, ℕ, zero, suc, ◌+◌, ◌*◌, ◌/◌, ◌%◌, ◌-◌, ◌≤◌, ◌<◌, length, get_or, eqb, leb, ltb}
use Rattle.std.proofs.Common.{sym, ap, ◌∙◌, subst, ⊎_elim, add-one, arith, mul-le-mul, not-suc-le-zero, eq-or-lt_of_le, le_of_suc-le-suc, eq-eqb, ne_eqb, lt-ltb, le-leb, leb-true, ltb-true, eqb-true}
use Rattle.std.proofs.lemmas.Bool.{lt-leb}
use Rattle.meaning.specs.Lists.{tabulate, All}
use Rattle.meaning.specs.facts.Tests.{clash, and_both}
use Rattle.meaning.specs.facts.Elements.{length_tabulate, all_tabulate}
use Rattle.format.specs.Store.{Answer, accepted, refused, if_accepted, pair, weighted, number_right, check_right, blocks_checked}
use Rattle.format.specs.Store.{word_at, all_zero, length_right, blocks_for, count_right, store_words}
use Rattle.format.specs.Refusals.{wrong_length, wrong_block_number, wrong_check, wrong_word_count}

-- ---- the words behind W
pub zero_more : (s : List ℕ) (j n : ℕ) → all_zero s j n ≡ true → word_at s (j + n) ≡ 0 → all_zero s j (n + 1) ≡ true
unfolding all_zero
zero_more s j n e z = ap (all_zero s j) (add-one n) ∙ rw (e, eq-eqb (word_at s (j + n)) 0 z) refl

-- One word that is not zero decides the test.
pub zero_stays : (s : List ℕ) (j n m : ℕ) → all_zero s j n ≡ true → (word_at s (j + n) ≡ 0 → ⊥) → n < m → all_zero s j m ≡ false
unfolding all_zero
zero_stays s j n zero e z l = absurd (not-suc-le-zero l)
zero_stays s j n (suc m) e z l =
    ⊎_elim
    (λ q. rw (← q, e, ne_eqb (word_at s (j + n)) 0 z) refl)
    (λ q. rw (zero_stays s j n m e z q) refl)
    (eq-or-lt_of_le (le_of_suc-le-suc l))

pub zero_each : (s : List ℕ) (j n k : ℕ) → all_zero s j n ≡ true → k < n → word_at s (j + k) ≡ 0
unfolding all_zero
zero_each s j zero k e l = absurd (not-suc-le-zero l)
zero_each s j (suc n) k e l =
    let h = and_both (all_zero s j n) (eqb (word_at s (j + n)) 0) e in
    ⊎_elim
    (λ q. ap (λ i. word_at s (j + i)) q ∙ eqb-true (word_at s (j + n)) 0 h.1)
    (λ q. zero_each s j n k h.0 q)
    (eq-or-lt_of_le (le_of_suc-le-suc l))

module _ (s : List ℕ) (n w : ℕ) where
  pub count_none : w ≡ 0 → false ≡ count_right s n w
  count_none e = rw e refl

  pub count_other : (w ≡ 0 → ⊥) → ((w + 252) / 253 ≡ n → ⊥) → false ≡ count_right s n w
  count_other e h = rw (lt-ltb 0 w (omega arith), ne_eqb n ((w + 252) / 253) (λ q. h (sym q))) refl

  pub count_rest : (w ≡ 0 → ⊥) → (w + 252) / 253 ≡ n → all_zero s w (253 * n - w) ≡ count_right s n w
  count_rest e h = rw (lt-ltb 0 w (omega arith), eq-eqb n ((w + 252) / 253) (sym h)) refl

-- ---- the blocks
-- A byte times its weight in a block.
pub weight_bound : (b n : ℕ) → b < 256 → n < 508 → b * (n + 1) ≤ 129540
weight_bound b n p q = mul-le-mul {n₁ = b} {m₁ = n + 1} {n₂ = 255} {m₂ = 508} (omega arith) (omega arith)

pub weighted_more : (s : List ℕ) (at n : ℕ) → weighted s at (n + 1) ≡ weighted s at n + get_or s (at + n) 0 * (n + 1)
unfolding weighted
weighted_more s at n = ap (weighted s at) (add-one n)

-- A refusal among the first blocks stands, whatever follows.
pub blocks_stay : (s : List ℕ) (m n a b : ℕ) → m ≤ n → blocks_checked s m ≡ refused a b → blocks_checked s n ≡ refused a b
unfolding blocks_checked
blocks_stay s zero zero a b l e = e
blocks_stay s (suc m) zero a b l e = absurd (not-suc-le-zero l)
blocks_stay s m (suc n) a b l e =
    ⊎_elim (λ q. ap (blocks_checked s) (sym q) ∙ e) (λ q. rw (blocks_stay s m n a b (le_of_suc-le-suc q) e) refl) (eq-or-lt_of_le l)

-- Block n by its two tests.
abbrev block_judged : ℕ → Bool → Bool → Answer Unit
block_judged n number check =
    elim number [
      | false ↦ refused wrong_block_number n
      | true ↦ elim check [ false ↦ refused wrong_check n | true ↦ accepted tt ]
    ]

block_passed : (n : ℕ) (a : Answer Unit) (p q : Bool) → if_accepted a (λ _. block_judged n p q) ≡ accepted tt
    → (a ≡ accepted tt) × (p ≡ true) × (q ≡ true)
block_passed n (refused m w) p q e = absurd (clash (cc))
block_passed n (accepted u) false q e = absurd (clash (cc))
block_passed n (accepted u) true false e = absurd (clash (cc))
block_passed n (accepted tt) true true e = (refl, refl, refl)

-- Among blocks that are right each is.
pub block_right : (s : List ℕ) (n b : ℕ) → blocks_checked s n ≡ accepted tt → b < n → (number_right s b ≡ true) × (check_right s b ≡ true)
unfolding blocks_checked
block_right s zero b e l = absurd (not-suc-le-zero l)
block_right s (suc n) b e l =
    let h = block_passed n (blocks_checked s n) (number_right s n) (check_right s n) e in
    ⊎_elim
    (λ q. subst (λ k. (number_right s k ≡ true) × (check_right s k ≡ true)) (sym q) (h.1, h.2))
    (λ q. block_right s n b h.0 q)
    (eq-or-lt_of_le (le_of_suc-le-suc l))

-- ---- the whole
-- The answer by the length's test, the blocks' verdict and W's test.
abbrev pub judged : List ℕ → Bool → Answer Unit → Bool → Answer (List ℕ)
judged s l b w =
    elim l [
      | false ↦ refused wrong_length 0
      | true ↦ if_accepted b λ _. elim w [ false ↦ refused wrong_word_count 0 | true ↦ accepted (tabulate (word_at s 0) (word_at s)) ]
    ]

abbrev pub blocks_in : List ℕ → ℕ
blocks_in s = length s / 512

pub length_zero : (n : ℕ) → n ≡ 0 → length_right n ≡ false
length_zero n e = rw e refl

pub length_over : (n : ℕ) → 8192 < n → length_right n ≡ false
length_over n h = ap (λ x. ltb 0 n && (x && eqb (n % 512) 0)) (lt-leb _ _ h) ∙ ap (λ x. x && false) (lt-ltb 0 n (omega arith))

pub length_part : (n : ℕ) → (n ≡ 0 → ⊥) → n ≤ 8192 → (n % 512 ≡ 0 → ⊥) → length_right n ≡ false
length_part n z l h = rw (lt-ltb 0 n (omega arith), le-leb n 8192 l, ne_eqb (n % 512) 0 h) refl

pub length_right_true : (n : ℕ) → (n ≡ 0 → ⊥) → n ≤ 8192 → n % 512 ≡ 0 → length_right n ≡ true
length_right_true n z l h = rw (lt-ltb 0 n (omega arith), le-leb n 8192 l, eq-eqb (n % 512) 0 h) refl

pub stored : (s : List ℕ) (l w : Bool) (b : Answer Unit) → length_right (length s) ≡ l → blocks_checked s (blocks_in s) ≡ b
    → count_right s (blocks_in s) (word_at s 0) ≡ w → store_words s ≡ judged s l b w
unfolding store_words
stored s l w b p q r =
    ap (λ x. judged s x (blocks_checked s (blocks_in s)) (count_right s (blocks_in s) (word_at s 0))) p
    ∙ ap (λ x. judged s l x (count_right s (blocks_in s) (word_at s 0))) q
    ∙ ap (judged s l b) r

-- The tests that an accepted store has passed: of its length, of its blocks, of W and of the words behind W.
pub record StoreTested (s ws : List ℕ) : Type 0 where
  pub short : length s ≤ 8192
  pub whole : length s ≡ 512 * blocks_in s
  pub blocks : blocks_checked s (blocks_in s) ≡ accepted tt
  pub some : 0 < word_at s 0
  pub needed : blocks_in s ≡ blocks_for (word_at s 0)
  pub zeros : all_zero s (word_at s 0) (253 * blocks_in s - word_at s 0) ≡ true
  pub words : tabulate (word_at s 0) (word_at s) ≡ ws

module _ (s ws : List ℕ) where
  tested_by : (l t : Bool) (b : Answer Unit) → length_right (length s) ≡ l → blocks_checked s (blocks_in s) ≡ b
      → count_right s (blocks_in s) (word_at s 0) ≡ t → judged s l b t ≡ accepted ws → StoreTested s ws
  tested_by false t b p q r e = absurd (clash (cc))
  tested_by true t (refused m n) p q r e = absurd (clash (cc))
  tested_by true false (accepted u) p q r e = absurd (clash (cc))
  tested_by true true (accepted tt) p q r e =
      let n = length s in
      let w = word_at s 0 in
      let long = and_both (leb n 8192) (eqb (n % 512) 0) (and_both (ltb 0 n) _ p).1 in
      let part : n % 512 ≡ 0 = eqb-true (n % 512) 0 long.1 in
      let first = and_both (ltb 0 w) _ r in
      let count = and_both (eqb (blocks_in s) (blocks_for w)) (all_zero s w (253 * blocks_in s - w)) first.1 in
      record {
        short = leb-true n 8192 long.0;
        whole = omega arith;
        blocks = q;
        some = ltb-true 0 w first.0;
        needed = eqb-true (blocks_in s) (blocks_for w) count.0;
        zeros = count.1;
        words = cc;
      }

  pub tested : store_words s ≡ accepted ws → StoreTested s ws
  tested e = tested_by _ _ (blocks_checked s (blocks_in s)) refl refl refl (sym (stored s _ _ _ refl refl refl) ∙ e)

-- What an accepted store is: its words are the first w, and they lie within its blocks.
pub record StoreHolds (s : List ℕ) (w : ℕ) : Type 0 where
  pub words : store_words s ≡ accepted (tabulate w (word_at s))
  pub short : length s ≤ 8192
  pub within : w ≤ 253 * (length s / 512)
  pub first : word_at s 0 ≡ w
  pub some : 0 < w

pub holds : (s ws : List ℕ) → store_words s ≡ accepted ws → StoreHolds s (length ws)
holds s ws e =
    let t = tested s ws e in
    let k : length ws ≡ word_at s 0 = ap length (sym t.words) ∙ length_tabulate (word_at s 0) (word_at s) in
    record {
      words = e ∙ ap accepted (sym t.words) ∙ ap (λ n. accepted (tabulate n (word_at s))) (sym k);
      short = t.short;
      within = omega (arith, t.needed);
      first = sym k;
      some = omega (arith, t.some);
    }

-- ---- the words of a store of bytes
abbrev pub AllBytes : List ℕ → Type 0
AllBytes s = (k : ℕ) → get_or s k 0 < 256

pub words_small : (s : List ℕ) → AllBytes s → (n : ℕ) → All (λ w. w < 65536) (tabulate n (word_at s))
words_small s bytes n = all_tabulate (λ w. w < 65536) n (word_at s) (λ j. pair_small _)
  where
    pair_small : (at : ℕ) → pair s at < 65536
    pair_small at = omega (arith, bytes at, bytes (at + 1))
