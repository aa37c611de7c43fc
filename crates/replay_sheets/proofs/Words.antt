-- Words of four bytes each, put over lent ones, and lists compared place by place.
use mathlib.Core.Path.{◌≡◌, refl, sym, ap, ◌∙◌}
use mathlib.Core.Bool.{true, false, ◌&&◌}
use mathlib.Core.List.{List, [], ◌∷◌}
use Prim.Native.Nat.{ℕ, zero, suc, ◌+◌, ◌-◌, ◌*◌, ◌/◌, ◌≤◌, ◌<◌}
use native.Mathlib.Numerals.{add-one}
use native.Mathlib.Omega.{arith}
use lib.ListN.{length, get_or, drop, length-append, length-drop, drop_of_length-le, get_or-append}
use lib.Seq.{drop-cons, get_or-append-add, get_or-drop}
use lib.Dec.{eqb}
use borrow.Author.Tests.{eq-eqb, ne_eqb}
use Rattle.vectors.specs.Same.{same_list}
use Rattle.replay_sheets.specs.Sheets.{word_from, words_from_bytes, put_over}

-- ---- four bytes to a word
pub record Quarter (bs : List ℕ) : Type 0 where
  pub few : 4 * length (words_from_bytes bs) ≤ length bs
  pub all : length bs < 4 * length (words_from_bytes bs) + 4

pub quarter : (bs : List ℕ) → Quarter bs
unfolding words_from_bytes
quarter [] = record { few = omega arith; all = omega arith }
quarter (a ∷ []) = record { few = omega arith; all = omega arith }
quarter (a ∷ b ∷ []) = record { few = omega arith; all = omega arith }
quarter (a ∷ b ∷ c ∷ []) = record { few = omega arith; all = omega arith }
quarter (a ∷ b ∷ c ∷ d ∷ bs) = let q = quarter bs in record { few = omega arith; all = omega arith }

-- The word at place i.
pub word_at : (bs : List ℕ) (i : ℕ) → 4 * i + 3 < length bs
    → get_or (words_from_bytes bs) i 0 ≡ word_from (get_or bs (4 * i) 0) (get_or bs (4 * i + 1) 0) (get_or bs (4 * i + 2) 0) (get_or bs (4 * i + 3) 0)
unfolding words_from_bytes
word_at [] i h = absurd (omega arith)
word_at (a ∷ []) i h = absurd (omega arith)
word_at (a ∷ b ∷ []) i h = absurd (omega arith)
word_at (a ∷ b ∷ c ∷ []) i h = absurd (omega arith)
word_at (a ∷ b ∷ c ∷ d ∷ bs) zero h = refl
word_at (a ∷ b ∷ c ∷ d ∷ bs) (suc i) h =
    let next : (k : ℕ) → get_or (a ∷ b ∷ c ∷ d ∷ bs) (4 * suc i + k) 0 ≡ get_or bs (4 * i + k) 0 =
    λ k. ap (λ j. get_or (a ∷ b ∷ c ∷ d ∷ bs) j 0) (let e : 4 * suc i + k ≡ suc (suc (suc (suc (4 * i + k)))) = omega arith in e) in
    let first : get_or (a ∷ b ∷ c ∷ d ∷ bs) (4 * suc i) 0 ≡ get_or bs (4 * i) 0 =
    ap (λ j. get_or (a ∷ b ∷ c ∷ d ∷ bs) j 0) (let e : 4 * suc i ≡ suc (suc (suc (suc (4 * i)))) = omega arith in e) in
    word_at bs i (omega arith) ∙ rw (← first, ← next 1, ← next 2, ← next 3)

-- ---- words put over lent ones
module _ (ws lent : List ℕ) where
  put_over_length : length ws ≤ length lent → length (put_over ws lent) ≡ length lent
  put_over_length h = simp (length-append, length-drop) (omega arith)

  put_over_front : (i : ℕ) → i < length ws → get_or (put_over ws lent) i 0 ≡ get_or ws i 0
  put_over_front i h = get_or-append ws (drop (length ws) lent) 0 i h

  put_over_rest : (i : ℕ) → length ws ≤ i → get_or (put_over ws lent) i 0 ≡ get_or lent i 0
  put_over_rest i h =
      let same : length ws + (i - length ws) ≡ i = omega arith in
      ap (λ j. get_or (put_over ws lent) j 0) (sym same)
      ∙ get_or-append-add ws (drop (length ws) lent) (i - length ws) 0
      ∙ get_or-drop (length ws) lent (i - length ws) 0
      ∙ ap (λ j. get_or lent j 0) same

-- What stands at place i where words are put over lent ones: a word of the bytes, or what was lent.
module _ (bytes lent : List ℕ) where
  pub as_long : length bytes ≤ 4 * length lent → length lent ≡ length (put_over (words_from_bytes bytes) lent)
  as_long h = let q = quarter bytes in sym (put_over_length (words_from_bytes bytes) lent (omega arith))

  pub as_lent : (i : ℕ) → length bytes / 4 ≤ i → get_or lent i 0 ≡ get_or (put_over (words_from_bytes bytes) lent) i 0
  as_lent i h = let q = quarter bytes in sym (put_over_rest (words_from_bytes bytes) lent i (omega arith))

  pub as_listed : (i : ℕ) → i < length bytes / 4 → {r : ℕ}
      → r ≡ word_from (get_or bytes (4 * i) 0) (get_or bytes (4 * i + 1) 0) (get_or bytes (4 * i + 2) 0) (get_or bytes (4 * i + 3) 0)
      → r ≡ get_or (put_over (words_from_bytes bytes) lent) i 0
  as_listed i h is =
      let q = quarter bytes in
      is ∙ sym (put_over_front (words_from_bytes bytes) lent i (omega arith) ∙ word_at bytes i (omega arith))

-- ---- two lists of one length, compared place by place
module _ (a b : List ℕ) (long : length a ≡ length b) (i : ℕ) where
  at_place : i < length a → same_list (drop i a) (drop i b) ≡ (eqb (get_or a i 0) (get_or b i 0) && same_list (drop (suc i) a) (drop (suc i) b))
  unfolding same_list
  at_place h = rw (drop-cons a i 0 h, drop-cons b i 0 (omega arith))

  pub differs_here : i < length a → (get_or a i 0 ≡ get_or b i 0 → ⊥) → false ≡ same_list (drop i a) (drop i b)
  differs_here h d = sym (at_place h ∙ rw (ne_eqb (get_or a i 0) (get_or b i 0) d))

  pub same_here : i < length a → get_or a i 0 ≡ get_or b i 0 → same_list (drop (i + 1) a) (drop (i + 1) b) ≡ same_list (drop i a) (drop i b)
  same_here h e = sym (at_place h ∙ rw (eq-eqb (get_or a i 0) (get_or b i 0) e, add-one))

  pub same_to_end : length a ≤ i → true ≡ same_list (drop i a) (drop i b)
  unfolding same_list
  same_to_end h = rw (drop_of_length-le a h, drop_of_length-le b {i = i} (omega arith))
