-- What is accepted, the words of the store by one walk along its bytes: the same answer as the definition, which goes by places, but
-- quick to compute.
use Rattle.std.specs.Prelude.{◌≡◌, refl, Bool, true, false, ◌&&◌, List, [], ◌∷◌, ◌++◌, ℕ, zero, suc, ◌+◌, ◌-◌, ◌*◌, ◌/◌, ◌%◌, ◌≤◌, ◌<◌, length, get_or, take, drop, eqb, ltb}
use Rattle.std.proofs.Common.{sym, ap, ◌∙◌, arith, not-suc-le-zero, drop_of_length-le, length-append, length-drop, get_or-drop, get_or-take, get_or-append-add, take_all, take-suc, ext_get_or, length-take-le, eqb-true}
use Rattle.std.proofs.Math.Bool.{and-true, and_assoc}
use Rattle.std.proofs.Math.Decide.{dec_le, dec_lt}
use Rattle.std.proofs.Math.ListN.{get_or-append}
use Rattle.format.specs.Store.{Answer, accepted, refused, if_accepted, pair, weighted, number_right, blocks_checked, word_at}
use Rattle.format.specs.Store.{all_zero, length_right, count_right, store_words, check_from}
use Rattle.format.specs.Read.{read_record}
use Rattle.format.specs.References.{references}
use Rattle.format.specs.Accept.{with_references, accept}
use Rattle.meaning.specs.Graph.{Graph}
use Rattle.format.specs.laws.Written.{pair_drop, weighted_walk}
use Rattle.format.specs.stores.QuickRead.{quick_read_record, same_read_record}
use Rattle.format.specs.Refusals.{wrong_length, wrong_block_number, wrong_check, wrong_word_count}
use Rattle.meaning.specs.Lists.{tabulate}
use Rattle.meaning.specs.facts.Elements.{length_tabulate, tabulate_at}

-- ---- the words
-- n words from the front of the bytes
unfoldable pub front_words : ℕ → List ℕ → List ℕ
front_words zero s = []
front_words (suc n) s = pair s 0 ∷ front_words n (drop 2 s)

-- the 253 words of each of n blocks
unfoldable pub all_words : ℕ → List ℕ → List ℕ
all_words zero s = []
all_words (suc n) s = front_words 253 (drop 2 s) ++ all_words n (drop 512 s)

length_front_words : (n : ℕ) (s : List ℕ) → length (front_words n s) ≡ n
unfolding front_words
length_front_words zero s = refl
length_front_words (suc n) s = ap suc (length_front_words n (drop 2 s))

length_all_words : (n : ℕ) (s : List ℕ) → length (all_words n s) ≡ 253 * n
unfolding all_words
length_all_words zero s = refl
length_all_words (suc n) s =
    rw (
      length-append (front_words 253 (drop 2 s)) (all_words n (drop 512 s)),
      length_front_words 253 (drop 2 s),
      length_all_words n (drop 512 s),
    ) (omega arith)

front_word : (n : ℕ) (s : List ℕ) (j : ℕ) → j < n → get_or (front_words n s) j 0 ≡ pair s (2 * j)
unfolding front_words
front_word zero s j h = absurd (not-suc-le-zero h)
front_word (suc n) s zero h = refl
front_word (suc n) s (suc j) h = front_word n (drop 2 s) j (omega arith) ∙ pair_drop 2 s (2 * j) ∙ ap (pair s) (omega arith)

word_drop : (s : List ℕ) (j : ℕ) → word_at (drop 512 s) j ≡ word_at s (253 + j)
word_drop s j =
    let q : (253 + j) / 253 ≡ suc (j / 253) = omega arith in
    let r : (253 + j) % 253 ≡ j % 253 = omega arith in
    pair_drop 512 s (512 * (j / 253) + 2 + 2 * (j % 253)) ∙ rw (q, r) (ap (pair s) (omega arith))

word_front : (s : List ℕ) (j : ℕ) → j < 253 → word_at s j ≡ pair (drop 2 s) (2 * j)
word_front s j h =
    let q : j / 253 ≡ 0 = omega arith in
    let r : j % 253 ≡ j = omega arith in
    rw (q, r) (sym (pair_drop 2 s (2 * j)))

all_word : (n : ℕ) (s : List ℕ) (j : ℕ) → j < 253 * n → get_or (all_words n s) j 0 ≡ word_at s j
unfolding all_words
all_word zero s j h = absurd (not-suc-le-zero h)
all_word (suc n) s j h = at (all_word n (drop 512 s) (j - 253)) (dec_lt j 253)
  where
    here : length (front_words 253 (drop 2 s)) ≡ 253
    here = length_front_words 253 (drop 2 s)

    at : (j - 253 < 253 * n → get_or (all_words n (drop 512 s)) (j - 253) 0 ≡ word_at (drop 512 s) (j - 253)) → Dec (j < 253)
        → get_or (front_words 253 (drop 2 s) ++ all_words n (drop 512 s)) j 0 ≡ word_at s j
    at later (yes l) =
        get_or-append (front_words 253 (drop 2 s)) (all_words n (drop 512 s)) 0 j (omega (arith, here))
        ∙ front_word 253 (drop 2 s) j l
        ∙ sym (word_front s j l)
    at later (no g) =
        ap (λ k. get_or (front_words 253 (drop 2 s) ++ all_words n (drop 512 s)) k 0) (omega (arith, here))
        ∙ get_or-append-add (front_words 253 (drop 2 s)) (all_words n (drop 512 s)) (j - 253) 0
        ∙ later (omega arith)
        ∙ word_drop s (j - 253)
        ∙ ap (word_at s) (omega arith)

words_tabulated : (n w : ℕ) (s : List ℕ) → w ≤ 253 * n → tabulate w (word_at s) ≡ take w (all_words n s)
words_tabulated n w s h =
    let l : length (take w (all_words n s)) ≡ w = length-take-le w (all_words n s) (omega (arith, length_all_words n s)) in
    ext_get_or 0 (tabulate w (word_at s)) (take w (all_words n s)) (length_tabulate w (word_at s) ∙ sym l)
    λ i b.
    let c : i < w = omega (arith, length_tabulate w (word_at s)) in
    tabulate_at w (word_at s) i c ∙ sym (get_or-take w (all_words n s) i 0 c ∙ all_word n s i (omega arith))

-- ---- the answer
-- block b of a store, whose check comes to `sum`
abbrev pub quick_block_checked : List ℕ → ℕ → ℕ → Answer Unit
quick_block_checked s b sum =
    elim (number_right s b) [
      | false ↦ refused wrong_block_number b
      | true ↦ elim (eqb (pair s (512 * b + 508) + 65536 * pair s (512 * b + 510)) sum) [
        | false ↦ refused wrong_check b
        | true ↦ accepted tt
      ]
    ]

unfoldable pub quick_blocks : List ℕ → ℕ → Answer Unit
quick_blocks s zero = accepted tt
quick_blocks s (suc n) = if_accepted (quick_blocks s n) λ _. quick_block_checked s n (check_from 0 (take 508 (drop (512 * n) s)))

same_blocks : (s : List ℕ) (n : ℕ) → 512 * n ≤ length s → blocks_checked s n ≡ quick_blocks s n
unfolding blocks_checked quick_blocks
same_blocks s zero h = refl
same_blocks s (suc n) h =
    ap (λ a. if_accepted a λ _. quick_block_checked s n (weighted s (512 * n) 508)) (same_blocks s n (omega arith))
    ∙ ap (λ c. if_accepted (quick_blocks s n) λ _. quick_block_checked s n c) (weighted_walk s (512 * n) 508 (omega arith))

unfoldable pub only_zeros : List ℕ → Bool
only_zeros [] = true
only_zeros (w ∷ ws) = eqb w 0 && only_zeros ws

only_zeros_snoc : (ws : List ℕ) (y : ℕ) → only_zeros (ws ++ (y ∷ [])) ≡ (only_zeros ws && eqb y 0)
unfolding only_zeros
only_zeros_snoc [] y = and-true (eqb y 0)
only_zeros_snoc (w ∷ ws) y = ap (λ b. eqb w 0 && b) (only_zeros_snoc ws y) ∙ sym (and_assoc (eqb w 0) (only_zeros ws) (eqb y 0))

all_zero_walk : (s : List ℕ) (n w k : ℕ) → w + k ≤ 253 * n → all_zero s w k ≡ only_zeros (take k (drop w (all_words n s)))
unfolding all_zero only_zeros
all_zero_walk s n w zero h = refl
all_zero_walk s n w (suc k) h =
    let l : k < length (drop w (all_words n s)) = simp length-drop (omega (arith, length_all_words n s)) in
    let e : get_or (drop w (all_words n s)) k 0 ≡ word_at s (w + k) = get_or-drop w (all_words n s) k 0 ∙ all_word n s (w + k) (omega arith) in
    rw (
      take-suc (drop w (all_words n s)) k 0 l,
      only_zeros_snoc (take k (drop w (all_words n s))) (get_or (drop w (all_words n s)) k 0),
      e,
      all_zero_walk s n w k (omega arith),
    )

rest_zero : (s : List ℕ) (n w : ℕ) → all_zero s w (253 * n - w) ≡ only_zeros (drop w (all_words n s))
unfolding all_zero only_zeros
rest_zero s n w = go (dec_le w (253 * n))
  where
    all : take (253 * n - w) (drop w (all_words n s)) ≡ drop w (all_words n s)
    all = take_all (253 * n - w) (drop w (all_words n s)) (simp length-drop (omega (arith, length_all_words n s)))

    go : Dec (w ≤ 253 * n) → all_zero s w (253 * n - w) ≡ only_zeros (drop w (all_words n s))
    go (yes l) = all_zero_walk s n w (253 * n - w) (omega arith) ∙ ap only_zeros all
    go (no g) =
        let e : 253 * n - w ≡ 0 = omega arith in
        rw (e, drop_of_length-le (all_words n s) {i = w} (omega (arith, length_all_words n s)))

-- with the words from W on right or not, what is read
abbrev pub words_if : Bool → List ℕ → Answer (List ℕ)
words_if right ws = elim right [ false ↦ refused wrong_word_count 0 | true ↦ accepted ws ]

-- with n blocks, all their words, and W
abbrev pub quick_count : ℕ → List ℕ → ℕ → Answer (List ℕ)
quick_count n ws w = words_if (ltb 0 w && (eqb n ((w + 252) / 253) && only_zeros (drop w ws))) (take w ws)

unfoldable pub quick_store_words : List ℕ → Answer (List ℕ)
unfolding quick_blocks check_from all_words front_words only_zeros
quick_store_words s =
    elim (length_right (length s)) [
      | false ↦ refused wrong_length 0
      | true ↦ if_accepted (quick_blocks s (length s / 512)) λ _. quick_count (length s / 512) (all_words (length s / 512) s) (word_at s 0)
    ]

same_if : (a b c : Bool) (xs ys : List ℕ) → (b ≡ true → xs ≡ ys) → words_if (a && (b && c)) xs ≡ words_if (a && (b && c)) ys
same_if false b c xs ys f = refl
same_if true false c xs ys f = refl
same_if true true false xs ys f = refl
same_if true true true xs ys f = ap accepted (f refl)

same_count : (s : List ℕ) (n w : ℕ) → words_if (count_right s n w) (tabulate w (word_at s)) ≡ quick_count n (all_words n s) w
same_count s n w =
    ap (λ z. words_if (ltb 0 w && (eqb n ((w + 252) / 253) && z)) (tabulate w (word_at s))) (rest_zero s n w)
    ∙ same_if (ltb 0 w) (eqb n ((w + 252) / 253)) (only_zeros (drop w (all_words n s))) (tabulate w (word_at s)) (take w (all_words n s))
    λ e. words_tabulated n w s (omega (arith, eqb-true n ((w + 252) / 253) e))

abbrev definition : List ℕ → Bool → Answer (List ℕ)
definition s right =
    elim right [
      | false ↦ refused wrong_length 0
      | true ↦ if_accepted (blocks_checked s (length s / 512)) λ _. words_if (count_right s (length s / 512) (word_at s 0))
          (tabulate (word_at s 0) (word_at s))
    ]

abbrev walk : List ℕ → Bool → Answer (List ℕ)
walk s right =
    elim right [
      | false ↦ refused wrong_length 0
      | true ↦ if_accepted (quick_blocks s (length s / 512)) λ _. quick_count (length s / 512) (all_words (length s / 512) s) (word_at s 0)
    ]

same_answer : (s : List ℕ) (b : Bool) → definition s b ≡ walk s b
same_answer s false = refl
same_answer s true =
    ap (λ a. if_accepted a λ _. words_if (count_right s (length s / 512) (word_at s 0)) (tabulate (word_at s 0) (word_at s)))
    (same_blocks s (length s / 512) (omega arith))
    ∙ ap (λ a. if_accepted (quick_blocks s (length s / 512)) λ _. a) (same_count s (length s / 512) (word_at s 0))

pub same_store_words : (s : List ℕ) → store_words s ≡ quick_store_words s
unfolding store_words quick_store_words
same_store_words s = same_answer s (length_right (length s))

-- ---- what is accepted
unfoldable pub quick_accept : List ℕ → Answer Graph
unfolding quick_store_words quick_read_record references
quick_accept s = if_accepted (quick_store_words s) λ ws. with_references (quick_read_record ws)

pub same_accept : (s : List ℕ) → accept s ≡ quick_accept s
unfolding accept quick_accept
same_accept s = by_words (store_words s) ∙ ap (λ x. if_accepted x λ ws. with_references (quick_read_record ws)) (same_store_words s)
  where
    by_words : (x : Answer (List ℕ))
        → if_accepted x (λ ws. with_references (read_record ws)) ≡ if_accepted x λ ws. with_references (quick_read_record ws)
    by_words (accepted ws) = ap with_references (same_read_record ws)
    by_words (refused n w) = refl
