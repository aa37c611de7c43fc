-- Distinct targets, counted by one scan over the words: a target counts if it does not stand before.
use Rattle.std.specs.Prelude.{◌≡◌, refl, Bool, true, false, ◌||◌, List, [], ◌∷◌, ◌++◌, ℕ, zero, suc, ◌+◌, ◌≤◌, ◌<◌, length, get_or, take, eqb, leb}
use Rattle.std.proofs.Common.{sym, ap, ◌∙◌, arith, add-one, get_or-take, leb-true, leb-false, eq-eqb, ne_eqb}
use Rattle.std.proofs.Math.Bool.{or-true}
use Rattle.std.specs.Bool.{MatchBool}
use Rattle.std.specs.List.{range_with_len, AllWithin, HoldsAt}
use Rattle.std.proofs.lemmas.List.FromFn.{length-range_with_len, get_or-range_with_len}
use Rattle.format.specs.Read.{got, word, many}
use Rattle.meaning.specs.Lists.{is_in, pick, distinct_from}
use Rattle.meaning.specs.facts.Members.{is_in_snoc}
use Rattle.meaning.specs.facts.Distinct.{distinct_snoc}
use Rattle.format.specs.laws.Readers.{part, got_value}
use Rattle.reading.specs.Readings.{stands, first, firsts}
use Rattle.reading.specs.laws.Parts.{word_parts}

pub first_bound : (w : List ℕ) (from n : ℕ) → first w from n ≤ 1
unfolding first
first_bound w from n = by_test (stands w from (get_or w (from + n) 0) n)
  where
    by_test : (b : Bool) → pick b 0 1 ≤ 1
    by_test true = omega arith
    by_test false = omega arith

-- one word more: it stood before, or it is counted
module _ (w : List ℕ) (from n : ℕ) {k : ℕ} (so_far : k ≡ firsts w from n) where
  pub firsts_again : stands w from (get_or w (from + n) 0) n ≡ true → k ≡ firsts w from (n + 1)
  unfolding firsts first
  firsts_again h = rw (add-one n, so_far, h) omega arith

  pub firsts_new : stands w from (get_or w (from + n) 0) n ≡ false → k + 1 ≡ firsts w from (n + 1)
  unfolding firsts first
  firsts_new h = rw (add-one n, so_far, h)

-- The n words from a place on.
unfoldable pub words_from : List ℕ → ℕ → ℕ → List ℕ
words_from w from zero = []
words_from w from (suc n) = words_from w from n ++ (get_or w (from + n) 0 ∷ [])

stands_in : (w : List ℕ) (from t n : ℕ) → stands w from t n ≡ is_in t (words_from w from n)
unfolding stands words_from
stands_in w from t zero = refl
stands_in w from t (suc n) =
    ap (λ b. b || eqb t (get_or w (from + n) 0)) (stands_in w from t n) ∙ sym (is_in_snoc t (get_or w (from + n) 0) (words_from w from n))

pub firsts_distinct : (w : List ℕ) (from n : ℕ) → firsts w from n ≡ length (distinct_from [] (words_from w from n))
unfolding firsts first words_from distinct_from
firsts_distinct w from zero = refl
firsts_distinct w from (suc n) =
    let t = get_or w (from + n) 0 in
    ap (λ k. k + pick (stands w from t n) 0 1) (firsts_distinct w from n)
    ∙ ap (λ b. length (distinct_from [] (words_from w from n)) + pick b 0 1) (stands_in w from t n)
    ∙ sym (distinct_snoc [] (words_from w from n) t)

-- a word that stands among the first stands among more
pub stands_more : (w : List ℕ) (from t n k : ℕ) → n ≤ k → stands w from t n ≡ true → stands w from t k ≡ true
unfolding stands
stands_more w from t n zero l h = let same : n ≡ 0 = omega arith in rw same at h
stands_more w from t n (suc k) l h = by_order (leb n k) refl (λ m. stands_more w from t n k m h)
  where
    by_order : (b : Bool) → leb n k ≡ b → (n ≤ k → stands w from t k ≡ true) → (stands w from t k || eqb t (get_or w (from + k) 0)) ≡ true
    by_order true q more = ap (λ b. b || eqb t (get_or w (from + k) 0)) (more (leb-true n k q))
    by_order false q more = let same : n ≡ suc k = omega (arith, leb-false n k q) in rw same at h

-- the turns of the scan: t stands at place n, or at none so far
pub stands_here : (w : List ℕ) (from t n k : ℕ) → n < k → t ≡ get_or w (from + n) 0 → true ≡ stands w from t k
unfolding stands
stands_here w from t n k l h =
    sym (stands_more w from t (suc n) k l (ap (λ b. stands w from t n || b) (eq-eqb t (get_or w (from + n) 0) h)
    ∙ or-true (stands w from t n)))

stands_none : (w : List ℕ) (from t n : ℕ) → ((k : ℕ) → k < n → t ≡ get_or w (from + k) 0 → ⊥) → false ≡ stands w from t n
unfolding stands
stands_none w from t zero h = refl
stands_none w from t (suc n) h =
    let before = stands_none w from t n (λ k l. h k (omega arith)) in
    rw (← before, ne_eqb t (get_or w (from + n) 0) (h n (omega arith)))

in_range : (n k : ℕ) → k < n → get_or (range_with_len 0 n) k 0 ≡ k
in_range n k less = get_or-range_with_len 0 n k 0 less ∙ omega arith

-- what a search from the front answers
pub stands_by_any : (w : List ℕ) (from t n : ℕ) (r : Bool)
    → MatchBool r ((k : ℕ) × (k < length (range_with_len 0 n)) × HoldsAt (λ i. t ≡ get_or w (from + i) 0) (range_with_len 0 n) k)
    (AllWithin (λ i. t ≡ get_or w (from + i) 0 → ⊥) (range_with_len 0 n) 0 (length (range_with_len 0 n))) → r ≡ stands w from t n
stands_by_any w from t n true (k, below, here) =
    let less : k < n = omega (arith, length-range_with_len 0 n) in
    stands_here w from t k n less (rw (in_range n k less) at (here 0))
stands_by_any w from t n false h =
    stands_none w from t n (λ k less. rw (in_range n k less) at (h k 0 (omega arith) (omega (arith, length-range_with_len 0 n))))

words_from_front : (w : List ℕ) (from n : ℕ) → words_from w from (suc n) ≡ get_or w from 0 ∷ words_from w (from + 1) n
unfolding words_from
words_from_front w from zero = ap (λ i. get_or w i 0 ∷ []) (omega arith)
words_from_front w from (suc n) =
    ap (λ l. l ++ (get_or w (from + suc n) 0 ∷ [])) (words_from_front w from n)
    ∙ ap (λ i. get_or w from 0 ∷ (words_from w (from + 1) n ++ (get_or w i 0 ∷ []))) (omega arith)

-- What n readings of a word give.
pub many_words : (n : ℕ) (ws : List ℕ) (at : ℕ) {ts : List ℕ} {e : ℕ} → many n word ws at ≡ got ts e → ts ≡ words_from ws at n
unfolding many words_from
many_words zero ws at h = sym (got_value h)
many_words (suc n) ws at {ts} {e} h =
    let a = part (word ws at) _ ts e h in
    let b = part (many n word ws a.place) _ ts e a.second in
    joined a.value a.place b.value (word_parts ws at a.first).is (word_parts ws at a.first).end
    (many_words n ws a.place b.first) (got_value b.second)
  where
    joined : (x p : ℕ) (xs : List ℕ) → x ≡ get_or ws at 0 → p ≡ at + 1 → xs ≡ words_from ws p n → x ∷ xs ≡ ts → ts ≡ words_from ws at (suc n)
    joined x p xs is end rest whole =
        sym whole ∙ ap (λ z. z ∷ xs) is ∙ ap (λ l. get_or ws at 0 ∷ l) (rest ∙ ap (λ i. words_from ws i n) end)
        ∙ sym (words_from_front ws at n)

-- each of them stands below W
pub words_inside : (n : ℕ) (ws : List ℕ) (at : ℕ) {ts : List ℕ} {e : ℕ} → many n word ws at ≡ got ts e → (j : ℕ) → j < n
    → at + j < length ws
unfolding many
words_inside zero ws at h j l = absurd (omega arith)
words_inside (suc n) ws at {ts} {e} h j l =
    let a = part (word ws at) _ ts e h in
    let b = part (many n word ws a.place) _ ts e a.second in
    let w = word_parts ws at a.first in
    by_place a.place w.end w.inside j l (words_inside n ws a.place b.first)
  where
    by_place : (p : ℕ) → p ≡ at + 1 → at < length ws → (j : ℕ) → j < suc n → ((i : ℕ) → i < n → p + i < length ws) → at + j < length ws
    by_place p end inside zero l deeper = omega arith
    by_place p end inside (suc j) l deeper = omega (arith, deeper j (omega arith))

-- the record's words are the lent words
stands_taken : (w : List ℕ) (count from t n : ℕ) → ((j : ℕ) → j < n → from + j < count) → stands (take count w) from t n ≡ stands w from t n
unfolding stands
stands_taken w count from t zero h = refl
stands_taken w count from t (suc n) h =
    rw (get_or-take count w (from + n) 0 (h n (omega arith)), stands_taken w count from t n (λ j l. h j (omega arith)))

pub firsts_taken : (w : List ℕ) (count from n : ℕ) → ((j : ℕ) → j < n → from + j < count) → firsts (take count w) from n ≡ firsts w from n
unfolding firsts first
firsts_taken w count from zero h = refl
firsts_taken w count from (suc n) h =
    let below : (j : ℕ) → j < n → from + j < count = λ j l. h j (omega arith) in
    rw (
      get_or-take count w (from + n) 0 (h n (omega arith)),
      firsts_taken w count from n below,
      stands_taken w count from (get_or w (from + n) 0) n below,
    )
