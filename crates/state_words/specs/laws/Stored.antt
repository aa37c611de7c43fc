-- What a word stored in a section changes: that word, no other of its section, and no other section.
use Rattle.std.specs.Prelude.{◌≡◌, List, ◌∷◌, length, get_or, set, take, drop}
use Rattle.std.proofs.Common.{◌∙◌, length-take, drop_of_length-le, get_or-take, get_or-drop, drop-cons, lt-ltb, le-ltb}
use Prim.Native.Nat.{ℕ, suc, ◌+◌, ◌-◌, ◌≤◌, ◌<◌}
use native.Mathlib.Omega.{arith}
use Rattle.std.proofs.Math.ListN.{get_or-eq_default}
use Rattle.std.proofs.Math.Numerals.{add-one, add-two}
use Rattle.state_words.specs.Sections.{Section, part, read_at, stored_at, stored, stored_all_at, filled}

pub read_in : (o n : ℕ) (l : List ℕ) (i : ℕ) → i < n → read_at o n l i ≡ get_or l (o + i) 0
unfolding part
read_in o n l i h = get_or-take n (drop o l) i 0 h ∙ get_or-drop o l i 0

pub read_beyond : (o n : ℕ) (l : List ℕ) (i : ℕ) → n ≤ i → read_at o n l i ≡ 0
unfolding part
read_beyond o n l i h = get_or-eq_default (take n (drop o l)) 0 {n = i} (rw (length-take n (drop o l)) (omega arith))

pub stored_in : (o n : ℕ) (l : List ℕ) (i x : ℕ) → i < n → stored_at o n l i x ≡ set l (o + i) x
unfolding stored_at
stored_in o n l i x h = rw (lt-ltb i n h)

pub stored_beyond : (o n : ℕ) (l : List ℕ) (i x : ℕ) → n ≤ i → stored_at o n l i x ≡ l
unfolding stored_at
stored_beyond o n l i x h = rw (le-ltb i n h)

-- ---- Words stored in a run: what is left to store, after j of them.
module _ (o n : ℕ) (xs : List ℕ) (i : ℕ) where
  pub run_turn : (w : List ℕ) (j : ℕ) → j < length xs
      → stored_all_at o n w (i + j) (drop j xs) ≡ stored_all_at o n (stored_at o n w (i + j) (get_or xs j 0)) (i + (j + 1)) (drop (j + 1) xs)
  unfolding stored_all_at
  run_turn w j h =
      let e : i + (j + 1) ≡ suc (i + j) = omega arith in
      rw (drop-cons xs j 0 h, e, add-one j)

  pub run_stop : (w : List ℕ) (j : ℕ) → length xs ≤ j → stored_all_at o n w (i + j) (drop j xs) ≡ w
  unfolding stored_all_at
  run_stop w j h = rw (drop_of_length-le xs {i = j} h)

  pub run_start : (w : List ℕ) → stored_all_at o n w (i + 0) (drop 0 xs) ≡ stored_all_at o n w i xs
  run_start w = let e : i + 0 ≡ i = omega arith in rw e

-- One word or two, and a run behind them.
module _ (o n : ℕ) (l : List ℕ) (i a : ℕ) where
  pub one_and_run : (xs : List ℕ) {l₁ l₂ : List ℕ} → l₁ ≡ stored_at o n l i a → l₂ ≡ stored_all_at o n l₁ (i + 1) xs
      → l₂ ≡ stored_all_at o n l i (a ∷ xs)
  unfolding stored_all_at
  one_and_run xs p q = q ∙ rw (p, add-one i)

  pub two_and_run : (b : ℕ) (xs : List ℕ) {l₁ l₂ l₃ : List ℕ} → l₁ ≡ stored_at o n l i a → l₂ ≡ stored_at o n l₁ (i + 1) b
      → l₃ ≡ stored_all_at o n l₂ (i + 2) xs
      → l₃ ≡ stored_all_at o n l i (a ∷ b ∷ xs)
  unfolding stored_all_at
  two_and_run b xs p q r = r ∙ rw (q, p, add-one i, add-two i)

-- ---- Words filled in, turn by turn: what is left makes the whole.
module _ (k : Section) (place x : ℕ → ℕ) where
  pub fill_start : (n : ℕ) (l : List ℕ) → filled k place x (n - 0) 0 l ≡ filled k place x n 0 l
  fill_start n l = let e : n - 0 ≡ n = omega arith in rw e

  pub fill_turn : (n i : ℕ) (l : List ℕ) {whole : List ℕ} → i < n → filled k place x (n - i) i l ≡ whole
      → filled k place x (n - (i + 1)) (i + 1) (stored l k (place i) (x i)) ≡ whole
  unfolding filled
  fill_turn n i l h q = let m : n - i ≡ suc (n - (i + 1)) = omega arith in rw (add-one i) (rw (add-one i) at (rw m at q))

  pub fill_stop : (n i : ℕ) (l : List ℕ) {whole : List ℕ} → n ≤ i → filled k place x (n - i) i l ≡ whole → l ≡ whole
  unfolding filled
  fill_stop n i l h q = let m : n - i ≡ 0 = omega arith in rw m at q
