-- Parts of a list: its elements from a place on, its first ones, a part in the middle, a run of stores.
use Rattle.std.specs.Prelude.{◌≡◌, refl, List, [], ◌∷◌, ℕ, zero, suc, ◌+◌, ◌≤◌, ◌<◌, length, get_or, set, take, drop}
use Rattle.std.proofs.Common.{sym, ap, ◌∙◌, arith, add-one, length-set, length-take, drop_of_length-le, drop-cons, drop_at, take-add, length-take-le, get_or-set_same, get_or-set_other}
use Rattle.std.proofs.Math.Seq.{slice}
use Rattle.std.proofs.lemmas.List.Edits.{sets}

-- ---- from place k on, by the length m that the code has
module _ {A : Type 0} (xs : List A) (d : A) {m : ℕ} (size : m ≡ length xs) where
  pub from_place : (k : ℕ) → k < m → drop k xs ≡ get_or xs k d ∷ drop (k + 1) xs
  from_place k l = drop-cons xs k d (omega arith) ∙ ap (λ j. get_or xs k d ∷ drop j xs) (sym (add-one k))

  pub none_from : (k : ℕ) → m ≤ k → drop k xs ≡ []
  none_from k l = drop_of_length-le xs {i = k} (omega arith)

-- ---- the first n
pub taken_inside : {A : Type 0} (xs : List A) (n : ℕ) {k : ℕ} → k < length (take n xs) → (k < n) × (k < length xs)
taken_inside xs n h = (omega (arith, length-take n xs), omega (arith, length-take n xs))

-- ---- in the middle: the part of two lists that agree behind the first n
pub same_part : {A : Type 0} (n m : ℕ) (xs ys : List A) → n ≤ length xs → n ≤ length ys → drop n xs ≡ drop n ys
    → slice n (n + m) xs ≡ slice n (n + m) ys
same_part {A} n m xs ys h k e = part xs h ∙ ap (take m) e ∙ sym (part ys k)
  where
    part : (l : List A) → n ≤ length l → slice n (n + m) l ≡ take m (drop n l)
    part l h = ap (drop n) (take-add n m l) ∙ drop_at (take n l) (take m (drop n l)) n (length-take-le n l h)

-- ---- a run of stores
pub run_before : (l : List ℕ) (i : ℕ) (xs : List ℕ) (j : ℕ) → j < i → get_or (sets l i xs) j 0 ≡ get_or l j 0
run_before l i [] j h = refl
run_before l i (x ∷ xs) j h = run_before (set l i x) (suc i) xs j (omega arith) ∙ get_or-set_other l i j x 0 (omega arith)

pub run_behind : (l : List ℕ) (i : ℕ) (xs : List ℕ) (j : ℕ) → i + length xs ≤ j → get_or (sets l i xs) j 0 ≡ get_or l j 0
run_behind l i [] j h = refl
run_behind l i (x ∷ xs) j h = run_behind (set l i x) (suc i) xs j (omega arith) ∙ get_or-set_other l i j x 0 (omega arith)

pub run_in : (l : List ℕ) (i : ℕ) (xs : List ℕ) (k : ℕ) → i + length xs ≤ length l → k < length xs
    → get_or (sets l i xs) (i + k) 0 ≡ get_or xs k 0
run_in l i [] k h j = absurd (omega arith)
run_in l i (x ∷ xs) zero h j =
    let e : i + 0 ≡ i = omega arith in rw e (run_before (set l i x) (suc i) xs i (omega arith) ∙ get_or-set_same l i x 0 (omega arith))
run_in l i (x ∷ xs) (suc k) h j =
    let e : i + suc k ≡ suc i + k = omega arith in
    rw e (run_in (set l i x) (suc i) xs k (rw (length-set l i x) (omega arith)) (omega arith))
