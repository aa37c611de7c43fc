-- Parts of one kind in a row, put from the last to the first by a loop that counts down.
use Rattle.std.specs.Prelude.{◌≡◌, refl, List, [], ◌∷◌, length, get_or}
use Prim.Native.Nat.{ℕ, zero, suc, ◌+◌, ◌-◌, ◌≤◌, ◌<◌}
use native.Mathlib.Omega.{arith}
use Rattle.meaning.specs.facts.Numbers.{no_further, one_further, from_none}
use Rattle.nesting.specs.Nesting.{plain}
use Rattle.sheet_words.specs.declared.place.Place.{Place}
use Rattle.sheet_words.specs.PutInFront.{Part, Puts}
use Rattle.sheet_words.specs.laws.PutInFrontLaws.{◌⊕◌, puts_then, puts_none}
use Rattle.sheet_words.specs.Parts.{each}

-- f k, f (k + 1), .., n of them.
unfoldable pub run : (ℕ → Part) → ℕ → ℕ → Part
run f k zero = plain []
run f k (suc n) = f k ⊕ run f (suc k) n

-- ---- The loop: from n down to 0. Before a turn, those from place k on are put.
pub run_start : (f : ℕ → Part) (n : ℕ) (out : List ℕ) (at : Place) → Puts out at (run f n (n - n)) out at
unfolding run
run_start f n out at = let e : n - n ≡ 0 = omega arith in rw e (puts_none out at)

module _ (f : ℕ → Part) (n k : ℕ) {out₀ out : List ℕ} {at₀ at : Place} where
  pub run_turn : {out' : List ℕ} {at' : Place} → 0 < k → k ≤ n → Puts out₀ at₀ (run f k (n - k)) out at → Puts out at (f (k - 1)) out' at'
      → Puts out₀ at₀ (run f (k - 1) (n - (k - 1))) out' at'
  unfolding run
  run_turn some within p q =
      let e : n - (k - 1) ≡ suc (n - k) = omega arith in
      let d : suc (k - 1) ≡ k = omega arith in
      rw (e, d) (puts_then p q)

  pub run_all : k ≤ 0 → Puts out₀ at₀ (run f k (n - k)) out at → Puts out₀ at₀ (run f 0 n) out at
  run_all none p =
      let e : k ≡ 0 = omega arith in
      let d : n - 0 ≡ n = omega arith in
      rw d at (rw e at p)

-- ---- A list's elements, each by its place.
pub run_is : {A : Type 0} (h : ℕ → Part) (f : A → Part) (d : A) (k : ℕ) (xs : List A)
    → ((j : ℕ) → j < length xs → h (k + j) ≡ f (get_or xs j d)) → run h k (length xs) ≡ each f xs
unfolding run
run_is h f d k [] e = refl
run_is h f d k (x ∷ xs) e =
    let first : h k ≡ f x = rw (no_further k) at (e 0 (omega arith)) in
    let rest : run h (suc k) (length xs) ≡ each f xs = run_is h f d (suc k) xs (λ j l. rw (one_further k j) at (e (suc j) (omega arith))) in
    rw (first, rest)

-- From the first on, as a loop's invariant ends with it.
pub run_list : {A : Type 0} (h : ℕ → Part) (f : A → Part) (d : A) (n : ℕ) (xs : List A) → n ≡ length xs
    → ((j : ℕ) → j < length xs → h j ≡ f (get_or xs j d)) → run h 0 n ≡ each f xs
run_list h f d n xs size e = rw size (run_is h f d 0 xs (λ j l. rw (from_none j) (e j l)))
