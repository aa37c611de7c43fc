-- The turns of a search for a target among bundles, and of moving bundles up.
use Rattle.std.specs.Prelude.{◌≡◌, List}
use Prim.Native.Nat.{ℕ, suc, ◌+◌, ◌-◌, ◌≤◌, ◌<◌}
use native.Mathlib.Omega.{arith}
use Rattle.std.proofs.Common.{add-one, eq-eqb, ne_eqb}
use Rattle.state_sets.specs.SetTables.{bundle_at, find_by, shifted, bundle_copied}
use Rattle.state_words.specs.Rows.{bundle_target, no_bundle_word}

module _ (l : List ℕ) (start t n i : ℕ) {whole : ℕ} where
  pub find_found : i < n → bundle_target l (bundle_at start i) ≡ t → find_by l start t (n - i) i ≡ whole → bundle_at start i ≡ whole
  unfolding find_by
  find_found h e q = let s : n - i ≡ suc (n - (i + 1)) = omega arith in rw (eq-eqb _ _ e) at (rw s at q)

  pub find_turn : i < n → (bundle_target l (bundle_at start i) ≡ t → ⊥) → find_by l start t (n - i) i ≡ whole
      → find_by l start t (n - (i + 1)) (i + 1) ≡ whole
  unfolding find_by
  find_turn h e q =
      let s : n - i ≡ suc (n - (i + 1)) = omega arith in
      rw (add-one i) (rw (add-one i) at (rw (ne_eqb _ _ e) at (rw s at q)))

  pub find_stop : n ≤ i → find_by l start t (n - i) i ≡ whole → no_bundle_word ≡ whole
  unfolding find_by
  find_stop h q = let s : n - i ≡ 0 = omega arith in rw s at q

module _ (start n j : ℕ) (w : List ℕ) {whole : List ℕ} where
  pub shift_turn : j < n - 1 → shifted w start j (n - 1 - j) ≡ whole
      → shifted (bundle_copied w (bundle_at start j) (bundle_at start (j + 1))) start (j + 1) (n - 1 - (j + 1)) ≡ whole
  unfolding shifted
  shift_turn h q =
      let s : n - 1 - j ≡ suc (n - 1 - (j + 1)) = omega arith in
      rw (add-one j) (rw (add-one j) at (rw s at q))

  pub shift_stop : n - 1 ≤ j → shifted w start j (n - 1 - j) ≡ whole → w ≡ whole
  unfolding shifted
  shift_stop h q = let s : n - 1 - j ≡ 0 = omega arith in rw s at q
