-- For the proofs of targets.rt: a bundle that has a fellow for its target adds its edges there, another gets a row of its own.
use Rattle.std.specs.Prelude.{◌≡◌, List, [], ◌∷◌, ℕ, ◌+◌, ◌-◌, ◌≤◌, min}
use Rattle.std.proofs.Common.{◌∙◌}
use native.Mathlib.Omega.{arith}
use Rattle.std.proofs.Math.Decide.{dec_lt}
use borrow.Author.Tests.{lt-ltb, le-ltb, eq-eqb, ne_eqb}
use Rattle.state_words.specs.Sections.{word, stored, stored_all, set_starts, set_lengths, bundles}
use Rattle.state_words.specs.Totals.{edges_word}
use Rattle.state_sets.specs.SetTables.{find_by, bundle_at}
use Rattle.state_regions.specs.RegionTables.{case_total}
use Rattle.state_words.specs.laws.Edges.{edges_fit, edges_sum}
use Rattle.cfg_merging.specs.Turns.{turned, turn_last}
use Rattle.cfg_merging.specs.Targets.{longer, summarize_bundle, summarize_case, deferred_targets}
use Rattle.state_words.specs.Rows.{bundle_count, bundle_count_at, bundle_row_at, bundle_target, largest, return_word, spare_slot}
use Rattle.state_words.specs.Rows.{no_bundle_word}

-- The length of a set with one more.
pub one_longer : (n : ℕ) {m : ℕ} → m ≡ min (n + 1) largest → m ≡ longer n 1
unfolding longer
one_longer n e = elim (dec_lt n (largest - 1)) [
  | yes h ↦ rw (lt-ltb n (largest - 1) h) (omega arith)
  | no h ↦ rw (le-ltb n (largest - 1) (omega arith)) (omega arith)
]

-- ---- The functions, path by path.
module _ (l : List ℕ) (p start n t count q : ℕ) (of_start : start ≡ word l set_starts spare_slot)
    (of_length : n ≡ word l set_lengths spare_slot)
    (of_target : t ≡ bundle_target l p) (of_count : (count ≡ bundle_count l p) × (count ≤ largest))
    (found : q ≡ find_by l start t n 0) where
  pub bundle_new : q ≡ no_bundle_word → {b m : ℕ} {l₁ l₂ : List ℕ} → b ≡ bundle_at start n
      → l₁ ≡ stored_all l bundles (bundle_row_at b) (t ∷ edges_word count ∷ 1 ∷ []) → m ≡ longer n 1
      → l₂ ≡ stored l₁ set_lengths spare_slot m
      → l₂ ≡ summarize_bundle l p
  unfolding summarize_bundle
  bundle_new e at first more last =
      let fits = edges_fit count of_count.1 in
      last ∙ rw (← of_start, ← of_length, ← of_target, ← found, eq-eqb q no_bundle_word e, ← of_count.0, first, fits, at, more)

  pub bundle_there : (q ≡ no_bundle_word → ⊥) → {before m : ℕ} {l₁ : List ℕ} → (before ≡ bundle_count l q) × (before ≤ largest)
      → m ≡ min (before + count) 4294967295 → l₁ ≡ stored l bundles (bundle_count_at q) (edges_word m)
      → l₁ ≡ summarize_bundle l p
  unfolding summarize_bundle
  bundle_there d {before} of_before more last =
      let held = edges_sum before count of_before.1 of_count.1 in
      last ∙ rw (← of_start, ← of_length, ← of_target, ← found, ne_eqb q no_bundle_word d, ← of_count.0, ← of_before.0, more, held)

pub targets_path : (l l₁ l₂ : List ℕ) (n j : ℕ) → l₁ ≡ stored l set_lengths spare_slot 0 → n ≡ case_total l₁ → n ≤ j
    → turned summarize_case l₂ (n - j) j ≡ turned summarize_case l₁ n 0
    → l₂ ≡ deferred_targets l
unfolding deferred_targets
targets_path l l₁ l₂ n j first size over left = turn_last summarize_case l₂ n j left over ∙ rw (← first, ← size)
