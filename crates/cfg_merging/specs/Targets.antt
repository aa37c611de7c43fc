-- The set of deferred targets in the spare slot, as the words have it.
use Rattle.std.specs.Prelude.{List, [], ◌∷◌, ℕ, ◌+◌, ◌-◌, ltb, eqb}
use Rattle.meaning.specs.Lists.{pick}
use Rattle.state_words.specs.Sections.{word, stored, stored_all, set_starts, set_lengths, bundles}
use Rattle.state_words.specs.Totals.{edges_word}
use Rattle.state_sets.specs.SetTables.{find_by, bundle_at}
use Rattle.state_regions.specs.RegionTables.{case_total}
use Rattle.cfg_merging.specs.Turns.{turned}
use Rattle.state_words.specs.Rows.{bundle_count, bundle_count_at, bundle_row_at, bundle_target, bundle_word, case_set_length}
use Rattle.state_words.specs.Rows.{case_set_start}
use Rattle.state_words.specs.Rows.{largest, no_bundle_word, spare_slot}

-- The length of a set with k bundles more.
unfoldable pub longer : ℕ → ℕ → ℕ
longer n k = pick (ltb n (largest - k)) (n + k) largest

-- A target that has no bundle yet gets one; else its edges are counted with the others.
abbrev pub row_added : List ℕ → ℕ → ℕ → ℕ → List ℕ
row_added l p start n =
    let field : ℕ → ℕ = λ i. bundle_word l p i in
    stored (stored_all l bundles (bundle_row_at (bundle_at start n)) (field 0 ∷ field 1 ∷ 1 ∷ [])) set_lengths spare_slot (longer n 1)

abbrev pub edges_added : List ℕ → ℕ → ℕ → List ℕ
edges_added l p q = stored l bundles (bundle_count_at q) (edges_word (bundle_count l q + bundle_count l p))

unfoldable pub summarize_bundle : List ℕ → ℕ → List ℕ
summarize_bundle l p =
    let start = word l set_starts spare_slot in
    let n = word l set_lengths spare_slot in
    let q = find_by l start (bundle_target l p) n 0 in
    pick (eqb q no_bundle_word) (row_added l p start n) (edges_added l p q)

unfoldable pub summarize_set : List ℕ → ℕ → ℕ → List ℕ
summarize_set l start n = turned (λ m i. summarize_bundle m (bundle_at start i)) l n 0

abbrev pub summarize_case : List ℕ → ℕ → List ℕ
summarize_case l j = summarize_set l (case_set_start l j) (case_set_length l j)

unfoldable pub deferred_targets : List ℕ → List ℕ
deferred_targets l =
    let m = stored l set_lengths spare_slot 0 in
    turned summarize_case m (case_total m) 0
