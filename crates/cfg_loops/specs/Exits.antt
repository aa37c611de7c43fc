-- ONE for each deferred target of a loop's exit list, as the words and the graph have it.
use Rattle.std.specs.Prelude.{◌≡◌, List, ℕ, zero, suc, ◌+◌, ◌-◌}
use Rattle.meaning.specs.Graph.{Graph}
use Rattle.meaning.specs.Lists.{pick, is_in}
use Rattle.state_words.specs.Sections.{word, stored, bundles, set_starts, set_lengths}
use Rattle.nesting.specs.Nesting.{exit_targets}
use Rattle.state_sets.specs.SetTables.{bundle_at}
use Rattle.state_words.specs.Totals.{edges_word}
use Rattle.state_shown.specs.Front.{SameKinds}
use Rattle.state_words.specs.Rows.{bundle_count, bundle_count_at, bundle_target}

-- Of loop r, in bundle p.
unfoldable pub exit_added : Graph → ℕ → ℕ → List ℕ → List ℕ
exit_added g r p l =
    let n = bundle_count l p in
    pick (is_in (bundle_target l p) (exit_targets g r)) (stored l bundles (bundle_count_at p) (edges_word (n + 1))) l

-- In k bundles from place i on.
unfoldable pub exits_from : Graph → ℕ → ℕ → ℕ → ℕ → List ℕ → List ℕ
exits_from g r start zero i l = l
exits_from g r start (suc k) i l = exits_from g r start k (suc i) (exit_added g r (bundle_at start i) l)

abbrev pub exits_added : Graph → ℕ → List ℕ → List ℕ
exits_added g r l = exits_from g r (word l set_starts r) (word l set_lengths r) 0 l

pub record ExitsLeft (g : Graph) (r start n i : ℕ) (l₀ l : List ℕ) : Type 0 where
  pub front : SameKinds l₀ l
  pub left : exits_from g r start (n - i) i l ≡ exits_from g r start n 0 l₀
