-- The state before the first claim, as the words and the graph have it.
use Rattle.std.specs.Prelude.{◌≡◌, List, [], ◌∷◌, ℕ, ◌+◌, ◌-◌, min, length, get_or}
use Rattle.meaning.specs.Graph.{Graph, no_value}
use Rattle.format.specs.References.{type_in, behind_all, first_return}
use Rattle.fields.specs.ByNumber.{blocks_before, end_values}
use Rattle.state_words.specs.Sections.{stored, stored_all, filled, head, kinds, set_starts, rewrites}
use Rattle.state_sets.specs.SetTables.{slot}
use Rattle.state_shown.specs.Front.{SameFront}
use Rattle.state_words.specs.Rows.{entries_at, largest, regions_at, returned_at, spare_slot, types_at}

-- ---- Of n regions: no entry is set, none is begun, and each has a slot of its own, as the spare one has.
abbrev pub nothing_rewritten : List ℕ → List ℕ
nothing_rewritten l = stored l rewrites entries_at 0

module _ (n : ℕ) where
  abbrev pub nothing_begun : List ℕ → List ℕ
  nothing_begun l = filled kinds (λ r. r) (λ r. 0) n 0 l

  abbrev pub slots_placed : List ℕ → List ℕ
  slots_placed l = stored (filled set_starts (λ a. a) slot n 0 l) set_starts spare_slot (slot 32)

  abbrev pub emptied : List ℕ → List ℕ
  emptied l = slots_placed (nothing_begun (nothing_rewritten l))

-- ---- What the record has.
module _ (g : Graph) where
  unfoldable pub returned_type : ℕ → ℕ
  returned_type k =
      let q = first_return g.regions in type_in g q (behind_all g q) (get_or (end_values g q) k no_value)

  abbrev pub returned_count : ℕ
  returned_count = length (end_values g (first_return g.regions))

  abbrev pub totals : ℕ → List ℕ
  totals n = n ∷ min (blocks_before g n) largest ∷ 0 ∷ 0 ∷ 1 ∷ 0 ∷ 0 ∷ []

  abbrev pub counted : ℕ → List ℕ → List ℕ
  counted n l = stored_all l head regions_at (totals n)

  -- Of the types of returned values, n from the first on.
  abbrev pub types_stored : ℕ → ℕ → List ℕ → List ℕ
  types_stored n k l = filled head (λ k. types_at + k) returned_type n k l

  abbrev pub returned : List ℕ → List ℕ
  returned l = stored (types_stored (min returned_count 4) 0 l) head returned_at returned_count

  abbrev pub started : List ℕ → List ℕ
  started l = returned (counted (length g.regions) (emptied (length g.regions) l))

-- ---- The turns over the returned values.
pub record ReturnedLeft (g : Graph) (k : ℕ) (l₀ l : List ℕ) : Type 0 where
  pub front : SameFront l₀ l
  pub left : types_stored g (min (returned_count g) 4 - k) k l ≡ types_stored g (min (returned_count g) 4) 0 l₀
