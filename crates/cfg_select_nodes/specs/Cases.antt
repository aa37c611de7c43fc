-- The cases of a select, as the words alone have them.
use Rattle.std.specs.Prelude.{◌≡◌, Bool, true, false, List, ℕ, zero, suc, ◌-◌, eqb, Option, Some, None}
use Rattle.std.specs.Prelude.{Ok}
use Rattle.state_words.specs.Totals.{Made, Done, Full}
use Rattle.state_words.specs.Sections.{stored, cases}
use Rattle.state_regions.specs.RegionTables.{case_total}
use Rattle.state_words.specs.Totals.{Defines}
use Rattle.state_nodes.specs.NodeTables.{inserted}
use Rattle.cfg_bundles.specs.EdgesAndCases.{case_inputs}
use Rattle.meaning.specs.Lists.{pick}
use Rattle.nesting.specs.Nesting.{most_regions}
use Rattle.state_words.specs.Rows.{case_body, case_body_at, case_children, case_claimed, case_kind, case_set_length, entry_replace}
use Rattle.state_words.specs.Rows.{regions_at}

-- n cases from place j on, with what was found before them.
unfoldable pub convergent_from : List ℕ → ℕ → ℕ → ℕ → ℕ
convergent_from l zero j found = found
convergent_from l (suc n) j found =
    pick (eqb (case_set_length l j) 0) (convergent_from l n (suc j) found) (pick (eqb found 8) (convergent_from l n (suc j) j) 8)

abbrev pub convergent_case : List ℕ → ℕ
convergent_case l = convergent_from l (case_total l) 0 8

-- What the search answered, as a number: 8 for none.
abbrev pub place_of : Option ℕ → ℕ
place_of None = 8
place_of (Some j) = j

-- Only a claimed region has children.
unfoldable pub children_of : List ℕ → ℕ → ℕ
children_of l j = pick (eqb (case_kind l j) case_claimed) (case_children l j) 0

unfoldable pub any_from : List ℕ → ℕ → ℕ → Bool
any_from l zero j = false
any_from l (suc n) j = pick (eqb (children_of l j) 0) (any_from l n (suc j)) true

abbrev pub any_non_empty_case : List ℕ → Bool
any_non_empty_case l = any_from l (case_total l) 0

-- Case j has its region: a claimed one has it already.
pub data GetsRegion (j : ℕ) (l l' : List ℕ) : Made → Type 0 where
  has_region : case_kind l j ≡ case_claimed → l' ≡ l → GetsRegion j l l' Done
  new_region : {r : ℕ} {l₁ : List ℕ} → (case_kind l j ≡ case_claimed → ⊥) → Defines regions_at most_regions l l₁ (Ok r)
      → l' ≡ stored l₁ cases (case_body_at j) r → GetsRegion j l l' Done
  no_region : (case_kind l j ≡ case_claimed → ⊥) → Defines regions_at most_regions l l' Full → GetsRegion j l l' Full

unfoldable pub inputs_replaced : List ℕ → ℕ → List ℕ
inputs_replaced l j = pick (eqb (case_kind l j) case_claimed) (inserted l (case_body l j) entry_replace (case_inputs l j)) l

unfoldable pub all_replaced : List ℕ → ℕ → ℕ → List ℕ
all_replaced l zero j = l
all_replaced l (suc n) j = all_replaced (inputs_replaced l j) n (suc j)
