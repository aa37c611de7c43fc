-- A select that is defined, as the words alone have it.
use Rattle.std.specs.Prelude.{◌≡◌, List, ℕ, suc, ◌-◌}
use Rattle.std.specs.Prelude.{Ok}
use Rattle.state_words.specs.Totals.{Defined, Done, Full}
use Rattle.state_words.specs.Sections.{word, stored, children}
use Rattle.state_regions.specs.RegionTables.{case_total}
use Rattle.state_nodes.specs.NodeTables.{Adds}
use Rattle.state_words.specs.Totals.{Defines}
use Rattle.state_nodes.specs.NodeTables.{Case, Select}
use Rattle.cfg_lookups.specs.Materialized.{Materializes}
use Rattle.cfg_select_nodes.specs.declared.define.Scrutinee.{Scrutinee}
use Rattle.cfg_select_nodes.specs.declared.define.Scrutinee.TheVariants.{Value, Lazy}
use Rattle.cfg_select_nodes.specs.Turns.{Turns}
use Rattle.cfg_select_nodes.specs.Cases.{GetsRegion, children_of}
use Rattle.nesting.specs.Nesting.{most_nodes}
use Rattle.state_words.specs.Rows.{case_body, nodes_at}

pub data ScrutineeMade (l : List ℕ) : Scrutinee → List ℕ → Defined → Type 0 where
  given_value : {v : ℕ} {l' : List ℕ} → l' ≡ l → ScrutineeMade l (Value v) l' (Ok v)
  made_value : {c : ℕ} {l' : List ℕ} {a : Defined} → Materializes l c l' a → ScrutineeMade l (Lazy c) l' a

-- The cells of the first n cases are added, the last first, to those at h.
pub data CaseCells : ℕ → ℕ → List ℕ → List ℕ → ℕ → Type 0 where
  cells_over : {n h h' : ℕ} {l l' : List ℕ} → n ≡ 0 → l' ≡ l → h' ≡ h → CaseCells n h l l' h'
  cell_more : {n m h h₁ h' : ℕ} {l l₁ l' : List ℕ} → n ≡ suc m
      → Adds l l₁ (Case h (case_body l m) (children_of l m)) h₁ → CaseCells m h₁ l₁ l' h'
      → CaseCells n h l l' h'

pub data SelectAdded (r node shape v : ℕ) (l l' : List ℕ) (h : ℕ) : Type 0 where
  select_added : {l₁ l₂ : List ℕ} {cs before : ℕ} → CaseCells (case_total l) 0 l l₁ cs → before ≡ word l₁ children r
      → Adds l₁ l₂ (Select before node shape v cs) h → l' ≡ stored l₂ children r h → SelectAdded r node shape v l l' h

pub data SelectDefined (r shape : ℕ) (x : Scrutinee) (l l' : List ℕ) : Defined → Type 0 where
  regions_full : Turns GetsRegion (case_total l) 0 l l' Full → SelectDefined r shape x l l' Full
  scrutinee_full : {l₁ : List ℕ} → Turns GetsRegion (case_total l) 0 l l₁ Done → ScrutineeMade l₁ x l' Full
      → SelectDefined r shape x l l' Full
  node_full : {l₁ l₂ : List ℕ} {v : ℕ} → Turns GetsRegion (case_total l) 0 l l₁ Done → ScrutineeMade l₁ x l₂ (Ok v)
      → Defines nodes_at most_nodes l₂ l' Full → SelectDefined r shape x l l' Full
  select_defined : {l₁ l₂ l₃ : List ℕ} {v n h : ℕ} → Turns GetsRegion (case_total l) 0 l l₁ Done → ScrutineeMade l₁ x l₂ (Ok v)
      → Defines nodes_at most_nodes l₂ l₃ (Ok n) → SelectAdded r n shape v l₃ l' h → SelectDefined r shape x l l' (Ok h)

-- ---- Turns of the loop over the cases.
-- Whatever the cells that are left make is made of all.
abbrev pub CellsOn : List ℕ → ℕ → ℕ → List ℕ → Type 0
CellsOn l₀ n h l = (l' : List ℕ) (h' : ℕ) → CaseCells n h l l' h' → CaseCells (case_total l₀) 0 l₀ l' h'
