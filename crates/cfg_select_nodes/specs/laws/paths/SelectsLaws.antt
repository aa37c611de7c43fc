-- The turns of case_cells, from the last case to the first: what the turns that are left will make is made of all.
use Rattle.std.specs.Prelude.{◌≡◌, refl, List, ℕ, suc, ◌-◌, ◌≤◌, ◌<◌}
use Rattle.std.proofs.Common.{arith}
use Rattle.state_regions.specs.RegionTables.{case_total}
use Rattle.state_nodes.specs.NodeTables.{Adds}
use Rattle.state_nodes.specs.NodeTables.{Case}
use Rattle.cfg_select_nodes.specs.Cases.{children_of}
use Rattle.cfg_select_nodes.specs.Selects.{CaseCells, cells_over, cell_more, CellsOn}
use Rattle.state_words.specs.Rows.{case_body}

pub cells_begin : (l₀ : List ℕ) (n : ℕ) → n ≡ case_total l₀ → CellsOn l₀ n 0 l₀
cells_begin l₀ n e l' h' x = rw e at x

module _ (l₀ l : List ℕ) (n h : ℕ) (goes_on : CellsOn l₀ n h l) where
  pub cells_turn : 0 < n → {body kids h₁ : ℕ} {l₁ : List ℕ} → body ≡ case_body l (n - 1)
      → kids ≡ children_of l (n - 1) → Adds l l₁ (Case h body kids) h₁ → CellsOn l₀ (n - 1) h₁ l₁
  cells_turn more b k x l' h' y = let s : n ≡ suc (n - 1) = omega arith in goes_on l' h' (cell_more s (rw (b, k) at x) y)

  pub cells_end : n ≤ 0 → CaseCells (case_total l₀) 0 l₀ l h
  cells_end none = let s : n ≡ 0 = omega arith in goes_on l h (cells_over s refl refl)
