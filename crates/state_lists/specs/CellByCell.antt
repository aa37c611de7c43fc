-- A list of nodes that the words show, cell by cell: the list before a cell, and what the cell adds to it, as the words have it.
use Rattle.std.specs.Prelude.{◌≡◌, List, ℕ, zero, suc, ◌≤◌, ◌<◌, eqb, length}
use Rattle.meaning.specs.Lists.{pick}
use Rattle.meaning.specs.Graph.{Value, SelectionKind, Graph, region, exit_invocation}
use Rattle.meaning.specs.Runs.{Nodes, ⟨⟩, ◌▸◌, Cases, loop, exit, case_count}
use Rattle.nesting.specs.Nesting.{join, blocks_of, new_case, new_select, LoopInputs, loop_node}
use Rattle.state_words.specs.Sections.{section, cells}
use Rattle.state_words.specs.Rows as rows
use Rattle.state_words.specs.Rows.{tag_blocks, tag_join, tag_exit, tag_select, tag_loop, cell_tag, cell_before, blocks_region}
use Rattle.state_words.specs.Rows.{join_list, exit_node, exit_region, select_node, select_shape, select_scrutinee, select_cases}
use Rattle.state_words.specs.Rows.{loop_body, loop_header, loop_repeat, loop_kept, cases_after, case_region, children_of_case}
use Rattle.state_shown.specs.Values.{value}
use Rattle.state_shown.specs.Tables.{ShowsShape}
use Rattle.state_shown.specs.Cells.{ShowsKept, ShowsNodes}
use Rattle.state_shown.specs.Cells.{ShowsCaseCells}

-- A loop stands alone: what it names there is its body.
unfoldable pub list_before : List ℕ → ℕ → ℕ
list_before w h = pick (eqb (cell_tag w h) tag_loop) 0 (cell_before w h)

-- The nodes that a cell with this tag adds to the list before it.
pub data CellAdded (g : Graph) (w : List ℕ) (h : ℕ) (ks : Nodes) : ℕ → Type 0 where
  added_blocks : 1 ≤ length (region g (blocks_region w h)).blocks → ks ≡ blocks_of g (blocks_region w h) → CellAdded g w h ks tag_blocks
  added_list : ShowsNodes g (section w cells) (join_list w h) ks → CellAdded g w h ks tag_join
  added_exit : {op : ℕ} {vs : List Value} → (region g (exit_region w h)).terminator ≡ exit_invocation op vs
      → ks ≡ exit (exit_node w h) op vs ▸ ⟨⟩ → CellAdded g w h ks tag_exit
  added_select : {kind : SelectionKind} {v : Value} {cs : Cases} → ShowsShape (select_shape w h) (case_count cs) kind
      → value (select_scrutinee w h) ≡ v → ShowsCaseCells g (section w cells) (select_cases w h) cs
      → ks ≡ new_select (select_node w h) kind v cs ▸ ⟨⟩ → CellAdded g w h ks tag_select
  added_loop : {v : Value} {ns : Nodes} (y : LoopInputs) → ShowsNodes g (section w cells) (loop_body w h) ns
      → value (loop_repeat w h) ≡ v
      → ShowsKept g (section w cells) (loop_header w h) (loop_kept w h) y.initial_inputs y.types y.outputs
      → ks ≡ loop (loop_node g (rows.loop_node w h) (loop_header w h) y v) ns ▸ ⟨⟩ → CellAdded g w h ks tag_loop

-- A list whose last cell is h: the list before it, and what it adds.
pub data ListAppended (g : Graph) (w : List ℕ) (h : ℕ) (ks : Nodes) : Type 0 where
  appends : {ns ms : Nodes} → ShowsNodes g (section w cells) (list_before w h) ns → CellAdded g w h ms (cell_tag w h) → ks ≡ join ns ms
      → ListAppended g w h ks

-- Cases whose first is cell h.
pub data FirstCase (g : Graph) (w : List ℕ) (h : ℕ) (ks : Cases) : Type 0 where
  case_first : {ns : Nodes} {cs : Cases} → ShowsNodes g (section w cells) (children_of_case w h) ns
      → ShowsCaseCells g (section w cells) (cases_after w h) cs → ks ≡ new_case (case_region w h) ns cs → FirstCase g w h ks

-- The cell of the case at place j of those from cell h on; 0 behind the last.
unfoldable pub case_cell : List ℕ → ℕ → ℕ → ℕ
case_cell w h zero = h
case_cell w h (suc j) = cases_after w (case_cell w h j)

-- How many cases there are from cell h on.
pub record CaseTotal (w : List ℕ) (h n : ℕ) : Type 0 where
  pub end : case_cell w h n ≡ 0
  pub some : (j : ℕ) → j < n → 1 ≤ case_cell w h j
