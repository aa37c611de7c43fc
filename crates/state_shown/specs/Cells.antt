-- What the cells show: lists of nodes, of a select's cases, of a loop's kept inputs, each by a handle. A list names earlier cells only.
use Rattle.std.specs.Prelude.{◌≡◌, List, [], ◌∷◌, ◌++◌, ℕ, ◌≤◌, ◌<◌, length, get_or}
use Rattle.meaning.specs.Graph.{Value, SelectionKind, Graph, region, input, exit_invocation}
use Rattle.meaning.specs.Runs.{Nodes, ⟨⟩, ◌▸◌, Cases, ∅, loop, exit}
pub use Rattle.meaning.specs.Runs.{case_count}
use Rattle.nesting.specs.Nesting.{join, blocks_of, new_case, new_select, LoopInputs, loop_node}
use Rattle.nesting.specs.Nesting.{most_regions}
use Rattle.state_words.specs.Sections.{section, word, head, cells}
use Rattle.state_shown.specs.Values.{value}
use Rattle.state_shown.specs.Tables.{ShowsShape}
use Rattle.state_words.specs.Rows.{cell_row_size, cell_word_at, cells_at}
use Rattle.state_nodes.specs.declared.cells.Cell.{Cell}
use Rattle.state_nodes.specs.NodeTables.{Blocks, Join, Exit, Select, Loop, Case, Kept}
use Rattle.state_nodes.specs.NodeTables.{cell_words}

-- Cell h has the words of x.
pub record CellIs (l : List ℕ) (h : ℕ) (x : Cell) : Type 0 where
  pub is : (i : ℕ) → i < cell_row_size → get_or l (cell_word_at h i) 0 ≡ get_or (cell_words x) i 0

-- The inputs that the loop of header r keeps: initial inputs, types, outputs of its body. An initial input is the wrapper's, and one word
-- names it.
pub data ShowsKept (g : Graph) (l : List ℕ) (r : ℕ) : ℕ → List Value → List ℕ → List Value → Type 0 where
  none_kept : {h : ℕ} → h ≡ 0 → ShowsKept g l r h [] [] []
  one_kept : {h p k wrapper x : ℕ} {v : Value} {is is' : List Value} {ts ts' : List ℕ} {os os' : List Value}
      → CellIs l h (Kept p k wrapper x)
      → p < h → k < 4 → wrapper < most_regions → ShowsKept g l r p is ts os → value x ≡ v
      → is' ≡ is ++ (input wrapper k ∷ []) → ts' ≡ ts ++ (get_or (region g r).inputs k 0 ∷ []) → os' ≡ os ++ (v ∷ [])
      → ShowsKept g l r h is' ts' os'

mutual
  pub data ShowsNodes (g : Graph) (l : List ℕ) : ℕ → Nodes → Type 0 where
    no_nodes : {h : ℕ} → h ≡ 0 → ShowsNodes g l h ⟨⟩
    all_blocks : {h r : ℕ} {ks : Nodes} → CellIs l h (Blocks r) → 1 ≤ h → 1 ≤ length (region g r).blocks → ks ≡ blocks_of g r
        → ShowsNodes g l h ks
    two_lists : {h p q : ℕ} {ns ms ks : Nodes} → CellIs l h (Join p q) → 1 ≤ p → p < h → 1 ≤ q → q < h → ShowsNodes g l p ns
        → ShowsNodes g l q ms → ks ≡ join ns ms → ShowsNodes g l h ks
    then_exit : {h p n r op : ℕ} {vs : List Value} {ns ks : Nodes} → CellIs l h (Exit p n r) → p < h → ShowsNodes g l p ns
        → (region g r).terminator ≡ exit_invocation op vs → ks ≡ join ns (exit n op vs ▸ ⟨⟩) → ShowsNodes g l h ks
    then_select : {h p n shape x q : ℕ} {kind : SelectionKind} {v : Value} {cs : Cases} {ns ks : Nodes}
        → CellIs l h (Select p n shape x q)
        → p < h → q < h → ShowsNodes g l p ns → ShowsShape shape (case_count cs) kind → value x ≡ v → ShowsCaseCells g l q cs
        → ks ≡ join ns (new_select n kind v cs ▸ ⟨⟩) → ShowsNodes g l h ks
    the_loop : {h p n r x q : ℕ} {v : Value} {ns ks : Nodes} (y : LoopInputs) → CellIs l h (Loop p n r x q) → p < h → q < h
        → ShowsNodes g l p ns → value x ≡ v → ShowsKept g l r q y.initial_inputs y.types y.outputs
        → ks ≡ loop (loop_node g n r y v) ns ▸ ⟨⟩ → ShowsNodes g l h ks

  pub data ShowsCaseCells (g : Graph) (l : List ℕ) : ℕ → Cases → Type 0 where
    no_cases : {h : ℕ} → h ≡ 0 → ShowsCaseCells g l h ∅
    case_and : {h p r q : ℕ} {ns : Nodes} {cs ks : Cases} → CellIs l h (Case p r q) → p < h → q < h → ShowsNodes g l q ns
        → ShowsCaseCells g l p cs → ks ≡ new_case r ns cs → ShowsCaseCells g l h ks

-- A list of nodes that was made, by its handle.
pub record ShowsChildren (g : Graph) (w : List ℕ) (h : ℕ) (ks : Nodes) : Type 0 where
  pub nodes : ShowsNodes g (section w cells) h ks
  pub made : h < word w head cells_at
