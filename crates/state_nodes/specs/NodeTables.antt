-- What a step does to the tables of nodes: cells, outputs, conditions, rewrites.
use Rattle.std.specs.Prelude.{◌≡◌, List, [], ◌∷◌, ℕ, ◌+◌, ◌-◌, ◌≤◌, ◌<◌, get_or, ltb, eqb}
use Rattle.std.specs.Prelude.{Ok}
use Rattle.state_words.specs.Totals.{Defined, Full}
use Rattle.state_nodes.specs.declared.cells.Cell.{Cell}
use Rattle.state_nodes.specs.declared.cells.Cell.TheVariants as cell
use Rattle.state_words.specs.Sections.{section, word, stored, stored_all, filled, head, cells, rewrites}
use Rattle.state_words.specs.Sections.{outputs, conditions}
use Rattle.meaning.specs.Lists.{pick}
use Rattle.nesting.specs.Nesting.{most_regions, most_merges, most_outputs}
use Rattle.state_words.specs.Values.{parts}
use Rattle.state_words.specs.Rows.{cell_row_at, cell_word, cells_at, entries_at, entry_none, bool_shape}
use Rattle.state_words.specs.Rows.{merge_row_at, merge_select, merges_at, merges_from, most_cells}
use Rattle.state_words.specs.Rows.{output_node_at, outputs_at, rewrite_kind_at, rewrite_values_at}
use Rattle.state_words.specs.Rows.{tag_blocks, tag_case, tag_exit, tag_join, tag_kept, tag_loop, tag_select}

-- A condition, or true where it names no earlier one.
unfoldable pub earlier_part : ℕ → ℕ → ℕ
earlier_part p c = pick (ltb p c) p 1

-- How many cases a select of this shape has.
unfoldable pub shape_size : ℕ → ℕ
shape_size shape = pick (eqb shape bool_shape) 2 (pick (ltb shape 8) shape 8)

-- The six words of a cell: its tag, the list before it (of a loop: its body's; of a case: the cases after it), and what its tag has.
abbrev pub cell_words : Cell → List ℕ
cell_words (cell.Blocks region) = tag_blocks ∷ 0 ∷ region ∷ 0 ∷ 0 ∷ 0 ∷ []
cell_words (cell.Join before list) = tag_join ∷ before.0 ∷ list.0 ∷ 0 ∷ 0 ∷ 0 ∷ []
cell_words (cell.Exit before node region) = tag_exit ∷ before.0 ∷ node ∷ region ∷ 0 ∷ 0 ∷ []
cell_words (cell.Select before node shape scrutinee list) = tag_select ∷ before.0 ∷ node ∷ shape ∷ scrutinee ∷ list.0 ∷ []
cell_words (cell.Loop body node header repeat kept) = tag_loop ∷ body.0 ∷ node ∷ header ∷ repeat ∷ kept.0 ∷ []
cell_words (cell.Case after region children) = tag_case ∷ after.0 ∷ region ∷ children.0 ∷ 0 ∷ 0 ∷ []
cell_words (cell.Kept before input wrapper back) = tag_kept ∷ before.0 ∷ input ∷ wrapper ∷ back ∷ 0 ∷ []

-- A cell by numbers: of its lists the handles' numbers.
abbrev pub Blocks : ℕ → Cell
Blocks r = cell.Blocks r

abbrev pub Join : ℕ → ℕ → Cell
Join p q = cell.Join (record { 0 = p }) (record { 0 = q })

abbrev pub Exit : ℕ → ℕ → ℕ → Cell
Exit p n r = cell.Exit (record { 0 = p }) n r

abbrev pub Select : ℕ → ℕ → ℕ → ℕ → ℕ → Cell
Select p n shape x q = cell.Select (record { 0 = p }) n shape x (record { 0 = q })

abbrev pub Loop : ℕ → ℕ → ℕ → ℕ → ℕ → Cell
Loop p n r x q = cell.Loop (record { 0 = p }) n r x (record { 0 = q })

abbrev pub Case : ℕ → ℕ → ℕ → Cell
Case p r q = cell.Case (record { 0 = p }) r (record { 0 = q })

abbrev pub Kept : ℕ → ℕ → ℕ → ℕ → Cell
Kept p k wrapper x = cell.Kept (record { 0 = p }) k wrapper x

-- A cell more, at the handle that the head counts.
pub data Adds (l l' : List ℕ) (x : Cell) (h : ℕ) : Type 0 where
  added : h ≡ word l head cells_at → h < most_cells → l' ≡ stored (stored_all l cells (cell_row_at h) (cell_words x)) head cells_at (h + 1)
      → Adds l l' x h
  no_room : most_cells ≤ word l head cells_at → l' ≡ l → h ≡ 0 → Adds l l' x h

-- The kind of a region's entry, by the words of the rewrites. What is not set is none, whatever stands there.
unfoldable pub entry_kind : List ℕ → ℕ → ℕ
entry_kind l r = pick (ltb r (get_or l entries_at 0)) (get_or l (rewrite_kind_at r) 0) 0

abbrev pub rewrite_kind : List ℕ → ℕ → ℕ
rewrite_kind l r = entry_kind (section l rewrites) r

abbrev pub entries : List ℕ → ℕ
entries l = word l rewrites entries_at

-- n entries from region q's on are none.
abbrev pub cleared : ℕ → ℕ → List ℕ → List ℕ
cleared n q l = filled rewrites (λ q. rewrite_kind_at q) (λ q. 0) n q l

-- Entries are set up to region r's, which is to come: those between are none.
unfoldable pub reached : List ℕ → ℕ → List ℕ
reached l r = pick (ltb r (entries l)) l (stored (cleared (r - entries l) (entries l) l) rewrites entries_at (r + 1))

-- The first entry of a region wins.
unfoldable pub inserted : List ℕ → ℕ → ℕ → List ℕ → List ℕ
inserted l r kind vs =
    pick (ltb r most_regions)
    (pick (eqb (rewrite_kind l r) entry_none)
    (stored_all (stored (reached l r) rewrites (rewrite_kind_at r) kind) rewrites (rewrite_values_at r) vs) l) l

-- ---- Outputs and conditions, each within its limit.
pub data OutputDefined (node ty : ℕ) (vs l l' : List ℕ) : Defined → Type 0 where
  output_defined : {o : ℕ} → o ≡ word l head outputs_at → o < most_outputs
      → l' ≡ stored (stored_all l outputs (output_node_at o) (node ∷ ty ∷ vs)) head outputs_at (o + 1)
      → OutputDefined node ty vs l l' (Ok o)
  outputs_full : most_outputs ≤ word l head outputs_at → l' ≡ l → OutputDefined node ty vs l l' Full

-- Of a select by its cell.
pub data MergeDefined (select : ℕ) (parts l l' : List ℕ) : Defined → Type 0 where
  merge_defined : {m c : ℕ} → m ≡ word l head merges_at → m < most_merges → c ≡ merges_from + m
      → l' ≡ stored (stored_all l conditions (merge_row_at c) (select ∷ parts)) head merges_at (m + 1)
      → MergeDefined select parts l l' (Ok c)
  merges_full : most_merges ≤ word l head merges_at → l' ≡ l → MergeDefined select parts l l' Full

-- Word i of the cell of condition c's select.
abbrev pub select_word : List ℕ → ℕ → ℕ → ℕ
select_word l c i = cell_word l (merge_select l c) i

pub data Joins (l l' : List ℕ) (a b h : ℕ) : Type 0 where
  first_empty : a ≡ 0 → l' ≡ l → h ≡ b → Joins l l' a b h
  second_empty : (a ≡ 0 → ⊥) → b ≡ 0 → l' ≡ l → h ≡ a → Joins l l' a b h
  joined : (a ≡ 0 → ⊥) → (b ≡ 0 → ⊥) → Adds l l' (Join a b) h → Joins l l' a b h
