-- What stands inside a cell, and the lines before it, by the cell's tag: blocks are 1, a join 2, an exit 3, a select 4, a loop 5.
use Rattle.std.specs.Prelude.{◌≡◌, Bool, true, false, List, ℕ, ◌-◌, ◌≤◌, ◌<◌, eqb}
use Rattle.meaning.specs.Lists.{pick}
use Rattle.meaning.specs.Graph.{Value, region, exit_invocation}
use Rattle.meaning.specs.Runs.{exit}
use Rattle.nesting.specs.Nesting.{blocks_of}
use Rattle.state_words.specs.Rows.{tag_blocks, tag_join, tag_exit, tag_select, tag_loop, cell_tag, blocks_region, join_list, exit_node}
use Rattle.state_words.specs.Rows.{exit_region, select_node, select_cases, loop_body, children_of_case}
use Rattle.state_lists.specs.CellByCell.{case_cell, CaseTotal}
use Rattle.sheet_words.specs.declared.place.Place.{Place}
use Rattle.sheet_words.specs.PutInFront.{Puts}
use Rattle.sheet_words.specs.Parts.{OfState, node_part, nodes_part}
use Rattle.sheet_selects.specs.SelectLines.{PutsSelectLine, PutsCaseLine}
use Rattle.sheet_nodes.specs.Regions.{PutsNodes}
use Rattle.sheet_nodes.specs.Walk.{PutsCases, PutsLoopLines}

-- The list inside cell h at place j.
unfoldable pub inner_at : List ℕ → ℕ → ℕ → ℕ
inner_at w h j =
    pick (eqb (cell_tag w h) tag_select) (children_of_case w (case_cell w (select_cases w h) j))
    (pick (eqb (cell_tag w h) tag_join) (join_list w h) (loop_body w h))

-- There are n of them.
pub data InnerTotal (w : List ℕ) (h n : ℕ) : ℕ → Type 0 where
  each_case : CaseTotal w (select_cases w h) n → InnerTotal w h n tag_select
  one_joined : n ≡ 1 → InnerTotal w h n tag_join
  one_body : n ≡ 1 → InnerTotal w h n tag_loop
  none_inside : {tag : ℕ} → (tag ≡ tag_join → ⊥) → (tag ≡ tag_select → ⊥) → (tag ≡ tag_loop → ⊥) → n ≡ 0 → InnerTotal w h n tag

-- The line before the list at place j.
pub data InnerLine (w : List ℕ) (h j : ℕ) (out : List ℕ) (at : Place) (out' : List ℕ) (at' : Place) : ℕ → Type 0 where
  case_line : PutsCaseLine w (case_cell w (select_cases w h) j) (select_node w h) j out at out' at'
      → InnerLine w h j out at out' at' tag_select
  no_inner_line : {tag : ℕ} → (tag ≡ tag_select → ⊥) → out' ≡ out → at' ≡ at → InnerLine w h j out at out' at' tag

-- The cell's own lines.
pub data OwnLines (w : List ℕ) (h : ℕ) (out : List ℕ) (at : Place) (out' : List ℕ) (at' : Place) : ℕ → Type 0 where
  blocks_lines : OfState w (λ g s. Puts out at (nodes_part s (blocks_of g (blocks_region w h))) out' at')
      → OwnLines w h out at out' at' tag_blocks
  exit_line : OfState w (λ g s. (op : ℕ) (vs : List Value) → (region g (exit_region w h)).terminator ≡ exit_invocation op vs
      → Puts out at (node_part s (exit (exit_node w h) op vs)) out' at') → OwnLines w h out at out' at' tag_exit
  select_line : PutsSelectLine w h out at out' at' → OwnLines w h out at out' at' tag_select
  body_lines : PutsLoopLines w h out at out' at' → OwnLines w h out at out' at' tag_loop
  no_own_line : {tag : ℕ} → (tag ≡ tag_blocks → ⊥) → (tag ≡ tag_exit → ⊥) → (tag ≡ tag_select → ⊥) → (tag ≡ tag_loop → ⊥) → out' ≡ out
      → at' ≡ at
      → OwnLines w h out at out' at' tag

-- Whether a list is a loop alone: then its body's list is walked for it, and the loop's lines stand before that.
unfoldable pub is_loop : List ℕ → ℕ → Bool
is_loop w list = pick (eqb list 0) false (eqb (cell_tag w list) tag_loop)

unfoldable pub walked_list : List ℕ → ℕ → ℕ
walked_list w list = pick (is_loop w list) (loop_body w list) list

pub data WalkedLines (w : List ℕ) (list : ℕ) (out : List ℕ) (at : Place) (out' : List ℕ) (at' : Place) : Type 0 where
  loop_alone : is_loop w list ≡ true → PutsLoopLines w list out at out' at' → WalkedLines w list out at out' at'
  no_loop : is_loop w list ≡ false → out' ≡ out → at' ≡ at → WalkedLines w list out at out' at'

pub data LinesPut (w : List ℕ) (h j : ℕ) (out : List ℕ) (at : Place) (out' : List ℕ) (at' : Place) : Type 0 where
  own_put : j ≡ 0 → OwnLines w h out at out' at' (cell_tag w h) → LinesPut w h j out at out' at'
  inner_put : {out₁ : List ℕ} {at₁ : Place} → (j ≡ 0 → ⊥) → WalkedLines w (inner_at w h (j - 1)) out at out₁ at₁
      → InnerLine w h (j - 1) out₁ at₁ out' at' (cell_tag w h) → LinesPut w h j out at out' at'

-- ---- The walk inside: of the n lists, those from place j on are put, each with its line.
pub record InsidePut (w : List ℕ) (h n j : ℕ) (out : List ℕ) (at : Place) (out' : List ℕ) (at' : Place) : Type 0 where
  pub cases : cell_tag w h ≡ tag_select → PutsCases w (case_cell w (select_cases w h) j) (select_node w h) j out at out' at'
  pub list : (cell_tag w h ≡ tag_select → ⊥) → j < n → PutsNodes w (inner_at w h j) out at out' at'
  pub nothing : (cell_tag w h ≡ tag_select → ⊥) → n ≤ j → (out' ≡ out) × (at' ≡ at)
