-- What holds of the loop that a cell adds.
use Rattle.std.specs.Prelude.{◌≡◌, List, ℕ}
use Rattle.meaning.specs.Graph.{Value, Graph}
use Rattle.meaning.specs.Runs.{Nodes, LoopNode}
use Rattle.nesting.specs.Nesting.{LoopInputs, loop_node}
use Rattle.state_words.specs.Rows as rows
use Rattle.state_words.specs.Sections.{section, cells}
use Rattle.state_words.specs.Rows.{loop_body, loop_header, loop_repeat, loop_kept}
use Rattle.state_shown.specs.Values.{value}
use Rattle.state_shown.specs.Cells.{ShowsNodes}
use Rattle.sheet_regions.specs.Kept.{KeepsInputs}

-- By the facts of `added_loop`: the nodes of its body, the repeat value, the inputs that it keeps.
abbrev pub OfLoop : Graph → List ℕ → ℕ → (LoopNode → Nodes → Type 0) → Type 0
OfLoop g w h P =
    (y : LoopInputs) (v : Value) (ns : Nodes) → ShowsNodes g (section w cells) (loop_body w h) ns → value (loop_repeat w h) ≡ v
    → KeepsInputs g w (loop_header w h) (loop_kept w h) y
    → P (loop_node g (rows.loop_node w h) (loop_header w h) y v) ns
