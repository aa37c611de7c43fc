-- The line of a select and the region lines of its cases, as the words have them.
use Rattle.std.specs.Prelude.{◌≡◌, List, [], ℕ, eqb}
use Rattle.meaning.specs.Lists.{pick}
use Rattle.meaning.specs.Graph.{Value, SelectionKind}
use Rattle.meaning.specs.Runs.{Nodes, Cases, case_count}
use Rattle.nesting.specs.Nesting.{case_outputs}
use Rattle.nesting.specs.SheetNumbers.{kind_bool, kind_num}
use Rattle.state_words.specs.Sections.{section, cells}
use Rattle.state_words.specs.Rows.{select_node, select_shape, select_scrutinee, select_cases, case_region, children_of_case, bool_shape}
use Rattle.state_shown.specs.Values.{value}
use Rattle.state_shown.specs.Tables.{ShowsShape}
use Rattle.state_shown.specs.Cells.{ShowsNodes, ShowsCaseCells}
use Rattle.sheet_words.specs.declared.place.Place.{Place}
use Rattle.sheet_words.specs.PutInFront.{Puts}
use Rattle.sheet_words.specs.Parts.{OfState, region_part}
use Rattle.sheet_selects.specs.SelectParts.{select_part}
use Rattle.sheet_selects.specs.OwnOutputs.{ValuesShown}

-- By a select's shape.
unfoldable pub kind_word : ℕ → ℕ
kind_word shape = pick (eqb shape bool_shape) kind_bool kind_num

-- The case of cell h, at place j of the node's.
abbrev pub PutsCaseLine : List ℕ → ℕ → ℕ → ℕ → List ℕ → Place → List ℕ → Place → Type 0
PutsCaseLine w h node j out at out' at' =
    OfState w (λ g s. (ns : Nodes) → ShowsNodes g (section w cells) (children_of_case w h) ns → ValuesShown w s node j
    → Puts out at (region_part s (case_region w h) [] ns (case_outputs node j s.node_outputs)) out' at')

-- The select of cell h.
abbrev pub PutsSelectLine : List ℕ → ℕ → List ℕ → Place → List ℕ → Place → Type 0
PutsSelectLine w h out at out' at' =
    OfState w (λ g s. (kind : SelectionKind) (v : Value) (cs : Cases) → ShowsShape (select_shape w h) (case_count cs) kind
    → value (select_scrutinee w h) ≡ v → ShowsCaseCells g (section w cells) (select_cases w h) cs
    → Puts out at (select_part s (select_node w h) kind v cs) out' at')
