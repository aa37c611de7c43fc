-- The walk over child nodes, cell by cell from the last to the first.
use Rattle.std.specs.Prelude.{◌≡◌, List, ℕ, ◌+◌, ◌≤◌}
use Rattle.meaning.specs.Graph.{Graph}
use Rattle.meaning.specs.Runs.{Nodes, Cases, case_count}
use Rattle.nesting.specs.Nesting.{NestState}
use Rattle.state_words.specs.Sections.{section, cells}
use Rattle.state_words.specs.Rows.{cell_tag}
use Rattle.state_shown.specs.Cells.{ShowsNodes, ShowsCaseCells}
use Rattle.state_lists.specs.CellByCell.{CellAdded}
use Rattle.sheet_words.specs.declared.place.Place.{Place}
use Rattle.sheet_words.specs.PutInFront.{Part, Puts}
use Rattle.sheet_words.specs.laws.PutInFrontLaws.{◌⊕◌}
use Rattle.sheet_words.specs.Parts.{OfState, nodes_part, cases_part}
use Rattle.sheet_loops.specs.LoopParts.{loop_lines}
use Rattle.sheet_loops.specs.OfLoop.{OfLoop}

abbrev pub PutsCell : List ℕ → ℕ → List ℕ → Place → List ℕ → Place → Type 0
PutsCell w h out at out' at' =
    OfState w (λ g s. (ks : Nodes) → CellAdded g w h ks (cell_tag w h) → Puts out at (nodes_part s ks) out' at')

-- The cases from place j on. No select has more than eight.
abbrev pub PutsCases : List ℕ → ℕ → ℕ → ℕ → List ℕ → Place → List ℕ → Place → Type 0
PutsCases w list node j out at out' at' =
    OfState w (λ g s. (cs : Cases) → ShowsCaseCells g (section w cells) list cs → j + case_count cs ≤ 8
    → Puts out at (cases_part s cs node j) out' at')

-- The lines of the loop that cell h adds, which stand before its body's nodes.
abbrev pub PutsLoopLines : List ℕ → ℕ → List ℕ → Place → List ℕ → Place → Type 0
PutsLoopLines w h out at out' at' = OfState w (λ g s. OfLoop g w h (λ x ns. Puts out at (loop_lines s x ns) out' at'))

-- ---- The walk along a list: what the present handle shows, and what was put behind it, are the whole list.
pub record Behind (g : Graph) (w : List ℕ) (s : NestState) (ks : Nodes) (h : ℕ) (out : List ℕ) (at : Place) (out' : List ℕ)
    (at' : Place) : Type 0 where
  pub left : Nodes
  pub part : Part
  pub shown : ShowsNodes g (section w cells) h left
  pub whole : nodes_part s ks ≡ nodes_part s left ⊕ part
  pub puts : Puts out at part out' at'

abbrev pub PutsBehind : List ℕ → ℕ → ℕ → List ℕ → Place → List ℕ → Place → Type 0
PutsBehind w list h out at out' at' =
    OfState w (λ g s. (ks : Nodes) → ShowsNodes g (section w cells) list ks → Behind g w s ks h out at out' at')
