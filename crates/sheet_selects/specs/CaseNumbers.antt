-- The regions of a select's cases, from their cells: a case's cell names those after it.
use Rattle.std.specs.Prelude.{List, ◌∷◌, ℕ, length}
use Rattle.meaning.specs.Graph.{Graph}
use Rattle.meaning.specs.Runs.{Cases}
use Rattle.nesting.specs.Nesting.{plain}
use Rattle.nesting.specs.Sheet.{case_numbers}
use Rattle.state_words.specs.Sections.{section, cells}
use Rattle.state_shown.specs.Cells.{ShowsCaseCells}
use Rattle.sheet_words.specs.declared.place.Place.{Place}
use Rattle.sheet_words.specs.PutInFront.{Puts}
use Rattle.sheet_regions.specs.declared.Counted.{Counted}
use Rattle.sheet_regions.specs.Numbers.{PutsNumbers}

abbrev pub PutsRegions : List ℕ → ℕ → List ℕ → Counted → List ℕ → Counted → Type 0
PutsRegions w list out x out' x' =
    (g : Graph) (cs : Cases) → ShowsCaseCells g (section w cells) list cs → PutsNumbers out x (case_numbers cs) out' x'

-- With their count in front.
abbrev pub PutsCaseNumbers : List ℕ → ℕ → List ℕ → Place → List ℕ → Place → Type 0
PutsCaseNumbers w list out at out' at' =
    (g : Graph) (cs : Cases) → ShowsCaseCells g (section w cells) list cs
    → Puts out at (plain (length (case_numbers cs) ∷ case_numbers cs)) out' at'
