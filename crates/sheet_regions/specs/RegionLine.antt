-- A region's line in front of its outputs, by the inputs that it names and the handle of its list of nodes.
use Rattle.std.specs.Prelude.{List, [], ◌∷◌, ◌++◌, ℕ, length}
use Rattle.meaning.specs.Graph.{Graph, region}
use Rattle.meaning.specs.Runs.{Nodes}
use Rattle.nesting.specs.Nesting.{LoopInputs, plain}
use Rattle.nesting.specs.Sheet.{kids}
use Rattle.nesting.specs.SheetNumbers.{lead_region}
use Rattle.state_words.specs.declared.handles.Handle.{Handle}
use Rattle.state_words.specs.Sections.{section, cells}
use Rattle.state_shown.specs.Cells.{ShowsNodes}
use Rattle.sheet_words.specs.declared.place.Place.{Place}
use Rattle.sheet_words.specs.PutInFront.{Puts}
use Rattle.sheet_words.specs.Parts.{OfState, most}
use Rattle.sheet_regions.specs.declared.region_line.RegionInputs.{RegionInputs}
use Rattle.sheet_regions.specs.declared.region_line.RegionInputs.TheVariants.{None, All, Kept}
use Rattle.sheet_regions.specs.Kept.{KeepsInputs}

-- The types of the inputs that a line of region r names.
pub data HasTypes (g : Graph) (w : List ℕ) (r : ℕ) : RegionInputs → List ℕ → Type 0 where
  no_types : HasTypes g w r None []
  all_types : HasTypes g w r All (region g r).inputs
  kept_types : {list : Handle} (y : LoopInputs) → KeepsInputs g w r list.0 y → HasTypes g w r (Kept list) y.types

-- Lead, region, types, child nodes.
abbrev pub region_front : ℕ → List ℕ → Nodes → List ℕ
region_front r ts ks = (lead_region ∷ r ∷ length ts ∷ ts) ++ (most (length (kids ks)) ∷ kids ks)

abbrev pub PutsTypes : List ℕ → ℕ → RegionInputs → List ℕ → Place → List ℕ → Place → Type 0
PutsTypes w r inputs out at out' at' =
    OfState w (λ g s. (ts : List ℕ) → HasTypes g w r inputs ts → Puts out at (plain (length ts ∷ ts)) out' at')

abbrev pub PutsRegionLine : List ℕ → ℕ → RegionInputs → ℕ → List ℕ → Place → List ℕ → Place → Type 0
PutsRegionLine w r inputs list out at out' at' =
    OfState w (λ g s. (ts : List ℕ) (ks : Nodes) → HasTypes g w r inputs ts → ShowsNodes g (section w cells) list ks
    → Puts out at (plain (region_front r ts ks)) out' at')
