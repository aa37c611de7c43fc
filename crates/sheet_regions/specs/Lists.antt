-- The numbers of a list's nodes, cell by cell: those of the last cell are put first.
use Rattle.std.specs.Prelude.{◌≡◌, List, ◌∷◌, ◌++◌, ℕ, ◌+◌, length, drop}
use Rattle.meaning.specs.Lists.{numbers_from}
use Rattle.meaning.specs.Graph.{Graph, region}
use Rattle.meaning.specs.Runs.{Nodes}
use Rattle.record.specs.Stands.{OfRecord}
use Rattle.nesting.specs.Nesting.{plain, blocks_of}
use Rattle.nesting.specs.Sheet.{kids}
use Rattle.state_words.specs.Sections.{section, cells}
use Rattle.state_words.specs.Rows.{tag_join, cell_tag}
use Rattle.state_shown.specs.Cells.{ShowsNodes}
use Rattle.state_lists.specs.CellByCell.{CellAdded}
use Rattle.sheet_words.specs.declared.place.Place.{Place}
use Rattle.sheet_words.specs.PutInFront.{Puts}
use Rattle.sheet_words.specs.Parts.{most}
use Rattle.sheet_regions.specs.declared.Counted.{Counted}
use Rattle.sheet_regions.specs.Numbers.{PutsNumbers}

abbrev pub PutsBlocks : List ℕ → ℕ → List ℕ → Counted → List ℕ → Counted → Type 0
PutsBlocks w r out x out' x' = OfRecord w (λ g. PutsNumbers out x (kids (blocks_of g r)) out' x')

-- What cell h adds, where that is no list.
abbrev pub PutsCellNumbers : List ℕ → ℕ → List ℕ → Counted → List ℕ → Counted → Type 0
PutsCellNumbers w h out x out' x' =
    OfRecord w (λ g. (ks : Nodes) → CellAdded g w h ks (cell_tag w h) → (cell_tag w h ≡ tag_join → ⊥) → PutsNumbers out x (kids ks) out' x')

abbrev pub PutsList : List ℕ → ℕ → List ℕ → Counted → List ℕ → Counted → Type 0
PutsList w list out x out' x' =
    OfRecord w (λ g. (ks : Nodes) → ShowsNodes g (section w cells) list ks → PutsNumbers out x (kids ks) out' x')

-- With their count in front.
abbrev pub PutsKids : List ℕ → ℕ → List ℕ → Place → List ℕ → Place → Type 0
PutsKids w list out at out' at' =
    OfRecord w (λ g. (ks : Nodes) → ShowsNodes g (section w cells) list ks
    → Puts out at (plain (most (length (kids ks)) ∷ kids ks)) out' at')

-- ---- A region's blocks, from the last on. Before a turn those from place b on are put.
abbrev pub BlocksPut : List ℕ → ℕ → ℕ → ℕ → List ℕ → Counted → List ℕ → Counted → Type 0
BlocksPut w r first b out₀ x₀ out x = OfRecord w (λ g. PutsNumbers out₀ x₀ (numbers_from (first + b) (drop b (region g r).blocks)) out x)

-- ---- A list, from its last cell on. Before a turn the numbers behind list h are put.
pub record NumbersBehindPut (g : Graph) (w : List ℕ) (h : ℕ) (ks : Nodes) (out₀ : List ℕ) (x₀ : Counted) (out : List ℕ) (x : Counted)
    : Type 0 where
  pub left : Nodes
  pub behind : List ℕ
  pub shown : ShowsNodes g (section w cells) h left
  pub whole : kids ks ≡ kids left ++ behind
  pub puts : PutsNumbers out₀ x₀ behind out x

abbrev pub ListPut : List ℕ → ℕ → ℕ → List ℕ → Counted → List ℕ → Counted → Type 0
ListPut w list h out₀ x₀ out x =
    OfRecord w (λ g. (ks : Nodes) → ShowsNodes g (section w cells) list ks → NumbersBehindPut g w h ks out₀ x₀ out x)
