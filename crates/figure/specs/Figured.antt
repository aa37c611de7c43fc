-- What the functions of the figure answer, of the record that stands in the words. Each answer is held at the first number beyond the
-- figures that a sheet can show (refusal 11).
use Rattle.std.specs.Prelude.{◌≡◌, List, ℕ, min, max, ◌+◌, ◌≤◌}
use Rattle.meaning.specs.Lists.{total}
use Rattle.meaning.specs.Graph.{Graph, region}
use Rattle.meaning.specs.Runs.{Nodes, Cases}
use Rattle.nesting.specs.Sheet.{figure, dearest}
use Rattle.record.specs.Stands.{OfRecord}
use Rattle.fields.specs.ByNumber.{block_of}
use Rattle.state_words.specs.Sections.{section, cells}
use Rattle.state_words.specs.Rows.{cell_tag}
use Rattle.state_shown.specs.Cells.{ShowsNodes, ShowsCaseCells}
use Rattle.state_lists.specs.CellByCell.{CellAdded}
use Rattle.figure.specs.laws.Nodes.{block_cost}

abbrev pub capped : ℕ → ℕ
capped n = min n 4294967296

-- The nodes that a list shows.
pub record Figured (w : List ℕ) (list a : ℕ) : Type 0 where
  pub small : a ≤ 4294967296
  pub shown : OfRecord w (λ g. (ks : Nodes) → ShowsNodes g (section w cells) list ks → a ≡ capped (figure g.test_cost ks))

-- The nodes that a cell adds to its list.
pub record CellFigured (w : List ℕ) (h a : ℕ) : Type 0 where
  pub small : a ≤ 4294967296
  pub shown : OfRecord w (λ g. (ks : Nodes) → CellAdded g w h ks (cell_tag w h) → a ≡ capped (figure g.test_cost ks))

-- The cases that a list shows.
pub record DearestFigured (w : List ℕ) (list a : ℕ) : Type 0 where
  pub small : a ≤ 4294967296
  pub shown : OfRecord w (λ g. (cs : Cases) → ShowsCaseCells g (section w cells) list cs → a ≡ capped (dearest g.test_cost cs))

-- A block, at most 65,535 instructions of cost 65,535; all blocks of a region, at most 65,535 of them.
pub record BlockFigured (w : List ℕ) (r b a : ℕ) : Type 0 where
  pub small : a ≤ 4294836225
  pub shown : OfRecord w (λ g. a ≡ block_cost (block_of g r b))

pub record BlocksFigured (w : List ℕ) (r a : ℕ) : Type 0 where
  pub small : a ≤ 281462092005375
  pub shown : OfRecord w (λ g. a ≡ total block_cost (region g r).blocks)

-- A list of nodes, passed from its end down to cell h: those still to come and the sum so far cost as much as the whole.
pub record ToCome (g : Graph) (w : List ℕ) (h sum whole : ℕ) : Type 0 where
  pub nodes : Nodes
  pub shown : ShowsNodes g (section w cells) h nodes
  pub sums : capped (figure g.test_cost nodes + sum) ≡ capped whole

pub record SummedTo (w : List ℕ) (list h sum : ℕ) : Type 0 where
  pub small : sum ≤ 4294967296
  pub below : h ≤ list
  pub shown : OfRecord w (λ g. (ks : Nodes) → ShowsNodes g (section w cells) list ks → ToCome g w h sum (figure g.test_cost ks))

-- A list of cases, passed from its first down to cell h: the dearest so far and that of those still to come is the dearest of all.
pub record CasesToCome (g : Graph) (w : List ℕ) (h most whole : ℕ) : Type 0 where
  pub cases : Cases
  pub shown : ShowsCaseCells g (section w cells) h cases
  pub dearer : max most (capped (dearest g.test_cost cases)) ≡ capped whole

pub record DearestTo (w : List ℕ) (list h most : ℕ) : Type 0 where
  pub small : most ≤ 4294967296
  pub below : h ≤ list
  pub shown : OfRecord w (λ g. (cs : Cases) → ShowsCaseCells g (section w cells) list cs
      → CasesToCome g w h most (dearest g.test_cost cs))
