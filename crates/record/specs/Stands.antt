-- How an accepted record stands in the lent words: its W words in front, and an index of the places where its regions begin.
use Rattle.std.specs.Prelude.{◌≡◌, List, ℕ, ◌+◌, ◌≤◌, ◌<◌, length, get_or, take}
use Rattle.meaning.specs.Graph.{Graph, region}
use Rattle.store.specs.Layout.{record_end, start_word, limit_word, exits_word, blocks_word, index_at, Lent}
use Rattle.format.specs.Store.{accepted}
use Rattle.format.specs.Read.{read_record}
use Rattle.format.specs.Places.{start_of_region, block_of_region, limit_of_region, exits_of_region}

-- Word 0 is W.
abbrev pub words_of_record : List ℕ → List ℕ
words_of_record w = take (get_or w 0 0) w

-- The row of region r in the index.
pub record Indexed (w : List ℕ) (g : Graph) (r : ℕ) : Type 0 where
  pub start : get_or w (index_at r + start_word) 0 ≡ start_of_region (words_of_record w) r
  pub limit : get_or w (index_at r + limit_word) 0 ≡ limit_of_region (words_of_record w) (start_of_region (words_of_record w) r)
  pub exits : get_or w (index_at r + exits_word) 0 ≡ exits_of_region (words_of_record w) (start_of_region (words_of_record w) r)
  pub block : (b : ℕ) → b < length (region g r).blocks
      → get_or w (index_at r + blocks_word + b) 0 ≡ block_of_region (words_of_record w) (start_of_region (words_of_record w) r) b

pub record Stands (w : List ℕ) (g : Graph) : Type 0 where
  pub lent : Lent w
  pub fits : get_or w 0 0 ≤ record_end
  pub reads : read_record (words_of_record w) ≡ accepted g
  pub index : (r : ℕ) → r < length g.regions → Indexed w g r

-- What holds of the record that stands in the words, where one does.
abbrev pub OfRecord : List ℕ → (Graph → Type 0) → Type 0
OfRecord w P = (g : Graph) → Stands w g → P g
