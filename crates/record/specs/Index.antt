-- The index of a record, and what reading its regions leaves there.
use Rattle.std.specs.Prelude.{◌≡◌, List, ℕ, zero, suc, ◌+◌, ◌≤◌, ◌<◌, length, get_or, take, Result}
use Rattle.meaning.specs.Graph.{Region}
use Rattle.format.specs.Store.{accepted}
use Rattle.format.specs.Read.{read_region, regions_from}
use Rattle.format.specs.Places.{after, blocks_of_region, block_of_region, limit_of_region, exits_of_region}
use Rattle.store.specs.Layout.{start_word, limit_word, exits_word, blocks_word, index_at}
use Rattle.store.specs.Loaded.{answered}
use Rattle.store.specs.declared.refusals.Refusal.{Refusal}
use Rattle.record.specs.Outcome.{forget, RestKept}
use Rattle.record.specs.declared.regions.RegionPlaces.{RegionPlaces}

-- n words from a place on are f 0, f 1, ..; the others are as they were.
pub record Row (old new : List ℕ) (at n : ℕ) (f : ℕ → ℕ) : Type 0 where
  pub size : length new ≡ length old
  pub below : (k : ℕ) → k < at → get_or new k 0 ≡ get_or old k 0
  pub above : (k : ℕ) → at + n ≤ k → get_or new k 0 ≡ get_or old k 0
  pub row : (k : ℕ) → k < n → get_or new (at + k) 0 ≡ f k

-- The row of the index for a region that begins at a place: by `start_word`, `limit_word`, `exits_word`, `blocks_word`.
unfoldable pub row_of : ℕ → RegionPlaces → ℕ → ℕ
row_of start x zero = start
row_of start x (suc zero) = x.limit
row_of start x (suc (suc zero)) = x.exits
row_of start x (suc (suc (suc b))) = get_or x.blocks b 0

-- The index of region r, of regions that begin at a place.
pub record IndexedFrom (ws : List ℕ) (from : ℕ) (w : List ℕ) (r : ℕ) : Type 0 where
  pub start : get_or w (index_at r + start_word) 0 ≡ after r read_region ws from
  pub limit : get_or w (index_at r + limit_word) 0 ≡ limit_of_region ws (after r read_region ws from)
  pub exits : get_or w (index_at r + exits_word) 0 ≡ exits_of_region ws (after r read_region ws from)
  pub block : (b : ℕ) → b < 8 → b < get_or ws (blocks_of_region ws (after r read_region ws from)) 0
      → get_or w (index_at r + blocks_word + b) 0 ≡ block_of_region ws (after r read_region ws from) b

-- n regions from a place on.
pub record RegionsOutcome (n count from : ℕ) (old new : List ℕ) (a : Result Unit Refusal) : Type 0 where
  pub answer : answered a ≡ forget (regions_from n 0 (take count old) from)
  pub index : (rs : List Region) → regions_from n 0 (take count old) from ≡ accepted rs → (r : ℕ) → r < n
      → IndexedFrom (take count old) from new r
  pub kept : RestKept old new
