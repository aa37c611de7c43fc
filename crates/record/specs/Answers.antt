-- What the answers of the code that reads regions mean: what was read and where its parts stand, or the refusal.
use Rattle.std.specs.Prelude.{◌≡◌, List, ℕ, ◌+◌, ◌<◌, get_or, take, Result, Ok, Err}
use Rattle.format.specs.Read.{many, counted, block, terminator, read_region}
use Rattle.format.specs.Places.{next, after, blocks_of_region, block_of_region, limit_of_region, exits_of_region}
use Rattle.reading.specs.Answers.{StepRead, Reads}
use Rattle.reading.specs.declared.words.Cursor.{Cursor}
use Rattle.reading.specs.declared.words.Fault.{Fault}
use Rattle.record.specs.Readings.{ending_read}
use Rattle.record.specs.declared.regions.BlockPlaces.{BlockPlaces}
use Rattle.record.specs.declared.regions.RegionPlaces.{RegionPlaces}

-- n blocks from a cursor on, and the place of each
pub record BlocksPlaced (n : ℕ) (w : List ℕ) (c : Cursor) (x : BlockPlaces) : Type 0 where
  pub step : StepRead (many n block) w c x.behind
  pub places : (b : ℕ) → b < n → get_or x.places b 0 ≡ after b block (take c.end w) c.at

abbrev pub BlocksRead : ℕ → List ℕ → Cursor → Result BlockPlaces Fault → Type 0
BlocksRead n w c (Ok x) = BlocksPlaced n w c x
BlocksRead n w c (Err why) = Reads (many n block) w c (Err why)

-- a block count and so many blocks
pub record CountedPlaced (w : List ℕ) (c : Cursor) (x : BlockPlaces) : Type 0 where
  pub step : StepRead (counted 0 8 block) w c x.behind
  pub places : (b : ℕ) → b < get_or (take c.end w) c.at 0 → get_or x.places b 0 ≡ after b block (take c.end w) (c.at + 1)

abbrev pub CountedBlocks : List ℕ → Cursor → Result BlockPlaces Fault → Type 0
CountedBlocks w c (Ok x) = CountedPlaced w c x
CountedBlocks w c (Err why) = Reads (counted 0 8 block) w c (Err why)

-- a region from its turn limit on
pub record EndingPlaced (w : List ℕ) (c : Cursor) (places : List ℕ) (x : RegionPlaces) : Type 0 where
  pub step : StepRead ending_read w c x.behind
  pub limit : x.limit ≡ c.at
  pub exits : x.exits ≡ next (terminator (take c.end w) (c.at + 1))
  pub blocks : x.blocks ≡ places

abbrev pub EndingRead : List ℕ → Cursor → List ℕ → Result RegionPlaces Fault → Type 0
EndingRead w c places (Ok x) = EndingPlaced w c places x
EndingRead w c places (Err why) = Reads ending_read w c (Err why)

-- The places within a region that the index keeps.
pub record Placed (ws : List ℕ) (at : ℕ) (x : RegionPlaces) : Type 0 where
  pub limit : x.limit ≡ limit_of_region ws at
  pub exits : x.exits ≡ exits_of_region ws at
  pub blocks : (b : ℕ) → b < get_or ws (blocks_of_region ws at) 0 → get_or x.blocks b 0 ≡ block_of_region ws at b

pub record RegionPlaced (w : List ℕ) (c : Cursor) (x : RegionPlaces) : Type 0 where
  pub step : StepRead read_region w c x.behind
  pub placed : Placed (take c.end w) c.at x

abbrev pub RegionPlacesRead : List ℕ → Cursor → Result RegionPlaces Fault → Type 0
RegionPlacesRead w c (Ok x) = RegionPlaced w c x
RegionPlacesRead w c (Err why) = Reads read_region w c (Err why)
