-- The record and its index stand in front of every section: what is stored behind them leaves the record that stands.
use Rattle.std.specs.Prelude.{◌≡◌, List, ℕ, length}
use Rattle.state_words.specs.Sections.{section, front, kinds}

pub record SameFront (w w' : List ℕ) : Type 0 where
  pub words : length w' ≡ length w
  pub front_words : section w' front ≡ section w front

-- ---- The same, and the kinds of the regions.
pub record SameKinds (w w' : List ℕ) : Type 0 where
  pub front : SameFront w w'
  pub kinds_words : section w' kinds ≡ section w kinds
