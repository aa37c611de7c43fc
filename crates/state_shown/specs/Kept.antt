-- What stays shown: lists and conditions once made, and the sets whose bundles and slots are not stored into.
use Rattle.std.specs.Prelude.{◌≡◌, List, ℕ, ◌+◌, ◌<◌}
use Rattle.meaning.specs.Graph.{Graph}
use Rattle.meaning.specs.Runs.{Nodes}
use Rattle.nesting.specs.Nesting.{LazyCond}
use Rattle.state_words.specs.Sections.{word, backedges, set_starts, set_lengths, children, bodies}
use Rattle.state_shown.specs.Front.{SameFront}
use Rattle.state_shown.specs.Tables.{ShowsCondition}
use Rattle.state_shown.specs.Sets.{SameBundle}
use Rattle.state_shown.specs.Cells.{ShowsChildren}
use Rattle.state_words.specs.Rows.{level, slot_size}

-- ---- From w to w' what was made stays made, and the record stands.
pub record PreservesMade (g : Graph) (w w' : List ℕ) : Type 0 where
  pub front : SameFront w w'
  pub conditions_stay : {c : ℕ} {t : LazyCond} → ShowsCondition w c t → ShowsCondition w' c t
  pub nodes_stay : {h : ℕ} {ks : Nodes} → ShowsChildren g w h ks → ShowsChildren g w' h ks

-- ---- What region q has of its own: its slot and what stands there, its children, its structured body, how its targets were answered.
pub record KeptRegion (w w' : List ℕ) (q : ℕ) : Type 0 where
  pub set_start : word w' set_starts q ≡ word w set_starts q
  pub set_length : word w' set_lengths q ≡ word w set_lengths q
  pub handle : word w' children q ≡ word w children q
  pub body : word w' bodies q ≡ word w bodies q
  pub backedge : word w' backedges q ≡ word w backedges q
  pub target_answers : (j : ℕ) → j < 8 → level w' q j ≡ level w q j
  pub slot : (i : ℕ) → i < slot_size → SameBundle w w' (word w set_starts q + i)
