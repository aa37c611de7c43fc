-- The whole of nesting, as the words alone have it.
use Rattle.std.specs.Prelude.{◌≡◌, Bool, List, ℕ, ◌<◌, eqb, length, get_or}
use Rattle.meaning.specs.Graph.{Graph}
use Rattle.format.specs.Valid.{Valid}
use Rattle.nesting.specs.Nesting.{incoming_edge_counts}
use Rattle.state_words.specs.Sections.{word, set_lengths}
use Rattle.cfg_start.specs.InitialState.{started}
use Rattle.std.specs.Prelude.{Err, Ok, Result}
use Rattle.cfg_regions.specs.declared.claim.Claim.{Claim}
use Rattle.cfg_regions.specs.declared.claim.Claim.TheVariants as claim
use Rattle.cfg.specs.declared.func.Outcome.{Outcome}
use Rattle.cfg.specs.declared.func.Outcome.TheVariants.{Untouched, Whole, Closed, Leftover}
use Rattle.cfg_claims.specs.Claims.{own_target, TriesClaim}
use Rattle.state_words.specs.Rows.{return_word}
use Rattle.store.specs.declared.refusals.Refusal.{Refusal}
use Rattle.store.specs.declared.refusals.Refusal.TheVariants.{Never}

-- By the entry's set: none, Return alone, or another.
pub data Outcomes (w : List ℕ) (entry : ℕ) : Outcome → Type 0 where
  is_closed : word w set_lengths entry ≡ 0 → Outcomes w entry Closed
  is_whole : word w set_lengths entry ≡ 1 → own_target w entry 0 ≡ return_word → Outcomes w entry Whole
  one_elsewhere : word w set_lengths entry ≡ 1 → (own_target w entry 0 ≡ return_word → ⊥) → Outcomes w entry Leftover
  more_left : (word w set_lengths entry ≡ 0 → ⊥) → (word w set_lengths entry ≡ 1 → ⊥) → Outcomes w entry Leftover

-- What comes before the first claim: the counts, and the state at its beginning.
pub record Begins (g : Graph) (w counts w' : List ℕ) : Type 0 where
  pub counted : Valid g → (r : ℕ) → r < length g.regions → get_or counts r 0 ≡ get_or (incoming_edge_counts g) r 0
  pub begun : w' ≡ started g w

abbrev pub entered_once : Graph → List ℕ → Bool
entered_once g counts = eqb (get_or counts g.entry 0) 1

-- What is concluded from the claim's answer, which left the words w.
pub data Concludes (g : Graph) (w : List ℕ) : Result Claim Refusal → Result Outcome Refusal → Type 0 where
  claimed : {a : Outcome} → Outcomes w g.entry a → Concludes g w (Ok claim.Claimed) (Ok a)
  unclaimed : Concludes g w (Ok claim.Unclaimed) (Err (Never 0))
  refused : {y : Refusal} → Concludes g w (Err y) (Err y)

pub data FuncBy (g : Graph) (counts w w' : List ℕ) : Result Outcome Refusal → Type 0 where
  untouched : (get_or counts g.entry 0 ≡ 1 → ⊥) → w' ≡ w → FuncBy g counts w w' (Ok Untouched)
  concluded : {c : Result Claim Refusal} {a : Result Outcome Refusal} → get_or counts g.entry 0 ≡ 1 → TriesClaim g counts w g.entry 1 w' c → Concludes g w' c a
      → FuncBy g counts w w' a

-- The counts that the code was given are the definition's.
pub record Func (g : Graph) (w w' : List ℕ) (a : Result Outcome Refusal) : Type 0 where
  pub counts : List ℕ
  pub right : (r : ℕ) → r < length g.regions → get_or counts r 0 ≡ get_or (incoming_edge_counts g) r 0
  pub steps : FuncBy g counts (started g w) w' a
