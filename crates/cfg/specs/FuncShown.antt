-- The whole of nesting: from an accepted record that stands in the words, what structurize_func answers, and the state that they then show.
use Rattle.std.specs.Prelude.{◌≡◌, List, [], ℕ}
use Rattle.meaning.specs.Graph.{Graph}
use Rattle.meaning.specs.Runs.{⟨⟩}
use Rattle.format.specs.Store.{Answer, accepted, refused}
use Rattle.nesting.specs.Nesting.{Nested, Outcome, untouched, whole, closed, leftover, outcome_of, conclude_by, NestState}
use Rattle.nesting.specs.Nesting.{initial_state, Body}
use Rattle.nesting.specs.lookups.ChainEnds.{ChainsEnd}
use Rattle.state_shown.specs.Front.{SameFront}
use Rattle.state_shown.specs.States.{ShowsState, ShowsBody}
use Rattle.std.specs.Prelude.{Err, Ok, Result}
use Rattle.cfg.specs.declared.func.Outcome as code
use Rattle.cfg.specs.declared.func.Outcome.TheVariants.{Untouched, Whole, Closed, Leftover}
use Rattle.state_words.specs.Rows.{kind_claimed, region_kind}
use Rattle.store.specs.declared.refusals.Refusal.{Refusal}
use Rattle.store.specs.Refusals.{refused_as}

abbrev pub outcome_code : Outcome → code.Outcome
outcome_code untouched = Untouched
outcome_code whole = Whole
outcome_code closed = Closed
outcome_code leftover = Leftover

-- What the words w show of the definition's answer b: its state, by which every look-up ends, and the entry, claimed, with its children and
-- set; or its refusal. Whatever it is, the record and its index stand as they stood in the words before.
pub data ShowsNested (g : Graph) (before w : List ℕ) (b : Answer Nested) : Result code.Outcome Refusal → Type 0 where
  shows_untouched : SameFront before w → ShowsState g w (initial_state g) → b ≡ accepted (conclude_by g (initial_state g) ⟨⟩ [] untouched)
      → ShowsNested g before w b (Ok Untouched)
  shows_nested : {s : NestState} {x : Body} {a : code.Outcome} → SameFront before w → ShowsState g w s
      → ((r : ℕ) → ChainsEnd s.region_input_rewrites r) → region_kind w g.entry ≡ kind_claimed → ShowsBody g w g.entry x
      → b ≡ accepted (conclude_by g s x.children x.deferred_edges (outcome_of x.deferred_edges))
      → a ≡ outcome_code (outcome_of x.deferred_edges) → ShowsNested g before w b (Ok a)
  shows_refused : {y : Refusal} → SameFront before w → b ≡ refused_as y → ShowsNested g before w b (Err y)
