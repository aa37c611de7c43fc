-- The inputs of a bundle, as its words have them and as the definition has them.
use Rattle.std.specs.Prelude.{◌≡◌, List, ℕ, ◌<◌, length, get_or}
use Rattle.std.proofs.lemmas.List.{get_or_default}
use Rattle.std.proofs.Common.{sym, ap, ◌∙◌, arith, lt-ltb}
use Rattle.meaning.specs.Graph.{Graph, no_value, undef}
use Rattle.record.specs.Stands.{OfRecord}
use Rattle.nesting.specs.Nesting.{NestState, DeferredEdgeBundle}
use Rattle.state_sets.specs.SetTables.{input_word}
use Rattle.state_shown.specs.Values.{value}
use Rattle.state_shown.specs.Sets.{ShowsBundle}
use Rattle.cfg_bundles.specs.EdgesAndCases.{input_count}
use Rattle.cfg_bundles.specs.laws.shown.Targets.{input_count_shown}
use Rattle.sheet_words.specs.Parts.{Concluded}
use Rattle.state_words.specs.Rows.{bundle_target}

module _ {g : Graph} {w : List ℕ} {s : NestState} (c : Concluded g w s) {p : ℕ} {e : DeferredEdgeBundle} (shows : ShowsBundle g w p e)
    {t n : ℕ} (to : t ≡ bundle_target w p) (count : OfRecord w (λ g. n ≡ input_count g w t)) where
  pub count_is : n ≡ length e.target_inputs
  count_is =
      count g c.state.stands ∙ ap (λ x. input_count g w x) to
      ∙ input_count_shown w c.valid.count.1 c.state.returned shows.target ∙ sym shows.size

  pub input_is : (k : ℕ) {x : ℕ} → k < n → x ≡ input_word w p k → value x ≡ get_or e.target_inputs k no_value
  unfolding input_word
  input_is k h is =
      let few = shows.few in
      let size = count_is in
      let within : k < length e.target_inputs = omega arith in
      rw (is, lt-ltb k 4 (omega arith)) ((shows.inputs k within).is ∙ get_or_default e.target_inputs k (undef 0) no_value within)
