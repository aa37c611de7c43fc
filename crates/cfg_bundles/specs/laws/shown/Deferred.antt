-- A region's edge, or its Return, deferred: the bundle that the words show then, and what they leave.
use Rattle.std.specs.Prelude.{◌≡◌, List, [], ◌∷◌, ℕ, ◌+◌, ◌≤◌, ◌<◌, length, get_or}
use Rattle.std.proofs.Math.Path.{refl}
use Rattle.std.proofs.Common.{sym, ap, ◌∙◌, arith}
use Rattle.meaning.specs.Graph.{Value, Graph, region, edges_of, return, undef}
use Rattle.format.specs.References.{return_types}
use Rattle.format.specs.Valid.{ValidEnd, Valid}
use Rattle.record.specs.Stands.{Stands}
use Rattle.fields.specs.ByNumber.{edge_of, end_values}
use Rattle.nesting.specs.Nesting.{to_region, to_return, edge_bundle, true_cond, NestState}
use Rattle.state_words.specs.Sections as sections
use Rattle.state_words.specs.Sections.{Section, number, used, word, stored_all, set_starts, set_lengths, bundles}
use Rattle.state_sets.specs.SetTables.{bundle_at}
use Rattle.state_shown.specs.Tables.{ShowsCondition, shows_true}
use Rattle.state_shown.specs.Sets.{Names, shows_region, shows_return, ShowsBundle, SameBundle}
use Rattle.state_shown.specs.States.{ShowsOwnSet, Slots, ShowsState, HasSlot}
use Rattle.state_shown.specs.Kept.{KeptRegion}
use Rattle.state_shown.specs.laws.RegionsKept.{bundle_stays, same_bundle_then}
use Rattle.state_shown.specs.laws.Stores.{word_there, word_apart}
use Rattle.state_shown.specs.laws.RegionSteps.{slots_stay}
use Rattle.state_shown.specs.laws.SetStores.{OnlySets, only_run, only_word, only_then, only_preserves, only_state, bundles_of_sets}
use Rattle.state_shown.specs.laws.SetStores.{lengths_of_sets}
use Rattle.state_shown.specs.laws.SetStores.{word_other, run_elsewhere_word, bundle_beside, same_elsewhere}
use Rattle.state_shown.specs.laws.SetSteps.{bundle_made, set_of_one, kept_beside}
use Rattle.state_shown.specs.laws.Finds.{bundle_in}
use Rattle.cfg_bundles.specs.EdgesAndCases.{padded, edge_deferred, return_deferred}
use Rattle.fields.specs.laws.UndefinedTypes.{end_types_read}
use Rattle.cfg_bundles.specs.laws.shown.RecordValues.{passed_names, passed_types, passed_length, padded_names, valid_edge}
use Rattle.state_words.specs.Rows.{bundle_row_at, condition_true, kind_ready, most_bundles, region_kind, return_word}

pub true_shown : (w : List ℕ) → ShowsCondition w 1 true_cond
true_shown w = record { tree = shows_true refl; made = omega arith }

-- ---- An edge.
module _ {g : Graph} (valid : Valid g) {r : ℕ} (here : r < length g.regions) {j : ℕ}
    (place : j < length (edges_of (region g r).terminator)) where
  pub few_passed : length (edge_of g r j).inputs ≤ 4
  few_passed =
      let x = valid_edge valid here j place in
      let few = (valid.regions (edge_of g r j).target x.target).inputs_few in
      let size = passed_length g r (region g (edge_of g r j).target).inputs (edge_of g r j).inputs x.inputs in
      omega arith

  pub edge_names : (k : ℕ) → k < 4 → Names (get_or (padded (edge_of g r j).inputs) k 0) (get_or (edge_of g r j).inputs k (undef 0))
  edge_names =
      let x = valid_edge valid here j place in
      let ts = (region g (edge_of g r j).target).inputs in
      let types = passed_types valid here ts (edge_of g r j).inputs (valid.regions (edge_of g r j).target x.target).inputs
      x.inputs in
      padded_names (edge_of g r j).inputs (passed_names valid here ts (edge_of g r j).inputs types x.inputs)

  pub edge_deferred_shown : (w : List ℕ) (p : ℕ) → used ≤ length w → p < most_bundles
      → ShowsBundle g (edge_deferred g w p r j) p (edge_bundle (to_region (edge_of g r j).target) 1 (edge_of g r j).inputs true_cond)
  unfolding edge_deferred
  edge_deferred_shown w p room h =
      let x = valid_edge valid here j place in
      let size = passed_length g r (region g (edge_of g r j).target).inputs (edge_of g r j).inputs x.inputs in
      let few = few_passed in
      bundle_made w p (padded (edge_of g r j).inputs) room h refl (shows_region refl x.target) (true_shown w) size few
      (λ k b. edge_names k (omega arith))

module _ (g : Graph) (w : List ℕ) (p r j : ℕ) where
  pub edge_deferred_only : OnlySets w (edge_deferred g w p r j)
  unfolding edge_deferred
  edge_deferred_only = only_run w bundles_of_sets (bundle_row_at p) _

  pub edge_deferred_beside : (q : ℕ) → (q ≡ p → ⊥) → SameBundle w (edge_deferred g w p r j) q
  unfolding edge_deferred
  edge_deferred_beside q d = bundle_beside w p ((edge_of g r j).target ∷ 1 ∷ 1 ∷ padded (edge_of g r j).inputs) refl q d

  pub edge_deferred_word : (k : Section) → (number k ≡ number sections.bundles → ⊥) → (q : ℕ)
      → word (edge_deferred g w p r j) k q ≡ word w k q
  unfolding edge_deferred
  edge_deferred_word k d q = run_elsewhere_word w bundles (bundle_row_at p) _ k d q

-- ---- A Return.
module _ (g : Graph) (w : List ℕ) (r : ℕ) where
  abbrev start_of : ℕ
  start_of = word w set_starts r

  abbrev return_words : List ℕ
  return_words = return_word ∷ 0 ∷ condition_true ∷ padded (end_values g r)

  abbrev return_stored : List ℕ
  return_stored = stored_all w bundles (bundle_row_at (bundle_at start_of 0)) return_words

  module _ (room : used ≤ length w) (below : HasSlot (length g.regions) r) (slots : Slots (length g.regions) w) where
    start_in : bundle_at start_of 0 ≡ start_of
    start_in =
        let at = slots.starts r below in
        let in_slots = slots.below r below in
        let z : start_of + 0 ≡ start_of = omega arith in
        bundle_in start_of 0 (omega arith) (omega arith) ∙ z

    pub return_deferred_only : OnlySets w (return_deferred g w r)
    unfolding return_deferred
    return_deferred_only = only_then (only_run w bundles_of_sets _ return_words) (only_word return_stored lengths_of_sets r 1)

    pub return_deferred_starts : (q : ℕ) → word (return_deferred g w r) set_starts q ≡ word w set_starts q
    unfolding return_deferred
    return_deferred_starts q =
        word_other return_stored set_lengths r 1 set_starts (omega arith) q
        ∙ run_elsewhere_word w bundles _ return_words set_starts (omega arith) q

    pub return_deferred_kept : (q : ℕ) → HasSlot (length g.regions) q → (q ≡ r → ⊥) → KeptRegion w (return_deferred g w r) q
    unfolding return_deferred
    return_deferred_kept q h d =
        let at = start_in in
        kept_beside return_deferred_only slots below h d (return_deferred_starts q)
        (word_apart return_stored set_lengths r 1 set_lengths q d ∙ run_elsewhere_word w bundles _ return_words set_lengths (omega arith) q)
        (λ p e. same_bundle_then (bundle_beside w (bundle_at start_of 0) return_words refl p (λ f. e (omega arith) (omega arith)))
        (same_elsewhere return_stored set_lengths (omega arith) r 1 p))

    -- A region that is not Ready may take its Return.
    pub return_deferred_state : {s : NestState} → length g.regions ≤ 32 → (region_kind w r ≡ kind_ready → ⊥) → ShowsState g w s
        → ShowsState g (return_deferred g w r) s
    return_deferred_state few unready x =
        only_state return_deferred_only (slots_stay (λ a h. return_deferred_starts a) slots)
        (λ q h e. return_deferred_kept q (omega arith) (λ f. unready (ap (λ p. region_kind w p) (sym f) ∙ e))) x

    pub return_deferred_shown : Valid g → Stands w g → r < length g.regions → {vs : List Value} → (region g r).terminator ≡ return vs
        → ShowsOwnSet g (return_deferred g w r) r (edge_bundle to_return 0 vs true_cond ∷ [])
    unfolding return_deferred
    return_deferred_shown valid stands here {vs} is =
        let x : ValidEnd g r (return vs) = rw is at (valid.regions r here).terminator in
        let values : end_values g r ≡ vs = rw is in
        let at = start_in in
        let in_slots = slots.below r below in
        let at_slot = slots.starts r below in
        let counted = (only_run w bundles_of_sets (bundle_row_at (bundle_at start_of 0)) return_words).words in
        let names = padded_names vs (passed_names valid here (return_types g) vs (rw values at (end_types_read stands r)) x.1) in
        let four = x.0 in
        let made : ShowsBundle g return_stored start_of (edge_bundle to_return 0 vs true_cond) =
        rw (at, values)
        (bundle_made w start_of (padded vs) room (omega arith) refl (shows_return refl) (true_shown w)
        (passed_length g r (return_types g) vs x.1) x.0 (λ k b. names k (omega arith))) in
        rw (return_deferred_starts r, word_there return_stored set_lengths r 1 (omega arith) below.below)
        (set_of_one (omega arith)
        (bundle_stays (only_preserves (only_word return_stored lengths_of_sets r 1) g)
        (same_elsewhere return_stored set_lengths (omega arith) r 1 start_of) made))
