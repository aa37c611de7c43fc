-- What each case passes to a target, and under which condition, for every cases that the words show.
use Rattle.std.specs.Prelude.{◌≡◌, refl, ℕ, suc, ◌+◌, ◌≤◌, ◌<◌}
use Rattle.std.proofs.Math.Path.{sym, ap}
use Rattle.std.proofs.Common.{◌∙◌}
use mathlib.Core.List.{List, [], ◌∷◌, map}
use Rattle.std.proofs.Math.Option.{none, some}
use native.Mathlib.Omega.{arith}
use Rattle.std.proofs.Math.Decide.{dec_lt}
use Rattle.std.proofs.Math.ListN.{length, get_or, set, get_or-eq_default}
use Rattle.std.proofs.lemmas.List.{length-map}
use borrow.Author.Tests.{lt-ltb, eq-eqb, ne_eqb}
use Rattle.meaning.specs.Graph.{Graph, undef}
use Rattle.meaning.specs.facts.Tests.{clash}
use Rattle.meaning.specs.facts.Elements.{getD_map_in}
use Rattle.nesting.specs.Nesting as nesting
use Rattle.nesting.specs.Nesting.{DeferredTarget, DeferredEdgeBundle, DeferredEdgeBundleSet, MaybeClaimedRegion, deferred_of}
use Rattle.nesting.specs.Nesting.{PerCaseDeferred, per_case_of, get_edge_bundle_by_target, condition_in, conditions_of, undef_cond}
use Rattle.state_sets.specs.SetTables.{input_word}
use Rattle.state_regions.specs.RegionTables.{case_total}
use Rattle.state_shown.specs.Values.{value}
use Rattle.state_shown.specs.laws.ValueWords.{value_undef, value_beyond}
use Rattle.state_shown.specs.Tables.{ShowsCondition, shows_undef, shows_false, ShowsParts, none_left, one_and, cond_count, ShowsValues}
use Rattle.state_shown.specs.Sets.{ShowsTarget, ShowsSet, target_size, no_bundle}
use Rattle.state_shown.specs.laws.SetSteps.{condition_shown}
use Rattle.nesting.specs.steps.TargetsAndCases.{same_target_is, per_cases}
use Rattle.state_shown.specs.laws.Finds.{Finds, found, none_found, finds}
use Rattle.state_shown.specs.States.{ShowsCases, no_case}
use Rattle.cfg_bundles.specs.EdgesAndCases as words
use Rattle.cfg_planning.specs.laws.shown.PerCaseShown.{place_is, inputs_nowhere}
use Rattle.cfg_planning.specs.Planning.{per_case_deferred, per_case_condition}
use Rattle.cfg_emits.specs.Emits.{InCases, value_in_case}
use Rattle.cfg_emits.specs.laws.paths.EmitsLaws.{value_none, value_some}
use Rattle.cfg_select_nodes.specs.laws.shown.StepsShown.{SelectStep}
use Rattle.state_words.specs.Values.{parts, undef_from}
use Rattle.state_words.specs.Rows.{case_set_length, case_set_start, no_bundle_word, case_set_start_field}

-- ---- The cases' bundles to a target.
pub record ShowsPlaces (w : List ℕ) (x : DeferredTarget) (cs : List MaybeClaimedRegion) (places : List ℕ) : Type 0 where
  pub each : (j : ℕ) → j < length cs → Finds (case_set_start w j) x (deferred_of (get_or cs j no_case)) (get_or places j 0)

pub places_shown : {g : Graph} {w : List ℕ} {r : ℕ} {cs : List MaybeClaimedRegion} → ShowsCases g w r cs → length g.regions ≤ 32
    → {t : ℕ} {x : DeferredTarget} → ShowsTarget g t x → ShowsPlaces w x cs (per_case_deferred w t)
places_shown {w} {cs} shown few {t} {x} target =
    let eight = shown.few in
    let size = shown.size in
    record {
      each = λ j h. rw (place_is w t j (omega arith) (omega arith))
          (finds w few (case_set_start w j) target (shown.sets j h));
    }

pub places_stay : {g : Graph} {r : ℕ} {w w' : List ℕ} → SelectStep g r w w' → {x : DeferredTarget} {cs : List MaybeClaimedRegion}
    {places : List ℕ} → ShowsPlaces w x cs places → ShowsPlaces w' x cs places
places_stay s p = record { each = λ j h. rw (s.case_words j case_set_start_field (omega arith) (omega arith)) (p.each j h) }

-- ---- By whether a set has a bundle to the target.
per_case_some : (x : DeferredTarget) (d : DeferredEdgeBundleSet) (e : DeferredEdgeBundle) → get_edge_bundle_by_target x d ≡ some e
    → nesting.per_case_deferred x d ≡ per_case_of d (some e)
per_case_some x [] e h = absurd (clash (cc))
per_case_some x (y ∷ ys) e h = ap (per_case_of (y ∷ ys)) h

module _ {g : Graph} {w : List ℕ} {start n : ℕ} {d : DeferredEdgeBundleSet} (set : ShowsSet g w start n d) {x : DeferredTarget} {p : ℕ}
  where
    value_shown : Finds start x d p → (k ty : ℕ) → k < target_size g x → ty < 256
        → value (value_in_case w p k ty) ≡ nesting.value_in_case k ty (nesting.per_case_deferred x d)
    unfolding input_word
    value_shown (none_found e gets) k ty h b =
        ap value (sym (value_none w p k ty e)) ∙ value_undef ty b ∙ rw (inputs_nowhere x d gets, nesting.value_in_case)
    value_shown (found i at below gets same before) k ty h b =
        let size = set.size in
        let room = set.room in
        let it = get_or d i no_bundle in
        let bundle = set.each i (omega arith) in
        let few = bundle.few in
        let goes : it.target ≡ x = sym (same_target_is x it.target same) in
        let many : length it.target_inputs ≡ target_size g x = rw goes at bundle.size in
        let named = bundle.inputs k (omega arith) in
        rw (per_case_some x d it gets, ← value_some w p k ty (omega arith), at, lt-ltb k 4 (omega arith)) named.is

    condition_of_case : (j : ℕ) → case_set_length w j ≡ n → Finds start x d p
        → ShowsCondition w (per_case_condition w j p) (nesting.per_case_deferred x d).condition
    unfolding per_case_condition words.condition_in
    condition_of_case j e (none_found q gets) = go d set.size gets
      where
        go : (d : DeferredEdgeBundleSet) → n ≡ length d → get_edge_bundle_by_target x d ≡ none
            → ShowsCondition w (per_case_condition w j p) (nesting.per_case_deferred x d).condition
        go [] z h = rw (eq-eqb (case_set_length w j) 0 (omega arith)) record { tree = shows_undef refl; made = omega arith }
        go (y ∷ ys) z h =
            rw (ne_eqb (case_set_length w j) 0 (omega arith), eq-eqb p no_bundle_word q, h) record
            { tree = shows_false refl; made = omega arith }
    condition_of_case j e (found i at below gets same before) =
        let size = set.size in
        let room = set.room in
        rw (
          per_case_some x d (get_or d i no_bundle) gets,
          ne_eqb (case_set_length w j) 0 (omega arith),
          ne_eqb p no_bundle_word (omega arith),
          at,
          e,
        ) (condition_shown set i (omega arith))

-- ---- In all cases.
no_case_passed : PerCaseDeferred
no_case_passed = record { inputs = none; condition = undef_cond }

parts_from : {w : List ℕ} (parts : List ℕ) (ps : List PerCaseDeferred) (j : ℕ)
    → ((i : ℕ) → i < length ps → ShowsCondition w (get_or parts (j + i) 0) (get_or ps i no_case_passed).condition)
    → ShowsParts w parts j (conditions_of ps)
parts_from parts [] j f = none_left
parts_from parts (p ∷ ps) j f =
    let e : j + 0 ≡ j = omega arith in
    one_and (rw e at (f 0 (omega arith))) (parts_from parts ps (suc j)
    (λ i h. let z : j + suc i ≡ suc j + i = omega arith in rw z at (f (suc i) (omega arith))))

pub count_conditions : (ps : List PerCaseDeferred) → cond_count (conditions_of ps) ≡ length ps
count_conditions [] = refl
count_conditions (p ∷ ps) = ap suc (count_conditions ps)

module _ {g : Graph} {w : List ℕ} {r : ℕ} {cs : List MaybeClaimedRegion} (shown : ShowsCases g w r cs) {x : DeferredTarget}
    {places : List ℕ}
    (at : ShowsPlaces w x cs places) where
  pub values_shown : (k ty : ℕ) → k < target_size g x → ty < 256 → {vs : List ℕ}
      → InCases (case_total w) (λ j. value_in_case w (get_or places j 0) k ty) undef_from vs
      → ShowsValues vs 0 (map (nesting.value_in_case k ty) (per_cases x cs))
  values_shown k ty h b {vs} y =
      let size = shown.size in
      let few = shown.few in
      let long : length (map (nesting.value_in_case k ty) (per_cases x cs)) ≡ length cs =
      length-map (per_cases x cs) (nesting.value_in_case k ty) ∙ length-map cs _ in
      record {
        few = omega arith;
        each = λ j i. let z : 0 + j ≡ j = omega arith in rw z (elim (dec_lt j (length cs)) [
          | yes below ↦ ap value (y.each j (omega arith)) ∙ value_shown (shown.sets j below) (at.each j below) k ty h b
              ∙ sym (getD_map_in (nesting.value_in_case k ty) (per_cases x cs) j (nesting.per_case_deferred x (deferred_of no_case))
              (undef 0)
              (rw (length-map cs (λ c. nesting.per_case_deferred x (deferred_of c))) below)
              ∙ ap (nesting.value_in_case k ty) (getD_map_in (λ c. nesting.per_case_deferred x (deferred_of c)) cs j no_case _ below))
          | no above ↦ ap value (y.others j (omega arith) i) ∙ value_beyond
              ∙ sym (get_or-eq_default (map (nesting.value_in_case k ty) (per_cases x cs)) (undef 0) (omega arith))
        ]);
      }

  pub parts_shown : {parts : List ℕ} → InCases (case_total w) (λ j. per_case_condition w j (get_or places j 0)) 0 parts
      → ShowsParts w parts 0 (conditions_of (per_cases x cs))
  parts_shown {parts} y =
      let size = shown.size in
      parts_from parts (per_cases x cs) 0 (λ j h.
      let z : 0 + j ≡ j = omega arith in
      let below : j < length cs = rw (length-map cs (λ c. nesting.per_case_deferred x (deferred_of c))) at h in
      rw (z, y.each j (omega arith), getD_map_in (λ c. nesting.per_case_deferred x (deferred_of c)) cs j no_case no_case_passed below)
      (condition_of_case (shown.sets j below) j refl (at.each j below)))
