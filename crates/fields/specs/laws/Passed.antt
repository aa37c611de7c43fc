-- Where the targets of a region stand, and the values passed to the target at each place.
use Rattle.std.specs.Prelude.{◌≡◌, Bool, true, false, ℕ, ◌+◌, ◌≤◌, ◌<◌, length, eqb}
use Rattle.std.proofs.Math.Path.{refl, ap}
use Rattle.std.proofs.Common.{◌∙◌, ⊎_elim, arith, zero-add, ltb-true, ltb-false}
use mathlib.Core.List.{List, [], ◌∷◌, map}
use Rattle.meaning.specs.Lists.{pick, rank, distinct_from}
use Rattle.std.proofs.Math.ListN.{get_or, get_or-map, get_or-eq_default}
use Rattle.std.proofs.lemmas.List.{length-map}
use Rattle.std.proofs.Math.Dec.{ltb}
use Rattle.meaning.specs.Graph.{Graph, Value, Edge, ControlInst, region, edges_of, targets_of, no_edge}
use Rattle.format.specs.Read.{counted, word, read_value, most_targets, edges_passed}
use Rattle.format.specs.Read.{terminator_branch, terminator_bool, terminator_number}
use Rattle.format.specs.laws.Readers.{many_at}
use Rattle.store.specs.Layout.{beyond}
use Rattle.record.specs.laws.Parts.{counted_parts}
use Rattle.record.specs.Stands.{words_of_record, Stands}
use Rattle.fields.specs.ItemsAndPlaces.{value_at, word_item, behind_words, targets_place, list_for, passed_place}
use Rattle.fields.specs.laws.Repeats.{earlier}
use Rattle.fields.specs.laws.Lists.{ListAt, ReadAt, word_fixed, value_fixed, counted_at, no_list, word_item_is, behind_words_is}
use Rattle.fields.specs.laws.Regions.{Known, Beyond, small, beyond_words, region_case}
use Rattle.fields.specs.laws.Terminators.{KnownTerminator, edges_length, known_end, no_targets}
use Rattle.fields.specs.laws.Targets.{Found, found}
use Rattle.meaning.specs.facts.Members.{is_in_at}
use Rattle.meaning.specs.facts.Elements.{getD_map_in}

targets_of_map : (h : ℕ → List Value) (ts : List ℕ) → map (λ (e : Edge). e.target) (map (λ t. record { target = t; inputs = h t }) ts) ≡ ts
targets_of_map h [] = refl
targets_of_map h (t ∷ ts) = ap (λ us. t ∷ us) (targets_of_map h ts)

pub edges_targets : (ts : List ℕ) (passes : List (List Value)) → map (λ e. e.target) (edges_passed ts passes) ≡ ts
unfolding edges_passed
edges_targets ts passes = targets_of_map _ ts

pub edge_inputs : (ts : List ℕ) (passes : List (List Value)) (j : ℕ) → j < length ts
    → (get_or (edges_passed ts passes) j no_edge).inputs ≡ get_or passes (rank (get_or ts j 0) (distinct_from [] ts)) []
unfolding edges_passed
edge_inputs ts passes j l = ap (λ e. e.inputs) (getD_map_in _ ts j 0 no_edge l)

most_targets_eight : (k : ℕ) → most_targets k ≤ 8
most_targets_eight k = by_tests (eqb k terminator_number) (eqb k terminator_bool) (eqb k terminator_branch)
  where
    by_tests : (a b c : Bool) → pick a 8 (pick b 2 (pick c 1 0)) ≤ 8
    by_tests true b c = omega arith
    by_tests false true c = omega arith
    by_tests false false true = omega arith
    by_tests false false false = omega arith

-- The values for the target at place j of a terminator that is there.
module _ {w : List ℕ} {g : Graph} (s : Stands w g) (r : ℕ) {x : ControlInst} {at e : ℕ} (t : KnownTerminator w r x at e) where
  known_targets : ReadAt w (words_of_record w) 1 (λ at. get_or w at 0) t.parts.targets_at t.parts.ts t.parts.passes_at
  known_targets = counted_at w word 1 _ (word_fixed w) _ _ t.parts.targets_at t.parts.targets

  known_passes : behind_words w t.parts.targets_at ≡ t.parts.passes_at
  known_passes =
      let a = known_targets in
      let few = (counted_parts _ _ word (words_of_record w) t.parts.targets_at t.parts.targets).high_bound in
      behind_words_is a (omega (arith, a.end, small s a.inside, few, most_targets_eight t.parts.k))

  known_found : (j : ℕ) → j < length t.parts.ts → Found w t.parts.targets_at (get_or t.parts.ts j 0) t.parts.ts [] 0
      t.parts.passes_at
  unfolding earlier
  known_found j l =
      found s t.parts.targets_at (get_or t.parts.ts j 0) t.parts.ts [] 0 t.parts.passes_at
      (omega (arith, known_targets.list.count))
      (λ k m. word_item_is w known_targets.list (0 + k) ∙ ap (λ i. get_or t.parts.ts i 0) (zero-add k))
      (λ y. refl) refl (is_in_at t.parts.ts j l) t.parts.passed_on

  known_passed : (j : ℕ) → j < length (edges_of x) → ListAt w 3 (value_at w)
      (list_for w (targets_place w r) (word_item w (targets_place w r) j) (get_or w (targets_place w r) 0) 0
      (behind_words w (targets_place w r))) (get_or (edges_of x) j no_edge).inputs
  known_passed j l =
      let below : j < length t.parts.ts = omega (arith, l, ap length t.edges_is, edges_length t.parts.ts t.parts.passes) in
      let f = known_found j below in
      rw (
        t.targets_place_is,
        word_item_is w known_targets.list j,
        known_targets.list.count,
        known_passes,
        f.place,
        t.edges_is,
        edge_inputs t.parts.ts t.parts.passes j below,
      )
      (counted_at w read_value 3 _ (value_fixed w) 0 4 _
      (many_at (counted 0 4 read_value) (words_of_record w) _ t.parts.passes_at [] t.parts.passed_on _ f.below)).list

module _ {w : List ℕ} {g : Graph} (s : Stands w g) (r : ℕ) where
  pub targets_at : ListAt w 1 (λ at. get_or w at 0) (targets_place w r) (targets_of g r)
  targets_at = ⊎_elim here there (region_case s r)
    where
      here : Known w g r → ListAt w 1 (λ at. get_or w at 0) (targets_place w r) (targets_of g r)
      here k =
          let t = known_end s r k in
          rw (t.targets_place_is, t.edges_is, edges_targets t.parts.ts t.parts.passes)
          (counted_at w word 1 _ (word_fixed w) _ _ t.parts.targets_at t.parts.targets).list

      there : Beyond w g r → ListAt w 1 (λ at. get_or w at 0) (targets_place w r) (targets_of g r)
      there k = rw (no_targets s r k, k.none) (no_list w 1 _ beyond (beyond_words s (omega arith)))

  pub target_count : get_or w (targets_place w r) 0 ≡ length (edges_of (region g r).terminator)
  target_count = targets_at.count ∙ length-map (edges_of (region g r).terminator) _

  pub target_is : (j : ℕ) → get_or (targets_of g r) j 0 ≡ (get_or (edges_of (region g r).terminator) j no_edge).target
  target_is j = get_or-map (λ e. e.target) (edges_of (region g r).terminator) j no_edge

  pub passed_at : (j : ℕ) → ListAt w 3 (value_at w) (passed_place w r j) (get_or (edges_of (region g r).terminator) j no_edge).inputs
  unfolding passed_place
  passed_at j = by_test (ltb j (length (edges_of (region g r).terminator))) refl
    where
      place : (b : Bool) → ltb j (length (edges_of (region g r).terminator)) ≡ b
          → passed_place w r j ≡ pick b (list_for w (targets_place w r) (word_item w (targets_place w r) j) (get_or w (targets_place w r) 0) 0
          (behind_words w (targets_place w r))) beyond
      place b q =
          ap (λ c. pick c (list_for w (targets_place w r) (word_item w (targets_place w r) j) (get_or w (targets_place w r) 0) 0
          (behind_words w (targets_place w r))) beyond) (ap (ltb j) target_count ∙ q)

      by_test : (b : Bool) → ltb j (length (edges_of (region g r).terminator)) ≡ b
          → ListAt w 3 (value_at w) (passed_place w r j) (get_or (edges_of (region g r).terminator) j no_edge).inputs
      by_test true q =
          let l = ltb-true j _ q in
          rw (place true q)
          (⊎_elim (λ k. known_passed s r (known_end s r k) j l)
          (λ k. absurd (omega (arith, l, ap (λ x. length (edges_of x.terminator)) k.none))) (region_case s r))
      by_test false q =
          let none : (get_or (edges_of (region g r).terminator) j no_edge).inputs ≡ [] =
          ap (λ e. e.inputs) (get_or-eq_default (edges_of (region g r).terminator) no_edge (ltb-false j _ q)) in
          rw (place false q, none) (no_list w 3 _ beyond (beyond_words s (omega arith)))
