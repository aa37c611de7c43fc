-- For every state and cases that the words show: after `rewrite_cases` they show the definition's cases and its note.
use Rattle.std.specs.Prelude.{◌≡◌, refl, Bool, false, ◌||◌}
use Rattle.std.proofs.Math.Path.{sym, ap, subst}
use Rattle.std.proofs.Common.{◌∙◌}
use Rattle.std.proofs.Math.Bool.{or-false}
use mathlib.Core.List.{List, [], ◌∷◌, map}
use Prim.Native.Nat.{ℕ, suc, ◌+◌, ◌-◌, ◌≤◌, ◌<◌}
use native.Mathlib.Omega.{arith}
use Rattle.std.proofs.Math.Decide.{dec_lt}
use Rattle.std.proofs.Math.ListN.{length, get_or, length-map, get_or-eq_default}
use borrow.Author.Tests.{lt-ltb, eq-eqb, ne_eqb}
use Rattle.meaning.specs.Lists.{any}
use Rattle.meaning.specs.Graph.{Value, Graph, region, undef}
use Rattle.meaning.specs.facts.Elements.{at_cons}
use Rattle.format.specs.Valid.{Valid}
use Rattle.nesting.specs.Nesting as nesting
use Rattle.nesting.specs.Nesting.{NestState, StructurizeRegionState, done, with_twice, DeferredTarget, DeferredEdgeBundle}
use Rattle.nesting.specs.Nesting.{DeferredEdgeBundleSet, LookUp}
use Rattle.nesting.specs.Nesting.{ClaimedRegion, claimed_as, MaybeClaimedRegion, ok, err, deferred_of, look_up_bundle, look_up_case}
use Rattle.nesting.specs.lookups.ChainEnds.{ChainsEnd}
use Rattle.state_words.specs.Sections as sections
use Rattle.state_words.specs.Sections.{Section, number, front, section, word, head, kinds, backedges, set_starts, set_lengths, children}
use Rattle.state_words.specs.Sections.{bodies}
use Rattle.state_words.specs.Sections.{levels, cases, rewrites, conditions, cells, bundles}
use Rattle.state_sets.specs.SetTables.{input_word, input_stored, bundle_at}
use Rattle.state_regions.specs.RegionTables.{case_total}
use Rattle.state_shown.specs.Tables.{ShowsTables}
use Rattle.state_shown.specs.Sets.{Names, ShowsTarget, shows_region, shows_return, target_size, ShowsBundle, ShowsSet, SameBundle}
use Rattle.state_shown.specs.Sets.{no_bundle}
use Rattle.state_shown.specs.States.{Slots, ShowsReturned, NamedRewrites, ShowsState, ShowsCases, ShowsCase, shows_ok, shows_nothing}
use Rattle.state_shown.specs.States.{shows_edge}
use Rattle.state_shown.specs.States.{shows_others, no_case, HasSlot}
use Rattle.state_shown.specs.States.{ShowsRegion, is_not_begun, is_in_progress, is_ready, is_claimed}
use Rattle.state_shown.specs.laws.Conditions.{condition_same}
use Rattle.state_shown.specs.laws.FrontKept.{stands_on}
use Rattle.state_shown.specs.Kept.{PreservesMade, KeptRegion}
use Rattle.state_shown.specs.laws.RegionsKept.{bundle_stays, set_stays, same_bundle, same_bundle_then}
use Rattle.cfg_merging.specs.Turns.{turned}
use Rattle.cfg_merging.specs.Turns.{turned_same}
use Rattle.cfg_bundles.specs.EdgesAndCases.{input_count}
use Rattle.cfg_merging.specs.Rewriting.{rewrite_input, rewrite_case_input, rewrite_bundle, rewrite_set, rewrite_inputs, rewrite_given}
use Rattle.cfg_merging.specs.Rewriting.{rewrite_case, rewrite_cases}
use Rattle.cfg_merging.specs.laws.shown.Spare.{case_stays}
use Rattle.state_shown.specs.laws.Finds.{bundle_in}
use Rattle.cfg_merging.specs.laws.shown.Rows.{rewrite_word, looked_up, met_twice, RowShown, row_shown, two_notes, no_note}
use Rattle.state_shown.specs.laws.RegionSteps.{named_by, slots_stay}
use Rattle.state_words.specs.Rows.{bundle_input_at, bundle_row_at, bundle_target, bundle_word, bundle_word_at, case_claimed, case_input}
use Rattle.state_words.specs.Rows.{case_input_at, case_kind, case_origin, case_row_at, case_row_size, case_set_length, case_set_start}
use Rattle.state_words.specs.Rows.{case_word, case_word_at, cases_at, cells_at, kind_ready, level_at, merges_at, most_bundles, region_kind}
use Rattle.state_words.specs.Rows.{returned_at, types_at, slot_size, twice_at, return_word, spare_slot, bundle_condition_field}
use Rattle.state_words.specs.Rows.{bundle_count_field, bundle_target_field, case_body_field, case_children_field, case_kind_field}
use Rattle.state_words.specs.Rows.{case_origin_field, case_set_length_field, case_set_start_field}

-- ---- What rewriting leaves: all but the note, the cases' inputs and the bundles' inputs.
pub record Stays (w w' : List ℕ) : Type 0 where
  pub words : length w' ≡ length w
  pub others : (j : Section) → (number j ≡ number sections.cases → ⊥) → (number j ≡ number sections.bundles → ⊥)
      → (number j ≡ number sections.head → ⊥) → section w' j ≡ section w j
  pub totals : (q : ℕ) → (q ≡ twice_at → ⊥) → word w' head q ≡ word w head q
  pub case_fields : (j i : ℕ) → i < 6 → case_word w' j i ≡ case_word w j i
  pub bundle_fields : (p i : ℕ) → i < 3 → bundle_word w' p i ≡ bundle_word w p i

pub stays_same : (w : List ℕ) → Stays w w
stays_same w =
    record { words = refl; others = λ j a b c. refl; totals = λ q a. refl; case_fields = λ j i h. refl; bundle_fields = λ p i h. refl }

pub stays_then : {w w₁ w₂ : List ℕ} → Stays w w₁ → Stays w₁ w₂ → Stays w w₂
stays_then a b =
    record {
      words = b.words ∙ a.words;
      others = λ j x y z. b.others j x y z ∙ a.others j x y z;
      totals = λ q d. b.totals q d ∙ a.totals q d;
      case_fields = λ j i h. b.case_fields j i h ∙ a.case_fields j i h;
      bundle_fields = λ p i h. b.bundle_fields p i h ∙ a.bundle_fields p i h;
    }

pub stays_preserves : {w w' : List ℕ} (g : Graph) → Stays w w' → PreservesMade g w w'
stays_preserves g x =
    record {
      front = record { words = x.words; front_words = x.others front (omega arith) (omega arith) (omega arith) };
      conditions_stay = condition_same (x.others conditions (omega arith) (omega arith) (omega arith))
          (x.others cells (omega arith) (omega arith) (omega arith)) (x.totals cells_at (omega arith))
          (x.totals merges_at (omega arith));
      nodes_stay = λ n. record {
        nodes = rw (x.others cells (omega arith) (omega arith) (omega arith)) n.nodes;
        made = rw (x.totals cells_at (omega arith)) n.made;
      };
    }

pub returned_stays : {w w' : List ℕ} {g : Graph} → Stays w w' → ShowsReturned g w → ShowsReturned g w'
returned_stays x y =
    record { size = x.totals returned_at (omega arith) ∙ y.size; types = λ k h. x.totals (types_at + k) (omega arith) ∙ y.types k h }

names_stay : {w w' : List ℕ} → Stays w w' → NamedRewrites w → NamedRewrites w'
names_stay x n = named_by (x.others rewrites (omega arith) (omega arith) (omega arith)) n

abbrev ρ : NestState → Value → LookUp Value
ρ s v = nesting.look_up s.region_input_rewrites v

abbrev pub bundle_found : NestState → DeferredEdgeBundle → LookUp DeferredEdgeBundle
bundle_found s e = look_up_bundle (ρ s) (λ x. x.condition) e

abbrev pub case_found : NestState → MaybeClaimedRegion → LookUp MaybeClaimedRegion
case_found s c = look_up_case (ρ s) c

-- ---- A bundle.
input_as_word : (p : ℕ) (m : List ℕ) (k : ℕ) → k < 4 → rewrite_input m p k ≡ rewrite_word bundles m (bundle_input_at p k)
unfolding rewrite_input input_word input_stored
input_as_word p m k h = rw (lt-ltb k 4 h)

module _ (g : Graph) (valid : Valid g) where
  pub count_by : (l : List ℕ) (t : ℕ) {x : DeferredTarget} → ShowsReturned g l → ShowsTarget g t x → input_count g l t ≡ target_size g x
  unfolding input_count
  count_by l t back (shows_region {r} e h) =
      let z = valid.count in
      rw (e, ne_eqb r return_word (omega arith))
  count_by l t back (shows_return e) = rw e back.size

  pub record BundleShown (s : NestState) (l l' : List ℕ) (p : ℕ) (e : DeferredEdgeBundle) : Type 0 where
    pub stays : Stays l l'
    pub same_cases : section l' cases ≡ section l cases
    pub shown : ShowsBundle g l' p (bundle_found s e).value
    pub others : (q : ℕ) → (q ≡ p → ⊥) → SameBundle l l' q
    pub tables : ShowsTables l' (with_twice (bundle_found s e).twice s)

  module _ (s : NestState) (all : (r : ℕ) → ChainsEnd s.region_input_rewrites r) (l : List ℕ) (t : ShowsTables l s)
      (names : NamedRewrites l) (back : ShowsReturned g l) (p : ℕ) (below : p < most_bundles) {e : DeferredEdgeBundle}
      (x : ShowsBundle g l p e) where
    abbrev vs : List Value
    vs = e.target_inputs

    abbrev row : List ℕ
    row = turned (λ m k. rewrite_word bundles m (bundle_input_at p k)) l (length vs) 0

    as_row : rewrite_bundle g l p ≡ row
    unfolding rewrite_bundle
    as_row =
        let few = x.few in
        rw (count_by l (bundle_target l p) back x.target, ← x.size)
        (turned_same (λ m k. rewrite_input m p k) (λ m k. rewrite_word bundles m (bundle_input_at p k)) 4 (input_as_word p) (length vs) l 0
        (omega arith))

    row_is : RowShown bundles (bundle_row_at p) 3 s l row 0 vs
    row_is =
        let few = x.few in
        row_shown bundles (omega arith) (omega arith) (bundle_row_at p) 3 vs s all l t names 0 (omega arith)
        (λ j h. let e : 0 + j ≡ j = omega arith in rw e (x.inputs j h))

    row_stays : Stays l row
    row_stays =
        let few = x.few in
        let c = row_is.changes in
        let same : section row cases ≡ section l cases = c.others cases (omega arith) (omega arith) in
        record {
          words = c.words;
          others = λ j a b d. c.others j b d;
          totals = c.totals;
          case_fields = λ j i h. rw same refl;
          bundle_fields = λ q i h. elim (dec_lt p q) [
            | yes d ↦ row_is.behind (bundle_word_at q i) (omega arith)
            | no d ↦ row_is.before (bundle_word_at q i) (omega arith)
          ];
        }

    pub bundle_rewritten : BundleShown s l (rewrite_bundle g l p) p e
    bundle_rewritten =
        let few = x.few in
        let same = length-map vs (λ v. (ρ s v).value) in
        rw as_row
        (record {
          stays = row_stays;
          same_cases = row_is.changes.others cases (omega arith) (omega arith);
          shown = record {
            target = rw (row_stays.bundle_fields p bundle_target_field (omega arith)) x.target;
            count = row_stays.bundle_fields p bundle_count_field (omega arith) ∙ x.count;
            condition = rw (row_stays.bundle_fields p bundle_condition_field (omega arith))
                ((stays_preserves g row_stays).conditions_stay x.condition);
            size = same ∙ x.size;
            few = rw same few;
            inputs = λ k h. let e : 0 + k ≡ k = omega arith in rw e at (row_is.named k (rw same at h));
          };
          others = λ q d. record {
            words = λ i h. elim (dec_lt p q) [
              | yes b ↦ row_is.behind (bundle_word_at q i) (omega arith)
              | no b ↦ row_is.before (bundle_word_at q i) (omega arith)
            ];
          };
          tables = rw (or-false (met_twice s vs)) row_is.tables;
        })

  -- ---- A set: the bundles from `start + i` on.
  pub record SetShown (s : NestState) (l l' : List ℕ) (start i : ℕ) (d : DeferredEdgeBundleSet) : Type 0 where
    pub stays : Stays l l'
    pub same_cases : section l' cases ≡ section l cases
    pub each : (k : ℕ) → k < length d → ShowsBundle g l' (start + (i + k)) (get_or (map (λ e. (bundle_found s e).value) d) k no_bundle)
    pub before : (q : ℕ) → q < start + i → SameBundle l l' q
    pub behind : (q : ℕ) → start + i + length d ≤ q → SameBundle l l' q
    pub tables : ShowsTables l' (with_twice (any (λ e. (bundle_found s e).twice) d) s)

  abbrev set_step : ℕ → List ℕ → ℕ → List ℕ
  set_step start m i = rewrite_bundle g m (bundle_at start i)

  bundles_rewritten : (start : ℕ) (d : DeferredEdgeBundleSet) (s : NestState) → ((r : ℕ) → ChainsEnd s.region_input_rewrites r)
      → (l : List ℕ) → ShowsTables l s → NamedRewrites l → ShowsReturned g l → (i : ℕ) → start + i + length d ≤ most_bundles
      → i + length d ≤ slot_size
      → ((k : ℕ) → k < length d → ShowsBundle g l (start + (i + k)) (get_or d k no_bundle))
      → SetShown s l (turned (set_step start) l (length d) i) start i d
  unfolding turned
  bundles_rewritten start [] s all l t names back i room few shown =
      record {
        stays = stays_same l;
        same_cases = refl;
        each = λ k h. absurd (omega arith);
        before = λ q h. same_bundle l q;
        behind = λ q h. same_bundle l q;
        tables = subst (λ z. ShowsTables l z) (sym (no_note s)) t;
      }
  bundles_rewritten start (e ∷ d) s all l t names back i room few shown =
      let here : i + 0 ≡ i = omega arith in
      let first : ShowsBundle g l (start + i) e = rw here at (shown 0 (omega arith)) in
      let one = bundle_rewritten s all l t names back (start + i) (omega arith) first in
      let l₁ = rewrite_bundle g l (start + i) in
      let st = one.stays in
      let b = (bundle_found s e).twice in
      let ih = bundles_rewritten start d (with_twice b s) all l₁ one.tables (names_stay st names) (returned_stays st back) (suc i)
      (omega arith) (omega arith)
      (λ k h. let e : suc i + k ≡ i + suc k = omega arith in
      rw e (bundle_stays (stays_preserves g st) (one.others (start + (i + suc k)) (omega arith)) (shown (suc k) (omega arith)))) in
      let l' = turned (set_step start) l₁ (length d) (suc i) in
      subst (λ p. SetShown s l (turned (set_step start) (rewrite_bundle g l p) (length d) (suc i)) start i (e ∷ d))
      (sym (bundle_in start i (omega arith) (omega arith)))
      (record {
        stays = stays_then st ih.stays;
        same_cases = ih.same_cases ∙ one.same_cases;
        each = at_cons (λ q x. ShowsBundle g l' (start + q) x) no_bundle i (length d) (map (λ x. (bundle_found s x).value) d)
            (bundle_stays (stays_preserves g ih.stays) (ih.before (start + i) (omega arith)) one.shown) ih.each;
        before = λ q h. same_bundle_then (one.others q (omega arith)) (ih.before q (omega arith));
        behind = λ q h. same_bundle_then (one.others q (omega arith)) (ih.behind q (omega arith));
        tables = subst (λ z. ShowsTables l' z) (two_notes b (any (λ x. (bundle_found s x).twice) d) s) ih.tables;
      })

  -- A set whole.
  set_rewritten : (s : NestState) → ((r : ℕ) → ChainsEnd s.region_input_rewrites r) → (l : List ℕ) → ShowsTables l s
      → NamedRewrites l → ShowsReturned g l → (start n : ℕ) {d : DeferredEdgeBundleSet} → ShowsSet g l start n d
      → SetShown s l (rewrite_set g l start n) start 0 d
  unfolding rewrite_set
  set_rewritten s all l t names back start n {d} x =
      let few = x.few in
      let room = x.room in
      let size = x.size in
      rw size (bundles_rewritten start d s all l t names back 0 (omega arith) (omega arith)
      (λ k h. let e : 0 + k ≡ k = omega arith in rw e (x.each k (omega arith))))

  set_shown : {s : NestState} {l l' : List ℕ} {start n : ℕ} {d : DeferredEdgeBundleSet} → ShowsSet g l start n d → SetShown s l l' start 0 d
      → ShowsSet g l' start n (map (λ e. (bundle_found s e).value) d)
  set_shown {s} {start} {n} {d} x y =
      let size = x.size in
      record {
        size = x.size ∙ sym (length-map d (λ e. (bundle_found s e).value));
        few = x.few;
        room = x.room;
        each = λ k h. let e : 0 + k ≡ k = omega arith in rw e at (y.each k (omega arith));
        apart = λ i j a b z. x.apart i j a b
            (sym (y.stays.bundle_fields (start + i) 0 (omega arith)) ∙ z ∙ y.stays.bundle_fields (start + j) 0 (omega arith));
      }

  -- ---- A case: what a claimed region is given, then its set.
  abbrev given_note : NestState → MaybeClaimedRegion → Bool
  given_note s (ok c) = met_twice s c.structured_body_inputs
  given_note s (err d) = false

  record GivenShown (s : NestState) (l l' : List ℕ) (r j : ℕ) (c : MaybeClaimedRegion) : Type 0 where
    pub stays : Stays l l'
    pub same_bundles : section l' bundles ≡ section l bundles
    pub shown : ShowsCase g l' r j (case_found s c).value
    pub before : (x : ℕ) → x < case_row_at j → word l' cases x ≡ word l cases x
    pub behind : (x : ℕ) → case_row_at j + case_row_size ≤ x → word l' cases x ≡ word l cases x
    pub tables : ShowsTables l' (with_twice (given_note s c) s)

  -- A case whose inputs stay.
  inputs_stay : {l l' : List ℕ} → Stays l l' → (r j : ℕ)
      → ((k : ℕ) → k < 4 → case_input l' j k ≡ case_input l j k)
      → {c : MaybeClaimedRegion} → ShowsCase g l r j c → ShowsCase g l' r j c
  inputs_stay st r j same x =
      case_stays (stays_preserves g st) r j (λ q. ap (λ z. get_or z q 0) (st.others set_starts (omega arith) (omega arith) (omega arith)))
      (λ i h. st.case_fields j i h) same x

  module _ (s : NestState) (all : (r : ℕ) → ChainsEnd s.region_input_rewrites r) (l : List ℕ) (t : ShowsTables l s)
      (names : NamedRewrites l) (r j : ℕ) (below : j < 8) where
    none_given : {d : DeferredEdgeBundleSet} → (case_kind l j ≡ case_claimed → ⊥)
        → ShowsCase g l r j (err (map (λ e. (bundle_found s e).value) d)) → GivenShown s l (rewrite_given g l j) r j (err d)
    unfolding rewrite_given
    none_given d x =
        rw (ne_eqb (case_kind l j) case_claimed d)
        (record {
          stays = stays_same l;
          same_bundles = refl;
          shown = x;
          before = λ q h. refl;
          behind = λ q h. refl;
          tables = subst (λ z. ShowsTables l z) (sym (no_note s)) t;
        })

    module _ (c : ClaimedRegion) (kind : case_kind l j ≡ case_claimed) (origin : case_origin l j ≡ c.origin)
        (in_graph : c.origin < length g.regions)
        (size : length c.structured_body_inputs ≡ length (region g c.origin).inputs)
        (inputs : (k : ℕ) → k < 4 → Names (case_input l j k) (get_or c.structured_body_inputs k (undef 0))) where
      abbrev us : List Value
      us = c.structured_body_inputs

      abbrev given_row : List ℕ
      given_row = turned (λ m k. rewrite_word cases m (case_input_at j k)) l (length us) 0

      as_given : rewrite_given g l j ≡ given_row
      unfolding rewrite_given rewrite_inputs rewrite_case_input
      as_given = rw (eq-eqb (case_kind l j) case_claimed kind, origin, ← size)

      few_given : length us ≤ 4
      few_given = rw size (valid.regions c.origin in_graph).inputs_few

      given_is : RowShown cases (case_row_at j) 6 s l given_row 0 us
      given_is =
          let few = few_given in
          row_shown cases (omega arith) (omega arith) (case_row_at j) 6 us s all l t names 0 (omega arith)
          (λ k h. let e : 0 + k ≡ k = omega arith in rw e (inputs k (omega arith)))

      given_stays : Stays l given_row
      given_stays =
          let few = few_given in
          let x = given_is.changes in
          record {
            words = x.words;
            others = λ q a b d. x.others q a d;
            totals = x.totals;
            case_fields = λ q i h. elim (dec_lt j q) [
              | yes d ↦ given_is.behind (case_word_at q i) (omega arith)
              | no d ↦ given_is.before (case_word_at q i) (omega arith)
            ];
            bundle_fields = λ p i h. ap (λ z. get_or z (bundle_word_at p i) 0) (x.others bundles (omega arith) (omega arith));
          }

      given_named : (k : ℕ) → k < 4 → Names (case_input given_row j k) (get_or (looked_up s us) k (undef 0))
      given_named k h =
          let same = length-map us (λ v. (ρ s v).value) in
          elim (dec_lt k (length us)) [
            | yes d ↦ (let e : 0 + k ≡ k = omega arith in rw e at (given_is.named k d))
            | no d ↦ rw (
              given_is.behind (case_input_at j k) (omega arith),
              get_or-eq_default (looked_up s us) (undef 0) {n = k} (omega arith),
              ← get_or-eq_default us (undef 0) {n = k} (omega arith),
            ) (inputs k h)
          ]

    given_rewritten : {c : MaybeClaimedRegion} → ShowsCase g l r j c → GivenShown s l (rewrite_given g l j) r j c
    given_rewritten (shows_nothing kind none) = none_given {d = []} (omega arith) (shows_nothing kind none)
    given_rewritten (shows_edge {d} kind start one) =
        none_given {d = d} (omega arith) (shows_edge {d = map (λ e. (bundle_found s e).value) d} kind start one)
    given_rewritten (shows_others {d} kind start) =
        none_given {d = d} (omega arith) (shows_others {d = map (λ e. (bundle_found s e).value) d} kind start)
    given_rewritten (shows_ok {c} kind origin in_graph body lower nodes start size inputs) =
        let few = few_given c kind origin in_graph size inputs in
        let st = given_stays c kind origin in_graph size inputs in
        let row = given_is c kind origin in_graph size inputs in
        let starts = st.others set_starts (omega arith) (omega arith) (omega arith) in
        rw (as_given c kind origin in_graph size inputs)
        (record {
          stays = st;
          same_bundles = row.changes.others bundles (omega arith) (omega arith);
          shown = shows_ok {c = claimed_as c.origin c.structured_body (looked_up s c.structured_body_inputs) c.children
              (map (λ e. (bundle_found s e).value) c.deferred_edges)}
              (st.case_fields j case_kind_field (omega arith) ∙ kind) (st.case_fields j case_origin_field (omega arith) ∙ origin) in_graph
              (st.case_fields j case_body_field (omega arith) ∙ body) lower
              (rw (st.case_fields j case_children_field (omega arith)) ((stays_preserves g st).nodes_stay nodes))
              (st.case_fields j case_set_start_field (omega arith) ∙ start ∙ ap (λ z. get_or z c.origin 0) (sym starts))
              (length-map c.structured_body_inputs (λ v. (ρ s v).value) ∙ size)
              (given_named c kind origin in_graph size inputs);
          before = λ x h. row.before x (omega arith);
          behind = λ x h. row.behind x (omega arith);
          tables = row.tables;
        })

  -- The case's parts looked up.
  deferred_found : (s : NestState) (c : MaybeClaimedRegion)
      → deferred_of (case_found s c).value ≡ map (λ e. (bundle_found s e).value) (deferred_of c)
  deferred_found s (ok c) = refl
  deferred_found s (err d) = refl

  note_found : (s : NestState) (c : MaybeClaimedRegion)
      → (case_found s c).twice ≡ (given_note s c || any (λ e. (bundle_found s e).twice) (deferred_of c))
  note_found s (ok c) = rw (or-false (met_twice s c.structured_body_inputs))
  note_found s (err d) = refl

  pub record CaseLookedUp (s : NestState) (l l' : List ℕ) (r j : ℕ) (c : MaybeClaimedRegion) : Type 0 where
    pub stays : Stays l l'
    pub shown : ShowsCase g l' r j (case_found s c).value
    pub set : ShowsSet g l' (case_set_start l' j) (case_set_length l' j) (deferred_of (case_found s c).value)
    pub before : (x : ℕ) → x < case_row_at j → word l' cases x ≡ word l cases x
    pub behind : (x : ℕ) → case_row_at j + case_row_size ≤ x → word l' cases x ≡ word l cases x
    pub outside : (q : ℕ) → ((p : ℕ) → p < case_set_length l j → q ≡ case_set_start l j + p → ⊥) → SameBundle l l' q
    pub tables : ShowsTables l' (with_twice (case_found s c).twice s)

  pub case_rewritten : (s : NestState) → ((q : ℕ) → ChainsEnd s.region_input_rewrites q) → (l : List ℕ) → ShowsTables l s
      → NamedRewrites l → ShowsReturned g l → (r j : ℕ) → j < 8 → {c : MaybeClaimedRegion} → ShowsCase g l r j c
      → ShowsSet g l (case_set_start l j) (case_set_length l j) (deferred_of c)
      → CaseLookedUp s l (rewrite_case g l j) r j c
  unfolding rewrite_case
  case_rewritten s all l t names back r j below {c} x y =
      let given = given_rewritten s all l t names r j below x in
      let m = rewrite_given g l j in
      let st = given.stays in
      let start = case_set_start m j in
      let n = case_set_length m j in
      let old_set : ShowsSet g m start n (deferred_of c) =
      rw (st.case_fields j case_set_start_field (omega arith), st.case_fields j case_set_length_field (omega arith))
      (set_stays (stays_preserves g st) (λ i h. record {
        words = λ q b. ap (λ z. get_or z (bundle_word_at (case_set_start l j + i) q) 0)
            given.same_bundles;
      }) y) in
      let set = set_rewritten (with_twice (given_note s c) s) all m given.tables (names_stay st names) (returned_stays st back)
      start n old_set in
      let l' = rewrite_set g m start n in
      record {
        stays = stays_then st set.stays;
        shown = inputs_stay set.stays r j (λ k h. ap (λ z. get_or z (case_input_at j k) 0) set.same_cases) given.shown;
        set = rw (
          deferred_found s c,
          set.stays.case_fields j case_set_start_field (omega arith),
          set.stays.case_fields j case_set_length_field (omega arith),
        )
            (set_shown old_set set);
        before = λ q h. ap (λ z. get_or z q 0) set.same_cases ∙ given.before q h;
        behind = λ q h. ap (λ z. get_or z q 0) set.same_cases ∙ given.behind q h;
        outside = λ q h.
            let a = st.case_fields j case_set_start_field (omega arith) in
            let b = st.case_fields j case_set_length_field (omega arith) in
            let size = old_set.size in
            same_bundle_then (record { words = λ i d. ap (λ z. get_or z (bundle_word_at q i) 0) given.same_bundles })
            (elim (dec_lt q start) [
              | yes d ↦ set.before q (omega arith)
              | no d ↦ elim (dec_lt q (start + n)) [
                | yes f ↦ absurd (h (q - start) (omega arith) (omega arith))
                | no f ↦ set.behind q (omega arith)
              ]
            ]);
        tables = subst (λ b. ShowsTables l' (with_twice b s)) (sym (note_found s c))
            (subst (λ z. ShowsTables l' z) (two_notes (given_note s c) (any (λ e. (bundle_found s e).twice) (deferred_of c)) s)
            set.tables);
      }

  -- ---- All cases, from case j on.
  pub record CasesLookedUp (s : NestState) (l l' : List ℕ) (r j : ℕ) (cs : List MaybeClaimedRegion) : Type 0 where
    pub stays : Stays l l'
    pub each : (k : ℕ) → k < length cs → ShowsCase g l' r (j + k) (get_or (map (λ c. (case_found s c).value) cs) k no_case)
    pub sets : (k : ℕ) → k < length cs → ShowsSet g l' (case_set_start l' (j + k)) (case_set_length l' (j + k))
        (deferred_of (get_or (map (λ c. (case_found s c).value) cs) k no_case))
    pub before : (x : ℕ) → x < case_row_at j → word l' cases x ≡ word l cases x
    pub outside : (q : ℕ)
        → ((k p : ℕ) → k < length cs → p < case_set_length l (j + k) → q ≡ case_set_start l (j + k) + p → ⊥)
        → SameBundle l l' q
    pub tables : ShowsTables l' (with_twice (any (λ c. (case_found s c).twice) cs) s)

  abbrev case_step : List ℕ → ℕ → List ℕ
  case_step m i = rewrite_case g m i

  -- A set stays where its case's fields and its bundles do.
  moved_set : {l l' : List ℕ} → Stays l l' → (j : ℕ) →
      ((i : ℕ) → i < case_set_length l j → SameBundle l l' (case_set_start l j + i))
      → {d : DeferredEdgeBundleSet} → ShowsSet g l (case_set_start l j) (case_set_length l j) d
      → ShowsSet g l' (case_set_start l' j) (case_set_length l' j) d
  moved_set st j same x =
      rw (st.case_fields j case_set_start_field (omega arith), st.case_fields j case_set_length_field (omega arith))
      (set_stays (stays_preserves g st) same x)

  cases_turned : (r : ℕ) (cs : List MaybeClaimedRegion) (s : NestState) → ((q : ℕ) → ChainsEnd s.region_input_rewrites q)
      → (l : List ℕ) → ShowsTables l s → NamedRewrites l → ShowsReturned g l → (j : ℕ) → j + length cs ≤ 8
      → ((k : ℕ) → k < length cs → ShowsCase g l r (j + k) (get_or cs k no_case))
      → ((k : ℕ) → k < length cs
      → ShowsSet g l (case_set_start l (j + k)) (case_set_length l (j + k)) (deferred_of (get_or cs k no_case)))
      → ((a b p q : ℕ) → a < b → b < length cs → p < case_set_length l (j + a) → q < case_set_length l (j + b)
      → case_set_start l (j + a) + p ≡ case_set_start l (j + b) + q → ⊥)
      → CasesLookedUp s l (turned case_step l (length cs) j) r j cs
  unfolding turned
  cases_turned r [] s all l t names back j few each sets apart =
      record {
        stays = stays_same l;
        each = λ k h. absurd (omega arith);
        sets = λ k h. absurd (omega arith);
        before = λ x h. refl;
        outside = λ q h. same_bundle l q;
        tables = subst (λ z. ShowsTables l z) (sym (no_note s)) t;
      }
  cases_turned r (c ∷ cs) s all l t names back j few each sets apart =
      let here : j + 0 ≡ j = omega arith in
      let first : ShowsCase g l r j c = rw here at (each 0 (omega arith)) in
      let first_set : ShowsSet g l (case_set_start l j) (case_set_length l j) (deferred_of c) = rw here at
      (sets 0 (omega arith)) in
      let first_apart : (b p q : ℕ) → b < length cs → p < case_set_length l j → q < case_set_length l (j + suc b)
      → case_set_start l j + p ≡ case_set_start l (j + suc b) + q → ⊥ =
      λ b p q h x y e. apart 0 (suc b) p q (omega arith) (omega arith) (rw here x) y (rw here e) in
      let one = case_rewritten s all l t names back r j (omega arith) first first_set in
      let l₁ = rewrite_case g l j in
      let st = one.stays in
      let m = (case_found s c).twice in
      let next : (k : ℕ) → suc j + k ≡ j + suc k = λ k. omega arith in
      let ih = cases_turned r cs (with_twice m s) all l₁ one.tables (names_stay st names) (returned_stays st back) (suc j) (omega arith)
      (λ k h. rw (next k) (inputs_stay st r (j + suc k) (λ i d. one.behind (case_input_at (j + suc k) i) (omega arith))
      (each (suc k) (omega arith))))
      (λ k h. rw (next k) (moved_set st (j + suc k) (λ i d. one.outside (case_set_start l (j + suc k) + i)
      (λ p x e. first_apart k p i h x d (sym e))) (sets (suc k) (omega arith))))
      (λ a b p q h d. rw (
        next a,
        next b,
        st.case_fields (j + suc a) 5 (omega arith),
        st.case_fields (j + suc b) 5 (omega arith),
        st.case_fields (j + suc a) 4 (omega arith),
        st.case_fields (j + suc b) 4 (omega arith),
      )
      (apart (suc a) (suc b) p q (omega arith) (omega arith))) in
      let l' = turned case_step l₁ (length cs) (suc j) in
      let length_of : (k : ℕ) → case_set_length l₁ k ≡ case_set_length l k = λ k. st.case_fields k case_set_length_field (omega arith) in
      let start_of : (k : ℕ) → case_set_start l₁ k ≡ case_set_start l k = λ k. st.case_fields k case_set_start_field (omega arith) in
      let us = map (λ x. (case_found s x).value) cs in
      record {
        stays = stays_then st ih.stays;
        each = at_cons (λ q x. ShowsCase g l' r q x) no_case j (length cs) us
            (inputs_stay ih.stays r j (λ k h. ih.before (case_input_at j k) (omega arith)) one.shown) ih.each;
        sets = at_cons (λ q x. ShowsSet g l' (case_set_start l' q) (case_set_length l' q) (deferred_of x)) no_case j
            (length cs) us
            (moved_set ih.stays j (λ i d. ih.outside (case_set_start l₁ j + i) (λ k p a b e.
            first_apart k i p a (rw (length_of j) at d) (rw (next k, length_of (j + suc k)) at b)
            (rw (next k, start_of j, start_of (j + suc k)) at e))) one.set)
            ih.sets;
        before = λ x h. ih.before x (omega arith) ∙ one.before x h;
        outside = λ q h. same_bundle_then (one.outside q (λ p b e. h 0 p (omega arith) (rw here b) (rw here e)))
            (ih.outside q (λ k p a b e. h (suc k) p (omega arith) (rw (next k, length_of (j + suc k)) at b)
            (rw (next k, start_of (j + suc k)) at e)));
        tables = subst (λ z. ShowsTables l' z) (two_notes m (any (λ x. (case_found s x).twice) cs) s) ih.tables;
      }

-- ---- The step whole.
-- No case's set is a Ready region's: the parent is in progress, and what a case claimed is claimed.
pub record NoneReady (g : Graph) (w : List ℕ) (r : ℕ) (cs : List MaybeClaimedRegion) : Type 0 where
  pub parent_slot : HasSlot (length g.regions) r
  pub parent : region_kind w r ≡ kind_ready → ⊥
  pub origins : (j : ℕ) → j < length cs → case_kind w j ≡ case_claimed → region_kind w (case_origin w j) ≡ kind_ready → ⊥

abbrev pub cases_after : NestState → List MaybeClaimedRegion → List MaybeClaimedRegion
cases_after s cs = map (λ c. (case_found s c).value) cs

abbrev pub state_after : NestState → List MaybeClaimedRegion → NestState
state_after s cs = with_twice (any (λ c. (case_found s c).twice) cs) s

pub rewrite_is : (cs : List MaybeClaimedRegion) (s : NestState) → nesting.rewrite_cases cs s ≡ done (cases_after s cs) (state_after s cs)
unfolding nesting.rewrite_cases
rewrite_is cs s = refl

pub record CasesRewritten (g : Graph) (w w' : List ℕ) (r : ℕ) (s : NestState) (cs : List MaybeClaimedRegion) : Type 0 where
  pub cases_shown : ShowsCases g w' r (cases_after s cs)
  pub state : ShowsState g w' (state_after s cs)
  pub made_stays : PreservesMade g w w'
  pub stays : Stays w w'
  pub outside : (q : ℕ)
      → ((j p : ℕ) → j < length cs → p < case_set_length w j → q ≡ case_set_start w j + p → ⊥)
      → SameBundle w w' q

from_zero : (k : ℕ) → 0 + k ≡ k
from_zero k = omega arith

-- Two slots that are not the same have no bundle in common.
slots_apart : {n : ℕ} {w : List ℕ} → Slots n w → (a b : ℕ) → HasSlot n a → HasSlot n b → (a ≡ b → ⊥) → (i j : ℕ) → i < slot_size
    → j < slot_size
    → word w set_starts a + i ≡ word w set_starts b + j → ⊥
slots_apart sl a b x y d i j h k e =
    let p = sl.starts a x in
    let q = sl.starts b y in
    d (sl.own a b x y (omega arith))

module _ (g : Graph) (valid : Valid g) (w : List ℕ) (r : ℕ) (s : NestState) (cs : List MaybeClaimedRegion) (shown : ShowsState g w s)
    (x : ShowsCases g w r cs) where
  -- A bundle of case j is none of slot q's, where q is neither the parent nor the case's origin.
  pub case_apart : (q : ℕ) → HasSlot (length g.regions) q → HasSlot (length g.regions) r → (q ≡ r → ⊥) → (j : ℕ) → j < length cs
      → (case_kind w j ≡ case_claimed → q ≡ case_origin w j → ⊥)
      → (i p : ℕ) → i < slot_size → p < case_set_length w j → word w set_starts q + i ≡ case_set_start w j + p → ⊥
  case_apart q a b d j h f i p y z e = go (x.each j h)
    where
      go : {c : MaybeClaimedRegion} → ShowsCase g w r j c → ⊥
      go (shows_ok {c} kind origin in_graph body lower nodes start size inputs) =
          let few = (x.sets j h).few in
          let n = valid.count in
          slots_apart shown.slots q c.origin a (omega arith) (λ u. f kind (u ∙ sym origin)) i p y (omega arith) (omega arith)
      go (shows_nothing kind none) = absurd (omega arith)
      go (shows_edge kind start one) =
          let u = shown.slots.starts q a in let v = shown.slots.below q a in omega arith
      go (shows_others kind start) =
          let few = (x.sets j h).few in
          slots_apart shown.slots q r a b d i p y (omega arith) (omega arith)

  module _ (all : (q : ℕ) → ChainsEnd s.region_input_rewrites q) where
    whole : CasesLookedUp g valid s w (rewrite_cases g w) r 0 cs
    unfolding rewrite_cases
    whole =
        let few = x.few in
        rw x.size
        (cases_turned g valid r cs s all w shown.tables shown.named shown.returned 0 (omega arith)
        (λ k h. rw (from_zero k) (x.each k h)) (λ k h. rw (from_zero k) (x.sets k h))
        (λ a b p q h d. rw (from_zero a, from_zero b) (x.apart a b p q h d)))

    bundles_outside : (q : ℕ) → ((j p : ℕ) → j < length cs → p < case_set_length w j → q ≡ case_set_start w j + p → ⊥)
        → SameBundle w (rewrite_cases g w) q
    bundles_outside q h = whole.outside q (λ j p. rw (from_zero j) (h j p))

    -- What is Ready stays, as no case's set is its own.
    region_after : NoneReady g w r cs → {q : ℕ} → q < length g.regions → {y : StructurizeRegionState} → ShowsRegion g w q y
        → ShowsRegion g (rewrite_cases g w) q y
    region_after none {q} h y = go y
      where
        made_stays : PreservesMade g w (rewrite_cases g w)
        made_stays = stays_preserves g whole.stays

        same : (k : Section) → (number k ≡ number sections.cases → ⊥) → (number k ≡ number sections.bundles → ⊥)
            → (number k ≡ number sections.head → ⊥)
            → word (rewrite_cases g w) k q ≡ word w k q
        same k a b c = ap (λ z. get_or z q 0) (whole.stays.others k a b c)

        kind : region_kind (rewrite_cases g w) q ≡ region_kind w q
        kind = same kinds (omega arith) (omega arith) (omega arith)

        go : {y : StructurizeRegionState} → ShowsRegion g w q y → ShowsRegion g (rewrite_cases g w) q y
        go (is_not_begun a) = is_not_begun (kind ∙ a)
        go (is_in_progress a) = is_in_progress (kind ∙ a)
        go (is_claimed a) = is_claimed (kind ∙ a)
        go (is_ready {b = back} {ks} {d = own} a b n d) =
            let few = d.few in
            let count = valid.count in
            is_ready {b = back} {ks = ks} {d = own} (kind ∙ a) (same backedges (omega arith) (omega arith) (omega arith) ∙ b)
            (rw (same children (omega arith) (omega arith) (omega arith)) (made_stays.nodes_stay n))
            (rw (same set_starts (omega arith) (omega arith) (omega arith), same set_lengths (omega arith) (omega arith) (omega arith))
            (set_stays made_stays (λ i z. bundles_outside (word w set_starts q + i) (λ j p u v e.
            case_apart q (omega arith) none.parent_slot (λ f. none.parent (ap (λ m. region_kind w m) (sym f) ∙ a)) j u
            (λ f m. none.origins j u f (ap (λ o. region_kind w o) (sym m) ∙ a)) i p (omega arith) v e)) d))

    pub rewrite_cases_shown : NoneReady g w r cs → CasesRewritten g w (rewrite_cases g w) r s cs
    unfolding case_total
    rewrite_cases_shown none =
        let w' = rewrite_cases g w in
        let st = whole.stays in
        let made_stays = stays_preserves g st in
        let same = length-map cs (λ c. (case_found s c).value) in
        let starts : (q : ℕ) → word w' set_starts q ≡ word w set_starts q =
        λ q. ap (λ z. get_or z q 0) (st.others set_starts (omega arith) (omega arith) (omega arith)) in
        record {
          cases_shown = record {
            size = rw (st.totals cases_at (omega arith)) (x.size ∙ sym same);
            few = rw same x.few;
            each = λ j h. rw (from_zero j) at (whole.each j (rw same at h));
            sets = λ j h. rw (from_zero j) at (whole.sets j (rw same at h));
            apart = λ i j p q a b. rw (
              st.case_fields i case_set_length_field (omega arith),
              st.case_fields j case_set_length_field (omega arith),
              st.case_fields i case_set_start_field (omega arith),
              st.case_fields j case_set_start_field (omega arith),
            ) (x.apart i j p q a (rw same at b));
            not_spare = λ j p q a. rw (
              st.case_fields j case_set_length_field (omega arith),
              st.case_fields j case_set_start_field
                  (omega arith),
              starts spare_slot,
            )
                (x.not_spare j p q (rw same at a));
          };
          state = record {
            stands = stands_on made_stays.front shown.stands;
            tables = whole.tables;
            named = names_stay st shown.named;
            size = shown.size;
            regions = λ q h. region_after none h (shown.regions q h);
            slots = slots_stay (λ a h. starts a) shown.slots;
            returned = returned_stays st shown.returned;
          };
          made_stays = made_stays;
          stays = st;
          outside = bundles_outside;
        }

    -- A region that is neither the parent nor a case's origin keeps all that it has.
    pub rewrite_keeps : HasSlot (length g.regions) r → (q : ℕ) → HasSlot (length g.regions) q → (q ≡ r → ⊥)
        → ((j : ℕ) → j < length cs → case_kind w j ≡ case_claimed → q ≡ case_origin w j → ⊥)
        → KeptRegion w (rewrite_cases g w) q
    rewrite_keeps below q h d f =
        let same : (k : Section) → (number k ≡ number sections.cases → ⊥) → (number k ≡ number sections.bundles → ⊥)
        → (number k ≡ number sections.head → ⊥) → (i : ℕ)
        → word (rewrite_cases g w) k i ≡ word w k i = λ k a b c i. ap (λ z. get_or z i 0) (whole.stays.others k a b c) in
        record {
          set_start = same set_starts (omega arith) (omega arith) (omega arith) q;
          set_length = same set_lengths (omega arith) (omega arith) (omega arith) q;
          handle = same children (omega arith) (omega arith) (omega arith) q;
          body = same bodies (omega arith) (omega arith) (omega arith) q;
          backedge = same backedges (omega arith) (omega arith) (omega arith) q;
          target_answers = λ j z. same levels (omega arith) (omega arith) (omega arith) (level_at q j);
          slot = λ i z. bundles_outside (word w set_starts q + i) (λ j p u v e. case_apart q h below d j u (f j u) i p z v e);
        }
