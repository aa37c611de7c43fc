-- What each case passes to a target, and under which condition: the words show what the definition has for every cases that they show.
use Rattle.std.specs.Prelude.{◌≡◌, Bool, ◌&&◌, get_or, set, replicate}
use Rattle.std.proofs.Math.Path.{refl, sym, ap}
use Rattle.std.proofs.Common.{◌∙◌}
use Rattle.std.proofs.Math.Bool.{true, false}
use mathlib.Core.List.{List, [], ◌∷◌}
use Rattle.std.proofs.Math.Option.{Option, none, some}
use Prim.Native.Nat.{ℕ, zero, suc, ◌+◌, ◌≤◌, ◌<◌}
use native.Mathlib.Omega.{arith}
use Rattle.std.proofs.Math.Decide.{ℕ_discrete}
use Rattle.std.proofs.Math.ListN.{length, length-set, length-replicate}
use Rattle.std.proofs.Math.Seq.{get_or-set_same, get_or-set_other}
use Rattle.std.proofs.Math.Dec.{eqb}
use borrow.Author.Tests.{lt-ltb, le-ltb, eq-eqb, ne_eqb}
use Rattle.meaning.specs.Lists.{pick, all}
use Rattle.meaning.specs.facts.Tests.{clash, eqb_sym, pick_and}
use Rattle.meaning.specs.Graph.{Value, Graph, undef, same_value}
use Rattle.format.specs.Valid.{Valid}
use Rattle.nesting.specs.Nesting as nesting
use Rattle.nesting.specs.Nesting.{LazyCond, undef_cond, false_cond, true_cond, merge, DeferredTarget, DeferredEdgeBundle}
use Rattle.nesting.specs.Nesting.{DeferredEdgeBundleSet, get_edge_bundle_by_target, MaybeClaimedRegion, ok, deferred_of}
use Rattle.nesting.specs.Nesting.{passed_inputs}
use Rattle.state_words.specs.Sections.{word, set_starts, cases}
use Rattle.state_words.specs.Values.{is_input, input_region, input_index}
use Rattle.state_sets.specs.SetTables.{input_word}
use Rattle.state_regions.specs.RegionTables.{case_total}
use Rattle.state_shown.specs.Values.{value}
use Rattle.state_shown.specs.laws.ValueWords.{Ranged, in_const, in_false, in_true, in_undef, in_output, in_input, in_held, in_instr}
use Rattle.state_shown.specs.laws.ValueWords.{in_none}
use Rattle.state_shown.specs.laws.ValueWords.{ranged, equal_values}
use Rattle.state_shown.specs.Tables.{ShowsCond, shows_true, shows_false, shows_undef, shows_merge, ShowsCondition}
use Rattle.state_shown.specs.Sets.{Names, ShowsTarget, target_size, ShowsBundle, ShowsSet, no_bundle}
use Rattle.state_shown.specs.laws.RegionsKept.{bundle_stays}
use Rattle.state_shown.specs.States.{ShowsCase, shows_ok, shows_nothing, shows_edge, shows_others, ShowsCases, no_case}
use Rattle.cfg_lookups.specs.laws.shown.Shown.{input_in, input_below, input_above}
use Rattle.cfg_merging.specs.Turns.{turned}
use Rattle.cfg_bundles.specs.EdgesAndCases.{condition_in}
use Rattle.cfg_planning.specs.Planning.{place_of, per_case_deferred, per_case_condition, in_parent, passed_by, with_passed, to_merge}
use Rattle.cfg_planning.specs.Planning.{unique_from}
use Rattle.cfg_planning.specs.Planning.{unique_input, is_true, all_from, all_true}
use Rattle.cfg_merging.specs.laws.shown.Spare.{SpareOnly, spare_there, spare_preserves, spare_outside, case_stays}
use Rattle.state_shown.specs.laws.Finds.{Finds, found as there_is, none_found, finds}
use Rattle.nesting.specs.steps.TargetsAndCases.{same_target_is, per_cases}
use Rattle.state_words.specs.Values.{held_from, input_from, names_nothing, output_from}
use Rattle.state_words.specs.Rows.{bundle_condition, case_body, case_claimed, case_input, case_input_at, case_kind, case_set_length}
use Rattle.state_words.specs.Rows.{case_set_length_at, case_set_start, case_word_at, no_bundle_word, spare_slot, slot_size}

-- A word for a value that can be passed, 65535 where none can.
pub data ShowsPassed (a : ℕ) : Option Value → Type 0 where
  passes : {v : Value} → Names a v → ShowsPassed a (some v)
  passes_none : a ≡ no_bundle_word → ShowsPassed a none

-- ---- A case's value in the select's parent.
module _ (g : Graph) (l : List ℕ) (r j : ℕ) where
  other_kind : (case_kind l j ≡ case_claimed → ⊥) → {x : ℕ} {v : Value} → Names x v → ShowsPassed (in_parent l j x) (some v)
  unfolding in_parent
  other_kind d n = rw (ne_eqb (case_kind l j) case_claimed d) (passes n)

  module _ (c : nesting.ClaimedRegion) (kind : case_kind l j ≡ case_claimed) (body : case_body l j ≡ c.structured_body)
      (inputs : (k : ℕ) → k < 4 → Names (case_input l j k) (get_or c.structured_body_inputs k (undef 0))) (x : ℕ) where
    stays_const : x < output_from → {v : Value} → Names x v → ShowsPassed (in_parent l j x) (some v)
    unfolding in_parent
    stays_const h n = rw (eq-eqb (case_kind l j) case_claimed kind, lt-ltb x output_from h) (passes n)

    passes_no : output_from ≤ x → is_input x ≡ false → ShowsPassed (in_parent l j x) none
    unfolding in_parent
    passes_no h e = rw (eq-eqb (case_kind l j) case_claimed kind, le-ltb x output_from h, e) (passes_none refl)

    passes_input : input_from ≤ x → x < held_from
        → ShowsPassed (in_parent l j x)
        (pick (eqb (input_region x) c.structured_body) (some (get_or c.structured_body_inputs (input_index x) (undef 0))) none)
    unfolding in_parent
    passes_input a b =
        let h : output_from ≤ x = omega arith in
        rw (eq-eqb (case_kind l j) case_claimed kind, le-ltb x output_from h, input_in x a b, body)
        (go (eqb (input_region x) c.structured_body))
      where
        go : (b : Bool) → ShowsPassed (pick b (case_input l j (input_index x)) to_merge)
            (pick b (some (get_or c.structured_body_inputs (input_index x) (undef 0))) none)
        go true = passes (inputs (input_index x) (omega arith))
        go false = passes_none refl

    by_range : {v : Value} → x < names_nothing → Ranged x v → value x ≡ v → ShowsPassed (in_parent l j x) (nesting.in_parent (ok c) v)
    by_range b (in_const a e) h = rw e (stays_const (omega arith) (record { is = h ∙ e; below = b }))
    by_range b (in_false a e) h = rw e (stays_const (omega arith) (record { is = h ∙ e; below = b }))
    by_range b (in_true a e) h = rw e (stays_const (omega arith) (record { is = h ∙ e; below = b }))
    by_range b (in_undef a d e) h = rw e (stays_const (omega arith) (record { is = h ∙ e; below = b }))
    by_range b (in_output a d e) h = rw e (passes_no a (input_below x d))
    by_range b (in_input a d e) h = rw e (passes_input a d)
    by_range b (in_held a d e) h = rw e (passes_no (omega arith) (input_above x a))
    by_range b (in_instr a d e) h = rw e (passes_no (omega arith) (input_above x (omega arith)))
    by_range b (in_none a e) h = absurd (omega arith)

  pub in_parent_shown : {c : MaybeClaimedRegion} → ShowsCase g l r j c → {x : ℕ} {v : Value} → Names x v
      → ShowsPassed (in_parent l j x) (nesting.in_parent c v)
  in_parent_shown (shows_nothing kind ends) n = other_kind (omega arith) n
  in_parent_shown (shows_edge kind start one) n = other_kind (omega arith) n
  in_parent_shown (shows_others kind start) n = other_kind (omega arith) n
  in_parent_shown (shows_ok {c} kind origin in_graph body lower nodes start size inputs) {x} n =
      rw (← n.is) (by_range c kind body inputs x n.below (ranged x) refl)

-- ---- The bundle of a set to a target.
-- Its place p, outside of the spare slot, which starts at bundle o.
pub data ShowsPlace (g : Graph) (o : ℕ) (l : List ℕ) (p : ℕ) (x : DeferredTarget) (d : DeferredEdgeBundleSet) : Type 0 where
  stands_at : {e : DeferredEdgeBundle} → (p ≡ no_bundle_word → ⊥) → ((q : ℕ) → q < slot_size → p ≡ o + q → ⊥) → ShowsBundle g l p e
      → e.target ≡ x
      → get_edge_bundle_by_target x d ≡ some e → ShowsPlace g o l p x d
  stands_nowhere : p ≡ no_bundle_word → get_edge_bundle_by_target x d ≡ none → ShowsPlace g o l p x d

place_stays : {g : Graph} {o : ℕ} {l l' : List ℕ} → SpareOnly o l l' → {p : ℕ} {x : DeferredTarget} {d : DeferredEdgeBundleSet}
    → ShowsPlace g o l p x d → ShowsPlace g o l' p x d
place_stays {g} sp {p} (stands_at {e} there apart shown is get) =
    stands_at {e = e} there apart (bundle_stays (spare_preserves sp g) (spare_outside sp p apart) shown) is get
place_stays sp (stands_nowhere gone get) = stands_nowhere gone get

module _ (g : Graph) (valid : Valid g) (o : ℕ) (l : List ℕ) (t : ℕ) {x : DeferredTarget} (shown : ShowsTarget g t x) where
  place_shown : (j : ℕ) {d : DeferredEdgeBundleSet} → ShowsSet g l (case_set_start l j) (case_set_length l j) d
      → ((i q : ℕ) → i < case_set_length l j → q < slot_size → case_set_start l j + i ≡ o + q → ⊥)
      → ShowsPlace g o l (place_of l t j) x d
  place_shown j {d} y apart = let few = valid.count.1 in
      go (finds l (omega arith) (case_set_start l j) shown y)
    where
      go : Finds (case_set_start l j) x d (place_of l t j) → ShowsPlace g o l (place_of l t j) x d
      go (there_is i e h gets is before) =
          let size = y.size in
          let room = y.room in
          stands_at {e = get_or d i no_bundle} (omega arith) (λ q b. rw e (apart i q (omega arith) b)) (rw e (y.each i (omega arith)))
          (sym (same_target_is x (get_or d i no_bundle).target is)) gets
      go (none_found e gets) = stands_nowhere e gets

-- ---- Under which condition a case goes there.
pub condition_shown : (g : Graph) (o : ℕ) (l : List ℕ) (j p : ℕ) {x : DeferredTarget} (d : DeferredEdgeBundleSet)
    → case_set_length l j ≡ length d → ShowsPlace g o l p x d
    → ShowsCondition l (per_case_condition l j p) (nesting.per_case_deferred x d).condition
unfolding per_case_condition condition_in
condition_shown g o l j p [] size y =
    rw (eq-eqb (case_set_length l j) 0 size) (record { tree = shows_undef refl; made = omega arith })
condition_shown g o l j p (e ∷ d) size (stands_nowhere gone get) =
    rw (ne_eqb (case_set_length l j) 0 (omega arith), eq-eqb p no_bundle_word gone, get)
    (record { tree = shows_false refl; made = omega arith })
condition_shown g o l j p (e ∷ d) size (stands_at {e = f} there apart shown is get) =
    rw (ne_eqb (case_set_length l j) 0 (omega arith), ne_eqb p no_bundle_word there, get, size) (go (eqb (length (e ∷ d)) 1))
  where
    go : (b : Bool) → ShowsCondition l (pick b 1 (bundle_condition l p)) (pick b true_cond f.condition)
    go true = record { tree = shows_true refl; made = omega arith }
    go false = shown.condition

-- What the case passes, where it goes there.
pub inputs_there : (x : DeferredTarget) (d : DeferredEdgeBundleSet) {e : DeferredEdgeBundle} → get_edge_bundle_by_target x d ≡ some e
    → (nesting.per_case_deferred x d).inputs ≡ some e.target_inputs
inputs_there x [] get = absurd (clash (cc))
inputs_there x (f ∷ d) get = rw get

pub inputs_nowhere : (x : DeferredTarget) (d : DeferredEdgeBundleSet) → get_edge_bundle_by_target x d ≡ none
    → (nesting.per_case_deferred x d).inputs ≡ none
inputs_nowhere x [] get = refl
inputs_nowhere x (f ∷ d) get = rw get

abbrev true_enough : LazyCond → Bool
true_enough t = elim t [ true_cond ↦ true | undef_cond ↦ true | false_cond ↦ false | merge n k v cs ↦ false ]

is_true_shown : (l : List ℕ) (c : ℕ) {t : LazyCond} → ShowsCond l c t → is_true c ≡ true_enough t
unfolding is_true
is_true_shown l c (shows_true e) = rw e
is_true_shown l c (shows_undef e) = rw e
is_true_shown l c (shows_false e) = rw e
is_true_shown l c (shows_merge a b n k v ps) = rw (ne_eqb c 1 (omega arith), ne_eqb c 3 (omega arith))

-- ---- Over all cases, from case j on. `ps` are the places of their bundles.
module _ (g : Graph) (o : ℕ) (l : List ℕ) (r : ℕ) (x : DeferredTarget) (ps : List ℕ) where
  pub record CaseAt (j : ℕ) (c : MaybeClaimedRegion) : Type 0 where
    pub shown : ShowsCase g l r j c
    pub size : case_set_length l j ≡ length (deferred_of c)
    pub place : ShowsPlace g o l (get_or ps j 0) x (deferred_of c)

  pub all_shown : (cs : List MaybeClaimedRegion) (j : ℕ) → ((k : ℕ) → k < length cs → CaseAt (j + k) (get_or cs k no_case))
      → all_from l ps (length cs) j ≡ nesting.all_true (per_cases x cs)
  unfolding all_from
  all_shown [] j each = refl
  all_shown (c ∷ cs) j each =
      let here : j + 0 ≡ j = omega arith in
      let first : CaseAt j c = rw here at (each 0 (omega arith)) in
      let shown = condition_shown g o l j (get_or ps j 0) (deferred_of c) first.size first.place in
      let ih = all_shown cs (suc j) (λ k h. let e : suc j + k ≡ j + suc k = omega arith in rw e (each (suc k) (omega arith))) in
      rw (is_true_shown l (per_case_condition l j (get_or ps j 0)) shown.tree, ih)
      (pick_and (true_enough (nesting.per_case_deferred x (deferred_of c)).condition) (nesting.all_true (per_cases x cs)))

  -- The value that all pass, if there is one.
  module _ (k : ℕ) (below : k < 4) (within : k < target_size g x) where
    abbrev same_as : Value → Option Value → Bool
    same_as v o = elim o [ none ↦ false | some u ↦ same_value u v ]

    -- What case j passes, if it goes there.
    passed_shown : (j : ℕ) (c : MaybeClaimedRegion) {e : DeferredEdgeBundle} → CaseAt j c → ShowsBundle g l (get_or ps j 0) e → e.target ≡ x
        → ShowsPassed (passed_by l k (get_or ps j 0) j) (nesting.in_parent c (get_or e.target_inputs k (undef 0)))
    unfolding input_word
    passed_shown j c {e} at y is =
        let size : length e.target_inputs ≡ target_size g x = y.size ∙ ap (λ z. target_size g z) is in
        rw (lt-ltb k 4 below) (in_parent_shown g l r j at.shown (y.inputs k (omega arith)))

    abbrev passed : List MaybeClaimedRegion → List (Option Value)
    passed cs = passed_inputs k cs (per_cases x cs)

    -- A step past a case that does not go there, and past one that does.
    step_nowhere : (c : MaybeClaimedRegion) (cs : List MaybeClaimedRegion) (j found : ℕ) → get_or ps j 0 ≡ no_bundle_word
        → unique_from l ps k (length (c ∷ cs)) j found ≡ unique_from l ps k (length cs) (suc j) found
    unfolding unique_from
    step_nowhere c cs j found e = rw (eq-eqb (get_or ps j 0) no_bundle_word e)

    step_there : (c : MaybeClaimedRegion) (cs : List MaybeClaimedRegion) (j found : ℕ) → (get_or ps j 0 ≡ no_bundle_word → ⊥) → (a : ℕ)
        → with_passed found (passed_by l k (get_or ps j 0) j) ≡ a
        → unique_from l ps k (length (c ∷ cs)) j found ≡ pick (eqb a to_merge) to_merge (unique_from l ps k (length cs) (suc j) a)
    unfolding unique_from
    step_there c cs j found d a e = rw (ne_eqb (get_or ps j 0) no_bundle_word d, e)

    abbrev with_inputs : MaybeClaimedRegion → Option (List Value) → List (Option Value) → List (Option Value)
    with_inputs c o rest = elim o [ none ↦ rest | some vs ↦ nesting.in_parent c (get_or vs k (undef 0)) ∷ rest ]

    passed_nowhere : (c : MaybeClaimedRegion) (cs : List MaybeClaimedRegion) → get_edge_bundle_by_target x (deferred_of c) ≡ none
        → passed (c ∷ cs) ≡ passed cs
    passed_nowhere c cs get = ap (λ o. with_inputs c o (passed cs)) (inputs_nowhere x (deferred_of c) get)

    passed_there : (c : MaybeClaimedRegion) (cs : List MaybeClaimedRegion) {e : DeferredEdgeBundle}
        → get_edge_bundle_by_target x (deferred_of c) ≡ some e
        → passed (c ∷ cs) ≡ nesting.in_parent c (get_or e.target_inputs k (undef 0)) ∷ passed cs
    passed_there c cs get = ap (λ o. with_inputs c o (passed cs)) (inputs_there x (deferred_of c) get)

    -- One more beside a value that was found, and the first.
    more_passed : (f a : ℕ) {v : Value} {o : Option Value} → Names f v → ShowsPassed a o
        → (with_passed f a ≡ pick (same_as v o) f to_merge) × (same_as v o ≡ eqb f a)
    unfolding with_passed
    more_passed f a n (passes_none e) =
        let b = n.below in
        (rw (ne_eqb f to_merge (omega arith), ne_eqb f a (omega arith)), sym (ne_eqb f a (omega arith)))
    more_passed f a {v} n (passes {v = u} m) =
        let b = n.below in
        let same : same_value u v ≡ eqb f a = rw (← m.is, ← n.is) (equal_values a f b ∙ eqb_sym a f) in
        (rw (ne_eqb f to_merge (omega arith), same) (go (ℕ_discrete f a)), same)
      where
        go : Dec (f ≡ a) → pick (eqb f a) a to_merge ≡ pick (eqb f a) f to_merge
        go (yes e) = rw (eq-eqb f a e) (sym e)
        go (no d) = rw (ne_eqb f a d)

    first_passed : (a : ℕ) → with_passed to_merge a ≡ a
    unfolding with_passed
    first_passed a = refl

    found_shown : (cs : List MaybeClaimedRegion) (j : ℕ) → ((i : ℕ) → i < length cs → CaseAt (j + i) (get_or cs i no_case))
        → (f : ℕ) {v : Value} → Names f v
        → ShowsPassed (unique_from l ps k (length cs) j f) (pick (all (same_as v) (passed cs)) (some v) none)
    unfolding unique_from
    found_shown [] j each f n = passes n
    found_shown (c ∷ cs) j each f {v} n =
        let here : j + 0 ≡ j = omega arith in
        let first : CaseAt j c = rw here at (each 0 (omega arith)) in
        go first first.place
        (found_shown cs (suc j) (λ i h. let e : suc j + i ≡ j + suc i = omega arith in rw e (each (suc i) (omega arith))) f n)
      where
        go : CaseAt j c → ShowsPlace g o l (get_or ps j 0) x (deferred_of c)
            → ShowsPassed (unique_from l ps k (length cs) (suc j) f) (pick (all (same_as v) (passed cs)) (some v) none)
            → ShowsPassed (unique_from l ps k (length (c ∷ cs)) j f) (pick (all (same_as v) (passed (c ∷ cs))) (some v) none)
        go at (stands_nowhere gone get) rest = rw (passed_nowhere c cs get, step_nowhere c cs j f gone) rest
        go at (stands_at {e} there apart y is get) rest =
            let m = more_passed f (passed_by l k (get_or ps j 0) j) n (passed_shown j c at y is) in
            let b = same_as v (nesting.in_parent c (get_or e.target_inputs k (undef 0))) in
            rw (passed_there c cs get, step_there c cs j f there (pick b f to_merge) m.0) (by b)
          where
            by : (b : Bool) → ShowsPassed (pick (eqb (pick b f to_merge) to_merge) to_merge
                (unique_from l ps k (length cs) (suc j) (pick b f to_merge)))
                (pick (b && all (same_as v) (passed cs)) (some v) none)
            by true = let h = n.below in rw (ne_eqb f to_merge (omega arith)) rest
            by false = passes_none refl

    pub unique_from_shown : (cs : List MaybeClaimedRegion) (j : ℕ) → ((i : ℕ) → i < length cs → CaseAt (j + i) (get_or cs i no_case))
        → ShowsPassed (unique_from l ps k (length cs) j to_merge) (nesting.unique_input (passed cs))
    unfolding unique_from
    unique_from_shown [] j each = passes_none refl
    unique_from_shown (c ∷ cs) j each =
        let here : j + 0 ≡ j = omega arith in
        let first : CaseAt j c = rw here at (each 0 (omega arith)) in
        let rest : (i : ℕ) → i < length cs → CaseAt (suc j + i) (get_or cs i no_case) =
        λ i h. (let e : suc j + i ≡ j + suc i = omega arith in rw e (each (suc i) (omega arith))) in
        go first first.place (unique_from_shown cs (suc j) rest) (λ f v n. found_shown cs (suc j) rest f n)
      where
        go : CaseAt j c → ShowsPlace g o l (get_or ps j 0) x (deferred_of c)
            → ShowsPassed (unique_from l ps k (length cs) (suc j) to_merge) (nesting.unique_input (passed cs))
            → ((f : ℕ) (v : Value) → Names f v
            → ShowsPassed (unique_from l ps k (length cs) (suc j) f) (pick (all (same_as v) (passed cs)) (some v) none))
            → ShowsPassed (unique_from l ps k (length (c ∷ cs)) j to_merge) (nesting.unique_input (passed (c ∷ cs)))
        go at (stands_nowhere gone get) rest more = rw (passed_nowhere c cs get, step_nowhere c cs j to_merge gone) rest
        go at (stands_at {e} there apart y is get) rest more =
            rw (
              passed_there c cs get,
              step_there c cs j to_merge there (passed_by l k (get_or ps j 0) j)
                  (first_passed (passed_by l k (get_or ps j 0) j)),
            ) (by (passed_shown j c at y is))
          where
            by : {o : Option Value} → ShowsPassed (passed_by l k (get_or ps j 0) j) o
                → ShowsPassed (pick (eqb (passed_by l k (get_or ps j 0) j) to_merge) to_merge
                (unique_from l ps k (length cs) (suc j) (passed_by l k (get_or ps j 0) j))) (nesting.unique_input (o ∷ passed cs))
            by (passes_none e) = rw e (passes_none refl)
            by (passes {v} m) =
                let h = m.below in
                rw (ne_eqb (passed_by l k (get_or ps j 0) j) to_merge (omega arith)) (more (passed_by l k (get_or ps j 0) j) v m)

pub case_at_stays : {g : Graph} {o : ℕ} {l l' : List ℕ} → SpareOnly o l l' → {r : ℕ} {x : DeferredTarget} {ps : List ℕ} {j : ℕ}
    {c : MaybeClaimedRegion}
    → CaseAt g o l r x ps j c → CaseAt g o l' r x ps j c
case_at_stays {g} sp {r} {j} y =
    let same = spare_there sp cases (omega arith) (omega arith) in
    record {
      shown = case_stays (spare_preserves sp g) r j (spare_there sp set_starts (omega arith) (omega arith)) (λ i h. same (case_word_at j i))
          (λ k h. same (case_input_at j k)) y.shown;
      size = same (case_set_length_at j) ∙ y.size;
      place = place_stays sp y.place;
    }

-- ---- The places of a target's bundles in all cases.
module _ (l : List ℕ) (t : ℕ) where
  abbrev put_place : List ℕ → ℕ → List ℕ
  put_place ps i = set ps i (place_of l t i)

  places_before : (n i : ℕ) (ps : List ℕ) (j : ℕ) → j < i → get_or (turned put_place ps n i) j 0 ≡ get_or ps j 0
  unfolding turned
  places_before zero i ps j h = refl
  places_before (suc n) i ps j h =
      places_before n (suc i) (put_place ps i) j (omega arith) ∙ get_or-set_other ps i j (place_of l t i) 0 (omega arith)

  places_at : (n i : ℕ) (ps : List ℕ) → i + n ≤ length ps → (j : ℕ) → i ≤ j → j < i + n
      → get_or (turned put_place ps n i) j 0 ≡ place_of l t j
  unfolding turned
  places_at zero i ps room j a b = absurd (omega arith)
  places_at (suc n) i ps room j a b =
      let same = length-set ps i (place_of l t i) in
      elim (ℕ_discrete j i) [
        | yes e ↦ rw e (places_before n (suc i) (put_place ps i) i (omega arith) ∙ get_or-set_same ps i (place_of l t i) 0 (omega arith))
        | no d ↦ places_at n (suc i) (put_place ps i) (omega arith) j (omega arith) (omega arith)
      ]

  pub place_is : (j : ℕ) → case_total l ≤ 8 → j < case_total l → get_or (per_case_deferred l t) j 0 ≡ place_of l t j
  unfolding per_case_deferred
  place_is j few h =
      let size = length-replicate {A = ℕ} 8 0 in
      places_at (case_total l) 0 (replicate 8 0) (omega arith) j (omega arith) (omega arith)

pub cases_at : (g : Graph) → Valid g → (l : List ℕ) (r : ℕ) {cs : List MaybeClaimedRegion} → ShowsCases g l r cs → (t : ℕ)
    {x : DeferredTarget}
    → ShowsTarget g t x → (j : ℕ) → j < length cs
    → CaseAt g (word l set_starts spare_slot) l r x (per_case_deferred l t) j (get_or cs j no_case)
cases_at g valid l r y t shown j h =
    let few = y.few in
    let size = y.size in
    record {
      shown = y.each j h;
      size = (y.sets j h).size;
      place = rw (place_is l t j (omega arith) (omega arith))
          (place_shown g valid (word l set_starts spare_slot) l t shown j (y.sets j h) (λ i q a b. y.not_spare j i q h a b));
    }
