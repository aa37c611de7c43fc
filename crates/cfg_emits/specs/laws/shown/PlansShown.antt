-- What is planned of a select's cases, and the set that it is where nothing is to be made.
use Rattle.std.specs.Prelude.{◌≡◌, refl, Bool, true, false, ◌||◌, List, [], map, ℕ, zero, suc, ◌+◌, ◌≤◌, ◌<◌, length, get_or}
use Rattle.std.proofs.Common.{sym, subst, ◌∙◌, arith}
use Rattle.std.proofs.Math.Option.{Option, none, some}
use Rattle.std.proofs.lemmas.List.{length-map}
use Rattle.meaning.specs.Lists.{pick, any, is_some}
use Rattle.meaning.specs.Graph.{Graph, Value, undef}
use Rattle.meaning.specs.facts.Tests.{clash, or_left, or_right}
use Rattle.meaning.specs.facts.Elements.{getD_map_in, none_of}
use Rattle.nesting.specs.Nesting as nesting
use Rattle.nesting.specs.Nesting.{DeferredTarget, MaybeClaimedRegion, LazyConds, PlannedInput, shared, merged, PlannedBundle}
use Rattle.nesting.specs.Nesting.{DeferredTargetSummary, plan_input, plan_inputs, plan_bundle, all_true, conditions_of}
use Rattle.nesting.specs.Nesting.{shared_bundle, any_needs_select, unique_input, passed_inputs}
use Rattle.state_words.specs.Sections.{word, set_lengths}
use Rattle.state_shown.specs.Tables.{shows_true}
use Rattle.state_shown.specs.Sets.{Names, ShowsTarget, shows_region, shows_return, ShowsSet, ShowsBundle, no_bundle}
use Rattle.cfg_planning.specs.laws.shown.PlanningShown as planned
use Rattle.cfg_planning.specs.laws.shown.PlanningShown.{ShowsPlanned, shows_shared, shows_merged, always, to_be_made}
use Rattle.cfg_merging.specs.laws.shown.TargetsShown.{no_summary, ShowsRows}
use Rattle.cfg_emits.specs.laws.shown.EmitsShown.{PlannedInputOf, is_shared, is_merged, PlannedConditionOf, is_true, is_open}
use Rattle.cfg_emits.specs.laws.shown.EmitsShown.{PlannedOf}
use Rattle.cfg_emits.specs.laws.shown.EmitsShown.{no_planned_input}
use Rattle.cfg_emits.specs.laws.shown.SetsEmitted.{no_plan, ShowsPlan}
use Rattle.nesting.specs.steps.TargetsAndCases.{per_cases}
use Rattle.state_words.specs.Rows.{bundle_input, bundle_target, most_bundles, spare_slot, condition_true, slot_size}

-- ---- A planned bundle of these cases.
module _ (g : Graph) (cs : List MaybeClaimedRegion) where
  input_of : {x : DeferredTarget} {a k : ℕ} (u : Option Value)
      → planned.ShowsPlannedInput a (plan_input k (nesting.target_type g x k) (per_cases x cs) u)
      → PlannedInputOf g cs x a k (plan_input k (nesting.target_type g x k) (per_cases x cs) u)
  input_of (some v) (shows_shared names) = is_shared names
  input_of none (shows_merged e) = is_merged e refl refl

  -- The inputs from k on, m of them.
  inputs_of : (x : DeferredTarget) (f : ℕ → ℕ) (m k : ℕ) (i : ℕ) → i < length (plan_inputs g m k x cs (per_cases x cs))
      → planned.ShowsPlannedInput (f (k + i)) (get_or (plan_inputs g m k x cs (per_cases x cs)) i planned.no_input)
      → PlannedInputOf g cs x (f (k + i)) (k + i) (get_or (plan_inputs g m k x cs (per_cases x cs)) i no_planned_input)
  inputs_of x f zero k i h y = absurd (omega arith)
  inputs_of x f (suc m) k zero h y =
      let z : k + 0 ≡ k = omega arith in
      subst (λ j. PlannedInputOf g cs x (f j) j (plan_input k (nesting.target_type g x k) (per_cases x cs)
      (unique_input (passed_inputs k cs (per_cases x cs))))) (sym z)
      (input_of (unique_input (passed_inputs k cs (per_cases x cs))) (rw z at y))
  inputs_of x f (suc m) k (suc i) h y =
      let z : k + suc i ≡ suc k + i = omega arith in
      rw z (inputs_of x f m (suc k) i (omega arith) (rw z at y))

  condition_of : (x : DeferredTarget) {a : ℕ} (b : Bool) → planned.ShowsPlannedCondition a
      (pick b none (some (conditions_of (per_cases x cs))))
      → PlannedConditionOf cs x a (pick b none (some (conditions_of (per_cases x cs))))
  condition_of x true (always e) = is_true e
  condition_of x false (to_be_made e) = is_open e refl

  planned_of : (t : DeferredTargetSummary) {w : List ℕ} {q : ℕ} → ShowsPlanned g w q (plan_bundle g cs t)
      → PlannedOf g cs w q (plan_bundle g cs t)
  planned_of t {w} {q} y =
      record {
        target = y.target;
        count = y.count;
        condition = condition_of t.target (all_true (per_cases t.target cs)) y.condition;
        size = y.size;
        few = y.few;
        inputs = λ k h.
            let z : 0 + k ≡ k = omega arith in
            let f : ℕ → ℕ = λ i. bundle_input w q i in
            rw z at (inputs_of t.target f t.input_count 0 k h (subst (λ i. planned.ShowsPlannedInput (f i)
            (get_or (plan_bundle g cs t).inputs k planned.no_input)) (sym z) (y.inputs k h)));
      }

-- Two words that show one target are the same.
target_word : {g : Graph} {a b : ℕ} {x : DeferredTarget} → ShowsTarget g a x → ShowsTarget g b x → a ≡ b
target_word (shows_region e h) (shows_region f i) = e ∙ sym f
target_word (shows_return e) (shows_return f) = e ∙ sym f

-- ---- All of them, from the rows of the deferred targets.
pub plan_shown : {g : Graph} (cs : List MaybeClaimedRegion) {w w' : List ℕ} {base : ℕ} → ShowsRows g w base (nesting.deferred_targets cs [])
    → word w' set_lengths spare_slot ≡ length (nesting.plan_bundles g cs)
    → ((i : ℕ) → i < length (nesting.plan_bundles g cs) → ShowsPlanned g w' (base + i)
    (get_or (nesting.plan_bundles g cs) i planned.no_planned))
    → ShowsPlan g cs w' base (nesting.plan_bundles g cs)
plan_shown {g} cs {w} {w'} {base} rows size each =
    let ts = nesting.deferred_targets cs [] in
    let same = length-map ts (plan_bundle g cs) in
    let most = rows.few in
    let is_plan : (i : ℕ) (d : PlannedBundle) → i < length ts
    → get_or (map (plan_bundle g cs) ts) i d ≡ plan_bundle g cs (get_or ts i no_summary) =
    λ i d h. getD_map_in (plan_bundle g cs) ts i no_summary d h in
    let own : (i : ℕ) → i < length ts → ShowsPlanned g w' (base + i) (plan_bundle g cs (get_or ts i no_summary)) =
    λ i h. rw (is_plan i planned.no_planned h) at (each i (omega arith)) in
    let target : (i : ℕ) → i < length ts → bundle_target w' (base + i) ≡ bundle_target w (base + i) =
    λ i h. target_word (own i h).target (rows.each i h).target in
    record {
      size = size;
      few = omega arith;
      rows = λ i h. rw (is_plan i no_plan (omega arith)) (planned_of g cs (get_or ts i no_summary) (own i (omega arith)));
      apart = λ i j a b e. rows.apart i j a (omega arith) (sym (target i (omega arith)) ∙ e ∙ target j (omega arith));
    }

-- ---- Where nothing is to be made, the rows are the set.
abbrev to_make : PlannedInput → Bool
to_make i = elim i [ shared v ↦ false | merged ty vs ↦ true ]

abbrev its_value : PlannedInput → Value
its_value i = elim i [ shared v ↦ v | merged ty vs ↦ undef 0 ]

value_of : {g : Graph} {cs : List MaybeClaimedRegion} {x : DeferredTarget} {a k : ℕ} {i : PlannedInput} → PlannedInputOf g cs x a k i
    → to_make i ≡ false → Names a (its_value i)
value_of (is_shared names) e = names
value_of (is_merged z u v) e = absurd (clash (cc))

true_of : {cs : List MaybeClaimedRegion} {x : DeferredTarget} {a : ℕ} {o : Option LazyConds} → PlannedConditionOf cs x a o
    → is_some o ≡ false
    → a ≡ condition_true
true_of (is_true z) e = z
true_of (is_open z u) e = absurd (clash (cc))

shared_shown : {g : Graph} {cs : List MaybeClaimedRegion} {w : List ℕ} {q : ℕ} {p : PlannedBundle} → PlannedOf g cs w q p
    → (any to_make p.inputs || is_some p.condition) ≡ false → ShowsBundle g w q (shared_bundle p)
shared_shown {p} y e =
    let same = length-map p.inputs its_value in
    let most = y.few in
    let long = y.size in
    record {
      target = y.target;
      count = y.count;
      condition = record {
        tree = shows_true (true_of y.condition (or_right (any to_make p.inputs) (is_some p.condition) e));
        made = let z = true_of y.condition (or_right (any to_make p.inputs) (is_some p.condition) e) in omega arith;
      };
      size = same ∙ long;
      few = omega arith;
      inputs = λ k h.
          let below : k < length p.inputs = omega arith in
          rw (getD_map_in its_value p.inputs k no_planned_input (undef 0) below)
          (value_of (y.inputs k below)
          (none_of to_make p.inputs (or_left (any to_make p.inputs) (is_some p.condition) e) k no_planned_input below));
    }

pub shared_set : {g : Graph} {cs : List MaybeClaimedRegion} {w : List ℕ} {base : ℕ} {ps : List PlannedBundle}
    → base + slot_size ≤ most_bundles
    → ShowsPlan g cs w base ps → any_needs_select ps ≡ false → ShowsSet g w base (length ps) (map shared_bundle ps)
shared_set {ps} room plan e =
    let same = length-map ps shared_bundle in
    let most = plan.few in
    record {
      size = sym same;
      few = plan.few;
      room = omega arith;
      each = λ i h. rw (getD_map_in shared_bundle ps i no_plan no_bundle h)
          (shared_shown (plan.rows i h) (none_of (λ p. any to_make p.inputs || is_some p.condition) ps e i no_plan h));
      apart = λ i j a b z. plan.apart i j a b z;
    }
