-- For every cases and rows that the words show: after `plan_bundles` each row shows the definition's planned bundle at its place, and the
-- answer is whether the select is needed for them.
use Rattle.std.specs.Prelude.{◌≡◌, refl, Bool, false, ◌||◌, length, get_or, eqb}
use Rattle.std.proofs.Common.{sym, ap, ◌∙◌, lt-ltb, eq-eqb, ne_eqb}
use Rattle.std.proofs.Math.Path.{subst}
use Rattle.std.proofs.Math.Bool.{true, or-false}
use mathlib.Core.List.{List, [], ◌∷◌, map}
use Rattle.std.proofs.Math.Option.{Option, none, some}
use Prim.Native.Nat.{ℕ, zero, suc, ◌+◌, ◌≤◌, ◌<◌}
use native.Mathlib.Omega.{arith}
use Rattle.std.proofs.Math.Decide.{dec_lt}
use Rattle.std.proofs.lemmas.List.{length-map}
use Rattle.meaning.specs.Lists.{pick, any, is_some}
use Rattle.meaning.specs.Graph.{Value, Graph}
use Rattle.meaning.specs.facts.Elements.{at_cons}
use Rattle.format.specs.Valid.{Valid}
use Rattle.nesting.specs.Nesting as nesting
use Rattle.nesting.specs.Nesting.{LazyConds, DeferredTarget, to_return, NestState, MaybeClaimedRegion, DeferredTargetSummary, PlannedInput}
use Rattle.nesting.specs.Nesting.{shared, merged, PlannedBundle, passed_inputs, target_type}
use Rattle.state_words.specs.Sections.{used, section, word, stored, set_starts, set_lengths, bundles}
use Rattle.state_words.specs.laws.Apart.{section_other}
use Rattle.state_sets.specs.SetTables.{input_stored}
use Rattle.state_regions.specs.RegionTables.{case_total}
use Rattle.state_shown.specs.Sets.{Names, ShowsTarget, target_size, SameBundle}
use Rattle.state_shown.specs.States.{ShowsReturned, ShowsState, ShowsCases, no_case}
use Rattle.state_shown.specs.Kept.{PreservesMade, KeptRegion}
use Rattle.state_shown.specs.laws.RegionsKept.{same_bundle, same_bundle_then}
use Rattle.state_shown.specs.laws.Stores.{word_there, word_apart}
use Rattle.cfg_merging.specs.Turns.{turned}
use Rattle.cfg_bundles.specs.EdgesAndCases.{input_count}
use Rattle.cfg_planning.specs.Planning.{Planned, planned, also, per_case_deferred, unique_input, all_true, plan_input, plan_inputs}
use Rattle.cfg_planning.specs.Planning.{plan_bundle, to_merge}
use Rattle.cfg_planning.specs.Planning.{plan_at, plan_bundles}
use Rattle.cfg_merging.specs.laws.shown.Spare.{SpareOnly, spare_same, spare_word, spare_then, spare_there, spare_total}
use Rattle.cfg_merging.specs.laws.shown.Spare.{spare_preserves, spare_keeps}
use Rattle.cfg_merging.specs.laws.shown.Spare.{spare_state, spare_cases}
use Rattle.state_shown.specs.laws.Finds.{bundle_in}
use Rattle.cfg_merging.specs.laws.shown.RewritingShown.{count_by}
use Rattle.cfg_merging.specs.laws.shown.TargetsShown.{no_summary, ShowsRow, ShowsRows}
use Rattle.cfg_planning.specs.laws.shown.PerCaseShown.{ShowsPassed, passes, passes_none, CaseAt, all_shown, unique_from_shown}
use Rattle.cfg_planning.specs.laws.shown.PerCaseShown.{case_at_stays, cases_at}
use Rattle.nesting.specs.steps.TargetsAndCases.{per_cases}
use Rattle.state_words.specs.Rows.{bundle_condition, bundle_condition_at, bundle_count, bundle_count_at, bundle_input, bundle_input_at}
use Rattle.state_words.specs.Rows.{bundle_row_at, bundle_row_size, bundle_target, bundle_target_at, bundle_word_at, no_bundle_word}
use Rattle.state_words.specs.Rows.{own_edges_from, spare_slot, condition_true, slot_size, bundle_condition_field, bundle_count_field}
use Rattle.state_words.specs.Rows.{bundle_target_field}

-- ---- A planned bundle in a row: an input that is to be merged is 65535, a condition that is to be made 0.
pub data ShowsPlannedInput (a : ℕ) : PlannedInput → Type 0 where
  shows_shared : {v : Value} → Names a v → ShowsPlannedInput a (shared v)
  shows_merged : {ty : ℕ} {vs : List Value} → a ≡ no_bundle_word → ShowsPlannedInput a (merged ty vs)

pub data ShowsPlannedCondition (a : ℕ) : Option LazyConds → Type 0 where
  always : a ≡ condition_true → ShowsPlannedCondition a none
  to_be_made : {cs : LazyConds} → a ≡ 0 → ShowsPlannedCondition a (some cs)

abbrev pub no_input : PlannedInput
no_input = merged 0 []

abbrev pub no_planned : PlannedBundle
no_planned = record { target = to_return; total_edge_count = 0; inputs = []; condition = none }

pub record ShowsPlanned (g : Graph) (l : List ℕ) (p : ℕ) (b : PlannedBundle) : Type 0 where
  pub target : ShowsTarget g (bundle_target l p) b.target
  pub count : bundle_count l p ≡ b.total_edge_count
  pub condition : ShowsPlannedCondition (bundle_condition l p) b.condition
  pub size : length b.inputs ≡ target_size g b.target
  pub few : length b.inputs ≤ 4
  pub inputs : (k : ℕ) → k < length b.inputs → ShowsPlannedInput (bundle_input l p k) (get_or b.inputs k no_input)

abbrev needs_output : PlannedInput → Bool
needs_output i = elim i [ shared v ↦ false | merged ty vs ↦ true ]

abbrev needs_select : PlannedBundle → Bool
needs_select b = any needs_output b.inputs || is_some b.condition

-- What is needed, after one more.
needed_cons : (x a b : Bool) → pick a true (pick x true b) ≡ pick (x || a) true b
needed_cons true true b = refl
needed_cons true false b = refl
needed_cons false a b = refl

module _ (k ty : ℕ) (ps : List nesting.PerCaseDeferred) where
  planned_shown : {a : ℕ} {u : Option Value} → ShowsPassed a u → ShowsPlannedInput a (nesting.plan_input k ty ps u)
  planned_shown (passes n) = shows_shared n
  planned_shown (passes_none e) = shows_merged e

  planned_needs : {a : ℕ} {u : Option Value} → ShowsPassed a u → eqb a to_merge ≡ needs_output (nesting.plan_input k ty ps u)
  planned_needs {a} (passes n) = let h = n.below in ne_eqb a to_merge (omega arith)
  planned_needs {a} (passes_none e) = eq-eqb a to_merge e

input_is : (q : ℕ) (places l : List ℕ) (k : ℕ) → k < 4
    → plan_input l q places k ≡ planned (stored l bundles (bundle_input_at q k) (unique_input l places k))
    (eqb (unique_input l places k) to_merge)
unfolding plan_input input_stored
input_is q places l k h = rw (lt-ltb k 4 h)

-- ---- The inputs of the row at bundle q, from input k on.
module _ (g : Graph) (o : ℕ) (r : ℕ) (x : DeferredTarget) (cs : List MaybeClaimedRegion) (places : List ℕ) (q : ℕ) (from : o ≤ q)
    (to : q < o + slot_size) (below : o + slot_size ≤ own_edges_from) where
  record InputsPlanned (l : List ℕ) (b : Bool) (y : Planned) (k : ℕ) (is : List PlannedInput) : Type 0 where
    pub spare : SpareOnly o l y.words
    pub same_lengths : section y.words set_lengths ≡ section l set_lengths
    pub before : (z : ℕ) → z < bundle_input_at q k → word y.words bundles z ≡ word l bundles z
    pub behind : (z : ℕ) → bundle_row_at q + bundle_row_size ≤ z → word y.words bundles z ≡ word l bundles z
    pub each : (i : ℕ) → i < length is → ShowsPlannedInput (bundle_input y.words q (k + i)) (get_or is i no_input)
    pub needed : y.needed ≡ pick (any needs_output is) true b

  abbrev input_step : Planned → ℕ → Planned
  input_step = also (λ m k. plan_input m q places k)

  inputs_from : (n k : ℕ) → k + n ≤ 4 → k + n ≤ target_size g x → (l : List ℕ) → used ≤ length l → case_total l ≡ length cs
      → ((j : ℕ) → j < length cs → CaseAt g o l r x places j (get_or cs j no_case)) → (b : Bool)
      → InputsPlanned l b (turned input_step (planned l b) n k) k (nesting.plan_inputs g n k x cs (per_cases x cs))
  unfolding turned
  inputs_from zero k few within l full count at b =
      record {
        spare = spare_same o l;
        same_lengths = refl;
        before = λ z h. refl;
        behind = λ z h. refl;
        each = λ i h. absurd (omega arith);
        needed = refl;
      }
  inputs_from (suc n) k few within l full count at b =
      let v = unique_input l places k in
      let shown : ShowsPassed v (nesting.unique_input (passed_inputs k cs (per_cases x cs))) =
      rw count (unique_from_shown g o l r x places k (omega arith) (omega arith) cs 0
      (λ j h. let e : 0 + j ≡ j = omega arith in rw e (at j h))) in
      let l₁ = stored l bundles (bundle_input_at q k) v in
      let stored_is : plan_input l q places k ≡ planned l₁ (eqb v to_merge) = input_is q places l k (omega arith) in
      let sp = spare_word o l (bundle_input_at q k) v (omega arith) (omega arith) in
      let y = nesting.plan_input k (target_type g x k) (per_cases x cs) (nesting.unique_input (passed_inputs k cs (per_cases x cs))) in
      let b₁ = pick (eqb v to_merge) true b in
      let ih = inputs_from n (suc k) (omega arith) (omega arith) l₁ (rw sp.words full) (spare_total sp ∙ count)
      (λ j h. case_at_stays sp (at j h)) b₁ in
      let other = word_apart l bundles (bundle_input_at q k) v bundles in
      subst (λ z. InputsPlanned l b (turned input_step (planned z.words (pick z.needed true b)) n (suc k)) k
      (y ∷ nesting.plan_inputs g n (suc k) x cs (per_cases x cs))) (sym stored_is)
      (record {
        spare = spare_then sp ih.spare;
        same_lengths = ih.same_lengths ∙ section_other l bundles (bundle_input_at q k) v set_lengths (omega arith);
        before = λ z h. ih.before z (omega arith) ∙ other z (omega arith);
        behind = λ z h. ih.behind z (omega arith) ∙ other z (omega arith);
        each = at_cons (λ z i. ShowsPlannedInput (bundle_input (turned input_step (planned l₁ b₁) n (suc k)).words q z) i)
            no_input k (length (nesting.plan_inputs g n (suc k) x cs (per_cases x cs)))
            (nesting.plan_inputs g n (suc k) x cs (per_cases x cs))
            (rw (ih.before (bundle_input_at q k) (omega arith), word_there l bundles (bundle_input_at q k) v (omega arith) (omega arith))
            (planned_shown k (target_type g x k) (per_cases x cs) shown)) ih.each;
        needed = ih.needed
            ∙ rw (planned_needs k (target_type g x k) (per_cases x cs) shown)
            (needed_cons (needs_output y) (any needs_output (nesting.plan_inputs g n (suc k) x cs (per_cases x cs))) b);
      })

inputs_length : (g : Graph) (n k : ℕ) (x : DeferredTarget) (cs : List MaybeClaimedRegion) (ps : List nesting.PerCaseDeferred)
    → length (nesting.plan_inputs g n k x cs ps) ≡ n
inputs_length g zero k x cs ps = refl
inputs_length g (suc n) k x cs ps = ap suc (inputs_length g n (suc k) x cs ps)

none_before : (b : Bool) → pick b true false ≡ b
none_before true = refl
none_before false = refl

or_true : (b : Bool) → true ≡ (b || true)
or_true true = refl
or_true false = refl

-- ---- A row, before and after; where its bundle stays, it does.
row_stays : {g : Graph} {l l' : List ℕ} {p : ℕ} {t : DeferredTargetSummary} → SameBundle l l' p → ShowsRow g l p t → ShowsRow g l' p t
row_stays same row =
    record {
      target = rw (same.words bundle_target_field (omega arith)) row.target;
      count = same.words bundle_count_field (omega arith) ∙ row.count;
      condition = same.words bundle_condition_field (omega arith) ∙ row.condition;
      size = row.size;
      few = row.few;
    }

pub planned_stays : {g : Graph} {l l' : List ℕ} {p : ℕ} {b : PlannedBundle} → SameBundle l l' p → ShowsPlanned g l p b
    → ShowsPlanned g l' p b
planned_stays same x =
    let few = x.few in
    record {
      target = rw (same.words bundle_target_field (omega arith)) x.target;
      count = same.words bundle_count_field (omega arith) ∙ x.count;
      condition = rw (same.words bundle_condition_field (omega arith)) x.condition;
      size = x.size;
      few = x.few;
      inputs = λ k h. rw (same.words (3 + k) (omega arith)) (x.inputs k h);
    }

module _ (g : Graph) (valid : Valid g) (o : ℕ) (below : o + slot_size ≤ own_edges_from) (r : ℕ) (cs : List MaybeClaimedRegion) where
  record BundlePlanned (l : List ℕ) (y : Planned) (q : ℕ) (b : PlannedBundle) : Type 0 where
    pub spare : SpareOnly o l y.words
    pub same_lengths : section y.words set_lengths ≡ section l set_lengths
    pub shown : ShowsPlanned g y.words q b
    pub others : (p : ℕ) → (p ≡ q → ⊥) → SameBundle l y.words p
    pub needed : y.needed ≡ needs_select b

  module _ (l : List ℕ) (full : used ≤ length l) (at : word l set_starts spare_slot ≡ o) (y : ShowsCases g l r cs)
      (back : ShowsReturned g l)
      (q : ℕ) (from : o ≤ q) (to : q < o + slot_size) {t : DeferredTargetSummary} (row : ShowsRow g l q t) where
    abbrev x : DeferredTarget
    x = t.target

    abbrev places : List ℕ
    places = per_case_deferred l (bundle_target l q)

    abbrev is : List PlannedInput
    is = nesting.plan_inputs g t.input_count 0 x cs (per_cases x cs)

    cases_here : (j : ℕ) → j < length cs → CaseAt g o l r x places j (get_or cs j no_case)
    cases_here j h = subst (λ z. CaseAt g z l r x places j (get_or cs j no_case)) at
        (cases_at g valid l r y (bundle_target l q) row.target j h)

    abbrev inputs : Planned
    inputs = turned (input_step g o r x cs places q from to below) (planned l false) t.input_count 0

    as_inputs : plan_inputs g l q places ≡ inputs
    unfolding plan_inputs
    as_inputs = rw (count_by g valid l (bundle_target l q) back row.target, ← row.size)

    inputs_are : InputsPlanned g o r x cs places q from to below l false inputs 0 is
    inputs_are =
        let few = row.few in
        let size = row.size in
        inputs_from g o r x cs places q from to below t.input_count 0 (omega arith) (omega arith) l full y.size cases_here false

    all_are : all_true inputs.words places ≡ nesting.all_true (per_cases x cs)
    all_are =
        let sp = inputs_are.spare in
        rw (spare_total sp, y.size) (all_shown g o inputs.words r x places cs 0
        (λ j h. let e : 0 + j ≡ j = omega arith in rw e (case_at_stays sp (cases_here j h))))

    abbrev with_condition : Bool → PlannedBundle
    with_condition b =
        record {
          target = x;
          total_edge_count = t.total_edge_count;
          inputs = is;
          condition = pick b none (some (nesting.conditions_of (per_cases x cs)));
        }

    abbrev condition_put : Planned
    condition_put = planned (stored inputs.words bundles (bundle_condition_at q) 0) true

    planned_by : (b : Bool) → BundlePlanned l (pick b inputs condition_put) q (with_condition b)
    planned_by true =
        let p = inputs_are in
        let size = inputs_length g t.input_count 0 x cs (per_cases x cs) in
        let few = row.few in
        record {
          spare = p.spare;
          same_lengths = p.same_lengths;
          shown = record {
            target = rw (p.before (bundle_target_at q) (omega arith)) row.target;
            count = p.before (bundle_count_at q) (omega arith) ∙ row.count;
            condition = always (p.before (bundle_condition_at q) (omega arith) ∙ row.condition);
            size = size ∙ row.size;
            few = omega arith;
            inputs = λ k h. let e : 0 + k ≡ k = omega arith in rw e at (p.each k h);
          };
          others = λ z d. record {
            words = λ i h. elim (dec_lt z q) [
              | yes a ↦ p.before (bundle_word_at z i) (omega arith)
              | no a ↦ p.behind (bundle_word_at z i) (omega arith)
            ];
          };
          needed = p.needed ∙ none_before (any needs_output is) ∙ sym (or-false (any needs_output is));
        }
    planned_by false =
        let p = inputs_are in
        let size = inputs_length g t.input_count 0 x cs (per_cases x cs) in
        let few = row.few in
        let other = word_apart inputs.words bundles (bundle_condition_at q) 0 bundles in
        record {
          spare = spare_then p.spare (spare_word o inputs.words (bundle_condition_at q) 0 (omega arith) (omega arith));
          same_lengths = section_other inputs.words bundles (bundle_condition_at q) 0 set_lengths (omega arith) ∙ p.same_lengths;
          shown = record {
            target = rw (other (bundle_target_at q) (omega arith), p.before (bundle_target_at q) (omega arith)) row.target;
            count = other (bundle_count_at q) (omega arith) ∙ p.before (bundle_count_at q) (omega arith) ∙ row.count;
            condition = to_be_made
                (word_there inputs.words bundles (bundle_condition_at q) 0 (rw p.spare.words (omega arith)) (omega arith));
            size = size ∙ row.size;
            few = omega arith;
            inputs = λ k h. let e : 0 + k ≡ k = omega arith in rw (other (bundle_input_at q k) (omega arith)) (rw e at (p.each k h));
          };
          others = λ z d. record {
            words = λ i h. other (bundle_word_at z i) (omega arith) ∙ elim (dec_lt z q) [
              | yes a ↦ p.before (bundle_word_at z i) (omega arith)
              | no a ↦ p.behind (bundle_word_at z i) (omega arith)
            ];
          };
          needed = or_true (any needs_output is);
        }

    bundle_planned : BundlePlanned l (plan_bundle g l q) q (nesting.plan_bundle g cs t)
    unfolding plan_bundle
    bundle_planned = rw (as_inputs, all_are) (planned_by (nesting.all_true (per_cases x cs)))

  -- ---- All rows, from row i on.
  record RowsPlanned (l : List ℕ) (b : Bool) (y : Planned) (i : ℕ) (bs : List PlannedBundle) : Type 0 where
    pub spare : SpareOnly o l y.words
    pub same_lengths : section y.words set_lengths ≡ section l set_lengths
    pub each : (k : ℕ) → k < length bs → ShowsPlanned g y.words (o + (i + k)) (get_or bs k no_planned)
    pub before : (p : ℕ) → p < o + i → SameBundle l y.words p
    pub needed : y.needed ≡ pick (any needs_select bs) true b

  rows_from : (s : NestState) (ts : List DeferredTargetSummary) (i : ℕ) → i + length ts ≤ slot_size → (l : List ℕ)
      → word l set_starts spare_slot ≡ o
      → ShowsState g l s → ShowsCases g l r cs → ((k : ℕ) → k < length ts → ShowsRow g l (o + (i + k)) (get_or ts k no_summary)) → (b : Bool)
      → RowsPlanned l b (turned (plan_at o g) (planned l b) (length ts) i) i (map (nesting.plan_bundle g cs) ts)
  unfolding turned
  rows_from s [] i few l at shown y rows b =
      record {
        spare = spare_same o l;
        same_lengths = refl;
        each = λ k h. absurd (omega arith);
        before = λ p h. same_bundle l p;
        needed = refl;
      }
  rows_from s (t ∷ ts) i few l at shown y rows b =
      let here : i + 0 ≡ i = omega arith in
      let first : ShowsRow g l (o + i) t = rw here at (rows 0 (omega arith)) in
      let one = bundle_planned l shown.tables.size at y shown.returned (o + i) (omega arith) (omega arith) first in
      let x = plan_bundle g l (o + i) in
      let l₁ = x.words in
      let b₁ = pick x.needed true b in
      let sp = one.spare in
      let bs = map (nesting.plan_bundle g cs) ts in
      let ih = rows_from s ts (suc i) (omega arith) l₁ (spare_there sp set_starts (omega arith) (omega arith) 32 ∙ at)
      (spare_state sp g shown.slots at valid shown) (spare_cases sp g shown.slots at y)
      (λ k h. let e : suc i + k ≡ i + suc k = omega arith in
      rw e (row_stays (one.others (o + (i + suc k)) (omega arith)) (rows (suc k) (omega arith)))) b₁ in
      let y' = turned (plan_at o g) (planned l₁ b₁) (length ts) (suc i) in
      subst (λ p. RowsPlanned l b (turned (plan_at o g) (planned (plan_bundle g l p).words (pick (plan_bundle g l p).needed true b))
      (length ts)
      (suc i)) i (nesting.plan_bundle g cs t ∷ bs)) (sym (bundle_in o i (omega arith) (omega arith)))
      (record {
        spare = spare_then sp ih.spare;
        same_lengths = ih.same_lengths ∙ one.same_lengths;
        each = at_cons (λ z u. ShowsPlanned g y'.words (o + z) u) no_planned i (length bs) bs
            (planned_stays (ih.before (o + i) (omega arith)) one.shown) ih.each;
        before = λ p h. same_bundle_then (one.others p (omega arith)) (ih.before p (omega arith));
        needed = ih.needed ∙ rw one.needed (needed_cons (needs_select (nesting.plan_bundle g cs t)) (any needs_select bs) b);
      })

-- ---- The step whole.
pub record BundlesPlanned (g : Graph) (w : List ℕ) (y : Planned) (r : ℕ) (s : NestState) (cs : List MaybeClaimedRegion) : Type 0 where
  pub each : (i : ℕ) → i < length (nesting.plan_bundles g cs)
      → ShowsPlanned g y.words (word w set_starts spare_slot + i) (get_or (nesting.plan_bundles g cs) i no_planned)
  pub size : word y.words set_lengths spare_slot ≡ length (nesting.plan_bundles g cs)
  pub needed : y.needed ≡ nesting.any_needs_select (nesting.plan_bundles g cs)
  pub spare : SpareOnly (word w set_starts spare_slot) w y.words
  pub state : ShowsState g y.words s
  pub cases_shown : ShowsCases g y.words r cs
  pub made_stays : PreservesMade g w y.words
  pub kept : (q : ℕ) → q < length g.regions → KeptRegion w y.words q

pub plan_bundles_shown : (g : Graph) → Valid g → (w : List ℕ) (r : ℕ) (s : NestState) (cs : List MaybeClaimedRegion) → ShowsState g w s
    → ShowsCases g w r cs → ShowsRows g w (word w set_starts spare_slot) (nesting.deferred_targets cs [])
    → BundlesPlanned g w (plan_bundles g w) r s cs
unfolding plan_bundles
plan_bundles_shown g valid w r s cs shown x rows =
    let o = word w set_starts spare_slot in
    let ts = nesting.deferred_targets cs [] in
    let slots = shown.slots in
    let a = slots.starts spare_slot (omega arith) in
    let b = slots.below spare_slot (omega arith) in
    let few = rows.few in
    let from_zero : (k : ℕ) → 0 + k ≡ k = λ k. omega arith in
    let all = rows_from g valid o (omega arith) r cs s ts 0 (omega arith) w refl shown x (λ k h. rw (from_zero k) (rows.each k h)) false in
    let sp = all.spare in
    let same = length-map ts (nesting.plan_bundle g cs) in
    rw rows.size
    (record {
      each = λ i h. rw (from_zero i) at (all.each i h);
      size = ap (λ z. get_or z 32 0) all.same_lengths ∙ rows.size ∙ sym same;
      needed = all.needed ∙ none_before (any needs_select (nesting.plan_bundles g cs));
      spare = sp;
      state = spare_state sp g slots refl valid shown;
      cases_shown = spare_cases sp g slots refl x;
      made_stays = spare_preserves sp g;
      kept = spare_keeps sp g slots refl valid.count.1;
    })
