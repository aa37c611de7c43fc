-- What a select makes of what was planned, for every state that the words show: the same outputs, conditions and set, or the same refusal.
use Rattle.std.specs.Prelude.{◌≡◌, refl, ℕ, zero, suc, ◌+◌, ◌≤◌, ◌<◌, length, get_or}
use Rattle.std.proofs.Common.{sym, ap, ◌∙◌, arith, lt-ltb}
use mathlib.Core.List.{List, [], ◌∷◌, map}
use Rattle.std.proofs.Math.Option.{Option, none, some}
use Rattle.meaning.specs.Graph.{Value, Graph, undef, output}
use Rattle.nesting.specs.Nesting as nesting
use Rattle.nesting.specs.Nesting.{DeferredTarget}
use Rattle.nesting.specs.Nesting.{LazyConds, MaybeClaimedRegion, PlannedInput, shared, merged, PlannedBundle, DefinedSelect}
use Rattle.nesting.specs.Nesting.{conditions_of, NestState, StepAnswer, follow, give, emit_inputs, define_output}
use Rattle.nesting.specs.Nesting.{most_outputs}
use Rattle.std.specs.Prelude.{Ok}
use Rattle.state_words.specs.Totals.{Made}
use Rattle.state_words.specs.Sections.{word, stored, bundles}
use Rattle.state_sets.specs.SetTables.{input_word, input_stored}
use Rattle.state_nodes.specs.NodeTables.{OutputDefined, output_defined}
use Rattle.state_words.specs.Values.{output_word}
use Rattle.state_shown.specs.Values.{value}
use Rattle.state_shown.specs.laws.ValueWords.{value_output}
use Rattle.state_shown.specs.Tables.{ShowsTables}
use Rattle.state_shown.specs.laws.DefinedShown.{done_of, full_of}
use Rattle.state_shown.specs.laws.Elsewhere.{tables_stay, word_elsewhere}
use Rattle.state_shown.specs.laws.Steps.{output_made, output_changes}
use Rattle.state_shown.specs.Sets.{Names, ShowsTarget, target_size}
use Rattle.state_shown.specs.laws.Stores.{word_there, word_apart}
use Rattle.cfg_bundles.specs.laws.shown.Targets.{target_type_shown}
use Rattle.cfg_select_nodes.specs.Turns.{Turns, turns_over, turn_on, turn_refused}
use Rattle.cfg_select_nodes.specs.laws.shown.Places.{From, first_of, rest_of}
use Rattle.cfg_emits.specs.Emits.{EmitInput, input_there, input_made, no_input}
use Rattle.cfg_select_nodes.specs.laws.shown.RegionsShown.{ShowsMade, shows_made, shows_refused, made_of, refused_of}
use Rattle.cfg_emits.specs.laws.shown.SmallTypes.{SmallTypes}
use Rattle.cfg_emits.specs.laws.shown.PerCase.{ShowsPlaces, places_stay, values_shown}
use Rattle.cfg_emits.specs.laws.shown.Emitting.{Emitting, emitting_none, emitting_then, emitting_output, emitting_word, emitting_step}
use Rattle.cfg_emits.specs.laws.shown.Emitting.{Spared}
use Rattle.cfg_emits.specs.laws.shown.Emitting.{spared_stays}
use Rattle.nesting.specs.steps.TargetsAndCases.{per_cases}
use Rattle.state_words.specs.Rows.{bundle_condition, bundle_count, bundle_input, bundle_input_at, bundle_target, bundle_word, slot_size}
use Rattle.state_words.specs.Rows.{bundle_word_at, bundle_row_size, bundle_input_field, condition_true}
use Rattle.state_words.specs.Rows.{most_bundles}
use Rattle.cfg_planning.specs.Planning.{to_merge, to_define}

-- ---- What is planned of these cases, as its row shows it.
pub data PlannedInputOf (g : Graph) (cs : List MaybeClaimedRegion) (x : DeferredTarget) (w : ℕ) (k : ℕ) : PlannedInput → Type 0 where
  is_shared : {v : Value} → Names w v → PlannedInputOf g cs x w k (shared v)
  is_merged : {ty : ℕ} {vs : List Value} → w ≡ to_merge → ty ≡ nesting.target_type g x k
      → vs ≡ map (nesting.value_in_case k ty) (per_cases x cs)
      → PlannedInputOf g cs x w k (merged ty vs)

pub data PlannedConditionOf (cs : List MaybeClaimedRegion) (x : DeferredTarget) (w : ℕ) : Option LazyConds → Type 0 where
  is_true : w ≡ condition_true → PlannedConditionOf cs x w none
  is_open : {ts : LazyConds} → w ≡ to_define → ts ≡ conditions_of (per_cases x cs) → PlannedConditionOf cs x w (some ts)

abbrev pub no_planned_input : PlannedInput
no_planned_input = shared (undef 0)

pub record PlannedOf (g : Graph) (cs : List MaybeClaimedRegion) (w : List ℕ) (q : ℕ) (p : PlannedBundle) : Type 0 where
  pub target : ShowsTarget g (bundle_target w q) p.target
  pub count : bundle_count w q ≡ p.total_edge_count
  pub condition : PlannedConditionOf cs p.target (bundle_condition w q) p.condition
  pub size : length p.inputs ≡ target_size g p.target
  pub few : length p.inputs ≤ 4
  pub inputs : (k : ℕ) → k < length p.inputs
      → PlannedInputOf g cs p.target (bundle_input w q k) k (get_or p.inputs k no_planned_input)

-- ---- The inputs of one bundle.
-- One input; the definition has the two kinds in its fold.
abbrev emit_one : DefinedSelect → PlannedInput → nesting.Step Value
emit_one n (shared v) = give v
emit_one n (merged ty vs) = define_output n.node ty vs

record InputDone (g : Graph) (q k : ℕ) (w w' : List ℕ) (v : Value) (s : NestState) : Type 0 where
  emitting : Emitting g q (q + 1) w w'
  tables : ShowsTables w' s
  others : (i : ℕ) → i < bundle_row_size → (i ≡ bundle_input_field k → ⊥) → bundle_word w' q i ≡ bundle_word w q i
  named : Names (bundle_input w' q k) v

-- Those from place k on.
pub record InputsDone (g : Graph) (q k : ℕ) (w w' : List ℕ) (many : ℕ) (vs : List Value) (s : NestState) : Type 0 where
  pub emitting : Emitting g q (q + 1) w w'
  pub tables : ShowsTables w' s
  pub before : (i : ℕ) → i < 3 + k → bundle_word w' q i ≡ bundle_word w q i
  pub size : length vs ≡ many
  pub named : (i : ℕ) → i < many → Names (bundle_input w' q (k + i)) (get_or vs i (undef 0))

abbrev pub PlannedAt : Graph → List MaybeClaimedRegion → DeferredTarget → ℕ → List ℕ → ℕ → PlannedInput → Type 0
PlannedAt g cs x q w k i = PlannedInputOf g cs x (bundle_input w q k) k i

output_names : (o : ℕ) → o < most_outputs → Names (output_word o) (output o)
unfolding output_word
output_names o h = record { is = value_output o h; below = rw (lt-ltb o most_outputs h) (omega arith) }

output_below : {n ty : ℕ} {vs l l' : List ℕ} {o : ℕ} → OutputDefined n ty vs l l' (Ok o) → o < most_outputs
output_below (output_defined p h e) = h

-- The definition's fold, an input in front.
emit_more : (n : DefinedSelect) (i : PlannedInput) (is : List PlannedInput) (s : NestState)
    → emit_inputs n (i ∷ is) s ≡ follow (emit_one n i s) (λ v s₁. follow (emit_inputs n is s₁) (λ ws. give (v ∷ ws)))
unfolding emit_inputs
emit_more n (shared v) is s = refl
emit_more n (merged ty vs) is s = refl

with_input : {g : Graph} {q k many : ℕ} {w w₁ w' : List ℕ} {v : Value} {s₁ : NestState} → InputDone g q k w w₁ v s₁ → k + many < 4
    → {a : Made} {b : StepAnswer (List Value)} → ShowsMade (InputsDone g q (suc k) w₁ w' many) a b
    → ShowsMade (InputsDone g q k w w' (suc many)) a (follow b (λ ws. give (v ∷ ws)))
with_input {k} {many} {w'} {v} first h (shows_made {a = vs} rest) =
    shows_made {a = v ∷ vs} (record {
      emitting = emitting_then first.emitting rest.emitting;
      tables = rest.tables;
      before = λ i b. rest.before i (omega arith) ∙ first.others i (omega arith) (omega arith);
      size = ap suc rest.size;
      named = elim [
        | zero ↦ (λ b. let z : k + 0 ≡ k = omega arith in rw (z, rest.before (3 + k) (omega arith)) first.named)
        | suc j ↦ (λ b. let z : k + suc j ≡ suc k + j = omega arith in rw z (rest.named j (omega arith)))
      ];
    })
with_input first h shows_refused = shows_refused

module _ {g : Graph} {r base : ℕ} {cs : List MaybeClaimedRegion} (few : length g.regions ≤ 32) (small : SmallTypes g)
    (n : DefinedSelect) (q : ℕ) (from : base ≤ q) (to : q < base + slot_size) (room : q < most_bundles)
    {t : ℕ} {x : DeferredTarget} (target : ShowsTarget g t x) (most : target_size g x ≤ 4) (places : List ℕ) where
  module _ {w : List ℕ} (here : Spared g r base cs w) (at : ShowsPlaces w x cs places) {s : NestState} (tables : ShowsTables w s) (k : ℕ)
      (below : k < target_size g x) where
    input_is : input_word w q k ≡ bundle_input w q k
    unfolding input_word
    input_is = rw (lt-ltb k 4 (omega arith))

    stored_is : (l : List ℕ) (v : ℕ) → input_stored l q k v ≡ stored l bundles (bundle_input_at q k) v
    unfolding input_stored
    stored_is l v = rw (lt-ltb k 4 (omega arith))

    input_shown : {i : PlannedInput} {w' : List ℕ} {a : Made} → PlannedAt g cs x q w k i → EmitInput g n.node q t places k w w' a
        → ShowsMade (InputDone g q k w w') a (emit_one n i s)
    input_shown (is_shared {v} names) (input_there d e) =
        rw e (shows_made {a = v} {s = s}
        (record { emitting = emitting_none g q (q + 1) w; tables = tables; others = λ i h z. refl; named = names }))
    input_shown (is_merged z u v) (input_there d e) = absurd (d (input_is ∙ z))
    input_shown (is_shared names) (input_made e vs o p) =
        let y : bundle_input w q k ≡ to_merge = sym input_is ∙ e in
        let b = names.below in
        absurd (omega arith)
    input_shown (is_shared names) (no_input e vs o) =
        let y : bundle_input w q k ≡ to_merge = sym input_is ∙ e in
        let b = names.below in
        absurd (omega arith)
    input_shown (is_merged z u v) (input_made {l₁} {o} e vs out p) =
        let ty = target_type_shown w few here.returned target k below in
        let values = rw ty at vs in
        let made = rw ty at out in
        let y = done_of (output_made tables values.size (values_shown here.shown at k (nesting.target_type g x k) below
        (small.below x k) values) made) refl in
        let changes = output_changes made in
        let same : (i : ℕ) → word l₁ bundles i ≡ word w bundles i =
        λ i. ap (λ l. get_or l i 0) (changes.others bundles (omega arith) (omega arith)) in
        let size = y.tables.size in
        rw (v, u, y.is, p, stored_is l₁ (output_word o))
        (shows_made {a = y.value} {s = y.state} (record {
          emitting = emitting_then (emitting_output changes g q (q + 1)) (emitting_word g l₁ q (3 + k) (output_word o) (omega arith));
          tables = tables_stay (word_elsewhere l₁ bundles (omega arith) (bundle_input_at q k) (output_word o)) y.tables;
          others = λ i h d. word_apart l₁ bundles (bundle_input_at q k) (output_word o) bundles (bundle_word_at q i) (omega arith)
              ∙ same (bundle_word_at q i);
          named = rw (word_there l₁ bundles (bundle_input_at q k) (output_word o) (omega arith) (omega arith), y.shows)
              (output_names o (output_below out));
        }))
    input_shown (is_merged z u v) (no_input e vs out) =
        let ty = target_type_shown w few here.returned target k below in
        let values = rw ty at vs in
        let made = rw ty at out in
        rw (
          v,
          u,
          full_of (output_made tables values.size (values_shown here.shown at k (nesting.target_type g x k) below
              (small.below x k) values) made) refl,
        ) shows_refused

  pub inputs_shown : (is : List PlannedInput) (k : ℕ) {w w' : List ℕ} {s : NestState} {a : Made} {m : ℕ} → m ≡ length is
      → k + length is ≡ target_size g x → Spared g r base cs w → ShowsPlaces w x cs places → ShowsTables w s
      → From no_planned_input (PlannedAt g cs x q w) k is → Turns (EmitInput g n.node q t places) m k w w' a
      → ShowsMade (InputsDone g q k w w' (length is)) a (emit_inputs n is s)
  unfolding emit_inputs
  inputs_shown [] k {w} {s} e b here at tables f (turns_over z p) =
      rw p (shows_made {a = []} {s = s} (record {
        emitting = emitting_none g q (q + 1) w;
        tables = tables;
        before = λ i h. refl;
        size = refl;
        named = λ i h. absurd (omega arith);
      }))
  inputs_shown [] k e b here at tables f (turn_on z y v) = absurd (omega arith)
  inputs_shown [] k e b here at tables f (turn_refused z y) = absurd (omega arith)
  inputs_shown (i ∷ is) k e b here at tables f (turns_over z p) = absurd (omega arith)
  inputs_shown (i ∷ is) k {w} {s} e b here at tables f (turn_on {l₁} z y more) =
      let first = made_of (input_shown here at tables k (omega arith) (first_of no_planned_input (PlannedAt g cs x q w) k i is f) y) in
      let done₁ = first.shows in
      let step = emitting_step here done₁.emitting from (omega arith) in
      let rest = rest_of no_planned_input (PlannedAt g cs x q w) k i is f in
      rw (emit_more n i is s, first.is)
      (with_input done₁ (omega arith) (inputs_shown is (suc k) (omega arith) (omega arith)
      (spared_stays here done₁.emitting from (omega arith)) (places_stay step at) done₁.tables
      (λ j h. rw (done₁.others (3 + (suc k + j)) (omega arith) (omega arith)) (rest j h)) more))
  inputs_shown (i ∷ is) k {w} {s} e b here at tables f (turn_refused z y) =
      rw (
        emit_more n i is s,
        refused_of (input_shown here at tables k (omega arith)
            (first_of no_planned_input (PlannedAt g cs x q w) k i is f) y),
      ) shows_refused
