-- The set that a select defers, made of what was planned, for every state that the words show.
use Rattle.std.specs.Prelude.{◌≡◌, refl, ℕ, zero, suc, ◌+◌, ◌≤◌, ◌<◌, length, get_or}
use Rattle.std.proofs.Common.{sym, ap, ◌∙◌, arith}
use mathlib.Core.List.{List, [], ◌∷◌}
use Rattle.std.proofs.Math.Option.{Option, none}
use Rattle.std.proofs.lemmas.List.{length-map}
use Rattle.meaning.specs.Graph.{Graph, Value}
use Rattle.nesting.specs.Nesting as nesting
use Rattle.nesting.specs.Nesting.{DeferredTarget, to_return, DeferredEdgeBundle, DeferredEdgeBundleSet, edge_bundle, LazyCond, LazyConds}
use Rattle.nesting.specs.Nesting.{true_cond, merge, MaybeClaimedRegion, PlannedBundle, DefinedSelect, NestState, StepAnswer, done}
use Rattle.nesting.specs.Nesting.{turned_away}
use Rattle.nesting.specs.Nesting.{conditions_of, deferred_of, follow, give, emit_inputs, emit_condition, emit}
use Rattle.state_words.specs.Sections.{word, head, set_lengths, cells, bundles}
use Rattle.state_sets.specs.SetTables.{bundle_at}
use Rattle.state_shown.specs.Values.{value}
use Rattle.state_shown.specs.Tables.{ShowsTables, ShowsShape, ShowsCondition, shows_true, cond_count}
use Rattle.state_shown.specs.laws.DefinedShown.{done_of, full_of}
use Rattle.state_shown.specs.laws.Elsewhere.{tables_stay, word_elsewhere}
use Rattle.state_shown.specs.laws.Conditions.{merge_made, merge_changes, merge_preserves}
use Rattle.state_shown.specs.Sets.{ShowsBundle, ShowsSet, SameBundle, no_bundle}
use Rattle.state_shown.specs.laws.RegionsKept.{bundle_stays}
use Rattle.state_shown.specs.laws.Finds.{bundle_in}
use Rattle.state_shown.specs.laws.Stores.{word_there, word_apart}
use Rattle.cfg_emits.specs.laws.shown.SmallTypes.{SmallTypes}
use Rattle.state_words.specs.Totals.{Made}
use Rattle.cfg_select_nodes.specs.Turns.{Turns, turns_over, turn_on, turn_refused}
use Rattle.cfg_select_nodes.specs.laws.shown.Places.{From, first_of, rest_of, from_start}
use Rattle.cfg_emits.specs.Emits.{EmitCondition, condition_there, condition_made, no_condition, EmitBundle, inputs_refused}
use Rattle.cfg_emits.specs.Emits.{bundle_emitted}
use Rattle.cfg_emits.specs.Emits.{EmitAt, Emits, EmitInputs, places_of, target_at}
use Rattle.cfg_bundles.specs.EdgesAndCases.{input_count}
use Rattle.cfg_bundles.specs.laws.shown.Targets.{input_count_shown}
use Rattle.cfg_select_nodes.specs.laws.shown.RegionsShown.{ShowsMade, shows_made, shows_refused, made_of, refused_of}
use Rattle.cfg_emits.specs.laws.shown.PerCase.{ShowsPlaces, places_shown, places_stay, parts_shown, count_conditions}
use Rattle.cfg_emits.specs.laws.shown.Emitting.{Emitting, emitting_none, emitting_then, emitting_within, emitting_condition}
use Rattle.cfg_emits.specs.laws.shown.Emitting.{emitting_word}
use Rattle.cfg_emits.specs.laws.shown.Emitting.{emitting_step, Spared, spared_stays}
use Rattle.cfg_emits.specs.laws.shown.EmitsShown.{PlannedOf, PlannedConditionOf, is_true, is_open, no_planned_input, PlannedAt}
use Rattle.cfg_emits.specs.laws.shown.EmitsShown.{InputsDone}
use Rattle.cfg_emits.specs.laws.shown.EmitsShown.{inputs_shown}
use Rattle.nesting.specs.steps.TargetsAndCases.{per_cases}
use Rattle.state_words.specs.Rows.{bundle_condition, bundle_condition_at, bundle_target, bundle_word, bundle_word_at, cell_word_at}
use Rattle.state_words.specs.Rows.{cells_at, bundle_row_size, bundle_condition_field, slot_size, bundle_count_field, bundle_target_field}
use Rattle.state_words.specs.Rows.{most_bundles, select_node, select_scrutinee, select_shape, spare_slot}

-- The cell of a select with this many cases.
pub record ShowsSelectCell (h : ℕ) (n : DefinedSelect) (many : ℕ) (w : List ℕ) : Type 0 where
  pub node : select_node w h ≡ n.node
  pub shape : ShowsShape (select_shape w h) many n.kind
  pub scrutinee : value (select_scrutinee w h) ≡ n.scrutinee
  pub made : h < word w head cells_at

cell_stays : {g : Graph} {a b : ℕ} {w w' : List ℕ} → Emitting g a b w w' → {h : ℕ} {n : DefinedSelect} {many : ℕ}
    → ShowsSelectCell h n many w → ShowsSelectCell h n many w'
cell_stays x {h} y =
    let same = x.others cells (omega arith) (omega arith) (omega arith) (omega arith) in
    record {
      node = ap (λ l. get_or l (cell_word_at h 2) 0) same ∙ y.node;
      shape = rw same y.shape;
      scrutinee = ap (λ l. value (get_or l (cell_word_at h 4) 0)) same ∙ y.scrutinee;
      made = rw (x.totals cells_at (omega arith) (omega arith)) y.made;
    }

-- ---- A condition.
record ConditionDone (g : Graph) (q : ℕ) (w w' : List ℕ) (c : LazyCond) (s : NestState) : Type 0 where
  emitting : Emitting g q (q + 1) w w'
  tables : ShowsTables w' s
  others : (i : ℕ) → i < bundle_row_size → (i ≡ bundle_condition_field → ⊥) → bundle_word w' q i ≡ bundle_word w q i
  shown : ShowsCondition w' (bundle_condition w' q) c

module _ {g : Graph} {r base : ℕ} {cs : List MaybeClaimedRegion} (n : DefinedSelect) (h q : ℕ) (room : q < most_bundles)
    {x : DeferredTarget} (places : List ℕ) {w : List ℕ} (here : Spared g r base cs w) (at : ShowsPlaces w x cs places) {s : NestState}
    (tables : ShowsTables w s) (cell : ShowsSelectCell h n (length cs) w) where
  condition_shown : {o : Option LazyConds} {w' : List ℕ} {a : Made} → PlannedConditionOf cs x (bundle_condition w q) o
      → EmitCondition h q places w w' a → ShowsMade (ConditionDone g q w w') a (emit_condition n o s)
  condition_shown (is_true z) (condition_there d e) =
      rw e (shows_made {a = true_cond} {s = s} (record {
        emitting = emitting_none g q (q + 1) w;
        tables = tables;
        others = λ i b c. refl;
        shown = record { tree = shows_true z; made = omega arith };
      }))
  condition_shown (is_open z u) (condition_there d e) = absurd (d z)
  condition_shown (is_true z) (condition_made e ps m p) = absurd (omega arith)
  condition_shown (is_true z) (no_condition e ps m) = absurd (omega arith)
  condition_shown (is_open {ts} z u) (condition_made {l₁} {c} e ps m p) =
      let many : length cs ≡ cond_count (conditions_of (per_cases x cs)) =
      sym (count_conditions (per_cases x cs) ∙ length-map cs (λ c. nesting.per_case_deferred x (deferred_of c))) in
      let y = done_of (merge_made tables cell.made cell.node (rw many at cell.shape) cell.scrutinee ps.size
      (parts_shown here.shown at ps) m) refl in
      let changes = merge_changes m in
      let same : (i : ℕ) → word l₁ bundles i ≡ word w bundles i =
      λ i. ap (λ l. get_or l i 0) (changes.others bundles (omega arith) (omega arith)) in
      let last = emitting_word g l₁ q 2 c (omega arith) in
      let size = y.tables.size in
      rw (u, y.is, p)
      (shows_made {a = merge n.node n.kind n.scrutinee (conditions_of (per_cases x cs))} {s = y.state} (record {
        emitting = emitting_then (emitting_condition changes g q (q + 1) (merge_preserves tables m g)) last;
        tables = tables_stay (word_elsewhere l₁ bundles (omega arith) (bundle_condition_at q) c) y.tables;
        others = λ i b d. word_apart l₁ bundles (bundle_condition_at q) c bundles (bundle_word_at q i) (omega arith)
            ∙ same (bundle_word_at q i);
        shown = rw (word_there l₁ bundles (bundle_condition_at q) c (omega arith) (omega arith)) (last.made_stays.conditions_stay
            y.shows);
      }))
  condition_shown (is_open z u) (no_condition e ps m) =
      let many : length cs ≡ cond_count (conditions_of (per_cases x cs)) =
      sym (count_conditions (per_cases x cs) ∙ length-map cs (λ c. nesting.per_case_deferred x (deferred_of c))) in
      rw (
        u,
        full_of (merge_made tables cell.made cell.node (rw many at cell.shape) cell.scrutinee ps.size
            (parts_shown here.shown at ps) m) refl,
      )
      shows_refused

-- ---- A bundle.
abbrev emit_bundle : DefinedSelect → PlannedBundle → nesting.Step DeferredEdgeBundle
emit_bundle n p s =
    follow (emit_inputs n p.inputs s)
    (λ ins s₁. follow (emit_condition n p.condition s₁) (λ c. give (edge_bundle p.target p.total_edge_count ins c)))

pub record BundleDone (g : Graph) (q : ℕ) (w w' : List ℕ) (e : DeferredEdgeBundle) (s : NestState) : Type 0 where
  pub emitting : Emitting g q (q + 1) w w'
  pub tables : ShowsTables w' s
  pub same_target : bundle_target w' q ≡ bundle_target w q
  pub shown : ShowsBundle g w' q e

module _ {g : Graph} {r base : ℕ} {cs : List MaybeClaimedRegion} (few : length g.regions ≤ 32) (small : SmallTypes g)
    (n : DefinedSelect) (h q : ℕ) (from : base ≤ q) (to : q < base + slot_size) (room : q < most_bundles)
    {w : List ℕ} (here : Spared g r base cs w) {s : NestState} (tables : ShowsTables w s) (cell : ShowsSelectCell h n (length cs) w)
    {p : PlannedBundle} (planned : PlannedOf g cs w q p) where
  abbrev its_places : List ℕ
  its_places = places_of w q

  places_here : ShowsPlaces w p.target cs its_places
  places_here = places_shown here.shown few planned.target

  inputs_answer : {w₁ : List ℕ} {a : Made} → EmitInputs g (select_node w h) q its_places w w₁ a
      → ShowsMade (InputsDone g q 0 w w₁ (length p.inputs)) a (emit_inputs n p.inputs s)
  inputs_answer t =
      let size = planned.size in
      let most = planned.few in
      let many : input_count g w (target_at w q) ≡ length p.inputs = input_count_shown w few here.returned planned.target ∙ sym
      size in
      inputs_shown few small n q from to room planned.target (omega arith) its_places p.inputs 0 many (omega arith) here places_here
      tables
      (from_start no_planned_input (PlannedAt g cs p.target q w) p.inputs planned.inputs) (rw cell.node at t)

  finished : {w₁ w' : List ℕ} {vs : List Value} {c : LazyCond} {s₁ s₂ : NestState} → InputsDone g q 0 w w₁ (length p.inputs) vs s₁
      → ConditionDone g q w₁ w' c s₂ → BundleDone g q w w' (edge_bundle p.target p.total_edge_count vs c) s₂
  finished {w'} {vs} first second =
      let size = planned.size in
      let most = planned.few in
      let long = first.size in
      let field : (i : ℕ) → i < 2 → bundle_word w' q i ≡ bundle_word w q i =
      λ i b. second.others i (omega arith) (omega arith) ∙ first.before i (omega arith) in
      record {
        emitting = emitting_then first.emitting second.emitting;
        tables = second.tables;
        same_target = field bundle_target_field (omega arith);
        shown = record {
          target = rw (field bundle_target_field (omega arith)) planned.target;
          count = field bundle_count_field (omega arith) ∙ planned.count;
          condition = second.shown;
          size = long ∙ size;
          few = omega arith;
          inputs = λ k b. rw (second.others (3 + k) (omega arith) (omega arith))
              (let z : 0 + k ≡ k = omega arith in rw z at (first.named k (omega arith)));
        };
      }

  after_inputs : {w₁ w' : List ℕ} {vs : List Value} {s₁ : NestState} {a : Made} → InputsDone g q 0 w w₁ (length p.inputs) vs s₁
      → EmitCondition h q its_places w₁ w' a → ShowsMade (ConditionDone g q w₁ w') a (emit_condition n p.condition s₁)
  after_inputs first c =
      let x = first.emitting in
      let step = emitting_step here x from (omega arith) in
      condition_shown n h q room its_places (spared_stays here x from (omega arith)) (places_stay step places_here) first.tables
      (cell_stays x cell) {o = p.condition} (rw (first.before 2 (omega arith)) planned.condition) c

  with_condition : {w₁ w' : List ℕ} {vs : List Value} {s₁ : NestState} → InputsDone g q 0 w w₁ (length p.inputs) vs s₁
      → {a : Made} {b : StepAnswer LazyCond} → ShowsMade (ConditionDone g q w₁ w') a b
      → ShowsMade (BundleDone g q w w') a (follow b (λ c. give (edge_bundle p.target p.total_edge_count vs c)))
  with_condition first (shows_made c) = shows_made (finished first c)
  with_condition first shows_refused = shows_refused

  pub bundle_shown : {w' : List ℕ} {a : Made} → EmitBundle g h q w w' a → ShowsMade (BundleDone g q w w') a (emit_bundle n p s)
  bundle_shown (inputs_refused t) = rw (refused_of (inputs_answer t)) shows_refused
  bundle_shown (bundle_emitted t c) =
      let first = made_of (inputs_answer t) in
      rw first.is (with_condition first.shows (after_inputs first.shows c))

-- ---- All of them.
abbrev pub no_plan : PlannedBundle
no_plan = record { target = to_return; total_edge_count = 0; inputs = []; condition = none }

-- The definition's fold, a bundle in front.
emit_more : (n : DefinedSelect) (p : PlannedBundle) (ps : List PlannedBundle) (s : NestState)
    → emit n (p ∷ ps) s ≡ follow (emit_bundle n p s) (λ e s₁. follow (emit n ps s₁) (λ rest. give (e ∷ rest)))
unfolding emit
emit_more n p ps s = go (emit_inputs n p.inputs s)
  where
    end : List Value → StepAnswer LazyCond → StepAnswer DeferredEdgeBundle
    end ins y = follow y (λ c. give (edge_bundle p.target p.total_edge_count ins c))

    on : DeferredEdgeBundle → nesting.Step DeferredEdgeBundleSet
    on e s₁ = follow (emit n ps s₁) (λ rest. give (e ∷ rest))

    last : (ins : List Value) (y : StepAnswer LazyCond)
        → follow y (λ c. on (edge_bundle p.target p.total_edge_count ins c)) ≡ follow (end ins y) on
    last ins (done c s₂) = refl
    last ins (turned_away k u) = refl

    go : (y : StepAnswer (List Value))
        → follow y (λ ins s₁. follow (emit_condition n p.condition s₁) (λ c. on (edge_bundle p.target p.total_edge_count ins c)))
        ≡ follow (follow y (λ ins s₁. end ins (emit_condition n p.condition s₁))) on
    go (done ins s₁) = last ins (emit_condition n p.condition s₁)
    go (turned_away k u) = refl

pub planned_stays : {g : Graph} {cs : List MaybeClaimedRegion} {w w' : List ℕ} {q : ℕ} {p : PlannedBundle} → SameBundle w w' q
    → PlannedOf g cs w q p → PlannedOf g cs w' q p
planned_stays same x =
    let most = x.few in
    record {
      target = rw (same.words bundle_target_field (omega arith)) x.target;
      count = same.words bundle_count_field (omega arith) ∙ x.count;
      condition = rw (same.words bundle_condition_field (omega arith)) x.condition;
      size = x.size;
      few = x.few;
      inputs = λ k h. rw (same.words (3 + k) (omega arith)) (x.inputs k h);
    }

-- The rows from place i on.
pub record RowsDone (g : Graph) (base i : ℕ) (w w' : List ℕ) (many : ℕ) (d : DeferredEdgeBundleSet) (s : NestState) : Type 0 where
  pub emitting : Emitting g (base + i) (base + (i + many)) w w'
  pub tables : ShowsTables w' s
  pub same_targets : (j : ℕ) → j < many → bundle_target w' (base + (i + j)) ≡ bundle_target w (base + (i + j))
  pub size : length d ≡ many
  pub each : (j : ℕ) → j < many → ShowsBundle g w' (base + (i + j)) (get_or d j no_bundle)

with_bundle : {g : Graph} {base i many : ℕ} {w w₁ w' : List ℕ} {e : DeferredEdgeBundle} {s₁ : NestState} → BundleDone g (base + i) w w₁ e s₁
    → {a : Made} {b : StepAnswer DeferredEdgeBundleSet} → ShowsMade (RowsDone g base (suc i) w₁ w' many) a b
    → ShowsMade (RowsDone g base i w w' (suc many)) a (follow b (λ rest. give (e ∷ rest)))
with_bundle {base} {i} {many} {e} first (shows_made {a = d} rest) =
    let x = first.emitting in
    let y = rest.emitting in
    let z : i + 0 ≡ i = omega arith in
    let here = y.beside (base + i) (λ a b. omega arith) in
    shows_made {a = e ∷ d} (record {
      emitting = emitting_then (emitting_within x (omega arith) (omega arith)) (emitting_within y (omega arith) (omega arith));
      tables = rest.tables;
      same_targets = elim [
        | zero ↦ (λ b. rw z (here.words bundle_target_field (omega arith) ∙ first.same_target))
        | suc j ↦ (λ b. let u : i + suc j ≡ suc i + j = omega arith in
            rw u (rest.same_targets j (omega arith)
            ∙ (x.beside (base + (suc i + j)) (λ a c. omega arith)).words bundle_target_field (omega arith)))
      ];
      size = ap suc rest.size;
      each = elim [
        | zero ↦ (λ b. rw z (bundle_stays y.made_stays here first.shown))
        | suc j ↦ (λ b. let u : i + suc j ≡ suc i + j = omega arith in rw u (rest.each j (omega arith)))
      ];
    })
with_bundle first shows_refused = shows_refused

module _ {g : Graph} {r base : ℕ} {cs : List MaybeClaimedRegion} (few : length g.regions ≤ 32) (small : SmallTypes g)
    (n : DefinedSelect) (h : ℕ) (room : base + slot_size ≤ most_bundles) where
  rows_shown : (ps : List PlannedBundle) (i : ℕ) {w w' : List ℕ} {s : NestState} {a : Made} {m : ℕ} → m ≡ length ps
      → i + length ps ≤ slot_size → Spared g r base cs w → ShowsTables w s → ShowsSelectCell h n (length cs) w
      → From no_plan (λ j p. PlannedOf g cs w (base + j) p) i ps → Turns (EmitAt g h base) m i w w' a
      → ShowsMade (RowsDone g base i w w' (length ps)) a (emit n ps s)
  unfolding emit
  rows_shown [] i {w} {s} e b here tables cell f (turns_over z p) =
      rw p (shows_made {a = []} {s = s} (record {
        emitting = emitting_none g (base + i) (base + (i + 0)) w;
        tables = tables;
        same_targets = λ j k. refl;
        size = refl;
        each = λ j k. absurd (omega arith);
      }))
  rows_shown [] i e b here tables cell f (turn_on z y v) = absurd (omega arith)
  rows_shown [] i e b here tables cell f (turn_refused z y) = absurd (omega arith)
  rows_shown (p ∷ ps) i e b here tables cell f (turns_over z q) = absurd (omega arith)
  rows_shown (p ∷ ps) i {w} {s} e b here tables cell f (turn_on z y more) =
      let at : bundle_at base i ≡ base + i = bundle_in base i (omega arith) (omega arith) in
      let own = first_of no_plan (λ j p. PlannedOf g cs w (base + j) p) i p ps f in
      let rest = rest_of no_plan (λ j p. PlannedOf g cs w (base + j) p) i p ps f in
      let first = made_of (bundle_shown few small n h (base + i) (omega arith) (omega arith) (omega arith) here tables cell own
      (rw at at y)) in
      let done₁ = first.shows in
      let x = done₁.emitting in
      rw (emit_more n p ps s, first.is)
      (with_bundle done₁ (rows_shown ps (suc i) (omega arith) (omega arith) (spared_stays here x (omega arith) (omega arith))
      done₁.tables
      (cell_stays x cell) (λ j k. planned_stays (x.beside (base + (suc i + j)) (λ a c. omega arith)) (rest j k)) more))
  rows_shown (p ∷ ps) i {w} {s} e b here tables cell f (turn_refused z y) =
      let at : bundle_at base i ≡ base + i = bundle_in base i (omega arith) (omega arith) in
      let own = first_of no_plan (λ j p. PlannedOf g cs w (base + j) p) i p ps f in
      rw (
        emit_more n p ps s,
        refused_of (bundle_shown few small n h (base + i) (omega arith) (omega arith) (omega arith) here tables cell own
            (rw at at y)),
      )
      shows_refused

-- ---- The set of the spare slot.
-- What is planned, a row for each deferred target.
pub record ShowsPlan (g : Graph) (cs : List MaybeClaimedRegion) (w : List ℕ) (base : ℕ) (ps : List PlannedBundle) : Type 0 where
  pub size : word w set_lengths spare_slot ≡ length ps
  pub few : length ps ≤ slot_size
  pub rows : (i : ℕ) → i < length ps → PlannedOf g cs w (base + i) (get_or ps i no_plan)
  pub apart : (i j : ℕ) → i < j → j < length ps → bundle_target w (base + i) ≡ bundle_target w (base + j) → ⊥

pub record SetDone (g : Graph) (base : ℕ) (w w' : List ℕ) (many : ℕ) (d : DeferredEdgeBundleSet) (s : NestState) : Type 0 where
  pub emitting : Emitting g base (base + slot_size) w w'
  pub tables : ShowsTables w' s
  pub set : ShowsSet g w' base many d

module _ {g : Graph} {r : ℕ} {cs : List MaybeClaimedRegion} (few : length g.regions ≤ 32) (small : SmallTypes g) (n : DefinedSelect)
    (h : ℕ) {base : ℕ} {w : List ℕ} (here : Spared g r base cs w) {s : NestState} (tables : ShowsTables w s)
    (cell : ShowsSelectCell h n (length cs) w) {ps : List PlannedBundle} (plan : ShowsPlan g cs w base ps) where
  room : base + slot_size ≤ most_bundles
  room =
      let a = here.slots.starts spare_slot (omega arith) in
      let b = here.slots.below spare_slot (omega arith) in
      let c = here.spare in
      omega arith

  as_set : {w' : List ℕ} {a : Made} {b : StepAnswer DeferredEdgeBundleSet} → ShowsMade (RowsDone g base 0 w w' (length ps)) a b
      → ShowsMade (SetDone g base w w' (length ps)) a b
  as_set {w'} (shows_made x) =
      let most = plan.few in
      let end = room in
      let target : (i : ℕ) → i < length ps → bundle_target w' (base + i) ≡ bundle_target w (base + i) =
      λ i b. let z : 0 + i ≡ i = omega arith in rw z at (x.same_targets i b) in
      shows_made (record {
        emitting = emitting_within x.emitting (omega arith) (omega arith);
        tables = x.tables;
        set = record {
          size = sym x.size;
          few = most;
          room = omega arith;
          each = λ i b. let z : 0 + i ≡ i = omega arith in rw z at (x.each i b);
          apart = λ i j a b e. plan.apart i j a b (sym (target i (omega arith)) ∙ e ∙ target j b);
        };
      })
  as_set shows_refused = shows_refused

  pub emit_shown : {w' : List ℕ} {a : Made} → Emits g h w w' a → ShowsMade (SetDone g base w w' (length ps)) a (emit n ps s)
  emit_shown t =
      let most = plan.few in
      as_set (rows_shown few small n h room ps 0 plan.size (omega arith) here tables cell
      (from_start no_plan (λ j p. PlannedOf g cs w (base + j) p) ps plan.rows) (rw here.spare at t))
