-- A select with no convergent case set aside, for every state that the words show: the definition's children, set and state, or its
-- refusal.
use Rattle.std.specs.Prelude.{◌≡◌, refl, Bool, false, ◌||◌, List, [], ◌∷◌, map, ℕ, ◌+◌, ◌≤◌, ◌<◌, length, get_or}
use Rattle.std.proofs.Common.{sym, ap, ◌∙◌, arith}
use Rattle.std.proofs.lemmas.List.{length-map}
use Rattle.meaning.specs.Graph.{Graph, SelectionKind}
use Rattle.meaning.specs.Runs.{Nodes, ⟨⟩}
use Rattle.meaning.specs.facts.Tests.{clash, or_right}
use Rattle.format.specs.Valid.{Valid}
use Rattle.format.specs.Refusals.{too_many}
use Rattle.nesting.specs.Nesting as nesting
use Rattle.nesting.specs.Nesting.{MaybeClaimedRegion, ok, err, DeferredTarget, NestState, StepAnswer, done, turned_away, follow, give, Body}
use Rattle.nesting.specs.Nesting.{region_body, join, DefinedSelect, DeferredEdgeBundleSet, PlannedBundle, case_regions, define_select}
use Rattle.nesting.specs.Nesting.{select_if, emit, shared_bundle, any_needs_select, structurize_select}
use Rattle.nesting.specs.lookups.ChainEnds.{ChainsEnd}
use Rattle.nesting.specs.steps.Post.{Post}
use Rattle.nesting.proofs.steps.Keeps.{select_if_keeps}
use Rattle.nesting.specs.steps.StatesKept.{KeepsStates}
use Rattle.nesting.proofs.steps.StatesSteady.{states_kept_steady}
use Rattle.std.specs.Prelude.{Ok}
use Rattle.state_words.specs.Totals.{Defined, Made, Done, Full}
use Rattle.state_words.specs.Sections as sections
use Rattle.state_words.specs.Sections.{Section, number, section, word, head, kinds, set_starts, set_lengths, children, cases, rewrites}
use Rattle.state_words.specs.Sections.{bundles}
use Rattle.state_regions.specs.RegionTables.{case_total}
use Rattle.state_shown.specs.Tables.{ShowsTables, ShowsShape}
use Rattle.state_shown.specs.Sets.{ShowsSet, SameBundle}
use Rattle.state_shown.specs.Cells.{ShowsChildren}
use Rattle.state_shown.specs.States.{ShowsState, ShowsCases, NamedRewrites}
use Rattle.state_shown.specs.Kept.{PreservesMade, KeptRegion}
use Rattle.state_shown.specs.laws.RegionsKept.{preserves_then, kept_then, same_bundle_then, set_stays}
use Rattle.state_shown.specs.laws.CellSteps.{join_none}
use Rattle.state_shown.specs.laws.RegionSteps.{slots_stay, bundles_same, preserves_by, state_next, named_by}
use Rattle.cfg_planning.specs.Planning.{plan_bundles}
use Rattle.cfg_merging.specs.Rewriting.{rewrite_cases}
use Rattle.cfg_merging.specs.laws.shown.RewritingShown.{NoneReady, cases_after, state_after, rewrite_is, rewrite_cases_shown, rewrite_keeps}
use Rattle.cfg_merging.specs.laws.shown.Spare.{spare_there, spare_outside}
use Rattle.cfg_merging.specs.laws.shown.TargetsShown.{edges_of_cases, deferred_targets_shown}
use Rattle.cfg_planning.specs.laws.shown.PlanningShown.{plan_bundles_shown}
use Rattle.cfg_emits.specs.laws.shown.SmallTypes.{SmallTypes, small_types}
use Rattle.cfg_select_nodes.specs.declared.define.Scrutinee.{Scrutinee}
use Rattle.cfg_selects.specs.Into.{SelectIf, not_needed, select_refused, select_made, with_targets, with_plan, needs_select}
use Rattle.cfg_selects.specs.Into.{StructurizesSelect, not_structurized, structurized}
use Rattle.cfg_select_nodes.specs.Cases.{all_replaced}
use Rattle.cfg_select_nodes.specs.Selects as words
use Rattle.cfg_select_nodes.specs.laws.shown.CasesShown.{any_non_empty_shown}
use Rattle.cfg_select_nodes.specs.laws.shown.RegionsShown.{ShowsMade, shows_made, shows_refused, made_of, refused_of}
use Rattle.cfg_select_nodes.specs.laws.shown.StepsShown.{SelectStep, step_same, step_then, step_by, states_of_step, cases_stay}
use Rattle.cfg_select_nodes.specs.laws.shown.SelectsShown.{ShowsScrutinee, scrutinee_stays, SelectDone, ShowsSelect, shows_select}
use Rattle.cfg_select_nodes.specs.laws.shown.SelectsShown.{shows_no_select}
use Rattle.cfg_select_nodes.specs.laws.shown.SelectsShown.{select_shown}
use Rattle.cfg_emits.specs.Emits.{Emits}
use Rattle.cfg_emits.specs.laws.shown.Emitting.{Spared, emitting_step}
use Rattle.cfg_emits.specs.laws.shown.SetsEmitted.{ShowsSelectCell, planned_stays, ShowsPlan, SetDone, emit_shown}
use Rattle.cfg_emits.specs.laws.shown.PlansShown.{plan_shown, shared_set}
use Rattle.cfg_select_nodes.specs.laws.shown.Replaced.{replaced_shown}
use Rattle.cfg_select_nodes.specs.laws.shown.RowsKept.{row_kept}
use Rattle.state_words.specs.Rows.{bundle_target_at, case_claimed, case_kind, case_origin, case_set_length, case_set_start, case_word}
use Rattle.state_words.specs.Rows.{case_word_at, cells_at, largest, most_cells, region_kind, returned_at, spare_slot, types_at, slot_size}
use Rattle.state_words.specs.Rows.{twice_at, case_row_size, case_body_field}

-- ---- A look-up of the cases leaves what the select's own cases have of them.
same_regions : (s₀ : NestState) (cs : List MaybeClaimedRegion) (s : NestState) → case_regions (cases_after s₀ cs) s ≡ case_regions cs s
unfolding case_regions
same_regions s₀ [] s = refl
same_regions s₀ (ok c ∷ cs) s = rw (same_regions s₀ cs s)
same_regions s₀ (err d ∷ cs) s = go (nesting.define_region s) (λ s₁. same_regions s₀ cs s₁)
  where
    go : (y : StepAnswer ℕ) → ((s₁ : NestState) → case_regions (cases_after s₀ cs) s₁ ≡ case_regions cs s₁)
        → follow y (λ r s₁. follow (case_regions (cases_after s₀ cs) s₁) (λ rest. give (nesting.new_case r ⟨⟩ rest)))
        ≡ follow y (λ r s₁. follow (case_regions cs s₁) (λ rest. give (nesting.new_case r ⟨⟩ rest)))
    go (done r s₁) same = rw (same s₁)
    go (nesting.turned_away k u) same = refl

same_select : (s₀ : NestState) (cs : List MaybeClaimedRegion) (kind : SelectionKind) (y : nesting.Scrutinee) (s : NestState)
    → define_select kind y (cases_after s₀ cs) s ≡ define_select kind y cs s
unfolding define_select
same_select s₀ cs kind y s = rw (same_regions s₀ cs s)

-- ---- The select where it is needed.
pub record SelectChosen (g : Graph) (r base : ℕ) (parent : Nodes) (many rows : ℕ) (w w' : List ℕ) (x : Body) (s : NestState) : Type 0 where
  pub tables : ShowsTables w' s
  pub step : SelectStep g r w w'
  pub nodes : ShowsChildren g w' (word w' children r) (join parent x.children)
  pub set : ShowsSet g w' base rows x.deferred_edges
  pub same_lengths : section w' set_lengths ≡ section w set_lengths
  pub same_rewrites : section w' rewrites ≡ section w rewrites
  pub total : word w' head cells_at ≤ word w head cells_at + (many + 1)

module _ {g : Graph} (few : length g.regions ≤ 32) (small : SmallTypes g) {r base : ℕ} (below : r < 32) {w : List ℕ} {s : NestState}
    (tables : ShowsTables w s) (cs : List MaybeClaimedRegion) (s₀ : NestState) (here : Spared g r base (cases_after s₀ cs) w)
    {x : Scrutinee} {y : nesting.Scrutinee} (scrutinee : ShowsScrutinee w x y) {shape : ℕ} {kind : SelectionKind}
    (of_shape : ShowsShape shape (length cs) kind) {parent : Nodes} (own : ShowsChildren g w (word w children r) parent)
    (free : word w head cells_at + (length cs + 1) ≤ most_cells) {ps : List PlannedBundle}
    (plan : ShowsPlan g (cases_after s₀ cs) w base ps) where
  many : length (cases_after s₀ cs) ≡ length cs
  many = length-map cs _

  answer : {w' : List ℕ} {a : Defined} → words.SelectDefined r shape x w w' a
      → ShowsSelect g r (cases_after s₀ cs) parent w w' a (define_select kind y cs s)
  answer m =
      rw (same_select s₀ cs kind y s) at
      (select_shown below tables here.shown scrutinee (rw (← many) at of_shape) own (rw (← many) at free) m)

  -- With the select defined, what is planned is made.
  module _ {l : List ℕ} {h : ℕ} {n : DefinedSelect} {s₁ : NestState} (done₁ : SelectDone g r (cases_after s₀ cs) parent w l h n s₁) where
    spared_then : Spared g r base (cases_after s₀ cs) l
    spared_then =
        let step = done₁.step in
        let z = here.returned in
        record {
          shown = cases_stay step here.shown;
          returned = record {
            size = step.same_head returned_at (omega arith) ∙ z.size;
            types = λ k b. step.same_head (types_at + k) (omega arith) ∙ z.types k b;
          };
          few = few;
          slots = slots_stay (λ q b. step.same_starts q) here.slots;
          spare = step.same_starts spare_slot ∙ here.spare;
        }

    plan_then : ShowsPlan g (cases_after s₀ cs) l base ps
    plan_then =
        let same = done₁.same bundles (omega arith) (omega arith) (omega arith) (omega arith) (omega arith) in
        let lengths = done₁.same set_lengths (omega arith) (omega arith) (omega arith) (omega arith) (omega arith) in
        let at : (i : ℕ) → word l bundles i ≡ word w bundles i = λ i. ap (λ m. get_or m i 0) same in
        record {
          size = ap (λ m. get_or m spare_slot 0) lengths ∙ plan.size;
          few = plan.few;
          rows = λ i b. planned_stays (bundles_same same (base + i)) (plan.rows i b);
          apart = λ i j a b e. plan.apart i j a b (sym (at (bundle_target_at (base + i))) ∙ e ∙ at (bundle_target_at (base + j)));
        }

    cell_then : ShowsSelectCell h n (length (cases_after s₀ cs)) l
    cell_then = record { node = done₁.node; shape = done₁.shape; scrutinee = done₁.scrutinee; made = done₁.made }

    with_set : {w' : List ℕ} {a : Made} {b : StepAnswer DeferredEdgeBundleSet} → ShowsMade (SetDone g base l w' (length ps)) a b
        → ShowsMade (SelectChosen g r base parent (length cs) (length ps) w w') a (follow b (λ d. give (region_body n.children d)))
    with_set {w'} (shows_made {a = d} y) =
        let e = y.emitting in
        let counted = done₁.total in
        let same_count = many in
        let kept = e.totals cells_at (omega arith) (omega arith) in
        shows_made {a = region_body n.children d} (record {
          tables = y.tables;
          step = step_then done₁.step (emitting_step spared_then e (omega arith) (omega arith));
          nodes = rw (e.others children (omega arith) (omega arith) (omega arith) (omega arith)) (e.made_stays.nodes_stay
              done₁.nodes);
          set = y.set;
          same_lengths = e.others set_lengths (omega arith) (omega arith) (omega arith) (omega arith)
              ∙ done₁.same set_lengths (omega arith) (omega arith) (omega arith) (omega arith) (omega arith);
          same_rewrites = e.others rewrites (omega arith) (omega arith) (omega arith) (omega arith)
              ∙ done₁.same rewrites (omega arith) (omega arith) (omega arith) (omega arith) (omega arith);
          total = omega arith;
        })
    with_set shows_refused = shows_refused

  after_select : {l w' : List ℕ} {h : ℕ} {a : Made} {b : StepAnswer DefinedSelect}
      → ShowsSelect g r (cases_after s₀ cs) parent w l (Ok h) b → Emits g h l w' a
      → ShowsMade (SelectChosen g r base parent (length cs) (length ps) w w') a
      (follow b (λ n s₁. follow (emit n ps s₁) (λ d. give (region_body n.children d))))
  after_select {h} (shows_select {n} done₁) emits =
      with_set done₁ (emit_shown few small n h (spared_then done₁) done₁.tables (cell_then done₁) (plan_then done₁) emits)

  no_select : {l : List ℕ} {b : StepAnswer DefinedSelect} → ShowsSelect g r (cases_after s₀ cs) parent w l Full b
      → b ≡ turned_away too_many 0
  no_select shows_no_select = refl

  pub chosen : {needed : Bool} {w' : List ℕ} {a : Made} → (needed ≡ false → any_needs_select ps ≡ false)
      → SelectIf g needed r shape x w w' a
      → ShowsMade (SelectChosen g r base parent (length cs) (length ps) w w') a (select_if needed kind y cs ps s)
  unfolding select_if
  chosen none (not_needed e p) =
      let a = here.slots.starts spare_slot (omega arith) in
      let b = here.slots.below spare_slot (omega arith) in
      let c = here.spare in
      rw (e, p) (shows_made {a = region_body ⟨⟩ (map shared_bundle ps)} {s = s} (record {
        tables = tables;
        step = step_same g r w;
        nodes = rw (join_none parent) own;
        set = shared_set (omega arith) plan (none e);
        same_lengths = refl;
        same_rewrites = refl;
        total = omega arith;
      }))
  chosen none (select_refused e m) = rw (e, no_select (answer m)) shows_refused
  chosen none (select_made e m emits) = rw e (after_select (answer m) emits)

-- ---- Cases rewritten, their targets deferred, and what is to be done planned.
pub record Prepared (g : Graph) (r : ℕ) (cs : List MaybeClaimedRegion) (s : NestState) (w w' : List ℕ) (base : ℕ) (needed : Bool) : Type 0
  where
    pub state : ShowsState g w' (state_after s cs)
    pub shown : ShowsCases g w' r (cases_after s cs)
    pub plan : ShowsPlan g (cases_after s cs) w' base (nesting.plan_bundles g (cases_after s cs))
    pub is_needed : needed ≡ any_needs_select (nesting.plan_bundles g (cases_after s cs))
    pub made_stays : PreservesMade g w w'
    pub spare_at : word w' set_starts spare_slot ≡ base
    pub same : (k : Section) → (number k ≡ number sections.head → ⊥) → (number k ≡ number sections.set_lengths → ⊥)
        → (number k ≡ number sections.cases → ⊥) → (number k ≡ number sections.bundles → ⊥)
        → section w' k ≡ section w k
    pub totals : (q : ℕ) → (q ≡ twice_at → ⊥) → word w' head q ≡ word w head q
    pub kept : (q : ℕ) → q < length g.regions → (q ≡ r → ⊥)
        → ((j : ℕ) → j < length cs → case_kind w j ≡ case_claimed → q ≡ case_origin w j → ⊥) → KeptRegion w w' q
    pub outside : (p : ℕ) → ((j i : ℕ) → j < length cs → i < case_set_length w j → p ≡ case_set_start w j + i → ⊥)
        → ((i : ℕ) → i < slot_size → p ≡ word w set_starts spare_slot + i → ⊥) → SameBundle w w' p
    -- The row of a case that is not claimed and defers nothing.
    pub rows : (j : ℕ) → (case_kind w j ≡ case_claimed → ⊥) → case_set_length w j ≡ 0 → (q : ℕ) → q < case_row_size
        → case_word w' j q ≡ case_word w j q

module _ {g : Graph} (valid : Valid g) {r : ℕ} (below : r < length g.regions) {w : List ℕ} {s : NestState} (state : ShowsState g w s)
    {cs : List MaybeClaimedRegion} (shown : ShowsCases g w r cs) (unready : NoneReady g w r cs)
    (chains : (q : ℕ) → ChainsEnd s.region_input_rewrites q)
    (bound : (x : DeferredTarget) → edges_of_cases x (cases_after s cs) ≤ largest) where
  pub prepared : Prepared g r cs s w (with_plan g w) (word (with_targets g w) set_starts spare_slot)
      (plan_bundles g (with_targets g w)).needed
  prepared =
      let many = valid.count in
      let w₁ = rewrite_cases g w in
      let a = rewrite_cases_shown g valid w r s cs state shown chains unready in
      let b = deferred_targets_shown g valid w₁ r (state_after s cs) (cases_after s cs) a.state a.cases_shown bound in
      let w₂ = with_targets g w in
      let first : word w₁ set_starts spare_slot ≡ word w set_starts spare_slot =
      ap (λ l. get_or l spare_slot 0) (a.stays.others set_starts (omega arith) (omega arith) (omega arith)) in
      let second : word w₂ set_starts spare_slot ≡ word w₁ set_starts spare_slot = spare_there b.spare set_starts (omega arith)
      (omega arith) spare_slot in
      let rows = rw (← second) at b.rows in
      let c = plan_bundles_shown g valid w₂ r (state_after s cs) (cases_after s cs) b.state b.cases_shown rows in
      let third = spare_there c.spare set_starts (omega arith) (omega arith) spare_slot in
      record {
        state = c.state;
        shown = c.cases_shown;
        plan = plan_shown (cases_after s cs) rows c.size c.each;
        is_needed = c.needed;
        made_stays = preserves_then a.made_stays (preserves_then b.made_stays c.made_stays);
        spare_at = third;
        same = λ k h i j l. c.spare.others k i l ∙ b.spare.others k i l ∙ a.stays.others k j l h;
        totals = λ q d. spare_there c.spare head (omega arith) (omega arith) q ∙ spare_there b.spare head (omega arith) (omega arith)
            q
            ∙ a.stays.totals q d;
        kept = λ q h d f. kept_then (rewrite_keeps g valid w r s cs state shown chains (omega arith) q (omega arith) d f)
            (kept_then (b.kept q h) (c.kept q h));
        outside = λ p d e. same_bundle_then (a.outside p d)
            (same_bundle_then (spare_outside b.spare p (λ i h z. e i h (z ∙ ap (λ n. n + i) first)))
            (spare_outside c.spare p (λ i h z. e i h (z ∙ ap (λ n. n + i) (second ∙ first)))));
        rows = λ j d e q h. spare_there c.spare cases (omega arith) (omega arith) (case_word_at j q)
            ∙ spare_there b.spare cases (omega arith) (omega arith) (case_word_at j q) ∙ row_kept valid w j d e q h;
      }

-- ---- The step whole.
pub record Structured (g : Graph) (r : ℕ) (cs : List MaybeClaimedRegion) (w w' : List ℕ) (x : Body) (s : NestState) : Type 0 where
  pub state : ShowsState g w' s
  pub nodes : ShowsChildren g w' (word w' children r) x.children
  -- It stands in the spare slot.
  pub set : ShowsSet g w' (word w' set_starts spare_slot) (word w' set_lengths spare_slot) x.deferred_edges
  pub made_stays : PreservesMade g w w'
  pub same_kinds : (q : ℕ) → region_kind w' q ≡ region_kind w q
  pub same_starts : (q : ℕ) → word w' set_starts q ≡ word w set_starts q
  pub kept : (q : ℕ) → q < length g.regions → (q ≡ r → ⊥)
      → ((j : ℕ) → j < length cs → case_kind w j ≡ case_claimed → q ≡ case_origin w j → ⊥) → KeptRegion w w' q
  pub outside : (p : ℕ) → ((j i : ℕ) → j < length cs → i < case_set_length w j → p ≡ case_set_start w j + i → ⊥)
      → ((i : ℕ) → i < slot_size → p ≡ word w set_starts spare_slot + i → ⊥) → SameBundle w w' p
  -- The row of a case that is not claimed and defers nothing, but for its region.
  pub rows : (j : ℕ) → (case_kind w j ≡ case_claimed → ⊥) → case_set_length w j ≡ 0 → (q : ℕ) → q < case_row_size
      → (q ≡ case_body_field → ⊥)
      → case_word w' j q ≡ case_word w j q
  pub total : word w' head cells_at ≤ word w head cells_at + (length cs + 1)

states_kept : {A : Type 0} {s : NestState} (x : StepAnswer A) → Post (λ n u. n ≡ 9) (λ a s'. KeepsStates s s') x → {a : A} {s' : NestState}
    → x ≡ done a s' → s'.region_states ≡ s.region_states
states_kept (done a s₁) p {s'} e = let z : s₁ ≡ s' = cc in rw (← z) p.post.states
states_kept (turned_away n u) p e = absurd (clash (cc))

module _ {g : Graph} (valid : Valid g) {r : ℕ} (below : r < length g.regions) {w : List ℕ} {s : NestState}
    (state : ShowsState g w s) {cs : List MaybeClaimedRegion} (shown : ShowsCases g w r cs) (unready : NoneReady g w r cs)
    (chains : (q : ℕ) → ChainsEnd s.region_input_rewrites q)
    (bound : (x : DeferredTarget) → edges_of_cases x (cases_after s cs) ≤ largest)
    {x : Scrutinee} {y : nesting.Scrutinee} (scrutinee : ShowsScrutinee w x y) {shape : ℕ} {kind : SelectionKind}
    (of_shape : ShowsShape shape (length cs) kind) {parent : Nodes} (own : ShowsChildren g w (word w children r) parent)
    (free : word w head cells_at + (length cs + 1) ≤ most_cells) where
  abbrev ps : List PlannedBundle
  ps = nesting.plan_bundles g (cases_after s cs)

  abbrev base : ℕ
  base = word (with_targets g w) set_starts spare_slot

  before : Prepared g r cs s w (with_plan g w) base (plan_bundles g (with_targets g w)).needed
  before = prepared valid below state shown unready chains bound

  need_is : needs_select g w ≡ (nesting.any_non_empty_case cs || any_needs_select ps)
  need_is = let one = own.made in rw (any_non_empty_shown shown (omega arith), before.is_needed)

  spared : Spared g r base (cases_after s cs) (with_plan g w)
  spared =
      let p = before in
      record { shown = p.shown; returned = p.state.returned; few = valid.count.1; slots = p.state.slots; spare = p.spare_at }

  made : {w' : List ℕ} {a : Made} → SelectIf g (needs_select g w) r shape x (with_plan g w) w' a
      → ShowsMade (SelectChosen g r base parent (length cs) (length ps) (with_plan g w) w') a
      (select_if (nesting.any_non_empty_case cs || any_needs_select ps) kind y cs ps (state_after s cs))
  made m =
      let p = before in
      let many = valid.count in
      let own₁ : ShowsChildren g (with_plan g w) (word (with_plan g w) children r) parent =
      rw (p.same children (omega arith) (omega arith) (omega arith) (omega arith)) (p.made_stays.nodes_stay own) in
      let counted = p.totals cells_at (omega arith) in
      chosen (omega arith) (small_types valid state.stands) (omega arith) p.state.tables cs s spared
      (scrutinee_stays p.made_stays scrutinee) of_shape own₁ (omega arith)
      p.plan (λ e. or_right (nesting.any_non_empty_case cs) (any_needs_select ps) e) (rw need_is at m)

  finished : {w₁ : List ℕ} {z : Body} {s₁ : NestState}
      → select_if (nesting.any_non_empty_case cs || any_needs_select ps) kind y cs ps (state_after s cs) ≡ done z s₁
      → SelectChosen g r base parent (length cs) (length ps) (with_plan g w) w₁ z s₁
      → ShowsMade (Structured g r cs w (all_replaced w₁ (case_total w₁) 0)) Done
      (follow (nesting.replace_inputs (cases_after s cs) s₁) (λ u. give (region_body (join parent z.children) z.deferred_edges)))
  finished {w₁} {z} {s₁} e c =
      let p = before in
      let many = valid.count in
      let named₁ : NamedRewrites w₁ = named_by c.same_rewrites p.state.named in
      let o = replaced_shown (cases_stay c.step p.shown) c.tables named₁ in
      let last = step_by o.changes (omega arith) (omega arith) (omega arith) (omega arith) g r (preserves_by o.changes
      (omega arith) g) in
      let step = step_then c.step last in
      let same_kinds : (q : ℕ) → region_kind (with_plan g w) q ≡ region_kind w q =
      λ q. ap (λ l. get_or l q 0) (p.same kinds (omega arith) (omega arith) (omega arith) (omega arith)) in
      let same_starts : (q : ℕ) → word (with_plan g w) set_starts q ≡ word w set_starts q =
      λ q. ap (λ l. get_or l q 0) (p.same set_starts (omega arith) (omega arith) (omega arith) (omega arith)) in
      let still = states_kept _ (select_if_keeps states_kept_steady (λ n u. n ≡ 9) refl
      (nesting.any_non_empty_case cs || any_needs_select ps)
      kind y
      cs ps (state_after s cs)) e in
      let stays = states_of_step step (λ h. unready.parent (sym (same_kinds r) ∙ h)) in
      let at : word (all_replaced w₁ (case_total w₁) 0) set_starts spare_slot ≡ base = step.same_starts spare_slot ∙ p.spare_at in
      let rows : word (all_replaced w₁ (case_total w₁) 0) set_lengths spare_slot ≡ length ps =
      ap (λ l. get_or l spare_slot 0) (o.changes.others set_lengths (omega arith) (omega arith) ∙ c.same_lengths) ∙ p.plan.size in
      let counted = o.changes.totals cells_at (omega arith) in
      let before_it = p.totals cells_at (omega arith) in
      let more = c.total in
      rw o.is
      (shows_made {a = region_body (join parent z.children) z.deferred_edges} (record {
        state = state_next step.made_stays stays o.tables o.named (o.same_states ∙ still) p.state;
        nodes = rw (o.changes.others children (omega arith) (omega arith)) (last.made_stays.nodes_stay c.nodes);
        set = rw (at, rows) (set_stays last.made_stays
            (λ i h. bundles_same (o.changes.others bundles (omega arith) (omega arith)) (base + i)) c.set);
        made_stays = preserves_then p.made_stays step.made_stays;
        same_kinds = λ q. step.same_kinds q ∙ same_kinds q;
        same_starts = λ q. step.same_starts q ∙ same_starts q;
        kept = λ q h d f. kept_then (p.kept q h d f) (step.others q h d);
        outside = λ q d f. same_bundle_then (p.outside q d f)
            (step.bundles_kept q (λ i h u. f i h (sym u ∙ ap (λ n. n + i) (same_starts spare_slot))));
        rows = λ j d f q h i. step.case_words j q h i ∙ p.rows j d f q h;
        total = omega arith;
      }))

  pub structurized_shown : {w' : List ℕ} {a : Made} → StructurizesSelect g r shape x w w' a
      → ShowsMade (Structured g r cs w w') a (structurize_select g parent kind y cs s)
  unfolding structurize_select
  structurized_shown (not_structurized m) = rw (rewrite_is cs s, refused_of (made m)) shows_refused
  structurized_shown (structurized m e) =
      let c = made_of (made m) in
      rw (rewrite_is cs s, c.is, e) (finished c.is c.shows)
