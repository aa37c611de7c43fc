-- What a select is planned to hand on, and what it then defines, has named values if its cases have.
use Rattle.std.specs.Prelude.{Bool, ◌||◌, not, ℕ, zero, suc, eqb, get_or, length}
use Rattle.std.proofs.Math.Bool.{true, false}
use mathlib.Core.List.{List, [], ◌∷◌, map}
use Rattle.std.proofs.Math.Option.{Option, none, some}
use Rattle.std.proofs.Common.{arith}
use Rattle.meaning.specs.Lists.{pick, All, all, empty}
use Rattle.meaning.specs.facts.Elements.{all_mapped, all_filter}
use Rattle.meaning.specs.Graph.{Value, const, input, instr, output, bool, undef, held, no_value, same_value, SelectionKind, Graph}
use Rattle.meaning.specs.Runs.{Nodes, ∅}
use Rattle.nesting.specs.Nesting.{true_cond, LazyConds, DeferredTarget, DeferredEdgeBundle, DeferredEdgeBundleSet, define_region}
use Rattle.nesting.specs.Nesting.{define_node, define_merge, define_output, insert_rewrites, replace_with, LookUp, look_up}
use Rattle.nesting.specs.Nesting.{same_target, condition_in, get_edge_bundle_by_target, MaybeClaimedRegion, ok, err, Scrutinee, value}
use Rattle.nesting.specs.Nesting.{lazy, Body, deferred_of, append_maybe_claimed_region, convergent_cases, without_convergent}
use Rattle.nesting.specs.Nesting.{DeferredTargetSummary, deferred_targets, PerCaseDeferred, per_case_of, per_case_deferred, in_parent}
use Rattle.nesting.specs.Nesting.{passed_inputs, unique_input, PlannedInput, shared, merged, PlannedBundle, value_in_case, plan_input}
use Rattle.nesting.specs.Nesting.{all_true, conditions_of, target_type, plan_inputs, plan_bundle, plan_bundles, any_needs_select}
use Rattle.nesting.specs.Nesting.{any_non_empty_case, look_up_bundle, look_up_case, rewrite_cases, case_regions, scrutinee_value}
use Rattle.nesting.specs.Nesting.{DefinedSelect, define_select, emit_inputs, emit_condition, emit, shared_bundle, select_if}
use Rattle.nesting.specs.Nesting.{replace_inputs, structurize_select, structurize_select_by, structurize_select_into}
use Rattle.nesting.specs.AnswerValues.{Named, AllNamed, NodesNamed, CasesNamed, CondNamed, CondsNamed, BundleNamed, SetNamed}
use Rattle.nesting.proofs.named.NamedLookUps.{CaseNamed, at_place, join_named, look_up_named, look_ups_named}
use Rattle.nesting.proofs.named.NamedSteps.{KeepsNamed, then_keeps, next_keeps, from, give_keeps, define_region_named}
use Rattle.nesting.proofs.named.NamedSteps.{define_node_named}
use Rattle.nesting.proofs.named.NamedSteps.{define_merge_named, define_output_named, insert_rewrites_named, materialize_named}

module _ (M : ℕ) where
  -- ---- what is planned
  abbrev ValueMaybe : Option Value → Type 0
  ValueMaybe none = Unit
  ValueMaybe (some v) = Named M v

  abbrev InputsMaybe : Option (List Value) → Type 0
  InputsMaybe none = Unit
  InputsMaybe (some vs) = AllNamed M vs

  abbrev pub BundleMaybe : Option DeferredEdgeBundle → Type 0
  BundleMaybe none = Unit
  BundleMaybe (some e) = BundleNamed M e

  abbrev CondsMaybe : Option LazyConds → Type 0
  CondsMaybe none = Unit
  CondsMaybe (some cs) = CondsNamed M cs

  abbrev PerCaseNamed : PerCaseDeferred → Type 0
  PerCaseNamed p = InputsMaybe p.inputs × CondNamed M p.condition

  abbrev PlannedInputNamed : PlannedInput → Type 0
  PlannedInputNamed (shared v) = Named M v
  PlannedInputNamed (merged ty vs) = AllNamed M vs

  abbrev PlannedNamed : PlannedBundle → Type 0
  PlannedNamed p = All PlannedInputNamed p.inputs × CondsMaybe p.condition

  pub deferred_named : (c : MaybeClaimedRegion) → CaseNamed M c → SetNamed M (deferred_of c)
  deferred_named (ok c) h = h.2
  deferred_named (err d) h = h

  pub bundle_named : (x : DeferredTarget) (d : DeferredEdgeBundleSet) → SetNamed M d → BundleMaybe (get_edge_bundle_by_target x d)
  bundle_named x [] h = tt
  bundle_named x (e ∷ es) h = go (same_target x e.target) (bundle_named x es h.1)
    where
      go : (b : Bool) → BundleMaybe (get_edge_bundle_by_target x es) → BundleMaybe (pick b (some e) (get_edge_bundle_by_target x es))
      go true k = h.0
      go false k = k

  pub condition_named : (d : DeferredEdgeBundleSet) (e : DeferredEdgeBundle) → BundleNamed M e → CondNamed M (condition_in d e)
  unfolding CondNamed
  condition_named d e h = go (eqb (length d) 1)
    where
      go : (b : Bool) → CondNamed M (pick b true_cond e.condition)
      go true = tt
      go false = h.1

  per_case_of_named : (d : DeferredEdgeBundleSet) (o : Option DeferredEdgeBundle) → BundleMaybe o → PerCaseNamed (per_case_of d o)
  unfolding CondNamed
  per_case_of_named d none h = (tt, tt)
  per_case_of_named d (some e) h = (h.0, condition_named d e h)

  per_case_named : (x : DeferredTarget) (d : DeferredEdgeBundleSet) → SetNamed M d → PerCaseNamed (per_case_deferred x d)
  unfolding CondNamed
  per_case_named x [] h = (tt, tt)
  per_case_named x (e ∷ es) h = per_case_of_named (e ∷ es) (get_edge_bundle_by_target x (e ∷ es)) (bundle_named x (e ∷ es) h)

  in_parent_named : (c : MaybeClaimedRegion) (v : Value) → CaseNamed M c → Named M v → ValueMaybe (in_parent c v)
  in_parent_named (err d) v k h = h
  in_parent_named (ok c) (const i) k h = tt
  in_parent_named (ok c) (bool b) k h = tt
  in_parent_named (ok c) (undef ty) k h = tt
  in_parent_named (ok c) no_value k h = tt
  in_parent_named (ok c) (held r j) k h = tt
  in_parent_named (ok c) (instr r j) k h = tt
  in_parent_named (ok c) (output o) k h = tt
  in_parent_named (ok c) (input r j) k h = go (eqb r c.structured_body)
    where
      go : (b : Bool) → ValueMaybe (pick b (some (get_or c.structured_body_inputs j (undef 0))) none)
      go true = at_place M c.structured_body_inputs k.0 j
      go false = tt

  passed_named : (k : ℕ) (cs : List MaybeClaimedRegion) (ps : List PerCaseDeferred) → All (CaseNamed M) cs → All PerCaseNamed ps
      → All ValueMaybe (passed_inputs k cs ps)
  passed_named k [] ps h q = tt
  passed_named k (c ∷ cs) [] h q = tt
  passed_named k (c ∷ cs) (p ∷ ps) h q = go p.inputs q.0.0 (passed_named k cs ps h.1 q.1)
    where
      go : (o : Option (List Value)) → InputsMaybe o → All ValueMaybe (passed_inputs k cs ps)
          → All ValueMaybe (elim o as
          (λ o. List (Option Value)) [
            | none ↦ passed_inputs k cs ps
            | some vs ↦ in_parent c (get_or vs k (undef 0))
                ∷ passed_inputs k cs ps
          ])
      go none i rest = rest
      go (some vs) i rest = (in_parent_named c _ h.0 (at_place M vs i k), rest)

  unique_named : (os : List (Option Value)) → All ValueMaybe os → ValueMaybe (unique_input os)
  unique_named [] h = tt
  unique_named (none ∷ os) h = tt
  unique_named (some v ∷ os) h = go (all (λ o. elim o [ none ↦ false | some w ↦ same_value w v ]) os)
    where
      go : (b : Bool) → ValueMaybe (pick b (some v) none)
      go true = h.0
      go false = tt

  case_value_named : (k ty : ℕ) (p : PerCaseDeferred) → PerCaseNamed p → Named M (value_in_case k ty p)
  case_value_named k ty p h = go p.inputs h.0
    where
      go : (o : Option (List Value)) → InputsMaybe o → Named M (elim o [ none ↦ undef ty | some vs ↦ get_or vs k (undef 0) ])
      go none i = tt
      go (some vs) i = at_place M vs i k

  plan_input_named : (k ty : ℕ) (ps : List PerCaseDeferred) (u : Option Value) → All PerCaseNamed ps → ValueMaybe u
      → PlannedInputNamed (plan_input k ty ps u)
  plan_input_named k ty ps (some v) q h = h
  plan_input_named k ty ps none q h = all_mapped (value_in_case k ty) PerCaseNamed (Named M) (case_value_named k ty) ps q

  conditions_named : (ps : List PerCaseDeferred) → All PerCaseNamed ps → CondsNamed M (conditions_of ps)
  unfolding CondsNamed
  conditions_named [] q = tt
  conditions_named (p ∷ ps) q = (q.0.1, conditions_named ps q.1)

  module _ (g : Graph) where
    plan_inputs_named : (n k : ℕ) (x : DeferredTarget) (cs : List MaybeClaimedRegion) (ps : List PerCaseDeferred) → All (CaseNamed M) cs
        → All PerCaseNamed ps
        → All PlannedInputNamed (plan_inputs g n k x cs ps)
    plan_inputs_named zero k x cs ps h q = tt
    plan_inputs_named (suc n) k x cs ps h q = (
      plan_input_named k (target_type g x k) ps (unique_input (passed_inputs k cs ps)) q
          (unique_named (passed_inputs k cs ps) (passed_named k cs ps h q)),
      plan_inputs_named n (suc k) x cs ps h q,
    )

    plan_condition_named : (ps : List PerCaseDeferred) → All PerCaseNamed ps → (b : Bool)
        → CondsMaybe (pick b none (some (conditions_of ps)))
    plan_condition_named ps q true = tt
    plan_condition_named ps q false = conditions_named ps q

    plan_bundle_named : (cs : List MaybeClaimedRegion) → All (CaseNamed M) cs → (w : DeferredTargetSummary)
        → PlannedNamed (plan_bundle g cs w)
    plan_bundle_named cs h w =
        let ps = map (λ c. per_case_deferred w.target (deferred_of c)) cs in
        let q : All PerCaseNamed ps =
        all_mapped (λ c. per_case_deferred w.target (deferred_of c)) (CaseNamed M) PerCaseNamed
        (λ c k. per_case_named w.target (deferred_of c) (deferred_named c k)) cs h in
        (plan_inputs_named w.input_count 0 w.target cs ps h q, plan_condition_named ps q (all_true ps))

    plan_each_named : (cs : List MaybeClaimedRegion) → All (CaseNamed M) cs → (ws : List DeferredTargetSummary)
        → All PlannedNamed (map (plan_bundle g cs) ws)
    plan_each_named cs h [] = tt
    plan_each_named cs h (w ∷ ws) = (plan_bundle_named cs h w, plan_each_named cs h ws)

    plan_named : (cs : List MaybeClaimedRegion) → All (CaseNamed M) cs → All PlannedNamed (plan_bundles g cs)
    plan_named cs h = plan_each_named cs h (deferred_targets cs [])

  -- ---- the cases, looked up
  module _ (ρ : Value → LookUp Value) (f : (v : Value) → Named M v → Named M (ρ v).value) where
    set_looked_up : (d : DeferredEdgeBundleSet) → SetNamed M d → SetNamed M (map (λ e. (look_up_bundle ρ (λ e. e.condition) e).value) d)
    set_looked_up d h = all_mapped (λ e. (look_up_bundle ρ (λ e. e.condition) e).value) (BundleNamed M) (BundleNamed M)
        (λ e k. (look_ups_named M ρ f e.target_inputs k.0, k.1)) d h

    case_looked_up : (c : MaybeClaimedRegion) → CaseNamed M c → CaseNamed M (look_up_case ρ c).value
    case_looked_up (err d) h = set_looked_up d h
    case_looked_up (ok c) h = (look_ups_named M ρ f c.structured_body_inputs h.0, h.1, set_looked_up c.deferred_edges h.2)

  rewrite_cases_named : (cs : List MaybeClaimedRegion) → KeepsNamed M (All (CaseNamed M) cs) (λ ds. All (CaseNamed M) ds) (rewrite_cases cs)
  unfolding rewrite_cases
  rewrite_cases_named cs s = record {
    post = record {
      more = omega arith;
      good = λ room pre h. (
        record { states = h.states; log = h.log; outputs = h.outputs },
        all_mapped (λ c. (look_up_case (look_up s.region_input_rewrites) c).value) (CaseNamed M) (CaseNamed M)
            (case_looked_up (look_up s.region_input_rewrites) (look_up_named M s.region_input_rewrites h.log)) cs pre,
      );
    };
  }

  -- ---- the select, defined
  abbrev pub ScrutineeNamed : Scrutinee → Type 0
  ScrutineeNamed (value v) = Named M v
  ScrutineeNamed (lazy c) = CondNamed M c

  abbrev pub BodyNamed : Body → Type 0
  BodyNamed x = NodesNamed M x.children × SetNamed M x.deferred_edges

  case_regions_named : (cs : List MaybeClaimedRegion) → KeepsNamed M (All (CaseNamed M) cs) (CasesNamed M) (case_regions cs)
  unfolding case_regions CasesNamed
  case_regions_named [] = give_keeps M ∅ (λ h. tt)
  case_regions_named (err d ∷ cs) =
      then_keeps M define_region _ (define_region_named M) λ r.
      then_keeps M (case_regions cs) _ (from M _ (λ h. h.0.1) (case_regions_named cs)) λ rest. give_keeps M _ (λ h. (tt, tt, h.1))
  case_regions_named (ok c ∷ cs) =
      then_keeps M (case_regions cs) _ (from M _ (λ h. h.1) (case_regions_named cs)) λ rest. give_keeps M _ (λ h. (tt, h.0.0.1, h.1))

  scrutinee_named : (x : Scrutinee) → KeepsNamed M (ScrutineeNamed x) (Named M) (scrutinee_value x)
  scrutinee_named (value v) = give_keeps M v (λ h. h)
  scrutinee_named (lazy c) = materialize_named M c

  abbrev SelectNamed : DefinedSelect → Type 0
  SelectNamed n = Named M n.scrutinee × NodesNamed M n.children

  define_select_named : (kind : SelectionKind) (x : Scrutinee) (cs : List MaybeClaimedRegion)
      → KeepsNamed M (ScrutineeNamed x × All (CaseNamed M) cs) SelectNamed (define_select kind x cs)
  unfolding define_select NodesNamed
  define_select_named kind x cs =
      then_keeps M (case_regions cs) _ (from M _ (λ h. h.1) (case_regions_named cs)) λ rest.
      then_keeps M (scrutinee_value x) _ (from M _ (λ h. h.0.0) (scrutinee_named x)) λ v.
      then_keeps M define_node _ (define_node_named M) λ n. give_keeps M _ (λ h. (h.0.1, ((h.0.1, h.0.0.1), tt)))

  emit_inputs_named : (n : DefinedSelect) (is : List PlannedInput) → KeepsNamed M (All PlannedInputNamed is) (AllNamed M) (emit_inputs n is)
  unfolding emit_inputs
  emit_inputs_named n [] = give_keeps M [] (λ h. tt)
  emit_inputs_named n (shared v ∷ is) =
      then_keeps M (emit_inputs n is) _ (from M _ (λ h. h.1) (emit_inputs_named n is)) λ vs. give_keeps M _ (λ h. (h.0.0, h.1))
  emit_inputs_named n (merged ty vs ∷ is) =
      then_keeps M (define_output n.node ty vs) _ (from M _ (λ h. h.0) (define_output_named M n.node ty vs)) λ w.
      then_keeps M (emit_inputs n is) _ (from M _ (λ h. h.0.1) (emit_inputs_named n is)) λ ws. give_keeps M _ (λ h. (h.0.1, h.1))

  emit_condition_named : (n : DefinedSelect) (o : Option LazyConds)
      → KeepsNamed M (Named M n.scrutinee × CondsMaybe o) (CondNamed M) (emit_condition n o)
  unfolding CondNamed
  emit_condition_named n none = give_keeps M true_cond (λ h. tt)
  emit_condition_named n (some cs) = next_keeps M define_merge _ (define_merge_named M) (give_keeps M _ (λ h. (h.0, h.1)))

  emit_named : (n : DefinedSelect) (ps : List PlannedBundle)
      → KeepsNamed M (Named M n.scrutinee × All PlannedNamed ps) (SetNamed M) (emit n ps)
  unfolding emit
  emit_named n [] = give_keeps M [] (λ h. tt)
  emit_named n (p ∷ ps) =
      then_keeps M (emit_inputs n p.inputs) _ (from M _ (λ h. h.1.0.0) (emit_inputs_named n p.inputs)) λ ins.
      then_keeps M (emit_condition n p.condition) _
      (from M _ (λ h. (h.0.0, h.0.1.0.1)) (emit_condition_named n p.condition)) λ c.
      then_keeps M (emit n ps) _ (from M _ (λ h. (h.0.0.0, h.0.0.1.1)) (emit_named n ps)) λ rest.
      give_keeps M _ (λ h. ((h.0.0.1, h.0.1), h.1))

  shared_input_named : (i : PlannedInput) → PlannedInputNamed i → Named M (elim i [ shared v ↦ v | merged ty vs ↦ undef 0 ])
  shared_input_named (shared v) h = h
  shared_input_named (merged ty vs) h = tt

  shared_named : (p : PlannedBundle) → PlannedNamed p → BundleNamed M (shared_bundle p)
  unfolding CondNamed
  shared_named p h = (
    all_mapped (λ i. elim i [ shared v ↦ v | merged ty vs ↦ undef 0 ]) PlannedInputNamed (Named M) shared_input_named
        p.inputs h.0,
    tt,
  )

  select_if_named : (b : Bool) (kind : SelectionKind) (x : Scrutinee) (cs : List MaybeClaimedRegion) (ps : List PlannedBundle)
      → KeepsNamed M (ScrutineeNamed x × All (CaseNamed M) cs × All PlannedNamed ps) BodyNamed (select_if b kind x cs ps)
  unfolding select_if NodesNamed
  select_if_named false kind x cs ps =
      give_keeps M _ (λ h. (tt, all_mapped shared_bundle PlannedNamed (BundleNamed M) shared_named ps h.2))
  select_if_named true kind x cs ps =
      then_keeps M (define_select kind x cs) _ (from M _ (λ h. (h.0, h.1)) (define_select_named kind x cs)) λ n.
      then_keeps M (emit n ps) _ (from M _ (λ h. (h.1.0, h.0.2)) (emit_named n ps)) λ d. give_keeps M _ (λ h. (h.0.1.1, h.1))

  replace_inputs_named : (cs : List MaybeClaimedRegion) → KeepsNamed M (All (CaseNamed M) cs) (λ u. Unit) (replace_inputs cs)
  unfolding replace_inputs
  replace_inputs_named [] = give_keeps M tt (λ h. tt)
  replace_inputs_named (err d ∷ cs) = from M (replace_inputs cs) (λ h. h.1) (replace_inputs_named cs)
  replace_inputs_named (ok c ∷ cs) =
      next_keeps M (insert_rewrites c.structured_body (replace_with c.structured_body_inputs)) (replace_inputs cs)
      (from M _ (λ h. h.0.0) (insert_rewrites_named M c.structured_body (replace_with c.structured_body_inputs)))
      (from M (replace_inputs cs) (λ h. h.1) (replace_inputs_named cs))

  pub append_named : (parent : Nodes) (c : MaybeClaimedRegion)
      → KeepsNamed M (NodesNamed M parent × CaseNamed M c) BodyNamed (append_maybe_claimed_region parent c)
  unfolding append_maybe_claimed_region
  append_named parent (err d) = give_keeps M _ (λ h. (h.0, h.1))
  append_named parent (ok c) =
      next_keeps M (insert_rewrites c.structured_body (replace_with c.structured_body_inputs)) _
      (from M _ (λ h. h.1.0) (insert_rewrites_named M c.structured_body (replace_with c.structured_body_inputs)))
      (give_keeps M _ (λ h. (join_named M parent c.children h.0 h.1.1, h.1.2)))

  emptied_named : (c : MaybeClaimedRegion) → CaseNamed M c → CaseNamed M (pick (empty (deferred_of c)) c (err []))
  emptied_named c h = go (empty (deferred_of c))
    where
      go : (b : Bool) → CaseNamed M (pick b c (err []))
      go true = h
      go false = tt

  module _ (g : Graph) (parent : Nodes) (kind : SelectionKind) (x : Scrutinee) where
    select_named : (cases : List MaybeClaimedRegion) → KeepsNamed M
        (NodesNamed M parent × ScrutineeNamed x × All (CaseNamed M) cases) BodyNamed
        (structurize_select g parent kind x cases)
    unfolding structurize_select
    select_named cases =
        then_keeps M (rewrite_cases cases) _ (from M _ (λ h. h.2) (rewrite_cases_named cases)) λ cs.
        then_keeps M (select_if (any_non_empty_case cases || any_needs_select (plan_bundles g cs)) kind x cases (plan_bundles g cs)) _
        (from M _ (λ h. (h.0.1, h.0.2, plan_named g cs h.1)) (select_if_named _ kind x cases (plan_bundles g cs))) λ y.
        next_keeps M (replace_inputs cs) _ (from M _ (λ h. h.0.1) (replace_inputs_named cs))
        (give_keeps M _ (λ h. (join_named M parent y.children h.0.0.0 h.1.0, h.1.1)))

    by_convergent : (cases cs : List MaybeClaimedRegion) → KeepsNamed M
        (NodesNamed M parent × ScrutineeNamed x × All (CaseNamed M) cases × All (CaseNamed M) cs) BodyNamed
        (structurize_select_by g parent kind x cases cs)
    by_convergent cases [] = from M _ (λ h. (h.0, h.1, h.2)) (select_named cases)
    by_convergent cases (c ∷ d ∷ ds) = from M _ (λ h. (h.0, h.1, h.2)) (select_named cases)
    by_convergent cases (c ∷ []) =
        then_keeps M (structurize_select g parent kind x (without_convergent cases)) _
        (from M _ (λ h. (
          h.0,
          h.1,
          all_mapped (λ c. pick (empty (deferred_of c)) c (err [])) (CaseNamed M)
              (CaseNamed M) emptied_named cases h.2,
        )) (select_named (without_convergent cases))) λ y.
        from M _ (λ h. (h.1.0, h.0.3.0)) (append_named y.children c)

    pub select_into_named : (cases : List MaybeClaimedRegion)
        → KeepsNamed M (NodesNamed M parent × ScrutineeNamed x × All (CaseNamed M) cases) BodyNamed
        (structurize_select_into g parent kind x cases)
    select_into_named cases =
        from M _ (λ h. (h.0, h.1, h.2, all_filter (CaseNamed M) (λ c. not (empty (deferred_of c))) cases h.2))
        (by_convergent cases (convergent_cases cases))
