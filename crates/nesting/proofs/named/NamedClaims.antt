-- Loops, claims and regions keep every value named; the graph's own values are.
use Rattle.std.specs.Prelude.{Bool, true, false, ◌&&◌, not, eqb, get_or, take}
use mathlib.Core.List.{List, [], ◌∷◌, ◌++◌}
use Rattle.std.proofs.Math.Option.{Option, none, some}
use Prim.Native.Nat.{ℕ, zero, suc, ◌+◌}
use Rattle.std.proofs.Common.{arith}
use Rattle.std.proofs.Math.ListN.{length}
use Rattle.meaning.specs.Lists.{pick, All, empty, is_in}
use Rattle.meaning.specs.facts.Elements.{all_append, all_mapped, all_get_d, all_take, all_set}
use Rattle.meaning.specs.Graph.{Value, input, same_value, Instr, bool_cond, Edge, ControlInst, unreachable, return, exit_invocation, branch}
use Rattle.meaning.specs.Graph.{select_branch, edges_of, Region, Graph, region}
use Rattle.meaning.specs.Runs.{Nodes, ⟨⟩, ◌▸◌, exit}
use Rattle.nesting.specs.Nesting.{IncomingEdgeCount, LazyCond, DeferredTarget, to_region, to_return, DeferredEdgeBundle}
use Rattle.nesting.specs.Nesting.{DeferredEdgeBundleSet, edge_bundle, StructurizeRegionState, not_begun, in_progress, claimed, ready}
use Rattle.nesting.specs.Nesting.{renumber_or_replace_with, Step, give, turn_away, ◌>>=◌, ◌>>◌, define_region, define_node, get_state}
use Rattle.nesting.specs.Nesting.{set_state, count_attempt, insert_rewrites, look_up, rewrite_values, materialize_lazy_cond}
use Rattle.nesting.specs.Nesting.{same_target, condition_in, fill_gap, split_out_target, ClaimedRegion, MaybeClaimedRegion, ok, err}
use Rattle.nesting.specs.Nesting.{value, lazy, Body, has_children, blocks_from, blocks_of, block_count, exit_targets, LoopInputs}
use Rattle.nesting.specs.Nesting.{no_inputs, keep_input, lift_input, add_exit_edge, take_input, take_inputs, structurize_loop, Claim}
use Rattle.nesting.specs.Nesting.{SplitOut, backedge_of, defer_edge, unclaimed_edge, edge_case, split_out_or, begin, claim_body}
use Rattle.nesting.specs.Nesting.{claim_by_state, by_control_inst, resolve_by, target_regions, split_out_matching, resolve_deferred}
use Rattle.nesting.specs.Nesting.{structurize_region, try_claim_edge_bundle, count_to, structurize_select_into}
use Rattle.nesting.specs.AnswerValues.{Named, AllNamed, InstrsNamed, NodesNamed, CondNamed, BundleNamed, SetNamed}
use Rattle.nesting.proofs.steps.Keeps.{loop_claimed}
use Rattle.nesting.proofs.named.NamedLookUps.{ClaimedNamed, CaseNamed, StateNamed, RewriteNamed, join_named, look_up_named}
use Rattle.nesting.proofs.named.NamedLookUps.{look_ups_named}
use Rattle.nesting.proofs.named.NamedSteps.{KeepsNamed, then_keeps, next_keeps, from, give_keeps, define_region_named}
use Rattle.nesting.proofs.named.NamedSteps.{define_node_named}
use Rattle.nesting.proofs.named.NamedSteps.{insert_rewrites_named, materialize_named}
use Rattle.nesting.proofs.named.NamedSelects.{BundleMaybe, bundle_named, condition_named, BodyNamed, append_named, select_into_named}
use Rattle.format.specs.Refusals.{never}

module _ (M : ℕ) where
  abbrev pub ClaimMaybe : Option ClaimedRegion → Type 0
  ClaimMaybe none = Unit
  ClaimMaybe (some c) = ClaimedNamed M c

  abbrev EdgesNamed : List Edge → Type 0
  EdgesNamed es = All (λ e. AllNamed M e.inputs) es

  abbrev pub EndNamed : ControlInst → Type 0
  EndNamed unreachable = Unit
  EndNamed (return vs) = AllNamed M vs
  EndNamed (exit_invocation op vs) = AllNamed M vs
  EndNamed (branch e) = AllNamed M e.inputs
  EndNamed (select_branch k v es) = Named M v × EdgesNamed es

  pub record RegionNamed (x : Region) : Type 0 where
    pub blocks : All (InstrsNamed M) x.blocks
    pub terminator : EndNamed x.terminator

  -- ---- steps on the state
  rewrite_values_named : (vs : List Value) → KeepsNamed M (AllNamed M vs) (AllNamed M) (rewrite_values vs)
  unfolding rewrite_values
  rewrite_values_named vs s = record {
    post = record {
      more = omega arith;
      good = λ room pre h. (
        record { states = h.states; log = h.log; outputs = h.outputs },
        look_ups_named M (look_up s.region_input_rewrites) (look_up_named M s.region_input_rewrites h.log) vs pre,
      );
    };
  }

  get_state_named : {P : Type 0} (r : ℕ) → KeepsNamed M P (StateNamed M) (get_state r)
  get_state_named r s = record {
    post = record { more = omega arith; good = λ room pre h. (h, all_get_d (StateNamed M) not_begun tt s.region_states h.states r) };
  }

  set_state_named : (r : ℕ) (x : StructurizeRegionState) → KeepsNamed M (StateNamed M x) (λ u. Unit) (set_state r x)
  set_state_named r x s = record {
    post = record {
      more = omega arith;
      good = λ room pre h. (
        record {
          states = all_set (StateNamed M) s.region_states h.states r x pre;
          log = h.log;
          outputs =
              h.outputs;
        },
        tt,
      );
    };
  }

  count_attempt_named : {P : Type 0} → KeepsNamed M P (λ u. Unit) count_attempt
  count_attempt_named s = record {
    post = record { more = omega arith; good = λ room pre h. (record { states = h.states; log = h.log; outputs = h.outputs }, tt) };
  }

  refusal_named : {A P : Type 0} {G : A → Type 0} (n w : ℕ) → KeepsNamed M P G (turn_away n w)
  refusal_named n w s = record { post = tt }

  -- ---- loops
  abbrev InputsNamed : LoopInputs → Type 0
  InputsNamed x = All (RewriteNamed M) x.rewrites × AllNamed M x.initial_inputs × AllNamed M x.outputs

  module _ (g : Graph) (r w : ℕ) where
    take_input_named : (k : ℕ) (v : Value) (x : LoopInputs) → Named M v → InputsNamed x → InputsNamed (take_input g r w k v x)
    take_input_named k v x n h = go (same_value v (input r k))
      where
        go : (b : Bool) → InputsNamed (pick b (lift_input (input w k) x) (keep_input (input w k) (get_or (region g r).inputs k 0) v x))
        go true = (all_append (RewriteNamed M) x.rewrites _ h.0 (tt, tt), h.1, h.2)
        go false = (
          all_append (RewriteNamed M) x.rewrites _ h.0 (tt, tt),
          all_append (Named M) x.initial_inputs _ h.1 (tt, tt),
          all_append (Named M) x.outputs _ h.2 (n, tt),
        )

    take_inputs_named : (k : ℕ) (vs : List Value) (x : LoopInputs) → AllNamed M vs → InputsNamed x → InputsNamed (take_inputs g r w k vs x)
    take_inputs_named k [] x n h = h
    take_inputs_named k (v ∷ vs) x n h = take_inputs_named (suc k) vs (take_input g r w k v x) n.1 (take_input_named k v x n.0 h)

  add_exit_named : (xs : List ℕ) (e : DeferredEdgeBundle) → BundleNamed M e → BundleNamed M (add_exit_edge xs e)
  add_exit_named xs e h = go (λ r. pick (is_in r xs) (suc e.accumulated_count) e.accumulated_count) e.target
    where
      go : (more : ℕ → IncomingEdgeCount) (t : DeferredTarget)
          → BundleNamed M (elim t as
          (λ t. DeferredEdgeBundle) [
            | to_region r ↦ edge_bundle (to_region r) (more r) e.target_inputs
                e.condition
            | to_return ↦ e
          ])
      go more (to_region r) = h
      go more to_return = h

  fill_gap_named : (d : DeferredEdgeBundleSet) → SetNamed M d → SetNamed M (fill_gap d)
  fill_gap_named [] h = tt
  fill_gap_named (x ∷ xs) h = (all_get_d (BundleNamed M) x h.0 (x ∷ xs) h (length xs), all_take (BundleNamed M) (length xs) (x ∷ xs) h)

  split_out_named : (x : DeferredTarget) (d : DeferredEdgeBundleSet) → SetNamed M d → SetNamed M (split_out_target x d)
  split_out_named x [] h = tt
  split_out_named x (e ∷ es) h = go (same_target x e.target) (split_out_named x es h.1)
    where
      go : (b : Bool) → SetNamed M (split_out_target x es) → SetNamed M (pick b (fill_gap es) (e ∷ split_out_target x es))
      go true k = fill_gap_named es h.1
      go false k = (h.0, k)

  module _ (g : Graph) where
    loop_named : (body : ℕ) (ks : Nodes) (e : DeferredEdgeBundle) (c : LazyCond) (exits : DeferredEdgeBundleSet) (ins : List Value)
        → KeepsNamed M (NodesNamed M ks × BundleNamed M e × CondNamed M c × SetNamed M exits × AllNamed M ins) ClaimMaybe
        (structurize_loop g body ks e c exits ins)
    unfolding structurize_loop NodesNamed
    loop_named body ks e c exits ins =
        then_keeps M define_region _ (define_region_named M) λ w.
        then_keeps M (rewrite_values e.target_inputs) _ (from M _ (λ h. h.0.1.0) (rewrite_values_named e.target_inputs)) λ vs.
        next_keeps M (insert_rewrites body (renumber_or_replace_with (take_inputs g body w 0 vs no_inputs).rewrites)) _
        (from M _ (λ h. (take_inputs_named g body w 0 vs no_inputs h.1 (tt, tt, tt)).0) (insert_rewrites_named M body _))
        (then_keeps M (materialize_lazy_cond c) _ (from M _ (λ h. h.0.0.2) (materialize_named M c)) λ v.
        then_keeps M define_node _ (define_node_named M) λ n.
        give_keeps M (some (loop_claimed g body ks exits ins w vs v n)) λ h.
        let pre = h.0.0.0.0 in
        let x = take_inputs_named g body w 0 vs no_inputs h.0.0.1 (tt, tt, tt) in (
          pre.4,
          ((x.1, x.2, h.0.1, pre.0), tt),
          all_mapped (add_exit_edge (exit_targets g body)) (BundleNamed M) (BundleNamed M)
              (add_exit_named (exit_targets g body)) exits pre.3,
        ))

    claim_body_named : (r : ℕ) (ins : List Value) (ks : Nodes) (d : DeferredEdgeBundleSet) (o : Option DeferredEdgeBundle)
        → KeepsNamed M (AllNamed M ins × NodesNamed M ks × SetNamed M d × BundleMaybe M o) ClaimMaybe (claim_body g r ins ks d o)
    claim_body_named r ins ks d none = give_keeps M _ (λ h. (h.0, h.1, h.2))
    claim_body_named r ins ks d (some e) =
        from M _ (λ h. (h.1, h.3, condition_named M d e h.3, split_out_named (to_region r) d h.2, h.0))
        (loop_named r ks e (condition_in d e) (split_out_target (to_region r) d) ins)

    backedge_named : (r b : ℕ) (d : DeferredEdgeBundleSet) → SetNamed M d → BundleMaybe M (backedge_of r b d)
    backedge_named r zero d h = tt
    backedge_named r (suc b) d h = bundle_named M (to_region r) d h

    claim_by_state_named : (r n : ℕ) (ins : List Value) (inc : ℕ) (x : StructurizeRegionState)
        → KeepsNamed M (AllNamed M ins × StateNamed M x) ClaimMaybe (claim_by_state g r n ins inc x)
    claim_by_state_named r n ins inc not_begun = refusal_named never r
    claim_by_state_named r n ins inc claimed = refusal_named never r
    claim_by_state_named r n ins inc in_progress = go (eqb inc n)
      where
        go : (b : Bool) → KeepsNamed M (AllNamed M ins × Unit) ClaimMaybe
            (elim b as (λ b. Step (Option ClaimedRegion)) [ false ↦ give none | true ↦ turn_away never r ])
        go false = give_keeps M none (λ h. tt)
        go true = refusal_named never r
    claim_by_state_named r n ins inc (ready b ks d) = go (eqb inc (n + b))
      where
        go : (c : Bool) → KeepsNamed M (AllNamed M ins × (NodesNamed M ks × SetNamed M d)) ClaimMaybe
            (elim c as (λ c. Step (Option ClaimedRegion)) [
              | false ↦ give none
              | true ↦ set_state r claimed >> claim_body g r ins ks d
                  (backedge_of r b d)
            ])
        go false = give_keeps M none (λ h. tt)
        go true =
            next_keeps M (set_state r claimed) _ (from M _ (λ h. tt) (set_state_named r claimed))
            (from M _ (λ h. (h.0, h.1.0, h.1.1, backedge_named r b d h.1.1)) (claim_body_named r ins ks d (backedge_of r b d)))

  -- ---- regions
  defer_named : (e : Edge) → AllNamed M e.inputs → CaseNamed M (defer_edge e)
  unfolding CondNamed
  defer_named e h = ((h, tt), tt)

  unclaimed_named : (e : Edge) (x : StructurizeRegionState) → AllNamed M e.inputs → CaseNamed M (unclaimed_edge e x)
  unclaimed_named e not_begun h = defer_named e h
  unclaimed_named e in_progress h = defer_named e h
  unclaimed_named e claimed h = defer_named e h
  unclaimed_named e (ready b ks d) h = go (empty d && not (has_children ks))
    where
      go : (c : Bool) → CaseNamed M (pick c (err []) (defer_edge e))
      go true = tt
      go false = defer_named e h

  edge_case_named : (e : Edge) (o : Option ClaimedRegion) → KeepsNamed M (AllNamed M e.inputs × ClaimMaybe o) (CaseNamed M)
      (edge_case e o)
  edge_case_named e (some c) = give_keeps M (ok c) (λ h. h.1)
  edge_case_named e none =
      then_keeps M (get_state e.target) _ (get_state_named e.target) λ x. give_keeps M (unclaimed_edge e x)
      (λ h. unclaimed_named e x h.0.0)

  edges_named : (x : ControlInst) → EndNamed x → EdgesNamed (edges_of x)
  edges_named unreachable h = tt
  edges_named (return vs) h = tt
  edges_named (exit_invocation op vs) h = tt
  edges_named (branch e) h = (h, tt)
  edges_named (select_branch k v es) h = h.1

  blocks_named : (n r k : ℕ) (bs : List (List Instr)) → All (InstrsNamed M) bs → NodesNamed M (blocks_from n r k bs)
  unfolding NodesNamed
  blocks_named n r k [] h = tt
  blocks_named n r k (b ∷ bs) h = (h.0, blocks_named (suc n) r (k + length b) bs h.1)

  abbrev pub ClaimsNamed : Claim → Type 0
  ClaimsNamed claim = (r n : ℕ) (ins : List Value) → KeepsNamed M (AllNamed M ins) ClaimMaybe (claim r n ins)

  abbrev SplitMaybe : Option SplitOut → Type 0
  SplitMaybe none = Unit
  SplitMaybe (some y) = BundleNamed M y.bundle × ClaimedNamed M y.claimed_region × SetNamed M y.others

  module _ (g : Graph) (each : (r : ℕ) → RegionNamed (region g r)) where
    control_named : (parent : Nodes) (x : ControlInst) (cs : List MaybeClaimedRegion)
        → KeepsNamed M (NodesNamed M parent × EndNamed x × All (CaseNamed M) cs) (BodyNamed M) (by_control_inst g parent x cs)
    unfolding NodesNamed CondNamed
    control_named parent unreachable cs = give_keeps M _ (λ h. (h.0, tt))
    control_named parent (return vs) cs = give_keeps M _ (λ h. (h.0, ((h.1, tt), tt)))
    control_named parent (exit_invocation op vs) cs =
        then_keeps M define_node _ (define_node_named M) λ n. give_keeps M _
        (λ h. (join_named M parent (exit n op vs ▸ ⟨⟩) h.0.0 (h.0.1, tt), tt))
    control_named parent (branch e) [] = give_keeps M _ (λ h. (h.0, tt))
    control_named parent (branch e) (c ∷ cs) = from M _ (λ h. (h.0, h.2.0)) (append_named M parent c)
    control_named parent (select_branch kind v es) cs =
        from M _ (λ h. (h.0, h.1.0, h.2)) (select_into_named M g parent kind (value v) cs)

    module _ (claim : Claim) (claims : ClaimsNamed claim) where
      targets_named : (es : List Edge) → KeepsNamed M (EdgesNamed es) (λ cs. All (CaseNamed M) cs) (target_regions g claim es)
      unfolding target_regions
      targets_named [] = give_keeps M [] (λ h. tt)
      targets_named (e ∷ es) =
          then_keeps M (claim e.target 1 e.inputs) _ (from M _ (λ h. h.0) (claims e.target 1 e.inputs)) λ o.
          then_keeps M (edge_case e o) _ (from M _ (λ h. (h.0.0, h.1)) (edge_case_named e o)) λ c.
          then_keeps M (target_regions g claim es) _ (from M _ (λ h. h.0.0.1) (targets_named es)) λ cs. give_keeps M _
          (λ h. (h.0.1, h.1))

      module _ (before : DeferredEdgeBundleSet) (e : DeferredEdgeBundle) (es : DeferredEdgeBundleSet)
          (later : KeepsNamed M (SetNamed M (before ++ (e ∷ [])) × SetNamed M es) SplitMaybe
          (split_out_matching g claim (before ++ (e ∷ [])) es)) where
        abbrev Before : Type 0
        Before = SetNamed M before × SetNamed M (e ∷ es)

        abbrev more : Step (Option SplitOut)
        more = split_out_matching g claim (before ++ (e ∷ [])) es

        rest : KeepsNamed M Before SplitMaybe more
        rest = from M more (λ h. (all_append (BundleNamed M) before (e ∷ []) h.0 (h.1.0, tt), h.1.1)) later

        by_claim : (o : Option ClaimedRegion) → KeepsNamed M (Before × ClaimMaybe o) SplitMaybe (split_out_or e (before ++ es) more o)
        by_claim none = from M more (λ h. h.0) rest
        by_claim (some c) = give_keeps M _ (λ h. (h.0.1.0, h.1, all_append (BundleNamed M) before es h.0.0 h.0.1.1))

        by_target : (t : DeferredTarget) → KeepsNamed M Before SplitMaybe
            (elim t as (λ t. Step (Option SplitOut)) [
              | to_return ↦ more
              | to_region r ↦ claim r e.accumulated_count e.target_inputs
                  >>= split_out_or e (before ++ es) more
            ])
        by_target to_return = rest
        by_target (to_region r) =
            then_keeps M (claim r e.accumulated_count e.target_inputs) _
            (from M _ (λ h. h.1.0.0) (claims r e.accumulated_count e.target_inputs)) by_claim

      scan_named : (before d : DeferredEdgeBundleSet) → KeepsNamed M (SetNamed M before × SetNamed M d) SplitMaybe
          (split_out_matching g claim before d)
      unfolding split_out_matching
      scan_named before [] = give_keeps M none (λ h. tt)
      scan_named before (e ∷ es) = by_target before e es (scan_named (before ++ (e ∷ [])) es) e.target

      resolve_named : (fuel : ℕ) (x : Body) → KeepsNamed M (BodyNamed M x) (BodyNamed M) (resolve_deferred g claim fuel x)
      unfolding resolve_deferred
      resolve_named zero x = give_keeps M x (λ h. h)
      resolve_named (suc fuel) x =
          then_keeps M (split_out_matching g claim [] x.deferred_edges) _
          (from M _ (λ h. (tt, h.1)) (scan_named [] x.deferred_edges)) (by λ z. resolve_named fuel z)
        where
          by : ((z : Body) → KeepsNamed M (BodyNamed M z) (BodyNamed M) (resolve_deferred g claim fuel z))
              → (o : Option SplitOut) → KeepsNamed M (BodyNamed M x × SplitMaybe o) (BodyNamed M)
              (resolve_by g (λ y. resolve_deferred g claim fuel y) x o)
          by later none = give_keeps M x (λ h. h.0)
          by later (some y) =
              then_keeps M (structurize_select_into g x.children bool_cond (lazy (condition_in x.deferred_edges y.bundle))
              (ok y.claimed_region ∷ err y.others ∷ [])) _
              (from M _ (λ h. (h.0.0, condition_named M x.deferred_edges y.bundle h.1.0, (h.1.1, (h.1.2, tt))))
              (select_into_named M g x.children bool_cond (lazy (condition_in x.deferred_edges y.bundle))
              (ok y.claimed_region ∷ err y.others ∷ []))) λ z.
              from M _ (λ h. h.1) (later z)

      region_named : {P : Type 0} (r : ℕ) → KeepsNamed M P (λ u. Unit) (structurize_region g claim r)
      unfolding structurize_region
      region_named r =
          next_keeps M (set_state r in_progress) _ (from M _ (λ h. tt) (set_state_named r in_progress))
          (then_keeps M (target_regions g claim (edges_of (region g r).terminator)) _
          (from M _ (λ h. edges_named (region g r).terminator (each r).terminator)
          (targets_named (edges_of (region g r).terminator))) λ cs.
          then_keeps M (by_control_inst g (blocks_of g r) (region g r).terminator cs) _
          (from M _ (λ h. (
            blocks_named (block_count (take r g.regions)) r 0 (region g r).blocks (each r).blocks,
            (each r).terminator,
            h.1,
          )) (control_named (blocks_of g r) (region g r).terminator cs)) λ x.
          then_keeps M (resolve_deferred g claim (length g.regions) x) _
          (from M _ (λ h. h.1) (resolve_named (length g.regions) x)) λ y.
          from M _ (λ h. (h.1.0, h.1.1)) (set_state_named r (ready (count_to r y.deferred_edges) y.children y.deferred_edges)))

      begin_named : {P : Type 0} (x : StructurizeRegionState) (r : ℕ) → KeepsNamed M P (λ u. Unit) (begin x (structurize_region g claim r))
      begin_named not_begun r = region_named r
      begin_named in_progress r = give_keeps M tt (λ h. tt)
      begin_named claimed r = give_keeps M tt (λ h. tt)
      begin_named (ready b ks d) r = give_keeps M tt (λ h. tt)

    pub try_claim_named : (counts : List IncomingEdgeCount) (fuel : ℕ) → ClaimsNamed (try_claim_edge_bundle g counts fuel)
    unfolding try_claim_edge_bundle
    try_claim_named counts zero r n ins = refusal_named never r
    try_claim_named counts (suc fuel) r n ins =
        then_keeps M (count_attempt >> get_state r >>= λ x. begin x
        (structurize_region g (λ r' n' ins'. try_claim_edge_bundle g counts fuel r' n' ins') r) >> get_state r) _
        (then_keeps M (count_attempt >> get_state r) _
        (next_keeps M count_attempt (get_state r) count_attempt_named (get_state_named r)) λ x.
        next_keeps M (begin x (structurize_region g (λ r' n' ins'. try_claim_edge_bundle g counts fuel r' n' ins') r)) (get_state r)
        (begin_named _ (try_claim_named counts fuel) x r) (get_state_named r)) λ x.
        from M _ (λ h. (h.0, h.1)) (claim_by_state_named g r n ins (get_or counts r 0) x)
