-- No step leaves more regions not begun, or more unclaimed; a claim that succeeds leaves one fewer unclaimed.
use Rattle.std.specs.Prelude.{◌≡◌, ◌⊎◌, Bool, true, false, get_or, eqb}
use Rattle.std.proofs.Math.Path.{refl}
use Rattle.std.proofs.Common.{sym, ap, ◌∙◌, inl, inr, length-set}
use mathlib.Core.List.{List, [], ◌∷◌, ◌++◌}
use Rattle.std.proofs.Math.Option.{Option, none, some}
use Prim.Native.Nat.{ℕ, zero, suc, ◌+◌, ◌≤◌, ◌<◌}
use native.Mathlib.Omega.{arith}
use Rattle.std.proofs.Math.ListN.{length, get_or-eq_default}
use Rattle.std.proofs.Math.Seq.{set_out}
use Rattle.meaning.specs.Graph.{Value, bool_cond, Edge, Graph, region, edges_of}
use Rattle.nesting.specs.Nesting.{DeferredTarget, to_region, to_return, DeferredEdgeBundleSet, IncomingEdgeCount}
use Rattle.nesting.specs.Nesting.{StructurizeRegionState, not_begun, in_progress, claimed, ready, NestState, Step, give, turn_away}
use Rattle.nesting.specs.Nesting.{follow, ◌>>=◌, ◌>>◌, get_state, set_state, condition_in, count_to, ClaimedRegion, ok, err, lazy}
use Rattle.nesting.specs.Nesting.{Body, convergent_cases, blocks_of, Claim, SplitOut, backedge_of, edge_case, split_out_or, begin}
use Rattle.nesting.specs.Nesting.{claim_body, claim_by_state, by_control_inst, resolve_by, target_regions, split_out_matching}
use Rattle.nesting.specs.Nesting.{resolve_deferred, structurize_region, try_claim_edge_bundle, add_attempt}
use Rattle.nesting.specs.steps.Post.{Post, map_post, bind}
use Rattle.nesting.proofs.steps.Keeps.{structurize_select_by_keeps, claim_body_keeps, by_control_inst_keeps}
use Rattle.nesting.specs.steps.StatesKept.{KeepsStates}
use Rattle.nesting.proofs.steps.StatesSteady.{states_kept_steady, states_kept_log}
use Rattle.nesting.specs.steps.RegionsLeft.{state_of, with_state, not_begun_one, unclaimed_one, count_states, count_set}
use Rattle.nesting.specs.steps.RegionsLeft.{FewerUnclaimed}
use Rattle.nesting.specs.steps.RegionsLeft.{fewer_refl, fewer_then, fewer_less, fewer_still, AnyRefusal, claimed_count, ClaimFewer}
use Rattle.meaning.specs.facts.Tests.{in_or_out}
use Rattle.format.specs.Refusals.{never}

module _ (g : Graph) (claim : Claim) (claim_fewer : ClaimFewer claim) where
  edge_case_fewer : (e : Edge) (o : Option ClaimedRegion) (s : NestState)
      → Post AnyRefusal (λ c s'. FewerUnclaimed 0 s s') (edge_case e o s)
  edge_case_fewer e none s = record { post = fewer_refl s }
  edge_case_fewer e (some c) s = record { post = fewer_refl s }

  pub target_regions_fewer : (es : List Edge) (s : NestState)
      → Post AnyRefusal (λ cs s'. FewerUnclaimed 0 s s') (target_regions g claim es s)
  unfolding target_regions
  target_regions_fewer [] s = record { post = fewer_refl s }
  target_regions_fewer (e ∷ es) s =
      bind (claim e.target 1 e.inputs s) _ (claim_fewer e.target 1 e.inputs s) λ o s₁ a.
      bind (edge_case e o s₁) _ (edge_case_fewer e o s₁) λ c s₂ b.
      bind (target_regions g claim es s₂) _ (target_regions_fewer es s₂) λ cs s₃ d.
      record { post = fewer_then (fewer_less a) (fewer_then b d) }

  pub split_out_fewer : (before d : DeferredEdgeBundleSet) (s : NestState)
      → Post AnyRefusal (λ o s'. FewerUnclaimed (claimed_count o) s s') (split_out_matching g claim before d s)
  unfolding split_out_matching
  split_out_fewer before [] s = record { post = fewer_refl s }
  split_out_fewer before (e ∷ es) s = go e.target (λ s₁. split_out_fewer (before ++ (e ∷ [])) es s₁)
    where
      more : Step (Option SplitOut)
      more = split_out_matching g claim (before ++ (e ∷ [])) es

      by : ((s₁ : NestState) → Post AnyRefusal (λ o s'. FewerUnclaimed (claimed_count o) s₁ s') (more s₁))
          → (o : Option ClaimedRegion) (s₁ : NestState)
          → FewerUnclaimed (claimed_count o) s s₁
          → Post AnyRefusal (λ y s'. FewerUnclaimed (claimed_count y) s s') (split_out_or e (before ++ es) more o s₁)
      by ih none s₁ a = map_post (more s₁) (ih s₁) λ y s' h. fewer_then a h
      by ih (some c) s₁ a = record { post = a }

      go : (x : DeferredTarget) → ((s₁ : NestState) → Post AnyRefusal (λ o s'. FewerUnclaimed (claimed_count o) s₁ s') (more s₁))
          → Post AnyRefusal (λ o s'. FewerUnclaimed (claimed_count o) s s')
          (let y : Step (Option SplitOut) =
          elim x [
            | to_return ↦ more
            | to_region r ↦ claim r e.accumulated_count e.target_inputs
                >>= split_out_or e (before ++ es) more
          ] in y s)
      go to_return ih = ih s
      go (to_region r) ih =
          bind (claim r e.accumulated_count e.target_inputs s) _
          (claim_fewer r e.accumulated_count e.target_inputs s) λ o s₁ a. by ih o s₁ a

  resolve_by_fewer : (go : Body → Step Body) → ((x : Body) (s : NestState) → Post AnyRefusal (λ y s'. FewerUnclaimed 0 s s') (go x s))
      → (x : Body) (o : Option SplitOut) (s : NestState)
      → Post AnyRefusal (λ y s'. FewerUnclaimed 0 s s') (resolve_by g go x o s)
  resolve_by_fewer go h x none s = record { post = fewer_refl s }
  resolve_by_fewer go h x (some y) s =
      let cs = ok y.claimed_region ∷ err y.others ∷ [] in
      bind _ go (structurize_select_by_keeps states_kept_steady AnyRefusal tt states_kept_log g x.children bool_cond
      (lazy (condition_in x.deferred_edges y.bundle)) cs (convergent_cases cs) s) λ x' s₁ q.
      map_post (go x' s₁) (h x' s₁) λ z s₂ f. fewer_then (fewer_still q) f

  pub resolve_fewer : (fuel : ℕ) (x : Body) (s : NestState)
      → Post AnyRefusal (λ y s'. FewerUnclaimed 0 s s') (resolve_deferred g claim fuel x s)
  unfolding resolve_deferred
  resolve_fewer zero x s = record { post = fewer_refl s }
  resolve_fewer (suc fuel) x s =
      bind (split_out_matching g claim [] x.deferred_edges s) _ (split_out_fewer [] x.deferred_edges s) λ o s₁ a.
      map_post _ (resolve_by_fewer (λ y. resolve_deferred g claim fuel y) (λ y s₂. resolve_fewer fuel y s₂) x o s₁) λ y s₂ b. fewer_then
      (fewer_less a) b

  -- Of a region that was not begun: its own state leaves `not_begun`, and comes back as ready at most.
  module _ (r : ℕ) (s : NestState) (new : state_of s r ≡ not_begun) where
    abbrev under_way : NestState
    under_way = with_state s r in_progress

    ended : (x : StructurizeRegionState) → not_begun_one x ≡ 0 → unclaimed_one x ≤ 1 → {s₁ : NestState} → FewerUnclaimed 0 under_way s₁
        → (r < length s.region_states) ⊎ (length s.region_states ≤ r)
        → FewerUnclaimed 0 s (with_state s₁ r x)
    ended x p q {s₁} a (inl h) =
        let len = length-set s.region_states r in_progress in
        let h₁ : r < length s₁.region_states = let z = a.length in omega arith in
        let b = count_set not_begun_one s.region_states r in_progress h in
        let c = count_set unclaimed_one s.region_states r in_progress h in
        let b₁ = count_set not_begun_one s₁.region_states r x h₁ in
        let c₁ = count_set unclaimed_one s₁.region_states r x h₁ in
        let u = ap unclaimed_one new in
        record {
          length = length-set s₁.region_states r x ∙ a.length ∙ len;
          not_begun = let y = a.not_begun in omega arith;
          unclaimed = let y = a.unclaimed in omega arith;
        }
    ended x p q {s₁} a (inr h) =
        let len = length-set s.region_states r in_progress in
        let e = set_out s.region_states r in_progress h in
        let e₁ = set_out s₁.region_states r x (let z = a.length in omega arith) in
        let b = ap (count_states not_begun_one) e in
        let c = ap (count_states unclaimed_one) e in
        let b₁ = ap (count_states not_begun_one) e₁ in
        let c₁ = ap (count_states unclaimed_one) e₁ in
        record {
          length = length-set s₁.region_states r x ∙ a.length ∙ len;
          not_begun = let y = a.not_begun in omega arith;
          unclaimed = let y = a.unclaimed in omega arith;
        }

    pub structurize_region_fewer : Post AnyRefusal (λ u s'. FewerUnclaimed 0 s s') (structurize_region g claim r s)
    unfolding structurize_region
    structurize_region_fewer =
        bind (target_regions g claim (edges_of (region g r).terminator) under_way) _
        (target_regions_fewer (edges_of (region g r).terminator) under_way) λ cs s₁ a.
        bind (by_control_inst g (blocks_of g r) (region g r).terminator cs s₁) _
        (by_control_inst_keeps states_kept_steady AnyRefusal tt states_kept_log g (blocks_of g r) (region g r).terminator cs s₁) λ x s₂ b.
        bind (resolve_deferred g claim (length g.regions) x s₂) _ (resolve_fewer (length g.regions) x s₂) λ y s₃ c.
        record {
          post = ended (ready (count_to r y.deferred_edges) y.children y.deferred_edges) refl (omega arith)
              (fewer_then a (fewer_then (fewer_still b) c)) (in_or_out r (length s.region_states));
        }

  pub begin_fewer : (r : ℕ) (s : NestState) (x : StructurizeRegionState) → state_of s r ≡ x
      → Post AnyRefusal (λ u s'. FewerUnclaimed 0 s s') (begin x (structurize_region g claim r) s)
  begin_fewer r s not_begun p = structurize_region_fewer r s p
  begin_fewer r s in_progress p = record { post = fewer_refl s }
  begin_fewer r s claimed p = record { post = fewer_refl s }
  begin_fewer r s (ready b children d) p = record { post = fewer_refl s }

module _ (g : Graph) (counts : List IncomingEdgeCount) where
  claim_by_state_fewer : (r n : ℕ) (inputs : List Value) (incoming : ℕ) (s : NestState) (x : StructurizeRegionState) → state_of s r ≡ x
      → Post AnyRefusal (λ o s'. FewerUnclaimed (claimed_count o) s s') (claim_by_state g r n inputs incoming x s)
  claim_by_state_fewer r n inputs incoming s not_begun p = record { post = tt }
  claim_by_state_fewer r n inputs incoming s claimed p = record { post = tt }
  claim_by_state_fewer r n inputs incoming s in_progress p = go (eqb incoming n)
    where
      go : (b : Bool) → Post {A = Option ClaimedRegion} AnyRefusal (λ o s'. FewerUnclaimed (claimed_count o) s s')
          (let y : Step (Option ClaimedRegion) = elim b [ false ↦ give none | true ↦ turn_away never r ] in y s)
      go false = record { post = fewer_refl s }
      go true = record { post = tt }
  claim_by_state_fewer r n inputs incoming s (ready b children d) p = go (eqb incoming (n + b))
    where
      here : FewerUnclaimed 1 s (with_state s r claimed)
      here = by (in_or_out r (length s.region_states))
        where
          by : (r < length s.region_states) ⊎ (length s.region_states ≤ r) → FewerUnclaimed 1 s (with_state s r claimed)
          by (inl h) =
              let u = count_set not_begun_one s.region_states r claimed h in
              let v = count_set unclaimed_one s.region_states r claimed h in
              let w = ap unclaimed_one p in
              record { length = length-set s.region_states r claimed; not_begun = omega arith; unclaimed = omega arith }
          by (inr h) = let z : not_begun ≡ ready b children d = sym (get_or-eq_default s.region_states not_begun h) ∙ p in
              let y : ◌≡◌ {A = ℕ} 0 1 = cc in absurd (omega arith)

      after : (o : Option ClaimedRegion) (s' : NestState) → KeepsStates (with_state s r claimed) s' → FewerUnclaimed (claimed_count o) s s'
      after none s' q = fewer_then (fewer_less here) (fewer_still q)
      after (some c) s' q = let z = fewer_still q in let y = here in
          record { length = z.length ∙ y.length; not_begun = omega arith; unclaimed = omega arith }

      go : (x : Bool) → Post {A = Option ClaimedRegion} AnyRefusal (λ o s'. FewerUnclaimed (claimed_count o) s s')
          (let y : Step (Option ClaimedRegion) =
          elim x [ false ↦ give none | true ↦ set_state r claimed >> claim_body g r inputs children d (backedge_of r b d) ] in y s)
      go false = record { post = fewer_refl s }
      go true = map_post _ (claim_body_keeps states_kept_steady AnyRefusal tt states_kept_log g r inputs children d
          (backedge_of r b d) _) after

  pub claim_fewer : (fuel : ℕ) → ClaimFewer (try_claim_edge_bundle g counts fuel)
  unfolding try_claim_edge_bundle
  claim_fewer zero r n inputs s = record { post = tt }
  claim_fewer (suc fuel) r n inputs s =
      let claim : Claim = λ r' n' inputs'. try_claim_edge_bundle g counts fuel r' n' inputs' in
      let tried : FewerUnclaimed 0 s (add_attempt s) = record { length = refl; not_begun = omega arith; unclaimed = omega arith } in
      bind (follow (begin (state_of s r) (structurize_region g claim r) (add_attempt s)) (λ u. get_state r))
      (claim_by_state g r n inputs (get_or counts r 0))
      (bind {P' = λ x s₁. FewerUnclaimed 0 s s₁ × (state_of s₁ r ≡ x)} (begin (state_of s r) (structurize_region g claim r) (add_attempt s))
      (λ u. get_state r)
      (begin_fewer g claim (claim_fewer fuel) r (add_attempt s) (state_of s r) refl) λ u s₁ a. record { post = (fewer_then tried a, refl) })
      λ x s₁ a. map_post _ (claim_by_state_fewer r n inputs (get_or counts r 0) s₁ x a.1) λ o s₂ b. fewer_then a.0 b
