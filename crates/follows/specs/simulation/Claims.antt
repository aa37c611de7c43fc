-- The invariant through structurize_region and try_claim_edge_bundle.
use Rattle.std.specs.Prelude.{Bool, false, true, List, ◌≡◌, eqb, get_or, length}
use Rattle.std.proofs.Math.Option.{Option, none, some}
use Rattle.std.proofs.Common.{◌∙◌, subst, sym, arith}
use Rattle.std.proofs.Math.Path.{refl}
use Prim.Native.Nat.{◌<◌, suc, zero, ℕ}
use Rattle.std.proofs.lemmas.List.{length-replicate}
use Rattle.meaning.specs.Runs.{Nodes}
use Rattle.meaning.specs.Graph.{Value, edges_of, region}
use Rattle.meaning.specs.facts.Tests.{clash}
use Rattle.nesting.specs.Nesting.{DeferredEdgeBundleSet, initial_state, blocks_of, count_to, ClaimedRegion, get_state, Claim, begin}
use Rattle.nesting.specs.Nesting.{by_control_inst, claim_by_state, resolve_deferred, structurize_region, target_regions}
use Rattle.nesting.specs.Nesting.{try_claim_edge_bundle, IncomingEdgeCount, NestState, StructurizeRegionState, claimed, follow, give}
use Rattle.nesting.specs.Nesting.{in_progress, not_begun, ready, turn_away, add_attempt}
use Rattle.nesting.proofs.lookups.Contexts.{itself}
use Rattle.nesting.specs.steps.RegionsLeft.{all_not_begun, state_of}
use Rattle.nesting.specs.steps.Post.{bind, map_post}
use Rattle.follows.specs.counting.Reach.{target_reachable}
use Rattle.follows.specs.simulation.ValidUse.{edges_of_usable}
use Rattle.follows.specs.simulation.Key.{of_instr}
use Rattle.follows.specs.simulation.World.{Live, World, size}
use Rattle.follows.specs.simulation.Defined.{Grew, IfDone}
use Rattle.follows.specs.simulation.Invariant.{Free, Inv, LaterState, idle, inv_grew, later_grew, later_refl, later_state_then, new}
use Rattle.follows.specs.simulation.Invariant.{old}
use Rattle.follows.specs.simulation.Invariant.{waiting}
use Rattle.follows.specs.simulation.StateChanges.{blocks_own, changed, inv_busy, later_busy, now, owned_was}
use Rattle.follows.specs.simulation.ClaimedRegions.{Doing, doing_on, inv_ready, later_ready}
use Rattle.follows.specs.simulation.ClaimReady.{ClaimDone, at_state, claim_ready_post}
use Rattle.follows.specs.simulation.TargetRegions.{ClaimOk, cases_back, in_targets, since_back, target_regions_post}
use Rattle.follows.specs.simulation.ByTerminator.{by_control_inst_post}
use Rattle.follows.specs.simulation.Scan.{resolve_deferred_post}
use Rattle.meaning.specs.facts.Elements.{extends_refl}
use Rattle.format.specs.Refusals.{never}

module _ (W : World) where
  not_free : (r : ℕ) (r_in : r < size W) (s : NestState) (inv : Inv W s) → state_of s r ≡ not_begun → (was : idle (state_of s r) ≡ true)
      → Free (changed W s r in_progress inv r_in) (of_instr r) → ⊥
  not_free r r_in s inv fresh was (new n) = let z : in_progress ≡ not_begun = sym (now W s r in_progress inv r_in) ∙ n in clash (cc)
  not_free r r_in s inv fresh was (old o) = inv.fresh (of_instr r) (owned_was W s r in_progress inv r_in was refl (of_instr r) o) fresh

  pub first_doing : (r : ℕ) (r_in : r < size W) (s : NestState) (inv : Inv W s) → state_of s r ≡ not_begun
      → Doing W s r (blocks_of W.g r) (changed W s r in_progress inv r_in)
  first_doing r r_in s inv fresh =
      let was : idle (state_of s r) ≡ true = rw fresh in
      record {
        in_range = r_in;
        inv = inv_busy W s r in_progress inv r_in was refl;
        step = later_busy W s r in_progress inv r_in was refl;
        began = fresh;
        busy = now W s r in_progress inv r_in;
        unrewritten = inv.unrewritten r (waiting r_in was);
        since = λ v o. rw (blocks_own _ r 0 (region W.g r).blocks v o) (new fresh);
        clear = λ v o w. not_free r r_in s inv fresh was
            (subst (λ z. Free (changed W s r in_progress inv r_in) z) (blocks_own _ r 0 (region W.g r).blocks v o) w);
      }

  -- ---- a region is structurized
  pub structurize_region_post : (cl : Claim) → ClaimOk W cl → (r : ℕ) → r < size W → Live W r → (s : NestState) → Inv W s
      → state_of s r ≡ not_begun
      → IfDone (λ u s'. Inv W s' × LaterState W s s') (structurize_region W.g cl r s)
  unfolding structurize_region
  structurize_region_post cl cl_ok r r_in lv s inv fresh =
      let tm = (region W.g r).terminator in
      let tok = W.valid.terminator r r_in in
      let s₁ : NestState = changed W s r in_progress inv r_in in
      let dg₁ : Doing W s r (blocks_of W.g r) s₁ = first_doing r r_in s inv fresh in
      bind (target_regions W.g cl (edges_of tm) s₁) _
      (target_regions_post W cl cl_ok s r (edges_of tm) (edges_of_usable W.g r tm tok)
      (λ ed i. target_reachable W.g r ed.target lv (in_targets W (edges_of tm) ed i)) s₁ dg₁) λ cs s₂ cd.
      bind (by_control_inst W.g (blocks_of W.g r) tm cs s₂) _
      (by_control_inst_post W s r s₂ (doing_on W dg₁ cd.inv cd.step) cs (cases_back W dg₁.step cd.is) tm refl tok cd.len
      cd.enters) λ x s₃ cm.
      bind (resolve_deferred W.g cl (length W.g.regions) x s₃) _
      (resolve_deferred_post W cl cl_ok s r (length W.g.regions) x s₃ cm) λ y s₄ cm₄.
      record {
        post = (
          inv_ready W s s₄ r (count_to r y.deferred_edges) y.children y.deferred_edges cm₄,
          later_ready W s s₄ r (count_to r y.deferred_edges) y.children y.deferred_edges cm₄,
        );
      }

  -- ---- a claim
  claim_by_state_post : (r n inc : ℕ) (ins : List Value) (s : NestState) → Inv W s → r < size W → (x : StructurizeRegionState)
      → state_of s r ≡ x
      → IfDone (ClaimDone W r ins s) (claim_by_state W.g r n ins inc x s)
  claim_by_state_post r n inc ins s inv r_in not_begun p = record { post = tt }
  claim_by_state_post r n inc ins s inv r_in claimed p = record { post = tt }
  claim_by_state_post r n inc ins s inv r_in (ready b ks d) p = claim_ready_post W s r b ks d inv r_in p n inc ins
  claim_by_state_post r n inc ins s inv r_in in_progress p = go (eqb inc n)
    where
      go : (o : Bool) → IfDone (ClaimDone W r ins s)
          (at_state {A = Option ClaimedRegion} (elim o [ false ↦ give none | true ↦ turn_away never r ]) s)
      go false = record { post = record { inv = inv; step = later_refl W s; got = tt } }
      go true = record { post = tt }

  done_back : (r : ℕ) (ins : List Value) (s s₁ : NestState) → LaterState W s s₁ → (o : Option ClaimedRegion) (s' : NestState)
      → ClaimDone W r ins s₁ o s' → ClaimDone W r ins s o s'
  done_back r ins s s₁ st none s' cd = record { inv = cd.inv; step = later_state_then W st cd.step; got = tt }
  done_back r ins s s₁ st (some c) s' cd =
      record {
        inv = cd.inv;
        step = later_state_then W st cd.step;
        got = record {
          holds = cd.got.holds;
          since = since_back W st cd.got.since;
          origin = cd.got.origin;
          inputs =
              cd.got.inputs;
        };
      }

  pub claim_post : (counts : List IncomingEdgeCount) (d : ℕ) → ClaimOk W (try_claim_edge_bundle W.g counts d)
  unfolding try_claim_edge_bundle
  claim_post counts zero r n ins s inv r_in lv = record { post = tt }
  claim_post counts (suc d) r n ins s inv r_in lv =
      let s₁ : NestState = add_attempt s in
      let gr : Grew s s₁ = record {
        outputs = extends_refl s.node_outputs;
        rewrites = refl;
        region_states = refl;
        regions =
            omega arith;
        node_count = omega arith;
      } in
      let inv₁ = inv_grew W gr inv in
      bind {P = Found₁ s₁} (follow
      (begin (state_of s r) (structurize_region W.g (λ r' n' ins'. try_claim_edge_bundle W.g counts d r' n' ins') r) s₁)
      (λ u. get_state r)) _
      (bind (begin (state_of s r) (structurize_region W.g (λ r' n' ins'. try_claim_edge_bundle W.g counts d r' n' ins') r) s₁)
      (λ u. get_state r)
      (begun s₁ inv₁ (λ r' n' ins' s' i l m. claim_post counts d r' n' ins' s' i l m) (state_of s r) refl) λ u s₂ st. record {
        post =
            (refl, st.0, st.1);
      }) λ x s₂ st.
      map_post (claim_by_state W.g r n ins (get_or counts r 0) x s₂)
      (claim_by_state_post r n (get_or counts r 0) ins s₂ st.1 r_in x (sym st.0)) λ o s₃ cd.
      done_back r ins s s₂ (later_state_then W (later_grew W gr) st.2) o s₃ cd
    where
      Found₁ : NestState → StructurizeRegionState → NestState → Type 0
      Found₁ s₁ x s₂ = (x ≡ state_of s₂ r) × Inv W s₂ × LaterState W s₁ s₂

      begun : (s₁ : NestState) → Inv W s₁ → ClaimOk W (λ r' n' ins'. try_claim_edge_bundle W.g counts d r' n' ins')
          → (x : StructurizeRegionState) → state_of s₁ r ≡ x
          → IfDone (λ u s₂. Inv W s₂ × LaterState W s₁ s₂)
          (begin x (structurize_region W.g (λ r' n' ins'. try_claim_edge_bundle W.g counts d r' n' ins') r) s₁)
      begun s₁ inv₁ ih not_begun p =
          structurize_region_post (λ r' n' ins'. try_claim_edge_bundle W.g counts d r' n' ins') ih r r_in lv s₁ inv₁ p
      begun s₁ inv₁ ih in_progress p = record { post = (inv₁, later_refl W s₁) }
      begun s₁ inv₁ ih claimed p = record { post = (inv₁, later_refl W s₁) }
      begun s₁ inv₁ ih (ready b ks d') p = record { post = (inv₁, later_refl W s₁) }

  -- ---- the state at first
  pub at_first : Inv W (initial_state W.g)
  at_first = record {
    rooted = λ r. record { root = r; no_entry = refl; within = itself };
    sized = length-replicate (size W) not_begun;
    room = omega arith;
    sims = λ r b ks d p. absurd (not_ready r b ks d p);
    sets = λ r b ks d p. absurd (not_ready r b ks d p);
    disjoint = λ r r' b b' ks ks' d d' p p' ne κ o o'. not_ready r b ks d p;
    fresh = λ κ o n. not_ready o.region o.back o.children o.deferred_edges o.is;
    unrewritten = λ q l. refl;
  }
    where
      not_ready : (r b : ℕ) (ks : Nodes) (d : DeferredEdgeBundleSet) → state_of (initial_state W.g) r ≡ ready b ks d → ⊥
      not_ready r b ks d p = let z : not_begun ≡ ready b ks d = sym (all_not_begun (size W) r) ∙ p in clash (cc)
