-- A region's edges, its terminator and the scans of its deferred set, counted, over any way to claim that is counted.
use Rattle.std.specs.Prelude.{◌≡◌, Bool, true, false, ◌&&◌, not, length, eqb}
use Rattle.std.proofs.Math.Path.{refl}
use Rattle.std.proofs.Common.{sym, ap, ◌∙◌, arith, eqb-true, eq-eqb}
use mathlib.Core.List.{List, [], ◌∷◌, ◌++◌, map}
use Rattle.std.proofs.Math.Option.{Option, none, some}
use Prim.Native.Nat.{ℕ, zero, suc, ◌+◌, ◌≤◌}
use Rattle.meaning.specs.Graph.{Value, Edge, ControlInst, unreachable, return, exit_invocation, branch, select_branch}
use Rattle.meaning.specs.Runs.{Nodes}
use Rattle.meaning.specs.Lists.{is_in, empty, times_in, total, pick}
use Rattle.nesting.specs.Nesting.{DeferredTarget, to_region, to_return, DeferredEdgeBundle, DeferredEdgeBundleSet, StructurizeRegionState}
use Rattle.nesting.specs.Nesting.{not_begun, in_progress, claimed, ready, NestState, Step, ◌>>=◌, define_node, ClaimedRegion}
use Rattle.nesting.specs.Nesting.{MaybeClaimedRegion, err, value, Body, deferred_of, has_children, append_maybe_claimed_region}
use Rattle.nesting.specs.Nesting.{structurize_select_into, Claim, SplitOut, defer_edge, unclaimed_edge, edge_case, split_out_or}
use Rattle.nesting.specs.Nesting.{by_control_inst, target_regions, split_out_matching}
use Rattle.nesting.specs.steps.Post.{Post, map_post, bind}
use Rattle.nesting.proofs.steps.Keeps.{define_node_keeps}
use Rattle.nesting.specs.steps.StatesKept.{KeepsStates, states_kept_refl}
use Rattle.nesting.proofs.steps.StatesSteady.{states_kept_steady}
use Rattle.nesting.specs.steps.RegionsLeft.{state_of}
use Rattle.meaning.specs.facts.Sums.{total_one, total_add, total_less, total_each}
use Rattle.follows.specs.counting.Totals.{Measure, edge_total, totals, at, bundles_to, edges_to, to_regions, edgeless, SetFits}
use Rattle.follows.specs.counting.Totals.{FitsAll, total_append}
use Rattle.follows.specs.counting.SelectTotals.{SelectedTotals, append_total, select_into_total}
use Rattle.follows.specs.counting.Counting.{Counting, Nine, live_count, live_one, Good, CountInv, Pre, Counted, counted_then}
use Rattle.follows.specs.counting.Counting.{counted_as, counted_still, pre_after, pre_as}
use Rattle.follows.proofs.counting.CountClaim.{Claims, GoodClaim, in_hand, one_less}

module _ (K : Counting) where
  abbrev pub ClaimCounted : ℕ → Claim → Type 0
  ClaimCounted fuel claim =
      (q n : ℕ) (inputs : List Value) (H : ℕ → ℕ) (s : NestState) → is_in q K.live ≡ true → 1 ≤ n
      → Pre K fuel H (λ r. edges_to r (to_region q) n) s
      → Post Nine (λ o s'. Claims K 1 q n s o s') (claim q n inputs s)

  -- the edges to r among a region's own
  abbrev pub aims : List Edge → ℕ → ℕ
  aims es r = times_in r (map (λ e. e.target) es)

  abbrev pub AllLive : List Edge → Type 0
  AllLive [] = Unit
  AllLive (e ∷ es) = (is_in e.target K.live ≡ true) × AllLive es

  pub record CaseCounted (q : ℕ) (o : Option ClaimedRegion) (s : NestState) (c : MaybeClaimedRegion) (s' : NestState) : Type 0 where
    pub still : KeepsStates s s'
    pub kept : (r : ℕ) → edge_total (edges_to r) (deferred_of c) ≤ in_hand K q 1 o r
    pub good : Good K (deferred_of c)

  pub record CasesCounted (es : List Edge) (s : NestState) (cs : List MaybeClaimedRegion) (s' : NestState) : Type 0 where
    pub step : Counted K (length es) 0 (aims es) (λ r. totals (edges_to r) cs) s s'
    pub fits : FitsAll (live_one K) cs
    pub full : totals edgeless cs ≡ 0

  pub record BodyCounted (c : ℕ) (f : ℕ → ℕ) (s : NestState) (x : Body) (s' : NestState) : Type 0 where
    pub step : Counted K c 0 f (λ r. edge_total (edges_to r) x.deferred_edges) s s'
    pub good : Good K x.deferred_edges

  fits_one : (q : ℕ) → is_in q K.live ≡ true → (r : ℕ) → at r (to_region q) ≤ live_one K r
  fits_one q h r = go (eqb r q) refl
    where
      go : (b : Bool) → eqb r q ≡ b → pick b 1 0 ≤ live_one K r
      go true p = let z = eqb-true r q p in rw (z, h) (omega arith)
      go false p = omega arith

  good_empty : Good K []
  good_empty = record { fits = λ r. omega arith; full = refl }

  -- ---- edges
  deferred_good : (e : Edge) → is_in e.target K.live ≡ true → Good K (deferred_of (defer_edge e))
  deferred_good e h = record { fits = λ r. let z = fits_one e.target h r in omega arith; full = refl }

  unclaimed_counted : (e : Edge) (x : StructurizeRegionState) (s : NestState) → is_in e.target K.live ≡ true
      → CaseCounted e.target none s (unclaimed_edge e x) s
  unclaimed_counted e not_begun s h = record { still = states_kept_refl s; kept = λ r. omega arith; good = deferred_good e h }
  unclaimed_counted e in_progress s h = record { still = states_kept_refl s; kept = λ r. omega arith; good = deferred_good e h }
  unclaimed_counted e claimed s h = record { still = states_kept_refl s; kept = λ r. omega arith; good = deferred_good e h }
  unclaimed_counted e (ready b children d) s h = go (empty d && not (has_children children))
    where
      go : (x : Bool) → CaseCounted e.target none s (pick x (err []) (defer_edge e)) s
      go true = record { still = states_kept_refl s; kept = λ r. omega arith; good = good_empty }
      go false = record { still = states_kept_refl s; kept = λ r. omega arith; good = deferred_good e h }

  pub edge_case_counted : (e : Edge) (o : Option ClaimedRegion) (s : NestState) → is_in e.target K.live ≡ true
      → GoodClaim K e.target 1 o → Post Nine (λ c s'. CaseCounted e.target o s c s') (edge_case e o s)
  edge_case_counted e none s h g = record { post = unclaimed_counted e (state_of s e.target) s h }
  edge_case_counted e (some c) s h g = record { post = record { still = states_kept_refl s; kept = λ r. omega arith; good = g } }

  pub selected_counted : (s : NestState) (cs : List MaybeClaimedRegion) (x : Body) (s' : NestState) → CountInv K s.region_states
      → FitsAll (live_one K) cs → totals edgeless cs ≡ 0
      → SelectedTotals s cs s' x.deferred_edges → BodyCounted 0 (λ r. totals (edges_to r) cs) s x s'
  selected_counted s cs x s' i fi fu y = record {
    step = counted_still K y.still i y.chosen.edges;
    good = record { fits = y.chosen.fits (live_one K) fi; full = let z = y.chosen.edgeless in omega arith };
  }

  pub by_control_inst_counted : (parent : Nodes) (x : ControlInst) (cs : List MaybeClaimedRegion) (s : NestState)
      → CountInv K s.region_states → FitsAll (live_one K) cs → totals edgeless cs ≡ 0
      → Post Nine (λ y s'. BodyCounted 0 (λ r. totals (edges_to r) cs) s y s') (by_control_inst K.g parent x cs s)
  by_control_inst_counted parent unreachable cs s i fi fu =
      record { post = record { step = counted_still K (states_kept_refl s) i (λ r. omega arith); good = good_empty } }
  by_control_inst_counted parent (return vs) cs s i fi fu =
      record {
        post = record {
          step = counted_still K (states_kept_refl s) i (λ r. omega arith);
          good =
              record { fits = λ r. omega arith; full = refl };
        };
      }
  by_control_inst_counted parent (exit_invocation op vs) cs s i fi fu =
      bind (define_node s) _
      (define_node_keeps states_kept_steady Nine (refl, refl) s) λ n s₁ q. record {
        post =
            record { step = counted_still K q i (λ r. omega arith); good = good_empty };
      }
  by_control_inst_counted parent (branch e) [] s i fi fu =
      record { post = record { step = counted_still K (states_kept_refl s) i (λ r. omega arith); good = good_empty } }
  by_control_inst_counted parent (branch e) (c ∷ cs) s i fi fu =
      map_post (append_maybe_claimed_region parent c s) (append_total Nine (refl, refl) K.g parent c s) λ y s₁ q.
      record {
        step = counted_still K q.0 i (λ r. let z = ap (edge_total (edges_to r)) q.1 in omega arith);
        good =
            rw q.1 (record { fits = fi.0; full = omega arith });
      }
  by_control_inst_counted parent (select_branch kind v es) cs s i fi fu =
      map_post (structurize_select_into K.g parent kind (value v) cs s)
      (select_into_total Nine (refl, refl) K.g parent kind (value v) cs s) λ y s₁ q. selected_counted s cs y s₁ i fi fu q

  -- ---- a scan makes one attempt for each region in the set, and these are no more than the live regions
  pub live_of : (q : ℕ) → 1 ≤ live_one K q → is_in q K.live ≡ true
  live_of q h = go (is_in q K.live) h
    where
      go : (b : Bool) → 1 ≤ pick b 1 0 → b ≡ true
      go true x = refl
      go false x = absurd (omega arith)

  regions_sum : (d : DeferredEdgeBundleSet) → SetFits (live_one K) d
      → edge_total to_regions d ≤ total (λ i. edge_total (bundles_to i) d) K.live
  regions_sum [] h = omega arith
  regions_sum (e ∷ es) h =
      let z = regions_sum es (λ r. let y = h r in omega arith) in
      let w = total_add (λ i. at i e.target) (λ i. edge_total (bundles_to i) es) K.live in
      let v = here e.target e.accumulated_count (λ r. let y = h r in omega arith) in
      omega arith
    where
      here : (x : DeferredTarget) (n : ℕ) → ((r : ℕ) → at r x ≤ live_one K r) → to_regions x n ≤ total (λ i. at i x) K.live
      here (to_region q) n l =
          let z : at q (to_region q) ≡ 1 = rw (eq-eqb q q refl) in
          let y = l q in
          let w = total_one (λ i. at i (to_region q)) q K.live (live_of q (omega arith)) in
          omega arith
      here to_return n l = omega arith

  pub scan_few : (d : DeferredEdgeBundleSet) → SetFits (live_one K) d → edge_total to_regions d ≤ live_count K
  scan_few d h =
      let z = regions_sum d h in
      let y = total_less (λ i. edge_total (bundles_to i) d) (λ i. 1) (λ i. let a = h i in let b = one_less K i in omega arith) K.live in
      let x = total_each 1 K.live in
      omega arith

  abbrev pub scan_gain : Option SplitOut → ℕ
  scan_gain none = 0
  scan_gain (some y) = live_count K

  abbrev pub in_hand_scan : DeferredEdgeBundleSet → DeferredEdgeBundleSet → Option SplitOut → ℕ → ℕ
  in_hand_scan before d none r = edge_total (edges_to r) before + edge_total (edges_to r) d
  in_hand_scan before d (some y) r = edge_total (edges_to r) y.claimed_region.deferred_edges + edge_total (edges_to r) y.others

  abbrev pub GoodSplit : Option SplitOut → Type 0
  GoodSplit none = Unit
  GoodSplit (some y) = Good K y.claimed_region.deferred_edges × Good K y.others

  pub record ScanCounted (before d : DeferredEdgeBundleSet) (s : NestState) (o : Option SplitOut) (s' : NestState) : Type 0 where
    pub step : Counted K (edge_total to_regions d) (scan_gain o) (λ r. edge_total (edges_to r) before + edge_total (edges_to r) d)
        (λ r. in_hand_scan before d o r) s s'
    pub good : GoodSplit o

  last_one : (μ : Measure) (before : DeferredEdgeBundleSet) (e : DeferredEdgeBundle)
      → edge_total μ (before ++ (e ∷ [])) ≡ edge_total μ before + μ e.target e.accumulated_count
  last_one μ before e = let z = total_append μ before (e ∷ []) in omega arith

  passed : (before es : DeferredEdgeBundleSet) (e : DeferredEdgeBundle) (s s₁ : NestState) (o : Option SplitOut) (s' : NestState) (c : ℕ)
      → Counted K c 0 (λ r. edge_total (edges_to r) before + edge_total (edges_to r) (e ∷ es))
      (λ r. edge_total (edges_to r) before + edge_total (edges_to r) (e ∷ es)) s s₁ → c ≤ to_regions e.target e.accumulated_count
      → ScanCounted (before ++ (e ∷ [])) es s₁ o s' → ScanCounted before (e ∷ es) s o s'
  passed before es e s s₁ none s' c st l h = record {
    step = counted_then K st
        (counted_as K h.step (edge_total to_regions es) 0 (λ r. edge_total (edges_to r) before + edge_total (edges_to r) (e ∷ es))
        (λ r. edge_total (edges_to r) before + edge_total (edges_to r) (e ∷ es)) (omega arith) (λ r. omega arith)) (omega arith)
        (λ r. omega arith);
    good = tt;
  }
  passed before es e s s₁ (some y) s' c st l h = record {
    step = counted_then K st
        (counted_as K h.step (edge_total to_regions es) (live_count K)
        (λ r. edge_total (edges_to r) before + edge_total (edges_to r) (e ∷ es))
        (λ r. edge_total (edges_to r) y.claimed_region.deferred_edges + edge_total (edges_to r) y.others) (omega arith)
        (λ r. let z = last_one (edges_to r) before e in omega arith)) (omega arith) (λ r. omega arith);
    good = h.good;
  }

  pub count_pos : (q n : ℕ) → edgeless (to_region q) n ≡ 0 → 1 ≤ n
  count_pos q zero p = absurd (omega arith)
  count_pos q (suc n) p = omega arith

  -- What is left for the other targets once the first was claimed, or its edge deferred.
  pub record NextTarget (fuel : ℕ) (e : Edge) (es : List Edge) (H : ℕ → ℕ) (s : NestState) (c : MaybeClaimedRegion) (s₂ : NestState)
      : Type 0 where
    pub beside : Counted K 1 0 (aims (e ∷ es)) (λ r. edge_total (edges_to r) (deferred_of c) + aims es r) s s₂
    pub pre : Pre K fuel (λ r. edge_total (edges_to r) (deferred_of c) + H r) (aims es) s₂

  pub first_target : {fuel : ℕ} (e : Edge) (es : List Edge) (H : ℕ → ℕ) {s : NestState} → Pre K fuel H (aims (e ∷ es)) s
      → Pre K fuel (λ r. aims es r + H r) (λ r. edges_to r (to_region e.target) 1) s
  first_target e es H pre =
      pre_as K pre (λ r. aims es r + H r) (λ r. edges_to r (to_region e.target) 1) (λ r. omega arith) (λ r. omega arith)

  pub next_target : {fuel : ℕ} (e : Edge) (es : List Edge) (H : ℕ → ℕ) {s s₁ s₂ : NestState} {o : Option ClaimedRegion}
      {c : MaybeClaimedRegion} → Pre K fuel H (aims (e ∷ es)) s → Claims K 1 e.target 1 s o s₁ → CaseCounted e.target o s₁ c s₂
      → NextTarget fuel e es H s c s₂
  next_target e es H {s} {s₂} {c} pre x y =
      let this : Counted K 1 0 (λ r. edges_to r (to_region e.target) 1) (λ r. edge_total (edges_to r) (deferred_of c)) s s₂ =
      counted_then K x.step (counted_still K y.still x.step.inv y.kept) (omega arith) (λ r. omega arith) in
      let both = counted_as K this 1 0 (aims (e ∷ es)) (λ r. edge_total (edges_to r) (deferred_of c) + aims es r) (omega arith)
      (λ r. omega arith) in
      record {
        beside = both;
        pre = pre_as K (pre_after K pre both) (λ r. edge_total (edges_to r) (deferred_of c) + H r) (aims es) (λ r. omega arith)
            (λ r. omega arith);
      }

  module _ (fuel : ℕ) (claim : Claim) (claim_counted : ClaimCounted fuel claim) where
    pub target_regions_counted : (es : List Edge) (H : ℕ → ℕ) (s : NestState) → AllLive es → Pre K fuel H (aims es) s
        → Post Nine (λ cs s'. CasesCounted es s cs s') (target_regions K.g claim es s)
    unfolding target_regions
    target_regions_counted [] H s a pre =
        record { post = record { step = counted_still K (states_kept_refl s) pre.inv (λ r. omega arith); fits = tt; full = refl } }
    target_regions_counted (e ∷ es) H s (a, al) pre =
        bind (claim e.target 1 e.inputs s) _
        (claim_counted e.target 1 e.inputs (λ r. aims es r + H r) s a (omega arith) (first_target e es H pre)) λ o s₁ x.
        bind (edge_case e o s₁) _ (edge_case_counted e o s₁ a x.good) λ c s₂ y.
        let next = next_target e es H pre x y in
        let beside = next.beside in
        let pre₁ = next.pre in
        bind (target_regions K.g claim es s₂) _
        (target_regions_counted es (λ r. edge_total (edges_to r) (deferred_of c) + H r) s₂ al pre₁) λ cs s₃ z.
        record {
          post = record {
            step = counted_then K beside
                (counted_as K z.step (length es) 0 (λ r. edge_total (edges_to r) (deferred_of c) + aims es r)
                (λ r. totals (edges_to r) (c ∷ cs)) (omega arith) (λ r. omega arith)) (omega arith) (λ r. omega arith);
            fits = (y.good.fits, z.fits);
            full = let u = y.good.full in let v = z.full in omega arith;
          };
        }

    pub split_out_counted : (before d : DeferredEdgeBundleSet) (H : ℕ → ℕ) (s : NestState)
        → ((r : ℕ) → edge_total (bundles_to r) before + edge_total (bundles_to r) d ≤ live_one K r)
        → edge_total edgeless before + edge_total edgeless d ≡ 0
        → Pre K fuel H (λ r. edge_total (edges_to r) before + edge_total (edges_to r) d) s
        → Post Nine (λ o s'. ScanCounted before d s o s') (split_out_matching K.g claim before d s)
    unfolding split_out_matching
    split_out_counted before [] H s hs vo pre =
        record { post = record { step = counted_still K (states_kept_refl s) pre.inv (λ r. omega arith); good = tt } }
    split_out_counted before (e ∷ es) H s hs vo pre = go e.target refl λ s₁ p.
        split_out_counted (before ++ (e ∷ [])) es H s₁ (λ r. let z = last_one (bundles_to r) before e in let y = hs r in omega arith)
        (let z = last_one edgeless before e in omega arith)
        (pre_as K p H (λ r. edge_total (edges_to r) (before ++ (e ∷ [])) + edge_total (edges_to r) es)
        (λ r. let z = last_one (edges_to r) before e in omega arith) (λ r. omega arith))
      where
        f : ℕ → ℕ
        f r = edge_total (edges_to r) before + edge_total (edges_to r) (e ∷ es)

        more : Step (Option SplitOut)
        more = split_out_matching K.g claim (before ++ (e ∷ [])) es

        More : Type 0
        More = (s₁ : NestState) → Pre K fuel H f s₁ → Post Nine (λ o s'. ScanCounted (before ++ (e ∷ [])) es s₁ o s') (more s₁)

        go : (x : DeferredTarget) → e.target ≡ x → More
            → Post Nine (λ o s'. ScanCounted before (e ∷ es) s o s')
            (let y : Step (Option SplitOut) =
            elim x [
              | to_return ↦ more
              | to_region r ↦ claim r e.accumulated_count e.target_inputs
                  >>= split_out_or e (before ++ es) more
            ] in y s)
        go to_return p ih = map_post _ (ih s pre) λ o s' h. passed before es e s s o s' 0
            (counted_still K (states_kept_refl s) pre.inv (λ r. omega arith)) (omega arith) h
        go (to_region q) p ih =
            let same : (r : ℕ) → edges_to r e.target e.accumulated_count ≡ edges_to r (to_region q) e.accumulated_count =
            λ r. ap (λ y. edges_to r y e.accumulated_count) p in
            let here : at q e.target ≡ 1 = ap (at q) p ∙ rw (eq-eqb q q refl) in
            let full : edgeless (to_region q) e.accumulated_count ≡ edgeless e.target e.accumulated_count =
            ap (λ y. edgeless y e.accumulated_count) (sym p) in
            let cost : to_regions e.target e.accumulated_count ≡ 1 = ap (λ y. to_regions y e.accumulated_count) p in
            let fit = hs q in
            let pre₀ = pre_as K pre (λ r. (edge_total (edges_to r) before + edge_total (edges_to r) es) + H r)
            (λ r. edges_to r (to_region q) e.accumulated_count) (λ r. let z = same r in omega arith) (λ r. omega arith) in
            bind (claim q e.accumulated_count e.target_inputs s) _
            (claim_counted q e.accumulated_count e.target_inputs
            (λ r. (edge_total (edges_to r) before + edge_total (edges_to r) es) + H r) s (live_of q (omega arith))
            (count_pos q e.accumulated_count (omega arith)) pre₀) λ o s₁ x.
            by o s₁ x same cost ih
          where
            by : (o : Option ClaimedRegion) (s₁ : NestState) → Claims K 1 q e.accumulated_count s o s₁
                → ((r : ℕ) → edges_to r e.target e.accumulated_count ≡ edges_to r (to_region q) e.accumulated_count)
                → to_regions e.target e.accumulated_count ≡ 1 → More
                → Post Nine (λ o s'. ScanCounted before (e ∷ es) s o s') (split_out_or e (before ++ es) more o s₁)
            by none s₁ x same cost ih =
                let st = counted_as K x.step 1 0 f f (omega arith) (λ r. omega arith) in
                map_post _ (ih s₁ (pre_after K pre st)) λ o s' h. passed before es e s s₁ o s' 1 st (omega arith) h
            by (some c) s₁ x same cost ih = record {
              post = record {
                step = counted_as K x.step (edge_total to_regions (e ∷ es)) (live_count K) f
                    (λ r. edge_total (edges_to r) c.deferred_edges + edge_total (edges_to r) (before ++ es)) (omega arith)
                    (λ r. let z = same r in let y = total_append (edges_to r) before es in omega arith);
                good = (
                  x.good,
                  record {
                    fits = λ r. let z = hs r in let y = total_append (bundles_to r) before es in omega arith;
                    full =
                        let y = total_append edgeless before es in omega arith;
                  },
                );
              };
            }
