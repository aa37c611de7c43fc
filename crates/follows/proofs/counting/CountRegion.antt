-- The loop over deferred edges, a region, and a claim, counted: by fuel, with more of it than regions not begun.
use Rattle.std.specs.Prelude.{◌≡◌, Bool, true, false, length, get_or, set, eqb}
use Rattle.std.proofs.Math.Path.{refl}
use Rattle.std.proofs.Common.{sym, ap, ◌∙◌, arith, get_or-set_same, eqb-true}
use mathlib.Core.List.{List, [], ◌∷◌, map}
use Rattle.std.proofs.Math.Option.{Option, none, some}
use Prim.Native.Nat.{ℕ, zero, suc, ◌+◌, ◌≤◌, ◌<◌}
use Rattle.meaning.specs.Graph.{bool_cond, Edge, region, edges_of}
use Rattle.meaning.specs.Lists.{is_in}
use Rattle.meaning.specs.facts.Tests.{clash}
use Rattle.nesting.specs.Nesting.{to_region, StructurizeRegionState, not_begun, in_progress, claimed, ready, NestState, follow, get_state}
use Rattle.nesting.specs.Nesting.{condition_in, count_to, MaybeClaimedRegion, ok, err, lazy, Body, blocks_of, structurize_select_into}
use Rattle.nesting.specs.Nesting.{Claim, SplitOut, begin, claim_by_state, by_control_inst, resolve_by, target_regions, split_out_matching}
use Rattle.nesting.specs.Nesting.{resolve_deferred, structurize_region, try_claim_edge_bundle, add_attempt}
use Rattle.nesting.specs.steps.Post.{Post, map_post, bind}
use Rattle.nesting.specs.steps.StatesKept.{states_kept_refl}
use Rattle.nesting.specs.steps.RegionsLeft.{count_set, not_begun_one, state_of, with_state}
use Rattle.meaning.specs.facts.Members.{in_front, in_rest}
use Rattle.follows.specs.counting.Totals.{edge_total, totals, edges_to, to_regions}
use Rattle.follows.specs.counting.SplitTotals.{count_total}
use Rattle.follows.specs.counting.SelectTotals.{select_into_total}
use Rattle.follows.specs.counting.Counting.{Counting, Nine, busy, live_count, edges_leaving, owed_by, edges_waiting_by, edges_waiting}
use Rattle.follows.specs.counting.Counting.{owed_set, edges_waiting_set, Good, Pre, Counted, counted_then, counted_as, counted_still}
use Rattle.follows.specs.counting.Counting.{pre_after, pre_as, inv_set, busy_else, busy_here}
use Rattle.follows.proofs.counting.CountClaim.{edges_self, one_less, claim_by_state_counted}
use Rattle.follows.proofs.counting.CountScan.{ClaimCounted, aims, AllLive, BodyCounted, ScanCounted, selected_counted}
use Rattle.follows.proofs.counting.CountScan.{by_control_inst_counted, scan_few, target_regions_counted, split_out_counted}

module _ (K : Counting) where
  pub targets_live : (q : ℕ) → is_in q K.live ≡ true → AllLive K (edges_of (region K.g q).terminator)
  targets_live q i = go (edges_of (region K.g q).terminator) (λ x j. K.closed q x i j)
    where
      go : (es : List Edge) → ((x : ℕ) → is_in x (map (λ e. e.target) es) ≡ true → is_in x K.live ≡ true) → AllLive K es
      go [] h = tt
      go (e ∷ es) h = (
        h e.target (in_front e.target (map (λ e. e.target) es)),
        go es (λ x j. h x (in_rest x e.target (map (λ e. e.target) es) j)),
      )

  busy_is : (x : StructurizeRegionState) → busy x ≡ true → x ≡ in_progress
  busy_is not_begun p = absurd (clash (cc))
  busy_is in_progress p = refl
  busy_is claimed p = absurd (clash (cc))
  busy_is (ready b children d) p = absurd (clash (cc))

  pub record Begun (q : ℕ) (f : ℕ → ℕ) (s s' : NestState) : Type 0 where
    pub step : Counted K 0 0 f f s s'
    pub old : not_begun_one (state_of s' q) ≡ 0

  -- A turn over the deferred edges that claims a region.
  pub turn_counted : (x : Body) (s s₁ : NestState) (y : SplitOut) → Good K x.deferred_edges
      → ScanCounted K [] x.deferred_edges s (some y) s₁
      → Post Nine (λ x' s₂. BodyCounted K 0 (λ r. edge_total (edges_to r) x.deferred_edges) s x' s₂)
      (structurize_select_into K.g x.children bool_cond (lazy (condition_in x.deferred_edges y.bundle))
      (ok y.claimed_region ∷ err y.others ∷ []) s₁)
  turn_counted x s s₁ y good h =
      let f : ℕ → ℕ = λ r. edge_total (edges_to r) x.deferred_edges in
      let scan = scan_few K x.deferred_edges good.fits in
      let cs : List MaybeClaimedRegion = ok y.claimed_region ∷ err y.others ∷ [] in
      let scrutinee = lazy (condition_in x.deferred_edges y.bundle) in
      let st₁ : Counted K 0 0 f (λ r. totals (edges_to r) (ok y.claimed_region ∷ err y.others ∷ [])) s s₁ =
      counted_as K h.step 0 0 f (λ r. totals (edges_to r) (ok y.claimed_region ∷ err y.others ∷ [])) (omega arith)
      (λ r. omega arith) in
      map_post _ (select_into_total Nine (refl, refl) K.g x.children bool_cond scrutinee cs s₁) λ x' s₂ q.
      let b = selected_counted K s₁ cs x' s₂ h.step.inv (h.good.0.fits, (h.good.1.fits, tt))
      (let u = h.good.0.full in let v = h.good.1.full in omega arith) q in
      record { step = counted_then K st₁ b.step (omega arith) (λ r. omega arith); good = b.good }

  module _ (fuel : ℕ) (claim : Claim) (claim_counted : ClaimCounted K fuel claim) where
    pub resolve_counted : (n : ℕ) (x : Body) (H : ℕ → ℕ) (s : NestState) → Good K x.deferred_edges
        → Pre K fuel H (λ r. edge_total (edges_to r) x.deferred_edges) s
        → Post Nine (λ y s'. BodyCounted K (live_count K) (λ r. edge_total (edges_to r) x.deferred_edges) s y s')
        (resolve_deferred K.g claim n x s)
    unfolding resolve_deferred
    resolve_counted zero x H s good pre = record {
      post = record {
        step = counted_as K (counted_still K {f = λ r. edge_total (edges_to r) x.deferred_edges} {f' =
            λ r. edge_total (edges_to r) x.deferred_edges} (states_kept_refl s) pre.inv (λ r. omega arith)) (live_count K) 0
            (λ r. edge_total (edges_to r) x.deferred_edges) (λ r. edge_total (edges_to r) x.deferred_edges) (omega arith)
            (λ r. omega arith);
        good = good;
      };
    }
    resolve_counted (suc n) x H s good pre =
        let pre₀ = pre_as K pre H (λ r. edge_total (edges_to r) [] + edge_total (edges_to r) x.deferred_edges) (λ r. omega arith)
        (λ r. omega arith) in
        bind (split_out_matching K.g claim [] x.deferred_edges s) _
        (split_out_counted K fuel claim claim_counted [] x.deferred_edges H s (λ r. let z = good.fits r in omega arith)
        (let z = good.full in omega arith) pre₀) λ o s₁ h.
        by o s₁ h (λ x' s₂ good' p. resolve_counted n x' H s₂ good' p)
      where
        f : ℕ → ℕ
        f r = edge_total (edges_to r) x.deferred_edges

        scan : edge_total to_regions x.deferred_edges ≤ live_count K
        scan = scan_few K x.deferred_edges good.fits

        by : (o : Option SplitOut) (s₁ : NestState) → ScanCounted K [] x.deferred_edges s o s₁
            → ((x' : Body) (s₂ : NestState) → Good K x'.deferred_edges
            → Pre K fuel H (λ r. edge_total (edges_to r) x'.deferred_edges) s₂
            → Post Nine (λ y s'. BodyCounted K (live_count K) (λ r. edge_total (edges_to r) x'.deferred_edges) s₂ y s')
            (resolve_deferred K.g claim n x' s₂))
            → Post Nine (λ y s'. BodyCounted K (live_count K) f s y s')
            (resolve_by K.g (λ x'. resolve_deferred K.g claim n x') x o s₁)
        by none s₁ h ih = record {
          post =
              record { step = counted_as K h.step (live_count K) 0 f f (let z = scan in omega arith) (λ r. omega arith); good = good };
        }
        by (some y) s₁ h ih =
            bind (structurize_select_into K.g x.children bool_cond (lazy (condition_in x.deferred_edges y.bundle))
            (ok y.claimed_region ∷ err y.others ∷ []) s₁) (λ x'. resolve_deferred K.g claim n x')
            (turn_counted x s s₁ y good h) λ x' s₂ b.
            map_post _ (ih x' s₂ b.good (pre_after K pre b.step)) λ y' s₃ c.
            record { step = counted_then K b.step c.step (omega arith) (λ r. omega arith); good = c.good }

    -- ---- a region not begun
    module _ (q : ℕ) (H : ℕ → ℕ) (s : NestState) (in_q : is_in q K.live ≡ true) (new : state_of s q ≡ not_begun) (waiting : 1 ≤ H q)
        (pre : Pre K (suc fuel) H (λ r. 0) s) where
      abbrev under_way : NestState
      under_way = with_state s q in_progress

      abbrev es : List Edge
      es = edges_of (region K.g q).terminator

      lt_q : q < length s.region_states
      lt_q = let z = pre.inv.length in let y = K.below q in_q in omega arith

      edges_waiting_under_way : (r : ℕ) → edges_waiting K r (set s.region_states q in_progress) + aims K es r ≡ edges_waiting K r
          s.region_states
      edges_waiting_under_way r = let z = edges_waiting_set K r q s.region_states in_progress in_q lt_q in let y =
          ap (edges_waiting_by K r q) new in omega arith

      pub pre_under_way : Pre K fuel H (aims K es) under_way
      pre_under_way = record {
        inv = inv_set K s.region_states q in_progress pre.inv lt_q tt;
        enough = let z = count_set not_begun_one s.region_states q in_progress lt_q in let y = ap not_begun_one new in let w =
            pre.enough in omega arith;
        room = λ r. let z = edges_waiting_under_way r in let y = pre.room r in omega arith;
        waits = λ r b. go r b (eqb r q) refl;
      }
        where
          go : (r : ℕ) → busy (get_or (set s.region_states q in_progress) r not_begun) ≡ true → (x : Bool) → eqb r q ≡ x → 1 ≤ H r
          go r b true e = let z = ap H (eqb-true r q e) in let w = waiting in omega arith
          go r b false e = pre.waits r (sym (busy_else s.region_states q in_progress r e) ∙ b)

      module _ (y : Body) (s₁ : NestState)
          (a : Counted K (edges_leaving K q + live_count K) 0 (aims K es) (λ r. edge_total (edges_to r) y.deferred_edges) under_way s₁)
          (good : Good K y.deferred_edges) where
        abbrev last : StructurizeRegionState
        last = ready (count_to q y.deferred_edges) y.children y.deferred_edges

        lt_last : q < length s₁.region_states
        lt_last = let z = a.inv.length in let w = K.below q in_q in omega arith

        still_under_way : state_of s₁ q ≡ in_progress
        still_under_way = busy_is (state_of s₁ q) (a.stay q ∙ busy_here s.region_states q in_progress lt_q)

        whole_count : count_to q y.deferred_edges ≡ edge_total (edges_to q) y.deferred_edges
        whole_count = count_total q y.deferred_edges (let z = good.fits q in let w = one_less K q in omega arith)

        ended : Begun q (λ r. 0) s (with_state s₁ q last)
        ended = record {
          step = record {
            inv = inv_set K s₁.region_states q last a.inv lt_last (good, whole_count);
            paid =
                let z = owed_set K q s.region_states in_progress in_q lt_q in
                let w = ap (owed_by K q) new in
                let v = owed_set K q s₁.region_states last in_q lt_last in
                let x = a.paid in
                omega arith;
            begun =
                let z = count_set not_begun_one s.region_states q in_progress lt_q in
                let v = count_set not_begun_one s₁.region_states q last lt_last in
                let x = a.begun in
                omega arith;
            kept = λ r.
                let z = edges_waiting_under_way r in
                let v = edges_waiting_set K r q s₁.region_states last in_q lt_last in
                let w = ap (edges_waiting_by K r q) still_under_way in
                let x = a.kept r in
                omega arith;
            stay = λ r. go r (eqb r q) refl;
          };
          old = ap not_begun_one (get_or-set_same s₁.region_states q last not_begun lt_last);
        }
          where
            go : (r : ℕ) (b : Bool) → eqb r q ≡ b → busy (get_or (set s₁.region_states q last) r not_begun) ≡ busy (state_of s r)
            go r true e = let z = eqb-true r q e in rw z (busy_here s₁.region_states q last lt_last ∙ sym (ap busy new))
            go r false e = busy_else s₁.region_states q last r e ∙ a.stay r ∙ busy_else s.region_states q in_progress r e

      pub structurize_counted : Post Nine (λ u s'. Begun q (λ r. 0) s s') (structurize_region K.g claim q s)
      unfolding structurize_region
      structurize_counted =
          bind (target_regions K.g claim es under_way) _
          (target_regions_counted K fuel claim claim_counted es H under_way (targets_live q in_q) pre_under_way) λ cs s₁ a.
          bind (by_control_inst K.g (blocks_of K.g q) (region K.g q).terminator cs s₁) _
          (by_control_inst_counted K (blocks_of K.g q) (region K.g q).terminator cs s₁ a.step.inv a.fits a.full) λ x s₂ b.
          let st : Counted K (edges_leaving K q) 0 (aims K es) (λ r. edge_total (edges_to r) x.deferred_edges) under_way s₂ =
          counted_then K a.step b.step (omega arith) (λ r. omega arith) in
          bind (resolve_deferred K.g claim (length K.g.regions) x s₂) _
          (resolve_counted (length K.g.regions) x H s₂ b.good (pre_after K pre_under_way st)) λ y s₃ c.
          record { post = ended y s₃ (counted_then K st c.step (omega arith) (λ r. omega arith)) c.good }

    begin_counted : (q n : ℕ) (H : ℕ → ℕ) (s : NestState) → is_in q K.live ≡ true → 1 ≤ n
        → Pre K (suc fuel) H (λ r. edges_to r (to_region q) n) s → (x : StructurizeRegionState) → state_of s q ≡ x
        → Post Nine (λ u s'. Begun q (λ r. edges_to r (to_region q) n) s s') (begin x (structurize_region K.g claim q) s)
    begin_counted q n H s in_q pos pre not_begun p =
        map_post _ (structurize_counted q (λ r. edges_to r (to_region q) n + H r) s in_q p (let z = edges_self K q n in omega arith)
        (pre_as K pre (λ r. edges_to r (to_region q) n + H r) (λ r. 0) (λ r. omega arith) (λ r. omega arith)))
        λ u s' h. record {
          step =
              counted_as K h.step 0 0 (λ r. edges_to r (to_region q) n) (λ r. edges_to r (to_region q) n) (omega arith)
              (λ r. omega arith);
          old = h.old;
        }
    begin_counted q n H s in_q pos pre in_progress p =
        record { post = record { step = counted_still K (states_kept_refl s) pre.inv (λ r. omega arith); old = ap not_begun_one p } }
    begin_counted q n H s in_q pos pre claimed p =
        record { post = record { step = counted_still K (states_kept_refl s) pre.inv (λ r. omega arith); old = ap not_begun_one p } }
    begin_counted q n H s in_q pos pre (ready b children d) p =
        record { post = record { step = counted_still K (states_kept_refl s) pre.inv (λ r. omega arith); old = ap not_begun_one p } }

  record Observed (q n : ℕ) (s : NestState) (x : StructurizeRegionState) (s' : NestState) : Type 0 where
    step : Counted K 0 0 (λ r. edges_to r (to_region q) n) (λ r. edges_to r (to_region q) n) s s'
    is : state_of s' q ≡ x
    old : not_begun_one x ≡ 0

  -- With more fuel than regions not begun: what cannot be met is never answered.
  pub claim_counted : (fuel : ℕ) → ClaimCounted K fuel (try_claim_edge_bundle K.g K.counts fuel)
  unfolding try_claim_edge_bundle
  claim_counted zero q n inputs H s in_q pos pre = absurd (let z = pre.enough in omega arith)
  claim_counted (suc fuel) q n inputs H s in_q pos pre =
      let f : ℕ → ℕ = λ r. edges_to r (to_region q) n in
      let claim : Claim = λ r' n' inputs'. try_claim_edge_bundle K.g K.counts fuel r' n' inputs' in
      let s₀ = add_attempt s in
      let st₀ : Counted K 1 0 f f s s₀ =
      record { inv = pre.inv; paid = omega arith; begun = omega arith; kept = λ r. omega arith; stay = λ r. refl } in
      let pre₀ = pre_after K pre st₀ in
      bind (follow (begin (state_of s q) (structurize_region K.g claim q) s₀) (λ u. get_state q))
      (claim_by_state K.g q n inputs (get_or K.counts q 0))
      (bind {P' = λ x s'. Observed q n s₀ x s'} (begin (state_of s q) (structurize_region K.g claim q) s₀) (λ u. get_state q)
      (begin_counted fuel claim (claim_counted fuel) q n H s₀ in_q pos pre₀ (state_of s q) refl) λ u s₁ b. record {
        post =
            record { step = b.step; is = refl; old = b.old };
      })
      λ x s₁ b.
      let st₁ : Counted K 1 0 f f s s₁ = counted_then K st₀ b.step (omega arith) (λ r. omega arith) in
      rw (K.counts_right q in_q)
      (map_post _ (claim_by_state_counted K q n inputs (suc fuel) H s₁ in_q pos (pre_after K pre₀ b.step) x b.is
      b.old) λ o s' h.
      record { step = counted_then K st₁ h.step (omega arith) (λ r. omega arith); good = h.good })
