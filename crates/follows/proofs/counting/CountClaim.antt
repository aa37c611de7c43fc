-- A claim of a begun region, counted: where the Rust stops is never met, and a claimed set holds no more edges than its region held.
use Rattle.std.specs.Prelude.{◌≡◌, refl, Bool, true, false, List, map, ℕ, zero, suc, ◌+◌, ◌≤◌, ◌<◌, length, set, eqb}
use Rattle.std.proofs.Common.{sym, ap, ◌∙◌, arith, eqb-true, eq-eqb}
use Rattle.std.proofs.Math.Option.{Option, none, some}
use Rattle.std.proofs.lemmas.Bool.{eqb-false}
use Rattle.meaning.specs.Graph.{Value, Graph}
use Rattle.meaning.specs.Runs.{Nodes}
use Rattle.meaning.specs.Lists.{is_in, times_in, pick}
use Rattle.meaning.specs.facts.Tests.{clash}
use Rattle.nesting.specs.Nesting.{exit_targets, LazyCond, to_region, DeferredEdgeBundle, DeferredEdgeBundleSet, StructurizeRegionState}
use Rattle.nesting.specs.Nesting.{not_begun, in_progress, claimed, ready, renumber_or_replace_with, NestState, Step, give, turn_away, ◌>>◌}
use Rattle.nesting.specs.Nesting.{set_state, define_region, define_node, rewrite_values, materialize_lazy_cond, condition_in}
use Rattle.nesting.specs.Nesting.{get_edge_bundle_by_target, split_out_target, ClaimedRegion, no_inputs, take_inputs, add_exit_edge}
use Rattle.nesting.specs.Nesting.{structurize_loop, backedge_of, claim_body, claim_by_state}
use Rattle.nesting.specs.steps.Post.{Post, map_post, bind}
use Rattle.nesting.proofs.steps.Keeps.{loop_claimed, with_entry, define_region_keeps, define_node_keeps, rewrite_values_keeps}
use Rattle.nesting.proofs.steps.Keeps.{materialize_keeps}
use Rattle.nesting.specs.steps.StatesKept.{KeepsStates, states_kept_refl, states_kept_then}
use Rattle.nesting.proofs.steps.StatesSteady.{states_kept_steady}
use Rattle.nesting.specs.steps.RegionsLeft.{state_of, with_state, not_begun_one, count_set}
use Rattle.follows.specs.simulation.Bundles.{found_in}
use Rattle.follows.specs.counting.Totals.{edge_total, at, bundles_to, edges_to, edgeless}
use Rattle.follows.specs.counting.SplitTotals.{split_total, not_found, no_bundles, exits_bundles, exits_edges, exits_edgeless}
use Rattle.follows.specs.counting.Counting.{Counting, Nine, busy, live_count, live_one, owed_by, edges_waiting_by, edges_waiting}
use Rattle.follows.specs.counting.Counting.{owed_set}
use Rattle.follows.specs.counting.Counting.{edges_waiting_set, edges_waiting_at, Good, Fine, CountInv, Pre, Counted, counted_then}
use Rattle.follows.specs.counting.Counting.{counted_still, inv_set, busy_else, busy_here}
use Rattle.format.specs.Refusals.{never}

abbrev SetIs : DeferredEdgeBundleSet → Option ClaimedRegion → Type 0
SetIs d none = ⊥
SetIs d (some c) = c.deferred_edges ≡ d

record Looped (d : DeferredEdgeBundleSet) (s : NestState) (o : Option ClaimedRegion) (s' : NestState) : Type 0 where
  still : KeepsStates s s'
  is : SetIs d o

loop_set : (g : Graph) (body : ℕ) (children : Nodes) (backedge : DeferredEdgeBundle) (repeat : LazyCond) (exits : DeferredEdgeBundleSet)
    (inputs : List Value) (s : NestState)
    → Post Nine (λ o s'. Looped (map (add_exit_edge (exit_targets g body)) exits) s o s')
    (structurize_loop g body children backedge repeat exits inputs s)
unfolding structurize_loop
loop_set g body children backedge repeat exits inputs s =
    bind (define_region s) _ (define_region_keeps states_kept_steady Nine (refl, refl) s) λ wrapper s₁ q₁.
    bind (rewrite_values backedge.target_inputs s₁) _
    (rewrite_values_keeps states_kept_steady Nine (refl, refl) backedge.target_inputs s₁) λ vs s₂ q₂.
    let s₃ = with_entry (record {
      region = body;
      rewrites =
          renumber_or_replace_with (take_inputs g body wrapper 0 vs no_inputs).rewrites;
    }) s₂ in
    let q₃ : KeepsStates s₂ s₃ = record { states = refl; attempts = refl } in
    bind (materialize_lazy_cond repeat s₃) _ (materialize_keeps states_kept_steady Nine (refl, refl) repeat s₃) λ v s₄ q₄.
    bind (define_node s₄) (λ n. give (some (loop_claimed g body children exits inputs wrapper vs v n)))
    (define_node_keeps states_kept_steady Nine (refl, refl) s₄) λ n s₅ q₅.
    record { post = record { still = states_kept_then q₁ (states_kept_then q₂ (states_kept_then q₃ (states_kept_then q₄ q₅))); is = refl } }

module _ (K : Counting) where
  abbrev pub claim_gain : Option ClaimedRegion → ℕ
  claim_gain none = 0
  claim_gain (some c) = live_count K

  -- in hand after a claim: the edges of the bundle, handed back, or those of the claimed region's set
  abbrev pub in_hand : ℕ → ℕ → Option ClaimedRegion → ℕ → ℕ
  in_hand q n none r = edges_to r (to_region q) n
  in_hand q n (some c) r = edge_total (edges_to r) c.deferred_edges

  -- not claimed: there is another edge; claimed: a good set
  abbrev pub GoodClaim : ℕ → ℕ → Option ClaimedRegion → Type 0
  GoodClaim q n none = n < K.incoming q
  GoodClaim q n (some c) = Good K c.deferred_edges

  pub record Claims (c q n : ℕ) (s : NestState) (o : Option ClaimedRegion) (s' : NestState) : Type 0 where
    pub step : Counted K c (claim_gain o) (λ r. edges_to r (to_region q) n) (λ r. in_hand q n o r) s s'
    pub good : GoodClaim q n o

  pub edges_self : (q n : ℕ) → edges_to q (to_region q) n ≡ n
  edges_self q n = rw (eq-eqb q q refl)

  pub one_less : (r : ℕ) → live_one K r ≤ 1
  one_less r = here (is_in r K.live)
    where
      here : (x : Bool) → pick x 1 0 ≤ 1
      here true = omega arith
      here false = omega arith

  -- ---- a ready region is claimed
  module _ (q n b : ℕ) (children : Nodes) (d : DeferredEdgeBundleSet) (s : NestState) (inv : CountInv K s.region_states)
      (in_q : is_in q K.live ≡ true) (is : state_of s q ≡ ready b children d)
      (whole : K.incoming q ≡ n + b) (good : Good K d) (back : b ≡ edge_total (edges_to q) d) where
    abbrev after : NestState
    after = with_state s q claimed

    lt_q : q < length s.region_states
    lt_q = let z = inv.length in let y = K.below q in_q in omega arith

    claimed_step : (d' : DeferredEdgeBundleSet)
        → ((r : ℕ) → edge_total (edges_to r) d' + pick (eqb r q) b 0 ≤ edge_total (edges_to r) d + times_in r (exit_targets K.g q))
        → Counted K 0 (live_count K) (λ r. edges_to r (to_region q) n) (λ r. edge_total (edges_to r) d') s after
    claimed_step d' l = record {
      inv = inv_set K s.region_states q claimed inv lt_q tt;
      paid = let z = owed_set K q s.region_states claimed in_q lt_q in let y = ap (owed_by K q) is in omega arith;
      begun = let z = count_set not_begun_one s.region_states q claimed lt_q in omega arith;
      kept = λ r. go r (eqb r q) refl (l r) (edges_waiting_set K r q s.region_states claimed in_q lt_q) (ap (edges_waiting_by K r q) is);
      stay = λ r. still_busy r (eqb r q) refl;
    }
      where
        go : (r : ℕ) (x : Bool) → eqb r q ≡ x
            → edge_total (edges_to r) d' + pick x b 0 ≤ edge_total (edges_to r) d + times_in r (exit_targets K.g q)
            → edges_waiting K r (set s.region_states q claimed) + edges_waiting_by K r q (state_of s q)
            ≡ edges_waiting K r s.region_states + pick x (K.incoming r) 0
            → edges_waiting_by K r q (state_of s q) ≡ times_in r (exit_targets K.g q) + edge_total (edges_to r) d
            → edges_waiting K r (set s.region_states q claimed) + edge_total (edges_to r) d' ≤ edges_waiting K r
            s.region_states + pick x n 0
        go r true p a u v = let z = ap K.incoming (eqb-true r q p) in omega arith
        go r false p a u v = omega arith

        still_busy : (r : ℕ) (x : Bool) → eqb r q ≡ x → busy (state_of after r) ≡ busy (state_of s r)
        still_busy r true p = let e = eqb-true r q p in rw e (busy_here s.region_states q claimed lt_q ∙ sym (ap busy is))
        still_busy r false p = busy_else s.region_states q claimed r p

    without_back : (inputs : List Value) → b ≡ 0 → Claims 0 q n s
        (some (record { origin = q; structured_body = q; structured_body_inputs = inputs; children = children; deferred_edges = d })) after
    without_back inputs z = record { step = claimed_step d (λ r. go r (eqb r q)); good = good }
      where
        go : (r : ℕ) (x : Bool) → edge_total (edges_to r) d + pick x b 0 ≤ edge_total (edges_to r) d + times_in r (exit_targets K.g q)
        go r true = omega arith
        go r false = omega arith

    module _ (e : DeferredEdgeBundle) (found : get_edge_bundle_by_target (to_region q) d ≡ some e) where
      abbrev others : DeferredEdgeBundleSet
      others = split_out_target (to_region q) d

      abbrev exits : DeferredEdgeBundleSet
      exits = map (add_exit_edge (exit_targets K.g q)) others

      others_few : (r : ℕ) → edge_total (bundles_to r) d ≡ at r e.target + edge_total (bundles_to r) others
      others_few r = split_total (bundles_to r) (to_region q) d e found

      exits_counted : (r : ℕ) (x : Bool) → eqb r q ≡ x
          → edge_total (edges_to r) exits + pick x b 0 ≤ edge_total (edges_to r) d + times_in r (exit_targets K.g q)
      exits_counted r true p =
          let r_q = eqb-true r q p in
          let t : at r e.target ≡ 1 = ap (at r) (sym (found_in (to_region q) d e found).1) ∙ rw p in
          let none_left : edge_total (bundles_to r) exits ≡ 0 = let a = others_few r in let z = good.fits r in let y = one_less r in
          omega (arith, exits_bundles (exit_targets K.g q) r others) in
          let w = no_bundles r exits none_left in
          let k = ap (λ i. edge_total (edges_to i) d) r_q in
          omega arith
      exits_counted r false p =
          let a = others_few r in
          let z = good.fits r in
          let y = one_less r in
          let c = split_total (edges_to r) (to_region q) d e found in
          let v = exits_edges (exit_targets K.g q) r others (omega arith) in
          omega arith

      exits_good : Good K exits
      exits_good = record {
        fits = λ r. let a = others_few r in let z = good.fits r in omega (arith, exits_bundles (exit_targets K.g q) r others);
        full = let a = split_total edgeless (to_region q) d e found in let z = good.full in
            omega (arith, exits_edgeless (exit_targets K.g q) others);
      }

      as_loop : (o : Option ClaimedRegion) (s' : NestState) → Looped exits after o s' → Claims 0 q n s o s'
      as_loop none s' h = absurd h.is
      as_loop (some c) s' h =
          let step = claimed_step c.deferred_edges (λ r. rw h.is (exits_counted r (eqb r q) refl)) in
          record {
            step = counted_then K step
                (counted_still K {f = λ r. edge_total (edges_to r) c.deferred_edges} {f' =
                λ r. edge_total (edges_to r) c.deferred_edges} h.still step.inv (λ r. omega arith)) (omega arith)
                (λ r. omega arith);
            good = rw h.is exits_good;
          }

    claim_body_counted : (inputs : List Value) → Post Nine (λ o s'. Claims 0 q n s o s')
        (claim_body K.g q inputs children d (backedge_of q b d) after)
    claim_body_counted inputs = by_count b refl
      where
        by_found : (o : Option DeferredEdgeBundle) → get_edge_bundle_by_target (to_region q) d ≡ o
            → Post Nine (λ o s'. Claims 0 q n s o s') (claim_body K.g q inputs children d o after)
        by_found none p = record { post = without_back inputs (back ∙ not_found q d p) }
        by_found (some e) p =
            map_post _ (loop_set K.g q children e (condition_in d e)
            (split_out_target (to_region q) d) inputs after) λ o s' x. as_loop e p o s' x

        by_count : (c : ℕ) → b ≡ c → Post Nine (λ o s'. Claims 0 q n s o s')
            (claim_body K.g q inputs children d (backedge_of q c d) after)
        by_count zero p = record { post = without_back inputs p }
        by_count (suc c) p = by_found (get_edge_bundle_by_target (to_region q) d) refl

  not_claimed : (q n : ℕ) (s : NestState) → n < K.incoming q → CountInv K s.region_states → Claims 0 q n s none s
  not_claimed q n s l i = record { step = counted_still K (states_kept_refl s) i (λ r. omega arith); good = l }

  module _ (q n : ℕ) (inputs : List Value) (fuel : ℕ) (H : ℕ → ℕ) (s : NestState) (in_q : is_in q K.live ≡ true) (pos : 1 ≤ n)
      (pre : Pre K fuel H (λ r. edges_to r (to_region q) n) s) where
    q_room : edges_waiting K q s.region_states + (n + H q) ≤ K.incoming q
    q_room = let x = pre.room q in let y = edges_self q n in omega arith

    ready_counted : (b : ℕ) (children : Nodes) (d : DeferredEdgeBundleSet) → state_of s q ≡ ready b children d
        → Post Nine (λ o s'. Claims 0 q n s o s') (claim_by_state K.g q n inputs (K.incoming q) (ready b children d) s)
    ready_counted b children d p = go (eqb (K.incoming q) (n + b)) refl
      where
        fine : Fine K q (ready b children d)
        fine = rw p at (pre.inv.fine q)

        go : (x : Bool) → eqb (K.incoming q) (n + b) ≡ x
            → Post {A = Option ClaimedRegion} Nine (λ o s'. Claims 0 q n s o s')
            (let y : Step (Option ClaimedRegion) =
            elim x [ false ↦ give none | true ↦ set_state q claimed >> claim_body K.g q inputs children d (backedge_of q b d) ] in
            y s)
        go false e =
            let a = edges_waiting_at K q q s.region_states in_q in
            let c = ap (edges_waiting_by K q q) p in
            let y = q_room in
            let z = eqb-false (K.incoming q) (n + b) e in
            let w = fine.1 in
            record { post = not_claimed q n s (omega arith) pre.inv }
        go true e = claim_body_counted q n b children d s pre.inv in_q p (eqb-true _ _ e) fine.0 fine.1 inputs

    pub claim_by_state_counted : (x : StructurizeRegionState) → state_of s q ≡ x → not_begun_one x ≡ 0
        → Post Nine (λ o s'. Claims 0 q n s o s') (claim_by_state K.g q n inputs (K.incoming q) x s)
    claim_by_state_counted not_begun p e = absurd (clash (cc))
    claim_by_state_counted claimed p e =
        let a = edges_waiting_at K q q s.region_states in_q in
        let b = ap (edges_waiting_by K q q) p in
        let c : edges_waiting_by K q q claimed ≡ K.incoming q = rw (eq-eqb q q refl) in
        let y = q_room in
        absurd (omega arith)
    claim_by_state_counted in_progress p e = go (eqb (K.incoming q) n) refl
      where
        go : (x : Bool) → eqb (K.incoming q) n ≡ x → Post {A = Option ClaimedRegion} Nine (λ o s'. Claims 0 q n s o s')
            (let y : Step (Option ClaimedRegion) = elim x [ false ↦ give none | true ↦ turn_away never q ] in y s)
        go false e = let y = q_room in let z = eqb-false (K.incoming q) n e in record { post = not_claimed q n s (omega arith) pre.inv }
        go true e = let y = q_room in let z = pre.waits q (ap busy p) in let w = eqb-true (K.incoming q) n e in absurd (omega arith)
    claim_by_state_counted (ready b children d) p e = ready_counted b children d p
