-- A claim of a region that was structurized, for every state that the words show.
use Rattle.std.specs.Prelude.{◌≡◌, true, List, [], ◌∷◌, ℕ, zero, suc, ◌+◌, ◌≤◌, ◌<◌, length}
use Rattle.std.proofs.Math.Path.{refl, sym, ap}
use Rattle.std.proofs.Common.{subst, ◌∙◌, inl, inr, arith, eq-eqb, ne_eqb}
use Rattle.std.proofs.Math.Option.{Option, none, some}
use Rattle.std.proofs.Math.ListN.{get_or}
use Rattle.meaning.specs.Graph.{Graph, Value, region}
use Rattle.meaning.specs.Runs.{Nodes}
use Rattle.meaning.specs.Lists.{is_in, All}
use Rattle.format.specs.Valid.{Valid}
use Rattle.nesting.specs.Nesting.{exit_targets, NestState, StepAnswer, done, DeferredEdgeBundleSet, DeferredTarget, to_region}
use Rattle.nesting.specs.Nesting.{to_return, ClaimedRegion, claim_by_state, claim_body, claimed_as, backedge_of, get_edge_bundle_by_target}
use Rattle.nesting.specs.Nesting.{StructurizeRegionState, not_begun, in_progress, claimed, ready, incoming_edge_counts}
use Rattle.nesting.specs.steps.RegionsLeft.{state_of, with_state}
use Rattle.follows.specs.counting.Totals.{edge_total, edges_to, edgeless}
use Rattle.follows.specs.counting.Counting.{Fine, busy, edges_waiting, edges_waiting_by, edges_waiting_at}
use Rattle.follows.proofs.counting.CountClaim.{edges_self}
use Rattle.state_words.specs.Totals.{Made}
use Rattle.state_words.specs.Sections.{word, stored, kinds, bodies, backedges, children, set_starts, head, used}
use Rattle.state_words.specs.laws.Apart.{section_other, stored_length}
use Rattle.state_shown.specs.Sets.{shows_region, no_bundle}
use Rattle.nesting.specs.steps.TargetsAndCases.{same_target_is}
use Rattle.state_shown.specs.laws.Finds.{Finds, found, none_found, finds}
use Rattle.state_shown.specs.States.{ShowsState, ShowsOwnSet, ShowsRegion, is_not_begun, is_in_progress, is_ready, is_claimed, ShowsClaimed}
use Rattle.state_shown.specs.States.{ShowsBody, HasSlot}
use Rattle.state_shown.specs.Cells.{ShowsChildren}
use Rattle.state_shown.specs.Kept.{PreservesMade, KeptRegion}
use Rattle.state_shown.specs.laws.RegionsKept.{preserves_then, kept_then}
use Rattle.state_shown.specs.laws.Stores.{word_there}
use Rattle.state_shown.specs.laws.RegionSteps.{word_concerns, Concerns, concerns_states, state_stays, kind_set}
use Rattle.cfg_loops.specs.laws.shown.ClaimedLoops.{ClaimedLoop, ShowsLoop, shows_loop, loop_refused, structurize_loop_shown}
use Rattle.cfg_loops.specs.Loops.{StructurizesLoop}
use Rattle.std.specs.Prelude.{Ok, Result}
use Rattle.cfg_regions.specs.declared.claim.Claim as code
use Rattle.cfg_regions.specs.declared.claim.Claim.TheVariants.{Claimed}
use Rattle.store.specs.declared.refusals.Refusal.{Refusal}
use Rattle.cfg_regions.specs.laws.Leaves.{loops_kinds}
use Rattle.cfg_regions.specs.ByState.{ClaimsBody, no_backedges, none_found as none_leads_back, by_loop, ClaimsByState, ready_claimed}
use Rattle.cfg_regions.specs.ByState.{ready_waits}
use Rattle.cfg_regions.specs.ByState.{not_ready, as_claimed, backedge_at, claim_of}
use Rattle.cfg.specs.laws.shown.Shows.{CanClaim, ClaimShows, K, Occupied, PreservesOccupied, cells_in_all, chains_of}
use Rattle.cfg.specs.laws.shown.Shows.{most_cells_in_all, occupied_same, owed_kind, owed_stays, shows_claimed, shows_refused}
use Rattle.cfg.specs.laws.shown.Shows.{shows_unclaimed}
use Rattle.cfg.specs.laws.shown.RegionsShown.{Beside, beside_kind, body_with}
use Rattle.state_words.specs.Rows.{cells_at, kind_claimed, kind_not_begun, kind_ready, largest, no_bundle_word, region_kind}

-- ---- Region r is claimed, and its own structured body: the others stay, and what it has.
module _ {g : Graph} {w : List ℕ} {s : NestState} (shown : ShowsState g w s) (few : length g.regions ≤ 32) (r : ℕ)
    (in_graph : r < length g.regions) (is : region_kind w r ≡ kind_ready) {ks : Nodes} {d : DeferredEdgeBundleSet}
    (nodes : ShowsChildren g w (word w children r) ks) (set : ShowsOwnSet g w r d) where
  below : r < 32
  below = omega arith

  room : used ≤ length w
  room = shown.tables.size

  abbrev w₁ : List ℕ
  w₁ = stored w kinds r kind_claimed

  abbrev w₂ : List ℕ
  w₂ = as_claimed w r

  room₁ : used ≤ length w₁
  room₁ = rw (stored_length _ _ w r kind_claimed) room

  second : Concerns g r w₁ w₂
  second = word_concerns g w₁ bodies (omega arith) r r

  kind_there : region_kind w₁ r ≡ kind_claimed
  kind_there = word_there w kinds r kind_claimed (omega arith) below

  claimed_state : ShowsState g w₂ (with_state s r claimed)
  claimed_state =
      let first = kind_set g w room r below kind_claimed shown in_graph (is_claimed kind_there) in
      state_stays second.made_stays (concerns_states second few (λ e. let z = kind_there in absurd (omega arith))) second.tables first

  claimed_kind : region_kind w₂ r ≡ kind_claimed
  claimed_kind = second.same_kinds r ∙ kind_there

  claimed_body : ShowsBody g w₂ r (record { children = ks; deferred_edges = d })
  claimed_body =
      body_with r (record { children = ks; deferred_edges = d }) bodies w₁ r (omega arith)
      (body_with r (record { children = ks; deferred_edges = d }) kinds w kind_claimed (omega arith) (record { nodes = nodes; set = set }))

  claimed_beside : Beside g r w w₂
  claimed_beside =
      let b = beside_kind g w r kind_claimed in
      record {
        made_stays = preserves_then b.made_stays second.made_stays;
        kinds_stay = λ q n. second.same_kinds q ∙ b.kinds_stay q n;
        regions_stay = λ q l n. kept_then (b.regions_stay q l n) (second.others q (let many = few in omega arith) n);
      }

  claimed_cells : cells_in_all g w₂ + 9 ≡ cells_in_all g w
  claimed_cells =
      let z = owed_kind g w r kind_claimed room below in_graph in
      let y = rw is at z in
      let e = owed_stays g w₁ w₂ (λ q h. second.same_kinds q) in
      let h : word w₁ head cells_at ≡ word w head cells_at = ap (λ l. get_or l 4 0)
      (section_other w kinds r kind_claimed head (omega arith)) in
      let k = second.same_head cells_at in omega arith

  itself : word w₂ bodies r ≡ r
  itself = let z = room₁ in word_there w₁ bodies r r (omega arith) below

  as_itself : (inputs : List Value) → length inputs ≡ length (region g r).inputs → ShowsClaimed g w₂ (claimed_as r r inputs ks d)
  as_itself inputs many =
      record {
        in_graph = in_graph;
        kind = claimed_kind;
        body = itself;
        body_below = omega arith;
        nodes = claimed_body.nodes;
        set = claimed_body.set;
        size = many;
      }

  free_before : Occupied w r → ⊥
  free_before (inl e) = absurd (omega arith)
  free_before (inr e) = absurd (omega arith)

  -- Nothing of the others changes, as far as the loop.
  occupied_by : {w' : List ℕ} → PreservesMade g w₂ w' → ((q : ℕ) → region_kind w' q ≡ region_kind w₂ q)
      → ((q : ℕ) → HasSlot (length g.regions) q → (q ≡ r → ⊥) → KeptRegion w₂ w' q) → PreservesOccupied g w w'
  occupied_by made_stays same kept =
      record {
        made_stays = preserves_then claimed_beside.made_stays made_stays;
        kinds_stay = λ q h. same q ∙ claimed_beside.kinds_stay q (other q h);
        regions_stay = λ q l h.
            kept_then (claimed_beside.regions_stay q l (other q h)) (kept q (let many = few in omega arith) (other q h));
      }
    where
      other : (q : ℕ) → Occupied w q → q ≡ r → ⊥
      other q h e = free_before (subst (λ z. Occupied w z) e h)

-- ---- Counts of a Ready region's set are within the incoming counts.
module _ (g : Graph) (valid : Valid g) where
  counts_small : (d : DeferredEdgeBundleSet) → edge_total edgeless d ≡ 0 → ((q : ℕ) → edge_total (edges_to q) d ≤ 65534)
      → All (λ y. y.accumulated_count < largest) d
  counts_small [] f h = tt
  counts_small (e ∷ d) f h = (
    one e.target e.accumulated_count (let z = f in omega arith) (λ q. let z = h q in omega arith),
    counts_small d (omega arith) (λ q. let z = h q in omega arith),
  )
    where
      one : (x : DeferredTarget) (n : ℕ) → edgeless x n ≡ 0 → ((q : ℕ) → edges_to q x n ≤ 65534) → n < largest
      one (to_region q) n z k = let y : edges_to q (to_region q) n ≡ n = rw (eq-eqb q q refl) in let v = k q in omega arith
      one to_return zero z k = omega arith
      one to_return (suc n) z k = absurd (omega arith)

  ready_counts : {fuel : ℕ} {H f : ℕ → ℕ} {c : ℕ} {s : NestState} (r b : ℕ) (ks : Nodes) (d : DeferredEdgeBundleSet)
      → ((q : ℕ) → (K g valid).incoming q ≤ 65534) → is_in r (K g valid).live ≡ true → CanClaim g valid fuel H f c s
      → state_of s r ≡ ready b ks d → All (λ y. y.accumulated_count < largest) d
  ready_counts {s} r b ks d bound live can is =
      let fine : Fine (K g valid) r (ready b ks d) = subst (λ x. Fine (K g valid) r x) is (can.pre.inv.fine r) in
      counts_small d fine.0.full (λ q.
      let z = edges_waiting_at (K g valid) q r s.region_states live in
      let y = ap (edges_waiting_by (K g valid) q r) is in
      let u = can.pre.room q in
      let v = bound q in omega arith)

-- ---- The claim, by the region's state.
module _ (g : Graph) (valid : Valid g) (few : length g.regions ≤ 32) (bound : (q : ℕ) → (K g valid).incoming q ≤ 65534) where
  module _ (w : List ℕ) (r n fuel : ℕ) (H : ℕ → ℕ) (s : NestState) (inputs : List Value) (shown : ShowsState g w s)
      (cells : cells_in_all g w ≤ most_cells_in_all) (live : is_in r (K g valid).live ≡ true)
      (many : length inputs ≡ length (region g r).inputs)
      (can : CanClaim g valid fuel H (λ q. edges_to q (to_region r) n) 0 s) where
    in_graph : r < length g.regions
    in_graph = (K g valid).below r live

    -- A Ready region that has all its edges.
    module _ (b : ℕ) (ks : Nodes) (d : DeferredEdgeBundleSet) (is : region_kind w r ≡ kind_ready) (back : word w backedges r ≡ b)
        (nodes : ShowsChildren g w (word w children r) ks) (set : ShowsOwnSet g w r d) (ready_now : state_of s r ≡ ready b ks d) where
      abbrev now_claimed : NestState
      now_claimed = with_state s r claimed

      as_region : ClaimShows g w (as_claimed w r) r inputs (done (some (claimed_as r r inputs ks d)) now_claimed) (Ok Claimed)
      as_region =
          let c = claimed_cells shown few r in_graph is nodes set in
          let b = claimed_beside shown few r in_graph is nodes set in
          shows_claimed refl (claimed_state shown few r in_graph is nodes set) (as_itself shown few r in_graph is nodes set inputs many)
          refl refl
          (free_before shown few r in_graph is nodes set)
          (record {
            made_stays = b.made_stays;
            kinds_stay = λ q h. b.kinds_stay q (λ e. free_before shown few r in_graph is nodes set (subst (λ z. Occupied w z) e h));
            regions_stay = λ q l h. b.regions_stay q l
                (λ e. free_before shown few r in_graph is nodes set (subst (λ z. Occupied w z) e h));
          })
          (omega arith)

      same_backedges : word (as_claimed w r) backedges r ≡ b
      same_backedges =
          ap (λ l. get_or l r 0) (section_other (stored w kinds r kind_claimed) bodies r r backedges (omega arith))
          ∙ ap (λ l. get_or l r 0) (section_other w kinds r kind_claimed backedges (omega arith)) ∙ back

      -- The set is the same, so what leads back is found where it was.
      leads_back : Finds (word (as_claimed w r) set_starts r) (to_region r) d (backedge_at (as_claimed w r) r)
      leads_back =
          finds (as_claimed w r) few (word (as_claimed w r) set_starts r) (shows_region refl in_graph)
          (claimed_body shown few r in_graph is nodes set).set

      some_edges : (word (as_claimed w r) backedges r ≡ 0 → ⊥) → backedge_of r b d ≡ get_edge_bundle_by_target (to_region r) d
      some_edges h = go b same_backedges
        where
          go : (k : ℕ) → word (as_claimed w r) backedges r ≡ k → backedge_of r k d ≡ get_edge_bundle_by_target (to_region r) d
          go zero e = absurd (h e)
          go (suc k) e = refl

      loop_from : {w' : List ℕ} {m : Made} → StructurizesLoop r (backedge_at (as_claimed w r) r) (as_claimed w r) w' m
          → (word (as_claimed w r) backedges r ≡ 0 → ⊥) → (backedge_at (as_claimed w r) r ≡ no_bundle_word → ⊥)
          → Finds (word (as_claimed w r) set_starts r) (to_region r) d (backedge_at (as_claimed w r) r)
          → ClaimShows g w w' r inputs (claim_body g r inputs ks d (backedge_of r b d) now_claimed) (claim_of m)
      unfolding exit_targets
      loop_from x more there (none_found e q) = absurd (there e)
      loop_from {w'} {m} x more there (found i at l gets to before) =
          let e = get_or d i no_bundle in
          let body = claimed_body shown few r in_graph is nodes set in
          let c = claimed_cells shown few r in_graph is nodes set in
          let counts = ready_counts g valid r b ks d bound live can ready_now in
          let loop : ClaimedLoop g (as_claimed w r) now_claimed r (backedge_at (as_claimed w r) r) i ks d e inputs = record {
            few = few;
            shown = claimed_state shown few r in_graph is nodes set;
            in_graph = in_graph;
            claimed = claimed_kind shown few r in_graph is nodes set;
            nodes = body.nodes;
            set = body.set;
            place = l;
            bundle_at_place = at;
            backedge = refl;
            target = sym (same_target_is (to_region r) e.target to);
            free = (let z = c in omega arith);
            cell_zero = (let z = body.nodes.made in omega arith);
            chains = chains_of g valid can.inv;
            counts = counts;
            exits_below = (valid.regions r in_graph).exits;
            given = many;
          } in
          let y = structurize_loop_shown loop x in
          let kinds_same = loops_kinds (claimed_state shown few r in_graph is nodes set).stands x in
          let same : (q : ℕ) → region_kind w' q ≡ region_kind (as_claimed w r) q = λ q. ap (λ l. get_or l q 0) kinds_same.kinds_words in
          let o = owed_stays g (as_claimed w r) w' (λ q h. same q) in
          let up = y.total_to in
          rw (some_edges more, gets)
          (by y.answer
          (occupied_by shown few r in_graph is nodes set y.within.made_stays same y.within.others) (omega arith))
        where
          by : {m : Made} {v : StepAnswer (Option ClaimedRegion)} → ShowsLoop g w' r inputs now_claimed m v → PreservesOccupied g w w'
              → cells_in_all g w' + 4 ≤ cells_in_all g w → ClaimShows g w w' r inputs v (claim_of m)
          by (shows_loop st same cl o i) u k = shows_claimed refl st cl o i (free_before shown few r in_graph is nodes set) u k
          by loop_refused u k = shows_refused refl

      body_shown : {w' : List ℕ} {a : Result code.Claim Refusal} → ClaimsBody g w r w' a
          → ClaimShows g w w' r inputs (claim_body g r inputs ks d (backedge_of r b d) now_claimed) a
      body_shown (no_backedges e s) = rw (s, ap (λ k. backedge_of r k d) (sym same_backedges ∙ e)) as_region
      body_shown (none_leads_back h e s) = rw (s, some_edges h, nowhere leads_back e) as_region
        where
          nowhere : Finds (word (as_claimed w r) set_starts r) (to_region r) d (backedge_at (as_claimed w r) r)
              → backedge_at (as_claimed w r) r ≡ no_bundle_word → get_edge_bundle_by_target (to_region r) d ≡ none
          nowhere (none_found f q) p = q
          nowhere (found i at l gets to before) p =
              let z = (claimed_body shown few r in_graph is nodes set).set in
              let size = z.size in
              let most = z.room in absurd (omega arith)
      body_shown (by_loop h f x e) = rw e (loop_from x h f leads_back)

    pub state_shown : {w' : List ℕ} {a : Result code.Claim Refusal} → ClaimsByState g w r n (get_or (incoming_edge_counts g) r 0) w' a
        → (region_kind w r ≡ kind_not_begun → ⊥) → 1 ≤ n
        → ClaimShows g w w' r inputs (claim_by_state g r n inputs (get_or (incoming_edge_counts g) r 0) (state_of s r) s) a
    state_shown {w'} {a} step begun pos = go (state_of s r) refl (shown.regions r in_graph) a w' step
      where
        -- What is held for r, what the callers keep and the bundle's own edges are at most its count.
        held : edges_waiting (K g valid) r s.region_states + (n + H r) ≤ get_or (incoming_edge_counts g) r 0
        held =
            let x = can.pre.room r in
            let y = edges_self (K g valid) r n in
            let z = (K g valid).counts_right r live in omega arith

        never_claimed : state_of s r ≡ claimed → ⊥
        never_claimed p =
            let x = edges_waiting_at (K g valid) r r s.region_states live in
            let y = ap (edges_waiting_by (K g valid) r r) p in
            let z : edges_waiting_by (K g valid) r r claimed ≡ (K g valid).incoming r = rw (eq-eqb r r refl) in
            let u = (K g valid).counts_right r live in
            let v = held in absurd (omega arith)

        others_wait : state_of s r ≡ in_progress → get_or (incoming_edge_counts g) r 0 ≡ n → ⊥
        others_wait p e = let x = can.pre.waits r (ap busy p) in let v = held in absurd (omega arith)

        m : ℕ
        m = get_or (incoming_edge_counts g) r 0

        go : (x : StructurizeRegionState) → state_of s r ≡ x → ShowsRegion g w r x → (a : Result code.Claim Refusal) (w' : List ℕ)
            → ClaimsByState g w r n m w' a → ClaimShows g w w' r inputs (claim_by_state g r n inputs m x s) a
        go not_begun p (is_not_begun e) a w' y = absurd (begun e)
        go in_progress p (is_in_progress e) a w' (ready_claimed f q b) = absurd (omega arith)
        go in_progress p (is_in_progress e) a w' (ready_waits f q t) = absurd (omega arith)
        go in_progress p (is_in_progress e) a w' (not_ready f t) =
            rw (claim_by_state, ne_eqb m n (others_wait p), t) (shows_unclaimed refl shown (occupied_same g w) (omega arith))
        go claimed p (is_claimed e) a w' (ready_claimed f q b) = absurd (omega arith)
        go claimed p (is_claimed e) a w' (ready_waits f q t) = absurd (omega arith)
        go claimed p (is_claimed e) a w' (not_ready f t) = absurd (never_claimed p)
        go (ready b ks d) p (is_ready e back nodes set) a w' (ready_claimed f q y) =
            rw (claim_by_state, eq-eqb m (n + b) (q ∙ rw back)) (body_shown b ks d e back nodes set p y)
        go (ready b ks d) p (is_ready e back nodes set) a w' (ready_waits f q t) =
            rw (claim_by_state, ne_eqb m (n + b) (λ z. q (z ∙ rw back)), t) (shows_unclaimed refl shown (occupied_same g w) (omega arith))
        go (ready b ks d) p (is_ready e back nodes set) a w' (not_ready f t) = absurd (f e)
