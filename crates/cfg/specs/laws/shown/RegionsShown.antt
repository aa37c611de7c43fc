-- A region, from its first step to its last: how nesting stands at each, and what the words then show.
use Rattle.std.specs.Prelude.{◌≡◌, true, List, ℕ, suc, ◌+◌, ◌*◌, ◌≤◌, ◌<◌, length, get_or, eqb}
use Rattle.std.proofs.Math.Path.{refl}
use Rattle.std.proofs.Common.{ap, subst, ◌∙◌, inl, inr, arith, eq-eqb, ne_eqb}
use Rattle.meaning.specs.Graph.{Graph, Edge, region, edges_of}
use Rattle.meaning.specs.Lists.{is_in, pick}
use Rattle.format.specs.Valid.{Valid}
use Rattle.nesting.specs.Nesting.{NestState, done, incoming_edge_counts, try_claim_edge_bundle, target_regions}
use Rattle.nesting.specs.Nesting.{by_control_inst, blocks_of, count_to, MaybeClaimedRegion, Body, Claim}
use Rattle.nesting.specs.Nesting.{DeferredEdgeBundleSet, to_region, not_begun, in_progress, ready}
use Rattle.nesting.specs.steps.Post.{Post}
use Rattle.nesting.specs.steps.RegionsLeft.{state_of, with_state}
use Rattle.follows.specs.counting.Reach.{target_reachable}
use Rattle.follows.specs.simulation.ValidUse.{edges_of_usable}
use Rattle.follows.specs.simulation.Defined.{IfDone}
use Rattle.follows.specs.simulation.Invariant.{Inv, idle}
use Rattle.follows.specs.simulation.StateChanges.{inv_busy}
use Rattle.follows.specs.simulation.ClaimedRegions.{Came, Doing, doing_on}
use Rattle.follows.specs.simulation.TargetRegions.{CasesDone, cases_back, in_targets, target_regions_post}
use Rattle.follows.specs.simulation.ByTerminator.{by_control_inst_post}
use Rattle.follows.specs.simulation.Claims.{claim_post, first_doing}
use Rattle.follows.specs.counting.Totals.{edge_total, edges_to, totals, edgeless}
use Rattle.follows.specs.counting.Counting.{Nine, Pre, Counted, owed, owed_by, owed_set, live_count, counted_then, pre_after}
use Rattle.follows.proofs.counting.CountScan.{aims, CasesCounted, BodyCounted, target_regions_counted, by_control_inst_counted}
use Rattle.follows.proofs.counting.CountRegion.{claim_counted, targets_live, pre_under_way}
use Rattle.state_words.specs.Sections as sections
use Rattle.state_words.specs.Sections.{Section, number, word, stored, kinds, backedges, children, bundles, set_starts, set_lengths, head}
use Rattle.state_words.specs.Sections.{used}
use Rattle.state_words.specs.laws.Apart.{section_other, stored_length}
use Rattle.state_shown.specs.laws.Stores.{word_changes, word_there, word_apart}
use Rattle.state_shown.specs.Sets.{shows_region}
use Rattle.state_shown.specs.laws.Finds.{Finds, found, none_found, finds}
use Rattle.state_shown.specs.States.{ShowsState, ShowsBody, is_in_progress, is_ready}
use Rattle.state_shown.specs.Kept.{PreservesMade, KeptRegion}
use Rattle.state_shown.specs.laws.RegionsKept.{preserves_then, set_stays, kept_then}
use Rattle.state_shown.specs.laws.RegionSteps.{preserves_by, kept_by, bundles_same, word_concerns}
use Rattle.state_shown.specs.laws.RegionSteps.{concerns_states, state_stays}
use Rattle.state_shown.specs.laws.RegionSteps.{kind_set, Concerns, MakesNothing}
use Rattle.cfg_regions.specs.ByState.{backedge_at}
use Rattle.cfg_regions.specs.ByInst.{backedges_deferred, made_ready}
use Rattle.cfg.specs.laws.shown.Shows.{CanClaim, K, Occupied, PreservesOccupied, PreservesOthers, cells_in_all, owed_kind, owed_stays}
use Rattle.cfg.specs.laws.shown.Shows.{world}
use Rattle.cfg.specs.laws.shown.TurnsShown.{CanTurn}
use Rattle.state_words.specs.Rows.{bundle_count, cells_at, kind_in_progress, kind_not_begun, kind_ready, no_bundle_word, no_total}
use Rattle.state_words.specs.Rows.{region_kind}

module _ (g : Graph) (valid : Valid g) (fuel : ℕ) where
  abbrev claim : Claim
  claim = try_claim_edge_bundle g (incoming_edge_counts g) fuel

  -- How nesting stands when region r begins.
  pub record CanBegin (H : ℕ → ℕ) (r : ℕ) (s : NestState) : Type 0 where
    pub in_graph : r < length g.regions
    pub live : is_in r (K g valid).live ≡ true
    pub fresh : state_of s r ≡ not_begun
    pub waits : 1 ≤ H r
    pub pre : Pre (K g valid) (suc fuel) H (λ q. 0) s
    pub inv : Inv (world g valid) s
    pub few : s.attempts + owed (K g valid) s.region_states ≤ 65534

  module _ (H : ℕ → ℕ) (r : ℕ) (s : NestState) (can : CanBegin H r s) where
    abbrev es : List Edge
    es = edges_of (region g r).terminator

    abbrev under_way : NestState
    under_way = with_state s r in_progress

    begins : Pre (K g valid) fuel H (aims (K g valid) es) under_way
    begins = pre_under_way (K g valid) fuel claim (claim_counted (K g valid) fuel) r H s can.live can.fresh can.waits can.pre

    was_idle : idle (state_of s r) ≡ true
    was_idle = rw can.fresh

    doing : Doing (world g valid) s r (blocks_of g r) under_way
    doing = first_doing (world g valid) r can.in_graph s can.inv can.fresh

    owed_then : owed (K g valid) under_way.region_states + (length es + 2 * live_count (K g valid)) ≡ owed (K g valid) s.region_states
    owed_then =
        let lt : r < length s.region_states = (let z = can.inv.sized in let y = can.in_graph in omega arith) in
        let z = owed_set (K g valid) r s.region_states in_progress can.live lt in
        let y = ap (owed_by (K g valid) r) can.fresh in omega arith

    pub can_targets : CanClaim g valid fuel H (aims (K g valid) es) (length es) under_way
    can_targets =
        record {
          pre = begins;
          inv = inv_busy (world g valid) s r in_progress can.inv can.in_graph was_idle refl;
          few = let z = owed_then in let y = can.few in omega arith;
        }

    module _ (cs : List MaybeClaimedRegion) (s₁ : NestState) (p : target_regions g claim es under_way ≡ done cs s₁) where
      counted : CasesCounted (K g valid) es under_way cs s₁
      counted =
          (subst (λ a. Post Nine (λ cs s'. CasesCounted (K g valid) es under_way cs s') a) p
          (target_regions_counted (K g valid) fuel claim (claim_counted (K g valid) fuel) es H under_way
          (targets_live (K g valid) r can.live)
          begins)).post

      cases_done : CasesDone (world g valid) claim (claim_post (world g valid) (incoming_edge_counts g) fuel) s r under_way es cs s₁
      cases_done =
          (subst (λ a. IfDone (CasesDone (world g valid) claim (claim_post (world g valid) (incoming_edge_counts g) fuel) s r under_way
          es) a) p
          (target_regions_post (world g valid) claim (claim_post (world g valid) (incoming_edge_counts g) fuel) s r es
          (edges_of_usable g r (region g r).terminator ((world g valid).valid.terminator r can.in_graph))
          (λ ed i. target_reachable g r ed.target can.live (in_targets (world g valid) es ed i)) under_way doing)).post

      pub inv_targets : Inv (world g valid) s₁
      inv_targets = cases_done.inv

      pub few_in_targets : (q : ℕ) → totals (edges_to q) cs ≤ (K g valid).incoming q
      few_in_targets q = let z = counted.step.kept q in let y = begins.room q in omega arith

      pub right_in_targets : totals edgeless cs ≡ 0
      right_in_targets = counted.full

      pub can_turn : (x : Body) (s₂ : NestState) → by_control_inst g (blocks_of g r) (region g r).terminator cs s₁ ≡ done x s₂
          → CanTurn g valid fuel s r H x s₂
      can_turn x s₂ q =
          let b : BodyCounted (K g valid) 0 (λ q. totals (edges_to q) cs) s₁ x s₂ =
          (subst (λ a. Post Nine (λ y s'. BodyCounted (K g valid) 0 (λ q. totals (edges_to q) cs) s₁ y s') a) q
          (by_control_inst_counted (K g valid) (blocks_of g r) (region g r).terminator cs s₁ counted.step.inv counted.fits
          counted.full)).post in
          let st : Counted (K g valid) (length es) 0 (aims (K g valid) es) (λ q. edge_total (edges_to q) x.deferred_edges) under_way s₂ =
          counted_then (K g valid) counted.step b.step (omega arith) (λ q. omega arith) in
          record {
            came = (subst (λ a. IfDone (λ x s'. Came (world g valid) s r x.children x.deferred_edges s') a) q
                (by_control_inst_post (world g valid) s r s₁ (doing_on (world g valid) doing cases_done.inv cases_done.step) cs
                (cases_back (world g valid) doing.step cases_done.is) (region g r).terminator refl
                ((world g valid).valid.terminator r can.in_graph) cases_done.len cases_done.enters)).post;
            good = b.good;
            pre = pre_after (K g valid) begins st;
            few = let z = st.paid in let y = owed_then in let f = can.few in omega arith;
          }

-- ---- Words: the first step and the last.
module _ {g : Graph} {w : List ℕ} {s : NestState} (shown : ShowsState g w s) (few : length g.regions ≤ 32) (r : ℕ)
    (in_graph : r < length g.regions) where
  below : r < 32
  below = omega arith

  pub begun_shown : ShowsState g (stored w kinds r kind_in_progress) (with_state s r in_progress)
  begun_shown =
      let room = shown.tables.size in
      kind_set g w room r below kind_in_progress shown in_graph (is_in_progress (word_there w kinds r kind_in_progress (omega arith) below))

  pub begun_cells : region_kind w r ≡ kind_not_begun → cells_in_all g (stored w kinds r kind_in_progress) + 11 ≡ cells_in_all g w
  begun_cells e =
      let room = shown.tables.size in
      let z = owed_kind g w r 1 room below in_graph in
      let h : word (stored w kinds r kind_in_progress) head cells_at ≡ word w head cells_at = ap (λ l. get_or l 4 0)
      (section_other w kinds r kind_in_progress head (omega arith)) in
      let y = rw e at z in omega arith

-- A list that a region under way does not have of its own.
pub record OfBody (k : Section) : Type 0 where
  pub nothing : MakesNothing k no_total
  pub not_head : number k ≡ number sections.head → ⊥
  pub not_starts : number sections.set_starts ≡ number k → ⊥
  pub not_lengths : number sections.set_lengths ≡ number k → ⊥
  pub not_children : number sections.children ≡ number k → ⊥
  pub not_bundles : number sections.bundles ≡ number k → ⊥

-- Only region r's state changes.
pub record Beside (g : Graph) (r : ℕ) (w w' : List ℕ) : Type 0 where
  pub made_stays : PreservesMade g w w'
  pub kinds_stay : (q : ℕ) → (q ≡ r → ⊥) → region_kind w' q ≡ region_kind w q
  pub regions_stay : (q : ℕ) → q < length g.regions → (q ≡ r → ⊥) → KeptRegion w w' q

pub beside_kind : (g : Graph) (w : List ℕ) (r x : ℕ) → Beside g r w (stored w kinds r x)
beside_kind g w r x =
    let changes = word_changes kinds no_total w (omega arith) r x in
    record {
      made_stays = preserves_by changes (omega arith) g;
      kinds_stay = λ q d. word_apart w kinds r x kinds q d;
      regions_stay = λ q l d. kept_by changes (omega arith) q;
    }

-- From a region that begins to one that is Ready: what others hold is as it was.
pub region_preserves : {g : Graph} {r : ℕ} {w w₁ w₃ w' : List ℕ} → (Occupied w r → ⊥) → Beside g r w w₁ → PreservesOthers g r w₁ w₃
    → Beside g r w₃ w'
    → PreservesOccupied g w w'
region_preserves {r} {w} {w₁} {w₃} free a b c =
    record {
      made_stays = preserves_then a.made_stays (preserves_then b.made_stays c.made_stays);
      kinds_stay = λ q h. c.kinds_stay q (other q h) ∙ b.kinds_stay q (first q h) ∙ a.kinds_stay q (other q h);
      regions_stay = λ q l h. kept_then (a.regions_stay q l (other q h))
          (kept_then (b.regions_stay q l (other q h) (first q h)) (c.regions_stay q l (other q h)));
    }
  where
    other : (q : ℕ) → Occupied w q → q ≡ r → ⊥
    other q h e = free (subst (λ z. Occupied w z) e h)

    first : (q : ℕ) → Occupied w q → Occupied w₁ q
    first q (inl e) = inl (a.kinds_stay q (other q (inl e)) ∙ e)
    first q (inr e) = inr (a.kinds_stay q (other q (inr e)) ∙ e)

pub body_with : {g : Graph} (r : ℕ) (x : Body) (k : Section) (w : List ℕ) (y : ℕ) → OfBody k → ShowsBody g w r x
    → ShowsBody g (stored w k r y) r x
body_with {g} r x k w y o b =
    let changes = word_changes k no_total w o.not_head r y in
    let made_stays = preserves_by changes o.nothing g in
    let starts : word (stored w k r y) set_starts r ≡ word w set_starts r = ap (λ l. get_or l r 0)
    (changes.others set_starts o.not_starts (omega arith)) in
    let lengths : word (stored w k r y) set_lengths r ≡ word w set_lengths r =
    ap (λ l. get_or l r 0) (changes.others set_lengths o.not_lengths (omega arith)) in
    let handle : word (stored w k r y) children r ≡ word w children r = ap (λ l. get_or l r 0)
    (changes.others children o.not_children (omega arith)) in
    record {
      nodes = rw handle (made_stays.nodes_stay b.nodes);
      set = rw (starts, lengths)
          (set_stays made_stays (λ i h. bundles_same (changes.others bundles o.not_bundles (omega arith)) (word w set_starts r + i))
          b.set);
    }

module _ {g : Graph} {w : List ℕ} {s : NestState} (shown : ShowsState g w s) (few : length g.regions ≤ 32) (r : ℕ)
    (in_graph : r < length g.regions) (busy : region_kind w r ≡ kind_in_progress) (x : Body) (body : ShowsBody g w r x) where
  abbrev d : DeferredEdgeBundleSet
  d = x.deferred_edges

  abbrev n : ℕ
  n = backedges_deferred w r

  -- The back edges that the set has.
  backedges_are : backedges_deferred w r ≡ count_to r d
  unfolding backedges_deferred
  backedges_are = go (finds w few (word w set_starts r) (shows_region refl in_graph) body.set)
    where
      go : Finds (word w set_starts r) (to_region r) d (backedge_at w r)
          → pick (eqb (backedge_at w r) no_bundle_word) 0 (bundle_count w (backedge_at w r)) ≡ count_to r d
      go (found i at l gets same before) =
          let size = body.set.size in
          let most = body.set.room in
          rw (ne_eqb (backedge_at w r) no_bundle_word (omega arith), gets, count_to, at) (body.set.each i (omega arith)).count
      go (none_found at gets) = rw (eq-eqb (backedge_at w r) no_bundle_word at, gets, count_to)

  abbrev w₁ : List ℕ
  w₁ = stored w backedges r n

  there : r < 32
  there = omega arith

  abbrev first : Concerns g r w w₁
  first = word_concerns g w backedges (omega arith) r n

  pub ready_shown : ShowsState g (made_ready w r) (with_state s r (ready (count_to r d) x.children d))
  ready_shown =
      let room = shown.tables.size in
      let st : ShowsState g w₁ s = state_stays first.made_stays (concerns_states first few (λ e. absurd (omega arith))) first.tables
      shown in
      let b₁ = body_with r x backedges w n (omega arith) body in
      let b₂ = body_with r x kinds w₁ kind_ready (omega arith) b₁ in
      let room₁ = st.tables.size in
      let counted : word (made_ready w r) backedges r ≡ count_to r d =
      ap (λ l. get_or l r 0) (section_other w₁ kinds r kind_ready backedges (omega arith)) ∙ word_there w backedges r n (omega arith) there ∙
      backedges_are in
      kind_set g w₁ room₁ r there kind_ready st in_graph
      (is_ready (word_there w₁ kinds r kind_ready (omega arith) there) counted b₂.nodes b₂.set)

  pub ready_beside : Beside g r w (made_ready w r)
  ready_beside =
      let b = beside_kind g w₁ r kind_ready in
      record {
        made_stays = preserves_then first.made_stays b.made_stays;
        kinds_stay = λ q d. b.kinds_stay q d ∙ first.same_kinds q;
        regions_stay = λ q l d. kept_then (first.others q (let many = few in omega arith) d) (b.regions_stay q l d);
      }

  pub ready_cells : cells_in_all g (made_ready w r) ≡ cells_in_all g w
  ready_cells =
      let room₁ : used ≤ length w₁ = rw (stored_length _ _ w r n) shown.tables.size in
      let e = owed_stays g w w₁ (λ q h. first.same_kinds q) in
      let z = owed_kind g w₁ r kind_ready room₁ there in_graph in
      let k : region_kind w₁ r ≡ kind_in_progress = first.same_kinds r ∙ busy in
      let y = rw k at z in
      let h : word (made_ready w r) head cells_at ≡ word w head cells_at = ap (λ l. get_or l 4 0)
      (section_other w₁ kinds r kind_ready head (omega arith)) ∙
      first.same_head cells_at in
      omega arith
