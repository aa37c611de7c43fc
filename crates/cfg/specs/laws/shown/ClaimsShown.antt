-- Claims and regions, for every state that the words show: what the definition's try_claim_edge_bundle and structurize_region answer.
use Rattle.std.specs.Prelude.{◌≡◌, Bool, ◌&&◌, List, [], ◌∷◌, ◌++◌, ℕ, zero, suc, ◌+◌, ◌≤◌, ◌<◌, length, get_or, take, drop}
use Rattle.std.proofs.Math.Path.{refl, ap}
use Rattle.std.proofs.Common.{sym, subst, ◌∙◌, inl, inr, arith, drop_of_length-le, drop-cons, lt-ltb, eq-eqb, ne_eqb}
use Rattle.std.proofs.Math.Bool.{true, false, not}
use Rattle.std.proofs.Math.Option.{Option, none, some}
use Rattle.std.proofs.Math.Dec.{eqb}
use Rattle.meaning.specs.Graph.{Graph, Value, Edge, no_edge, region, edges_of, bool_cond}
use Rattle.meaning.specs.Lists.{is_in, pick, empty}
use Rattle.format.specs.Valid.{Valid}
use Rattle.fields.specs.ByNumber.{edge_of}
use Rattle.nesting.specs.Nesting.{NestState, StepAnswer, done, turned_away, incoming_edge_counts, try_claim_edge_bundle, target_regions}
use Rattle.nesting.specs.Nesting.{by_control_inst, resolve_deferred, structurize_region, blocks_of, MaybeClaimedRegion, ok, err, Body}
use Rattle.nesting.specs.Nesting.{claim_by_state}
use Rattle.nesting.specs.Nesting.{DeferredEdgeBundleSet, SplitOut, to_region, to_return, structurize_select_into, condition_in, lazy}
use Rattle.nesting.specs.Nesting.{add_attempt}
use Rattle.nesting.specs.Nesting.{split_out_matching, StructurizeRegionState, not_begun, in_progress, claimed, ready, defer_edge}
use Rattle.nesting.specs.Nesting.{unclaimed_edge, begin, Claim, follow, get_state, ClaimedRegion, DeferredTarget}
use Rattle.nesting.specs.Nesting.{has_children, count_to}
use Rattle.nesting.specs.steps.RegionsLeft.{state_of, with_state, not_begun_one}
use Rattle.nesting.specs.steps.Post.{Post}
use Rattle.meaning.specs.facts.Elements.{extends_refl}
use Rattle.meaning.specs.facts.Tests.{clash, pick_and}
use Rattle.follows.specs.simulation.Defined.{Grew, IfDone}
use Rattle.follows.specs.simulation.Invariant.{Inv, LaterState, inv_grew}
use Rattle.follows.specs.simulation.Claims.{claim_post, structurize_region_post}
use Rattle.follows.specs.simulation.Usable.{EdgesUsable}
use Rattle.follows.specs.simulation.ValidUse.{edges_of_usable}
use Rattle.follows.specs.counting.Totals.{edge_total, edges_to, totals, edgeless}
use Rattle.follows.specs.counting.Counting.{Nine, Counted, counted_as, pre_after, pre_as}
use Rattle.follows.proofs.counting.CountClaim.{edges_self}
use Rattle.follows.proofs.counting.CountScan.{aims, AllLive}
use Rattle.follows.proofs.counting.CountRegion.{Begun, targets_live, claim_counted, structurize_counted}
use Rattle.state_words.specs.Sections.{word, stored, kinds, children, set_lengths, head, rewrites}
use Rattle.state_words.specs.Totals.{attempted}
use Rattle.state_regions.specs.RegionTables.{target_answer, target_answer_stored}
use Rattle.state_shown.specs.laws.CellSteps.{has_list}
use Rattle.state_shown.specs.laws.Steps.{attempt_counted}
use Rattle.state_shown.specs.laws.Stores.{ChangesOnly, head_changes, word_there}
use Rattle.state_shown.specs.Sets.{ShowsTarget, shows_region, shows_return, no_bundle, target_size}
use Rattle.state_shown.specs.States.{ShowsState, ShowsBody, ShowsRegion, is_not_begun, is_in_progress, is_ready, is_claimed, ShowsClaimed}
use Rattle.state_shown.specs.States.{ShowsOwnSet, no_case}
use Rattle.state_shown.specs.laws.RegionsKept.{body_stays, claimed_stays, own_set_stays}
use Rattle.state_shown.specs.laws.RegionSteps.{state_stays, concerns_states, state_next, states_by, preserves_by, kept_by, named_by}
use Rattle.state_words.specs.Totals.{Made}
use Rattle.std.specs.Prelude.{Err, Ok, Result, ⊤}
use Rattle.cfg_regions.specs.declared.claim.Claim as code
use Rattle.cfg_claims.specs.SplitOut as split
use Rattle.cfg_regions.specs.ByState.{ClaimsByState, unclaimed_word, is_trivial}
use Rattle.cfg_regions.specs.ByInst.{ByControlInst, ResolvesBy}
use Rattle.cfg_claims.specs.Claims.{NotBegun, own_target, own_count, TriesClaim, no_region, refused_inside, first_claim}
use Rattle.cfg_claims.specs.Claims.{later_claim, StructurizesRegion, refused_at_targets, refused_at_inst, refused_at_edges, structurized}
use Rattle.cfg_claims.specs.Claims.{TargetRegions, no_target, target_refused, target_claimed, target_waits, Scans, no_bundle_left}
use Rattle.cfg_claims.specs.Claims.{passes_return, passes_waiting, claims_bundle, scan_refused, SplitsOut, splits_out, Resolves, no_turn}
use Rattle.cfg_claims.specs.Claims.{nothing_claimed, claim_refused, select_refused, claims_and, ResolvesAll, resolves_all}
use Rattle.cfg.specs.laws.shown.Shows.{AnsweredAs, BodyShows, CanClaim, ClaimShows, K, NewlyClaimed, Occupied, PreservesOccupied}
use Rattle.cfg.specs.laws.shown.Shows.{PreservesOthers, RegionShows, ScanShows, TargetsShow, TurnsShow, cells_in_all, if_body}
use Rattle.cfg.specs.laws.shown.Shows.{if_claimed, if_full, if_ready, if_refused, if_split, if_targets, if_targets_refused, if_turns}
use Rattle.cfg.specs.laws.shown.Shows.{if_turns_refused, if_unclaimed, most_cells_in_all, occupied_same, occupied_then, others_but}
use Rattle.cfg.specs.laws.shown.Shows.{others_of_occupied, others_same, others_then, owed_stays, refuses_region, refuses_targets}
use Rattle.cfg.specs.laws.shown.Shows.{shows_claimed, shows_nothing, shows_ready, shows_refused, shows_targets, shows_turns}
use Rattle.cfg.specs.laws.shown.Shows.{shows_unclaimed, still_occupied, turned_as, was_claimed, was_deferred, was_nothing, world}
use Rattle.cfg.specs.laws.shown.TargetsShown.{Noted, notes, noted_cells, claimed_other, FirstNew, can_first, can_next, targets_more}
use Rattle.cfg.specs.laws.shown.ScansShown.{own_bundle_shown, CanScan, bundle_live, bundle_counts, can_claim_bundle, scan_on}
use Rattle.cfg.specs.laws.shown.ScansShown.{scan_past_return, passed_return, passed_waiting, scan_claims, scan_refusal}
use Rattle.cfg.specs.laws.shown.TurnsShown.{CanTurn, can_scan, few_in_cases, right_in_cases, turn_on, first_done}
use Rattle.cfg.specs.laws.shown.TurnsShown.{turns_nothing, turns_refuse}
use Rattle.cfg.specs.laws.shown.TurnsShown.{turns_full, turns_again}
use Rattle.cfg.specs.laws.shown.RegionsShown.{CanBegin, can_targets, inv_targets, few_in_targets, right_in_targets, can_turn}
use Rattle.cfg.specs.laws.shown.RegionsShown.{begun_shown}
use Rattle.cfg.specs.laws.shown.RegionsShown.{begun_cells, beside_kind}
use Rattle.cfg.specs.laws.shown.RegionsShown.{region_preserves, ready_shown, ready_beside, ready_cells}
use Rattle.state_words.specs.Values.{parts}
use Rattle.state_words.specs.Rows.{attempts_at, cells_at, kind_claimed, kind_in_progress, kind_not_begun, kind_ready, largest, level}
use Rattle.state_words.specs.Rows.{level_claimed, region_kind, return_word}
use Rattle.store.specs.declared.refusals.Refusal.{Refusal}
use Rattle.state_words.specs.Rows.{level_deferred, level_unreachable}
use Rattle.store.specs.declared.refusals.Refusal.TheVariants.{TooMany}

-- ---- What the other files show, of a graph and of the counts that the code was given.
pub record ShownParts (g : Graph) (valid : Valid g) : Type 0 where
  pub few : length g.regions ≤ 32
  pub few_targets : (r : ℕ) → length (edges_of (region g r).terminator) ≤ 8
  pub few_incoming : (q : ℕ) → (K g valid).incoming q ≤ 65534
  pub by_state : {w w' : List ℕ} {r n : ℕ} {a : Result code.Claim Refusal} → ClaimsByState g w r n (get_or (incoming_edge_counts g) r 0) w' a
      → (fuel : ℕ) (H : ℕ → ℕ) (s : NestState) (inputs : List Value) → ShowsState g w s → cells_in_all g w ≤ most_cells_in_all
      → is_in r (K g valid).live ≡ true → length inputs ≡ length (region g r).inputs → (region_kind w r ≡ kind_not_begun → ⊥)
      → 1 ≤ n → CanClaim g valid fuel H (λ q. edges_to q (to_region r) n) 0 s
      → ClaimShows g w w' r inputs (claim_by_state g r n inputs (get_or (incoming_edge_counts g) r 0) (state_of s r) s) a
  pub by_inst : {w w' : List ℕ} {r : ℕ} {a : Made} → ByControlInst g w r w' a → (s : NestState) (cs : List MaybeClaimedRegion)
      → ShowsState g w s → cells_in_all g w ≤ most_cells_in_all → r < length g.regions → region_kind w r ≡ kind_in_progress
      → length cs ≡ length (edges_of (region g r).terminator)
      → ((k : ℕ) → k < length (edges_of (region g r).terminator) → AnsweredAs g w r k (edge_of g r k) (get_or cs k no_case))
      → ((k : ℕ) (c : ClaimedRegion) → get_or cs k no_case ≡ ok c → c.origin ≡ r → ⊥)
      → ((i j : ℕ) (c d : ClaimedRegion) → i < j → get_or cs i no_case ≡ ok c → get_or cs j no_case ≡ ok d → c.origin ≡ d.origin → ⊥)
      → Inv (world g valid) s → ((q : ℕ) → totals (edges_to q) cs ≤ largest) → totals edgeless cs ≡ 0
      → BodyShows g w w' r cs 11 (by_control_inst g (blocks_of g r) (region g r).terminator cs s) a
  pub by_resolve : {w w' : List ℕ} {r i : ℕ} {a : Made} → ResolvesBy g w r i w' a → (s : NestState) (x : Body) (y : SplitOut) (t : ℕ)
      → ShowsState g w s → cells_in_all g w ≤ most_cells_in_all → r < length g.regions → region_kind w r ≡ kind_in_progress
      → ShowsBody g w r x
      → i < length x.deferred_edges → y.bundle ≡ get_or x.deferred_edges i no_bundle
      → y.others ≡ take i x.deferred_edges ++ drop (suc i) x.deferred_edges → y.bundle.target ≡ to_region t → (t ≡ r → ⊥)
      → ShowsClaimed g w y.claimed_region → y.claimed_region.origin ≡ t
      → y.claimed_region.structured_body_inputs ≡ y.bundle.target_inputs → Inv (world g valid) s
      → ((q : ℕ) → totals (edges_to q) (ok y.claimed_region ∷ err y.others ∷ []) ≤ largest)
      → totals edgeless (ok y.claimed_region ∷ err y.others ∷ []) ≡ 0
      → BodyShows g w w' r (ok y.claimed_region ∷ err y.others ∷ []) 4
      (structurize_select_into g x.children bool_cond (lazy (condition_in x.deferred_edges y.bundle))
      (ok y.claimed_region ∷ err y.others ∷ []) s) a

-- ---- A region's kind says its state.
kind_none : {g : Graph} {w : List ℕ} {r : ℕ} {x : StructurizeRegionState} → ShowsRegion g w r x → region_kind w r ≡ kind_not_begun
    → x ≡ not_begun
kind_none (is_not_begun a) e = refl
kind_none (is_in_progress a) e = absurd (omega arith)
kind_none (is_ready a b c d) e = absurd (omega arith)
kind_none (is_claimed a) e = absurd (omega arith)

kind_some : {g : Graph} {w : List ℕ} (r : ℕ) {x : StructurizeRegionState} → ShowsRegion g w r x → not_begun_one x ≡ 0 → region_kind w r ≡
    0 → ⊥
kind_some r (is_not_begun a) e z = absurd (omega arith)
kind_some r (is_in_progress a) e z = absurd (omega arith)
kind_some r (is_ready a b c d) e z = absurd (omega arith)
kind_some r (is_claimed a) e z = absurd (omega arith)

some_kind : {g : Graph} {w : List ℕ} {r : ℕ} {x : StructurizeRegionState} → ShowsRegion g w r x → (region_kind w r ≡ kind_not_begun → ⊥) →
    not_begun_one x ≡ 0
some_kind (is_not_begun a) d = absurd (d a)
some_kind (is_in_progress a) d = refl
some_kind (is_ready a b c e) d = refl
some_kind (is_claimed a) d = refl

not_occupied : (w : List ℕ) (r : ℕ) → region_kind w r ≡ kind_not_begun → Occupied w r → ⊥
not_occupied w r e (inl p) = absurd (omega arith)
not_occupied w r e (inr p) = absurd (omega arith)

-- ---- An edge that was not claimed: nothing, or its own.
module _ {g : Graph} {w : List ℕ} (r j : ℕ) (e : Edge) (noted : target_answer w r j ≡ unclaimed_word w e.target) where
  unclaimed_answer : {x : StructurizeRegionState} → ShowsRegion g w e.target x → AnsweredAs g w r j e (unclaimed_edge e x)
  unfolding is_trivial
  unclaimed_answer (is_not_begun a) = was_deferred refl (noted ∙ rw (ne_eqb (region_kind w e.target) kind_ready (omega arith)))
  unclaimed_answer (is_in_progress a) = was_deferred refl (noted ∙ rw (ne_eqb (region_kind w e.target) kind_ready (omega arith)))
  unclaimed_answer (is_claimed a) = was_deferred refl (noted ∙ rw (ne_eqb (region_kind w e.target) kind_ready (omega arith)))
  unclaimed_answer (is_ready {b} {ks} {d} a c n s) =
      let childless : eqb (word w children e.target) 0 ≡ not (has_children ks) = go₁ (eqb (word w children e.target) 0)
      (has_list n) in
      let none : eqb (word w set_lengths e.target) 0 ≡ empty d = ap (λ k. eqb k 0) s.size ∙ go₂ d in
      let all : is_trivial w e.target ≡ (empty d && not (has_children ks)) =
      rw (eq-eqb (region_kind w e.target) kind_ready a, none, childless) (pick_and (empty d) (not (has_children ks))) in
      go (empty d && not (has_children ks)) (noted ∙ ap (λ t. pick t 0 1) all)
    where
      go₁ : (t : Bool) → has_children ks ≡ not t → t ≡ not (has_children ks)
      go₁ true p = rw p
      go₁ false p = rw p

      go₂ : (l : DeferredEdgeBundleSet) → eqb (length l) 0 ≡ empty l
      go₂ [] = refl
      go₂ (x ∷ l) = ne_eqb (suc (length l)) 0 (omega arith)

      go : (t : Bool) → target_answer w r j ≡ pick t level_unreachable level_deferred
          → AnsweredAs g w r j e (pick t (err []) (defer_edge e))
      go true p = was_nothing refl p
      go false p = was_deferred refl p

-- ---- The attempt is counted, and nothing else changes.
module _ {g : Graph} {w : List ℕ} {s : NestState} (shown : ShowsState g w s) (few : s.attempts < largest) where
  at_is : attempted w ≡ stored w head attempts_at (word w head attempts_at + 1)
  unfolding attempted
  at_is = let z = shown.tables.attempts in rw (lt-ltb (word w head attempts_at) largest (omega arith))

  changes : ChangesOnly head attempts_at w (attempted w)
  changes = rw at_is (head_changes head attempts_at w (word w head attempts_at + 1))

  pub attempt_shown : ShowsState g (attempted w) (add_attempt s)
  attempt_shown =
      let e = changes.others rewrites (omega arith) (omega arith) in
      state_next (preserves_by changes (omega arith) g) (states_by changes (omega arith) (omega arith) (omega arith) g)
      (attempt_counted shown.tables few refl)
      (named_by e shown.named) refl shown

  pub attempt_kinds : (q : ℕ) → region_kind (attempted w) q ≡ region_kind w q
  attempt_kinds q = ap (λ l. get_or l q 0) (changes.others kinds (omega arith) (omega arith))

  pub attempt_preserves : PreservesOccupied g w (attempted w)
  attempt_preserves =
      record {
        made_stays = preserves_by changes (omega arith) g;
        kinds_stay = λ q h. attempt_kinds q;
        regions_stay = λ q l h. kept_by changes (omega arith) q;
      }

  pub attempt_cells : cells_in_all g (attempted w) ≡ cells_in_all g w
  attempt_cells = let z = owed_stays g w (attempted w) (λ q h. attempt_kinds q) in let y = changes.totals cells_at
      (omega arith) in omega arith

-- What is shown from later words on, from earlier ones on.
claim_before : {g : Graph} {w w₁ w' : List ℕ} {r : ℕ} {inputs : List Value} {b b' : StepAnswer (Option ClaimedRegion)} {a : Result code.Claim Refusal}
    → PreservesOccupied g w w₁ → (Occupied w r → Occupied w₁ r) → cells_in_all g w₁ ≤ cells_in_all g w → b ≡ b'
    → ClaimShows g w₁ w' r inputs b' a
    → ClaimShows g w w' r inputs b a
claim_before u on c e (shows_claimed {c = y} {s'} p st cl o i f v k) =
    shows_claimed {c = y} {s' = s'} (e ∙ p) st cl o i (λ h. f (on h)) (occupied_then u v) (omega arith)
claim_before u on c e (shows_unclaimed {s'} p st v k) = shows_unclaimed {s' = s'} (e ∙ p) st (occupied_then u v) (omega arith)
claim_before u on c e (shows_refused {y} p) = shows_refused {y = y} (e ∙ p)

refused_from : {g : Graph} {w w₁ w' : List ℕ} {r : ℕ} {inputs : List Value} {b : StepAnswer (Option ClaimedRegion)} {c : StepAnswer Unit}
    {y : Refusal} → (c ≡ turned_as y → b ≡ turned_as y) → RegionShows g w₁ w' c (Err y)
    → ClaimShows g w w' r inputs b (Err y)
refused_from f (refuses_region {y} p) = shows_refused {y = y} (f p)

-- ---- The definition's claim, by the state of its region.
module _ (g : Graph) (fuel r n : ℕ) (inputs : List Value) (s : NestState) where
  abbrev inner : Claim
  inner = λ r' n' inputs'. try_claim_edge_bundle g (incoming_edge_counts g) fuel r' n' inputs'

  abbrev outer : StepAnswer (Option ClaimedRegion)
  outer = try_claim_edge_bundle g (incoming_edge_counts g) (suc fuel) r n inputs s

  abbrev by_its_state : NestState → StepAnswer (Option ClaimedRegion)
  by_its_state s₁ = claim_by_state g r n inputs (get_or (incoming_edge_counts g) r 0) (state_of s₁ r) s₁

  -- What follows, from what was begun on.
  after_begin : StepAnswer Unit → StepAnswer (Option ClaimedRegion)
  after_begin a = follow (follow a (λ u. get_state r)) (claim_by_state g r n inputs (get_or (incoming_edge_counts g) r 0))

  begin_by : StructurizeRegionState → StepAnswer (Option ClaimedRegion)
  begin_by x = after_begin (begin x (structurize_region g inner r) (add_attempt s))

  begun_before : (x : StructurizeRegionState) → state_of s r ≡ x → not_begun_one x ≡ 0 → outer ≡ by_its_state (add_attempt s)
  unfolding try_claim_edge_bundle begin_by after_begin
  begun_before not_begun e h = absurd (omega arith)
  begun_before in_progress e h = ap begin_by e
  begun_before claimed e h = ap begin_by e
  begun_before (ready b ks d) e h = ap begin_by e

  begun_now : state_of s r ≡ not_begun → {s₁ : NestState} → structurize_region g inner r (add_attempt s) ≡ done tt s₁ → outer ≡
      by_its_state s₁
  unfolding try_claim_edge_bundle begin_by after_begin
  begun_now e p = ap begin_by e ∙ ap after_begin p

  begun_not : state_of s r ≡ not_begun → {m x : ℕ} → structurize_region g inner r (add_attempt s) ≡ turned_away m x → outer ≡
      turned_away m x
  unfolding try_claim_edge_bundle begin_by after_begin
  begun_not e p = ap begin_by e ∙ ap after_begin p

-- ---- How nesting stands inside a claim.
module _ (g : Graph) (valid : Valid g) (fuel : ℕ) (H : ℕ → ℕ) (r n : ℕ) (s : NestState) (in_graph : r < length g.regions)
    (live : is_in r (K g valid).live ≡ true) (some_edges : 1 ≤ n)
    (can : CanClaim g valid (suc fuel) H (λ q. edges_to q (to_region r) n) 1 s) where
  abbrev edges : ℕ → ℕ
  edges q = edges_to q (to_region r) n

  counted_first : Counted (K g valid) 1 0 edges edges s (add_attempt s)
  counted_first =
      record { inv = can.pre.inv; paid = omega arith; begun = omega arith; kept = λ q. omega arith; stay = λ q. refl }

  inv_first : Inv (world g valid) (add_attempt s)
  inv_first =
      let gr : Grew s (add_attempt s) = record {
        outputs = extends_refl s.node_outputs;
        rewrites = refl;
        region_states = refl;
        regions = omega arith;
        node_count = omega arith;
      } in inv_grew (world g valid) gr can.inv

  can_later : CanClaim g valid (suc fuel) H edges 0 (add_attempt s)
  can_later = record { pre = pre_after (K g valid) can.pre counted_first; inv = inv_first; few = let z = can.few in omega arith }

  can_begin : state_of s r ≡ not_begun → CanBegin g valid fuel (λ q. edges q + H q) r (add_attempt s)
  can_begin fresh =
      record {
        in_graph = in_graph;
        live = live;
        fresh = fresh;
        waits = let z = edges_self (K g valid) r n in omega arith;
        pre = pre_as (K g valid) can_later.pre (λ q. edges q + H q) (λ q. 0) (λ q. omega arith) (λ q. omega arith);
        inv = inv_first;
        few = let z = can.few in omega arith;
      }

  module _ (fresh : state_of s r ≡ not_begun) (s₁ : NestState)
      (p : structurize_region g (try_claim_edge_bundle g (incoming_edge_counts g) fuel) r (add_attempt s) ≡ done tt s₁) where
    begun_counted : Begun (K g valid) r (λ q. 0) (add_attempt s) s₁
    begun_counted =
        let b = can_begin fresh in
        (subst (λ a. Post Nine (λ u s'. Begun (K g valid) r (λ q. 0) (add_attempt s) s') a) p
        (structurize_counted (K g valid) fuel (try_claim_edge_bundle g (incoming_edge_counts g) fuel) (claim_counted (K g valid) fuel) r
        (λ q. edges q + H q) (add_attempt s) live fresh b.waits b.pre)).post

    can_after : CanClaim g valid (suc fuel) H edges 0 s₁
    can_after =
        let st = counted_as (K g valid) begun_counted.step 0 0 edges edges (omega arith) (λ q. omega arith) in
        let i : Inv (world g valid) s₁ × LaterState (world g valid) (add_attempt s) s₁ =
        (subst (λ a. IfDone (λ u s'. Inv (world g valid) s' × LaterState (world g valid) (add_attempt s) s') a) p
        (structurize_region_post (world g valid) (try_claim_edge_bundle g (incoming_edge_counts g) fuel)
        (claim_post (world g valid) (incoming_edge_counts g) fuel) r in_graph live (add_attempt s) inv_first fresh)).post in
        record {
          pre = pre_after (K g valid) can_later.pre st;
          inv = i.0;
          few = let z = st.paid in let y = can_later.few in omega arith;
        }

-- ---- Which target a word stands for.
record GoesTo (g : Graph) (x : ℕ) (y : DeferredTarget) : Type 0 where
  region : ℕ
  is : y ≡ to_region region
  word : x ≡ region
  in_graph : region < length g.regions

goes_there : {g : Graph} {x : ℕ} {y : DeferredTarget} → ShowsTarget g x y → (x ≡ return_word → ⊥) → GoesTo g x y
goes_there (shows_region {r} e l) d = record { region = r; is = refl; word = e; in_graph = l }
goes_there (shows_return e) d = absurd (d e)

returns_there : {g : Graph} {x : ℕ} {y : DeferredTarget} → length g.regions ≤ 32 → ShowsTarget g x y → x ≡ return_word → y ≡ to_return
returns_there few (shows_region e l) p = absurd (omega arith)
returns_there few (shows_return e) p = refl

unclaimed_not : (e : Edge) (x : StructurizeRegionState) (c : ClaimedRegion) → unclaimed_edge e x ≡ ok c → ⊥
unclaimed_not e not_begun c p = clash (cc)
unclaimed_not e in_progress c p = clash (cc)
unclaimed_not e claimed c p = clash (cc)
unclaimed_not e (ready b ks d) c p = go (empty d && not (has_children ks)) p
  where
    go : (t : Bool) → pick t (err []) (defer_edge e) ≡ ok c → ⊥
    go true q = clash (cc)
    go false q = clash (cc)

-- The region that a case claimed; 0 if none.
abbrev origin_of : MaybeClaimedRegion → ℕ
origin_of (ok c) = c.origin
origin_of (err d) = 0

occupied_noted : {g : Graph} {w w' : List ℕ} {r j y : ℕ} → Noted g w w' r j y → (q : ℕ) → Occupied w q → Occupied w' q
occupied_noted n q (inl e) = inl (n.concerns.same_kinds q ∙ e)
occupied_noted n q (inr e) = inr (n.concerns.same_kinds q ∙ e)

-- What is noted of region r is not what tells of an edge's target.
unclaimed_same : {g : Graph} {w w' : List ℕ} {r j y : ℕ} → Noted g w w' r j y → (t : ℕ) → unclaimed_word w' t ≡ unclaimed_word w t
unfolding is_trivial
unclaimed_same n t = rw (n.concerns.same_kinds t, n.lengths t, n.handles t)

busy_there : {g : Graph} {w : List ℕ} {s : NestState} → ShowsState g w s → (r : ℕ) → NotBegun w r
    → region_kind (stored w kinds r kind_in_progress) r ≡ kind_in_progress
busy_there {w} shown r new = let room = shown.tables.size in word_there w kinds r kind_in_progress (omega arith) new.below

-- The region that a scan claimed was not occupied before.
claimed_was_free : (w : List ℕ) (y : SplitOut) (t : ℕ) → y.claimed_region.origin ≡ t → (Occupied w t → ⊥) → (j : ℕ) (c : ClaimedRegion)
    → get_or (ok y.claimed_region ∷ err y.others ∷ []) j no_case ≡ ok c → Occupied w c.origin → ⊥
claimed_was_free w y t o free zero c e h = free (subst (λ q. Occupied w q) (ap origin_of (sym e) ∙ o) h)
claimed_was_free w y t o free (suc zero) c e h = clash (cc)
claimed_was_free w y t o free (suc (suc j)) c e h = clash (cc)

-- ---- What a step of the targets leaves for the next.
record NextStep (g : Graph) (w w₁ w₂ : List ℕ) (r j how : ℕ) (m : MaybeClaimedRegion) (s₁ : NestState) : Type 0 where
  place : j < 8
  noted : Noted g w₁ w₂ r j how
  levels_same : (k : ℕ) → k < 8 → level w₁ r k ≡ level w r k
  state : ShowsState g w₂ s₁
  busy : region_kind w₂ r ≡ kind_in_progress
  answered : AnsweredAs g w₂ r j (edge_of g r j) m
  first : FirstNew w w₂ m

module _ {g : Graph} {w w₁ : List ℕ} {r j : ℕ} {s₁ : NestState} (few : length g.regions ≤ 32)
    (few_targets : length (edges_of (region g r).terminator) ≤ 8) (in_graph : r < length g.regions)
    (busy : region_kind w r ≡ kind_in_progress)
    (h : j < length (edges_of (region g r).terminator)) where
  claimed_next : {y : ClaimedRegion} → ShowsState g w₁ s₁ → ShowsClaimed g w₁ y → y.origin ≡ (edge_of g r j).target
      → y.structured_body_inputs ≡ (edge_of g r j).inputs → (Occupied w (edge_of g r j).target → ⊥) → PreservesOccupied g w w₁
      → NextStep g w w₁ (target_answer_stored w₁ r j level_claimed) r j level_claimed (ok y) s₁
  claimed_next {y} st cl o i free u =
      let below : r < 32 = omega arith in
      let place : j < 8 = omega arith in
      let noted = notes g w₁ r j level_claimed st.tables.size below place in
      let busy₁ : region_kind w₁ r ≡ kind_in_progress = u.kinds_stay r (inl busy) ∙ busy in
      record {
        place = place;
        noted = noted;
        levels_same = λ k b. (u.regions_stay r in_graph (inl busy)).target_answers k b;
        state = state_stays noted.concerns.made_stays (concerns_states noted.concerns few (λ z. absurd (omega arith)))
            noted.concerns.tables st;
        busy = noted.concerns.same_kinds r ∙ busy₁;
        answered = was_claimed refl noted.here
            (claimed_stays noted.concerns.made_stays
            (noted.concerns.others y.origin (let z = cl.in_graph in omega arith) (claimed_other w₁ busy₁ cl.kind))
            (noted.concerns.same_kinds y.origin) cl) o i;
        first = record {
          free = λ z e hd. free (subst (λ q. Occupied w q) (ap origin_of (sym e) ∙ o) hd);
          occupied = λ z e. occupied_noted noted z.origin
              (inr (subst (λ q. region_kind w₁ q ≡ kind_claimed) (ap origin_of e) cl.kind));
          on = λ q hd. occupied_noted noted q (still_occupied u q hd);
        };
      }

  unclaimed_next : (edge_of g r j).target < length g.regions → ShowsState g w₁ s₁ → PreservesOccupied g w w₁
      → NextStep g w w₁ (target_answer_stored w₁ r j (unclaimed_word w₁ (edge_of g r j).target)) r j (unclaimed_word w₁
      (edge_of g r j).target)
      (unclaimed_edge (edge_of g r j) (state_of s₁ (edge_of g r j).target)) s₁
  unclaimed_next target st u =
      let below : r < 32 = omega arith in
      let place : j < 8 = omega arith in
      let e = edge_of g r j in
      let noted = notes g w₁ r j (unclaimed_word w₁ e.target) st.tables.size below place in
      let busy₁ : region_kind w₁ r ≡ kind_in_progress = u.kinds_stay r (inl busy) ∙ busy in
      let st₂ = state_stays noted.concerns.made_stays (concerns_states noted.concerns few (λ z. absurd (omega arith)))
      noted.concerns.tables st in
      record {
        place = place;
        noted = noted;
        levels_same = λ k b. (u.regions_stay r in_graph (inl busy)).target_answers k b;
        state = st₂;
        busy = noted.concerns.same_kinds r ∙ busy₁;
        answered = unclaimed_answer r j e (noted.here ∙ sym (unclaimed_same noted e.target)) (st₂.regions e.target target);
        first = record {
          free = λ z q. absurd (unclaimed_not e (state_of s₁ e.target) z q);
          occupied = λ z q. absurd (unclaimed_not e (state_of s₁ e.target) z q);
          on = λ q hd. occupied_noted noted q (still_occupied u q hd);
        };
      }

-- No target left.
targets_over : (g : Graph) (valid : Valid g) (fuel r j : ℕ) (s : NestState) {w : List ℕ} → ShowsState g w s
    → TargetsShow g w w r j [] (target_regions g (try_claim_edge_bundle g (incoming_edge_counts g) fuel) [] s) (Ok tt)
unfolding target_regions
targets_over g valid fuel r j s {w} shown =
    shows_targets refl shown refl (λ k b. absurd (omega arith))
    (record { free = λ k c p. absurd (clash (cc)); apart = λ i k c d l p. absurd (clash (cc)) }) (others_same g r w) (λ k b. refl)
    (omega arith)

-- ---- The cycle.
module _ (g : Graph) (valid : Valid g) (parts : ShownParts g valid) (counts : List ℕ)
    (right : (r : ℕ) → r < length g.regions → get_or counts r 0 ≡ get_or (incoming_edge_counts g) r 0) where
  live_below : (r : ℕ) → is_in r (K g valid).live ≡ true → r < length g.regions
  live_below r l = (K g valid).below r l

  abbrev defined : ℕ → Claim
  defined fuel = try_claim_edge_bundle g (incoming_edge_counts g) fuel

  abbrev its_edges : ℕ → List Edge
  its_edges r = edges_of (region g r).terminator

  inst_from : {w w₁ w₂ : List ℕ} {r : ℕ} {a : Made} → ByControlInst g w₁ r w₂ a → (fuel : ℕ) (H : ℕ → ℕ) (s : NestState) → ShowsState g w s
      → cells_in_all g w ≤ most_cells_in_all → NotBegun w r → (can : CanBegin g valid fuel H r s)
      → (cs : List MaybeClaimedRegion) (s₁ : NestState)
      → target_regions g (defined fuel) (its_edges r) (with_state s r in_progress) ≡ done cs s₁ → ShowsState g w₁ s₁
      → length cs ≡ length (its_edges r)
      → ((k : ℕ) → k < length (its_edges r) → AnsweredAs g w₁ r (0 + k) (get_or (its_edges r) k no_edge) (get_or cs k no_case))
      → NewlyClaimed (stored w kinds r kind_in_progress) cs → PreservesOthers g r (stored w kinds r kind_in_progress) w₁
      → cells_in_all g w₁ ≤ cells_in_all g (stored w kinds r kind_in_progress)
      → BodyShows g w₁ w₂ r cs 11 (by_control_inst g (blocks_of g r) (region g r).terminator cs s₁) a
  inst_from {w} {w₁} {r} i fuel H s shown room new can cs s₁ p st len each newly ar k =
      let c = begun_cells shown parts.few r can.in_graph new.kind in
      let busy = busy_there shown r new in
      parts.by_inst i s₁ cs st (omega arith) can.in_graph (ar.kinds_stay r (inl busy) ∙ busy) len
      (λ j h. let z : 0 + j ≡ j = omega arith in rw z at (each j h))
      (λ j y e o. newly.free j y e (inl (subst (λ q. region_kind (stored w kinds r kind_in_progress) q ≡ kind_in_progress) (sym o) busy)))
      newly.apart
      (inv_targets g valid fuel H r s can cs s₁ p)
      (λ q. let z = few_in_targets g valid fuel H r s can cs s₁ p q in let y = parts.few_incoming q in omega arith)
      (right_in_targets g valid fuel H r s can cs s₁ p)

  select_from : {w w₁ w₂ : List ℕ} {r i : ℕ} {a : Made} → ResolvesBy g w₁ r i w₂ a → (fuel : ℕ) (s₀ : NestState) (H : ℕ → ℕ) (x : Body)
      (s : NestState) → ShowsBody g w r x → region_kind w r ≡ kind_in_progress → r < length g.regions
      → (can : CanTurn g valid fuel s₀ r H x s)
      → (y : SplitOut) (s₁ : NestState) (t : ℕ) → split_out_matching g (defined fuel) [] x.deferred_edges s ≡ done (some y) s₁
      → ShowsState g w₁ s₁ → i < length x.deferred_edges → y.bundle ≡ get_or x.deferred_edges i no_bundle
      → y.others ≡ take i x.deferred_edges ++ drop (suc i) x.deferred_edges → y.bundle.target ≡ to_region t
      → ShowsClaimed g w₁ y.claimed_region → y.claimed_region.origin ≡ t
      → y.claimed_region.structured_body_inputs ≡ y.bundle.target_inputs → (Occupied w t → ⊥) → PreservesOccupied g w w₁
      → cells_in_all g w₁ ≤ most_cells_in_all → BodyShows g w₁ w₂ r (ok y.claimed_region ∷ err y.others ∷ []) 4
      (structurize_select_into g x.children bool_cond (lazy (condition_in x.deferred_edges y.bundle))
      (ok y.claimed_region ∷ err y.others ∷ []) s₁) a
  select_from {w} {r} b fuel s₀ H x s body busy in_graph can y s₁ t p st l z o to cl origin many free u room =
      parts.by_resolve b s₁ x y t st room in_graph (u.kinds_stay r (inl busy) ∙ busy)
      (body_stays u.made_stays (u.regions_stay r in_graph (inl busy)) body) l z o to
      (λ e. free (inl (subst (λ q. region_kind w q ≡ kind_in_progress) (sym e) busy))) cl origin many
      (first_done g valid fuel s₀ r H x s can (some y) s₁ p).inv
      (λ q. let v = few_in_cases g valid fuel s₀ r H x s can y s₁ p q in let c = parts.few_incoming q in omega arith)
      (right_in_cases g valid fuel s₀ r H x s can y s₁ p)

  -- What is shown of a claim, and of targets from place j on, whatever state the words show.
  abbrev ClaimFor : List ℕ → List ℕ → ℕ → ℕ → Result code.Claim Refusal → Type 0
  ClaimFor w w' r n a =
      (fuel : ℕ) (H : ℕ → ℕ) (s : NestState) (inputs : List Value) → ShowsState g w s → cells_in_all g w ≤ most_cells_in_all
      → is_in r (K g valid).live ≡ true → 1 ≤ n → length inputs ≡ length (region g r).inputs
      → CanClaim g valid fuel H (λ q. edges_to q (to_region r) n) 1 s → ClaimShows g w w' r inputs (defined fuel r n inputs s) a

  abbrev TargetsFor : List ℕ → List ℕ → ℕ → ℕ → Result ⊤ Refusal → Type 0
  TargetsFor w w' r j a =
      (fuel : ℕ) (H : ℕ → ℕ) (s : NestState) → ShowsState g w s → cells_in_all g w ≤ most_cells_in_all → r < length g.regions
      → region_kind w r ≡ kind_in_progress
      → AllLive (K g valid) (drop j (its_edges r)) → EdgesUsable g r (drop j (its_edges r))
      → CanClaim g valid fuel H (aims (K g valid) (drop j (its_edges r))) (length (drop j (its_edges r))) s
      → TargetsShow g w w' r j (drop j (its_edges r)) (target_regions g (defined fuel) (drop j (its_edges r)) s) a

  first_targets : {w w₁ : List ℕ} {r : ℕ} {a : Result ⊤ Refusal} → TargetsFor (stored w kinds r kind_in_progress) w₁ r 0 a → (fuel : ℕ) (H : ℕ → ℕ)
      (s : NestState) → ShowsState g w s → cells_in_all g w ≤ most_cells_in_all → NotBegun w r → CanBegin g valid fuel H r s
      → TargetsShow g (stored w kinds r kind_in_progress) w₁ r 0 (its_edges r)
      (target_regions g (defined fuel) (its_edges r) (with_state s r in_progress)) a
  first_targets {r} t fuel H s shown room new can =
      let c = begun_cells shown parts.few r can.in_graph new.kind in
      t fuel H (with_state s r in_progress) (begun_shown shown parts.few r can.in_graph) (omega arith) can.in_graph
      (busy_there shown r new) (targets_live (K g valid) r can.live)
      (edges_of_usable g r (region g r).terminator ((world g valid).valid.terminator r can.in_graph))
      (can_targets g valid fuel H r s can)

  -- The claim of the first of a region's targets.
  first_claim_shown : {w w₁ : List ℕ} (r j : ℕ) {a : Result code.Claim Refusal} → ClaimFor w w₁ (edge_of g r j).target 1 a → (fuel : ℕ)
      (H : ℕ → ℕ) (s : NestState) → ShowsState g w s → cells_in_all g w ≤ most_cells_in_all
      → AllLive (K g valid) (edge_of g r j ∷ drop (suc j) (its_edges r)) → EdgesUsable g r (edge_of g r j ∷ drop (suc j) (its_edges r))
      → CanClaim g valid fuel H (aims (K g valid) (edge_of g r j ∷ drop (suc j) (its_edges r)))
      (length (edge_of g r j ∷ drop (suc j) (its_edges r))) s
      → ClaimShows g w w₁ (edge_of g r j).target (edge_of g r j).inputs
      (defined fuel (edge_of g r j).target 1 (edge_of g r j).inputs s) a
  first_claim_shown r j c fuel H s shown room live fit can =
      let e = edge_of g r j in
      let rest = drop (suc j) (its_edges r) in
      c fuel (λ q. aims (K g valid) rest q + H q) s e.inputs shown room live.0 (omega arith) fit.0.many
      (can_first g valid fuel e rest H can)

  -- The claim of bundle i of region r's set.
  bundle_claim : {w w₁ : List ℕ} (r i : ℕ) {a : Result code.Claim Refusal} → ClaimFor w w₁ (own_target w r i) (own_count w r i) a → (fuel : ℕ)
      (H : ℕ → ℕ) (s : NestState) (d : DeferredEdgeBundleSet) → ShowsState g w s → cells_in_all g w ≤ most_cells_in_all
      → ShowsOwnSet g w r d
      → (l : i < length d) → CanScan g valid fuel H d i s → (there : GoesTo g (own_target w r i) (get_or d i no_bundle).target)
      → ClaimShows g w w₁ there.region (get_or d i no_bundle).target_inputs
      (defined fuel there.region (get_or d i no_bundle).accumulated_count (get_or d i no_bundle).target_inputs s) a
  bundle_claim {w} {w₁} r i {a} c fuel H s d shown room own l can there =
      let q = there.region in
      let p = there.is in
      let b = own_bundle_shown r own i l in
      let many : length (get_or d i no_bundle).target_inputs ≡ length (region g q).inputs = b.size ∙ ap (target_size g) p in
      subst (λ n. ClaimFor w w₁ q n a) b.count (subst (λ z. ClaimFor w w₁ z (own_count w r i) a) there.word c) fuel
      (λ z. edge_total (edges_to z) (take i d ++ drop (suc i) d) + H z) s (get_or d i no_bundle).target_inputs shown room
      (bundle_live g valid fuel H d i l s can q p) (bundle_counts g valid fuel H d i l s can q p) many
      (can_claim_bundle g valid fuel H d i l s can q p)

  mutual
    unfolding structurize_region target_regions split_out_matching resolve_deferred

    pub claim_shown : {w w' : List ℕ} {r n : ℕ} {a : Result code.Claim Refusal} → TriesClaim g counts w r n w' a → ClaimFor w w' r n a
    claim_shown (later_claim h d c) zero H s inputs shown room live pos many can = absurd (let z = can.pre.enough in omega arith)
    claim_shown (refused_inside b t) zero H s inputs shown room live pos many can = absurd (let z = can.pre.enough in omega arith)
    claim_shown (first_claim b t c) zero H s inputs shown room live pos many can = absurd (let z = can.pre.enough in omega arith)
    claim_shown {r} (no_region h e) fuel H s inputs shown room live pos many can =
        absurd (let z = live_below r live in let y = parts.few in omega arith)
    claim_shown {w} {w'} {r} {n} {a} (later_claim h d c) (suc fuel) H s inputs shown room live pos many can =
        let in_graph = live_below r live in
        let few : s.attempts < largest = (let z = can.few in omega arith) in
        let at = attempt_shown shown few in
        let old : not_begun_one (state_of s r) ≡ 0 = some_kind (at.regions r in_graph) d in
        let result = parts.by_state (subst (λ m. ClaimsByState g (attempted w) r n m w' a) (right r in_graph) c) (suc fuel) H
        (add_attempt s)
        inputs at (let z = attempt_cells shown few in omega arith) live many d pos (can_later g valid fuel H r n s in_graph live pos can) in
        claim_before (attempt_preserves shown few) (λ x. still_occupied (attempt_preserves shown few) r x)
        (let z = attempt_cells shown few in omega arith) (begun_before g fuel r n inputs s (state_of s r) refl old) result
    claim_shown {w} {r} {n} (refused_inside b t) (suc fuel) H s inputs shown room live pos many can =
        let in_graph = live_below r live in
        let few : s.attempts < largest = (let z = can.few in omega arith) in
        let at = attempt_shown shown few in
        let fresh : state_of s r ≡ not_begun = kind_none (at.regions r in_graph) b.kind in
        refused_from (begun_not g fuel r n inputs s fresh)
        (region_shown t fuel (λ q. edges_to q (to_region r) n + H q) (add_attempt s) at (let z = attempt_cells shown few in omega arith) b
        (can_begin g valid fuel H r n s in_graph live pos can fresh))
    claim_shown {w} {w'} {r} {n} {a} (first_claim {w₁} b t c) (suc fuel) H s inputs shown room live pos many can =
        let in_graph = live_below r live in
        let few : s.attempts < largest = (let z = can.few in omega arith) in
        let at = attempt_shown shown few in
        let fresh : state_of s r ≡ not_begun = kind_none (at.regions r in_graph) b.kind in
        if_ready (region_shown t fuel (λ q. edges_to q (to_region r) n + H q) (add_attempt s) at
        (let z = attempt_cells shown few in omega arith) b (can_begin g valid fuel H r n s in_graph live pos can fresh)) λ s₁ p st u k.
        let after = can_after g valid fuel H r n s in_graph live pos can fresh s₁ p in
        let old = (begun_counted g valid fuel H r n s in_graph live pos can fresh s₁ p).old in
        let v = occupied_then (attempt_preserves shown few) u in
        let cells = attempt_cells shown few in
        let z : region_kind w r ≡ kind_not_begun = sym (attempt_kinds shown few r) ∙ b.kind in
        let result = parts.by_state (subst (λ m. ClaimsByState g w₁ r n m w' a) (right r in_graph) c) (suc fuel) H s₁ inputs st
        (omega arith)
        live many (kind_some r (st.regions r in_graph) old) pos after in
        claim_before v (λ x. absurd (not_occupied w r z x)) (omega arith) (begun_now g fuel r n inputs s fresh p) result

    pub region_shown : {w w' : List ℕ} {r : ℕ} {a : Result ⊤ Refusal} → StructurizesRegion g counts w r w' a → (fuel : ℕ) (H : ℕ → ℕ) (s : NestState)
        → ShowsState g w s → cells_in_all g w ≤ most_cells_in_all → NotBegun w r → CanBegin g valid fuel H r s
        → RegionShows g w w' (structurize_region g (defined fuel) r s) a
    region_shown (refused_at_targets {y = why} t) fuel H s shown room new can =
        if_targets_refused (first_targets (λ f h z a b i d l u c. targets_shown t f h z a b i d l u c) fuel H s shown room new can) λ p.
        refuses_region {y = why} (rw p)
    region_shown (refused_at_inst t i) fuel H s shown room new can =
        if_targets (first_targets (λ f h z a b i d l u c. targets_shown t f h z a b i d l u c) fuel H s shown room new can) λ cs s₁ p st
        len each newly ar k.
        if_full (inst_from i fuel H s shown room new can cs s₁ p st len each newly ar k) λ q. refuses_region {y = TooMany} (rw (p, q))
    region_shown (refused_at_edges {y = why} t i d) fuel H s shown room new can =
        if_targets (first_targets (λ f h z a b i d l u c. targets_shown t f h z a b i d l u c) fuel H s shown room new can) λ cs s₁ p st
        len each newly ar k.
        if_body (inst_from i fuel H s shown room new can cs s₁ p st len each newly ar k) λ y s₂ q st₂ body ar₂ k₂.
        if_turns_refused (turns_from d fuel H s shown room new can cs s₁ p (others_but ar ar₂ newly.free) y s₂ q st₂ body
        (omega arith)) λ f.
        refuses_region {y = why} (rw (p, q, f))
    region_shown {w} {w'} {r} (structurized {w₃} t i d e) fuel H s shown room new can =
        if_targets (first_targets (λ f h z a b i d l u c. targets_shown t f h z a b i d l u c) fuel H s shown room new can) λ cs s₁ p st
        len each newly ar k.
        if_body (inst_from i fuel H s shown room new can cs s₁ p st len each newly ar k) λ y s₂ q st₂ body ar₂ k₂.
        if_turns (turns_from d fuel H s shown room new can cs s₁ p (others_but ar ar₂ newly.free) y s₂ q st₂ body (omega arith))
        λ z s₃ f st₃ body₃ ar₃ k₃.
        let all = others_then (others_but ar ar₂ newly.free) ar₃ in
        let busy : region_kind w₃ r ≡ kind_in_progress = all.kinds_stay r (inl (busy_there shown r new)) ∙ busy_there shown r new in
        let last = ready_shown st₃ parts.few r can.in_graph busy z body₃ in
        let preserves_occupied = region_preserves (not_occupied w r new.kind) (beside_kind g w r 1) all
        (ready_beside st₃ parts.few r can.in_graph busy z body₃) in
        let c₀ = begun_cells shown parts.few r can.in_graph new.kind in
        let c₁ = ready_cells st₃ parts.few r can.in_graph busy z body₃ in
        rw e (shows_ready {s' = with_state s₃ r (ready (count_to r z.deferred_edges) z.children z.deferred_edges)}
        (rw (p, q, f)) last preserves_occupied (omega arith))

    turns_from : {w w₂ w₃ : List ℕ} {r : ℕ} {a : Result ⊤ Refusal} → ResolvesAll g counts w₂ r w₃ a → (fuel : ℕ) (H : ℕ → ℕ) (s : NestState)
        → ShowsState g w s → cells_in_all g w ≤ most_cells_in_all → NotBegun w r → (can : CanBegin g valid fuel H r s)
        → (cs : List MaybeClaimedRegion)
        (s₁ : NestState) → target_regions g (defined fuel) (its_edges r) (with_state s r in_progress) ≡ done cs s₁
        → PreservesOthers g r (stored w kinds r kind_in_progress) w₂ → (y : Body) (s₂ : NestState)
        → by_control_inst g (blocks_of g r) (region g r).terminator cs s₁ ≡ done y s₂ → ShowsState g w₂ s₂ → ShowsBody g w₂ r y
        → cells_in_all g w₂ ≤ cells_in_all g (stored w kinds r kind_in_progress) + 11
        → TurnsShow g w₂ w₃ r (resolve_deferred g (defined fuel) (length g.regions) y s₂) a
    turns_from {r} (resolves_all t) fuel H s shown room new can cs s₁ p both y s₂ q st body k =
        let c = begun_cells shown parts.few r can.in_graph new.kind in
        let busy = busy_there shown r new in
        turns_shown t fuel s H y s₂ st (omega arith) can.in_graph (both.kinds_stay r (inl busy) ∙ busy) body
        (can_turn g valid fuel H r s can cs s₁ p y s₂ q)

    pub targets_shown : {w w' : List ℕ} {r j : ℕ} {a : Result ⊤ Refusal} → TargetRegions g counts w r j w' a → TargetsFor w w' r j a
    targets_shown {w} {w'} {r} {j} (no_target h e) fuel H s shown room in_graph busy live fit can =
        subst (λ l. TargetsShow g w w' r j l (target_regions g (defined fuel) l s) (Ok tt))
        (sym (drop_of_length-le (its_edges r) {i = j} h))
        (rw e (targets_over g valid fuel r j s shown))
    targets_shown {w} {w'} {r} {j} {a} (target_refused {y = why} h c) fuel H s shown room in_graph busy live fit can =
        let split = drop-cons (its_edges r) j no_edge h in
        let live' = subst (λ l. AllLive (K g valid) l) split live in
        let fit' = subst (λ l. EdgesUsable g r l) split fit in
        let can' = subst (λ l. CanClaim g valid fuel H (aims (K g valid) l) (length l) s) split can in
        subst (λ l. TargetsShow g w w' r j l (target_regions g (defined fuel) l s) a) (sym split)
        (if_refused (first_claim_shown r j (λ f h z v a b l n m x. claim_shown c f h z v a b l n m x) fuel H s shown room live' fit'
        can') λ p. refuses_targets {y = why} (rw p))
    targets_shown {w} {w'} {r} {j} {a} (target_claimed h c t) fuel H s shown room in_graph busy live fit can =
        let split = drop-cons (its_edges r) j no_edge h in
        let live' = subst (λ l. AllLive (K g valid) l) split live in
        let fit' = subst (λ l. EdgesUsable g r l) split fit in
        let can' = subst (λ l. CanClaim g valid fuel H (aims (K g valid) l) (length l) s) split can in
        subst (λ l. TargetsShow g w w' r j l (target_regions g (defined fuel) l s) a) (sym split)
        (if_claimed (first_claim_shown r j (λ f h z v a b l n m x. claim_shown c f h z v a b l n m x) fuel H s shown room live' fit'
        can') λ y s₁ p st cl o i free u k.
        let next = claimed_next parts.few (parts.few_targets r) in_graph busy h st cl o i free u in
        targets_more g valid fuel w parts.few busy next.noted (others_of_occupied r u) next.levels_same
        (edge_of g r j) (drop (suc j) (its_edges r)) s s₁ next.place (some y) (ok y) p refl next.answered next.first (omega arith)
        (targets_shown t fuel _ s₁ next.state (let z = noted_cells next.noted.concerns in omega arith) in_graph next.busy
        live'.1 fit'.1 (can_next g valid fuel r (edge_of g r j) (drop (suc j) (its_edges r)) H (ok y) fit'.0 live'.0 can' p
        refl)))
    targets_shown {w} {w'} {r} {j} {a} (target_waits h c t) fuel H s shown room in_graph busy live fit can =
        let split = drop-cons (its_edges r) j no_edge h in
        let live' = subst (λ l. AllLive (K g valid) l) split live in
        let fit' = subst (λ l. EdgesUsable g r l) split fit in
        let can' = subst (λ l. CanClaim g valid fuel H (aims (K g valid) l) (length l) s) split can in
        subst (λ l. TargetsShow g w w' r j l (target_regions g (defined fuel) l s) a) (sym split)
        (if_unclaimed (first_claim_shown r j (λ f h z v a b l n m x. claim_shown c f h z v a b l n m x) fuel H s shown room live' fit'
        can') λ s₁ p st u k.
        let e = edge_of g r j in
        let m = unclaimed_edge e (state_of s₁ e.target) in
        let next = unclaimed_next parts.few (parts.few_targets r) in_graph busy h fit'.0.target st u in
        targets_more g valid fuel w parts.few busy next.noted (others_of_occupied r u) next.levels_same
        e (drop (suc j) (its_edges r)) s s₁ next.place none m p refl next.answered next.first (omega arith)
        (targets_shown t fuel _ s₁ next.state (let z = noted_cells next.noted.concerns in omega arith) in_graph next.busy
        live'.1 fit'.1 (can_next g valid fuel r e (drop (suc j) (its_edges r)) H m fit'.0 live'.0 can' p refl)))

    pub scan_shown : {w w' : List ℕ} {r n i : ℕ} {a : split.SplitOut} → Scans g counts w r n i w' a → (fuel : ℕ) (H : ℕ → ℕ) (s : NestState)
        (d : DeferredEdgeBundleSet) → ShowsState g w s → cells_in_all g w ≤ most_cells_in_all → r < length g.regions
        → region_kind w r ≡ kind_in_progress
        → ShowsOwnSet g w r d → n ≡ length d → CanScan g valid fuel H d i s
        → ScanShows g w w' d (split_out_matching g (defined fuel) (take i d) (drop i d) s) a
    scan_shown {w} {w'} {i} (no_bundle_left h e) fuel H s d shown room in_graph busy own size can =
        subst (λ l. ScanShows g w w' d (split_out_matching g (defined fuel) (take i d) l s) split.Nothing)
        (sym (drop_of_length-le d {i = i} (omega arith))) (rw e (shows_nothing refl shown (occupied_same g w) (omega arith)))
    scan_shown {w} {r} {i} (passes_return h e t) fuel H s d shown room in_graph busy own size can =
        let l : i < length d = omega arith in
        let p = returns_there parts.few (own_bundle_shown r own i l).target e in
        passed_return g valid fuel d i l s p
        (scan_shown t fuel H s d shown room in_graph busy own size (scan_past_return g valid fuel H d i l s can p))
    scan_shown {w} {r} {i} (passes_waiting h e c t) fuel H s d shown room in_graph busy own size can =
        let l : i < length d = omega arith in
        let there = goes_there (own_bundle_shown r own i l).target e in
        let p = there.is in
        if_unclaimed (bundle_claim r i (λ f h z v a b l n m x. claim_shown c f h z v a b l n m x) fuel H s d shown room own l can there)
        λ s₁ f st u k.
        passed_waiting g valid fuel d i l s p f (λ z hd. still_occupied u z hd) u (omega arith)
        (scan_shown t fuel H s₁ d st (omega arith) in_graph (u.kinds_stay r (inl busy) ∙ busy)
        (own_set_stays u.made_stays (u.regions_stay r in_graph (inl busy)) own) size
        (scan_on g valid fuel H d i l s can there.region p there.in_graph f))
    scan_shown {w} {r} {i} (claims_bundle h e c) fuel H s d shown room in_graph busy own size can =
        let l : i < length d = omega arith in
        let there = goes_there (own_bundle_shown r own i l).target e in
        if_claimed (bundle_claim r i (λ f h z v a b l n m x. claim_shown c f h z v a b l n m x) fuel H s d shown room own l can there) λ
        y s₁ f st cl o m free u k.
        scan_claims g valid fuel d i l s there.is f st cl o m free u k
    scan_shown {w} {r} {i} (scan_refused h e c) fuel H s d shown room in_graph busy own size can =
        let l : i < length d = omega arith in
        let there = goes_there (own_bundle_shown r own i l).target e in
        if_refused (bundle_claim r i (λ f h z v a b l n m x. claim_shown c f h z v a b l n m x) fuel H s d shown room own l can there) λ
        f. scan_refusal g valid fuel d i l s there.is f

    pub turns_shown : {w w' : List ℕ} {r n : ℕ} {a : Result ⊤ Refusal} → Resolves g counts w r n w' a → (fuel : ℕ) (s₀ : NestState) (H : ℕ → ℕ)
        (x : Body)
        (s : NestState) → ShowsState g w s → cells_in_all g w ≤ most_cells_in_all → r < length g.regions
        → region_kind w r ≡ kind_in_progress → ShowsBody g w r x
        → CanTurn g valid fuel s₀ r H x s → TurnsShow g w w' r (resolve_deferred g (defined fuel) n x s) a
    turns_shown {w} {r} (no_turn e) fuel s₀ H x s shown room in_graph busy body can =
        rw e (shows_turns refl shown body (others_same g r w) (omega arith))
    turns_shown {w} {r} (nothing_claimed {left} t) fuel s₀ H x s shown room in_graph busy body can =
        turns_nothing g valid fuel r left x s busy in_graph body
        (split_shown t fuel s₀ H x s shown room in_graph busy body can)
    turns_shown {w} {r} (claim_refused {left} t) fuel s₀ H x s shown room in_graph busy body can =
        turns_refuse g valid fuel r left x s busy in_graph
        (split_shown t fuel s₀ H x s shown room in_graph busy body can)
    turns_shown {w} {w'} {r} (select_refused {left} {i} t b) fuel s₀ H x s shown room in_graph busy body can =
        if_split (split_shown t fuel s₀ H x s shown room in_graph busy body can) λ q y s₁ p st l z o to cl origin many free u k.
        turns_full g valid fuel r left x s busy in_graph y s₁ p u k
        (select_from b fuel s₀ H x s body busy in_graph can y s₁ q p st l z o to cl origin many free u (omega arith))
    turns_shown {w} {w'} {r} {a} (claims_and {left} {i} t b rest) fuel s₀ H x s shown room in_graph busy body can =
        if_split (split_shown t fuel s₀ H x s shown room in_graph busy body can) λ q y s₁ p st l z o to cl origin many free u k.
        if_body (select_from b fuel s₀ H x s body busy in_graph can y s₁ q p st l z o to cl origin many free u (omega arith))
        λ x₂ s₂ f st₂ body₂ ar k₂.
        let both = others_but (others_of_occupied r u) ar (claimed_was_free w y q origin free) in
        turns_again g valid fuel r left x s busy in_graph y s₁ p u k x₂ s₂ f both k₂
        (turns_shown rest fuel s₀ H x₂ s₂ st₂ (omega arith) in_graph (both.kinds_stay r (inl busy) ∙ busy) body₂
        (turn_on g valid fuel s₀ r H x s can y s₁ p x₂ s₂ f))

    split_shown : {w w' : List ℕ} {r : ℕ} {a : split.SplitOut} → SplitsOut g counts w r w' a → (fuel : ℕ) (s₀ : NestState) (H : ℕ → ℕ)
        (x : Body)
        (s : NestState) → ShowsState g w s → cells_in_all g w ≤ most_cells_in_all → r < length g.regions
        → region_kind w r ≡ kind_in_progress → ShowsBody g w r x
        → CanTurn g valid fuel s₀ r H x s
        → ScanShows g w w' x.deferred_edges (split_out_matching g (defined fuel) [] x.deferred_edges s) a
    split_shown {r} (splits_out t) fuel s₀ H x s shown room in_graph busy body can =
        scan_shown t fuel H s x.deferred_edges shown room in_graph busy body.set body.set.size
        (can_scan g valid fuel s₀ r H x s can)
