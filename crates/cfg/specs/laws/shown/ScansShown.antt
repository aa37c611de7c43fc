-- The scan of a region's set: each step, from what its claim shows.
use Rattle.std.specs.Prelude.{◌≡◌, true, List, [], ◌∷◌, ◌++◌, ℕ, zero, suc, ◌+◌, ◌≤◌, ◌<◌, length, get_or}
use Rattle.std.proofs.Math.Path.{refl, ap}
use Rattle.std.proofs.Common.{sym, subst, ◌∙◌, arith, take-suc, drop-cons, eq-eqb}
use Rattle.std.proofs.Math.Option.{Option, none, some}
use Rattle.std.proofs.Math.ListN.{take, drop}
use Rattle.meaning.specs.Graph.{Graph}
use Rattle.meaning.specs.Lists.{is_in}
use Rattle.format.specs.Valid.{Valid}
use Rattle.nesting.specs.Nesting.{NestState, StepAnswer, done, turned_away, ClaimedRegion, DeferredEdgeBundle, DeferredEdgeBundleSet}
use Rattle.nesting.specs.Nesting.{DeferredTarget, to_region, to_return, incoming_edge_counts, try_claim_edge_bundle, split_out_matching}
use Rattle.nesting.specs.Nesting.{SplitOut, split_out_or, Claim, Step, ◌>>=◌}
use Rattle.nesting.specs.steps.Post.{Post}
use Rattle.follows.specs.simulation.Defined.{IfDone}
use Rattle.follows.specs.simulation.Invariant.{Inv}
use Rattle.follows.specs.simulation.ClaimReady.{ClaimDone}
use Rattle.follows.specs.simulation.Claims.{claim_post}
use Rattle.follows.specs.counting.Totals.{Measure, edge_total, at, bundles_to, edges_to, to_regions, edgeless}
use Rattle.follows.specs.counting.Counting.{Nine, Pre, Counted, Good, owed, counted_as, pre_after, pre_as}
use Rattle.follows.proofs.counting.CountClaim.{Claims}
use Rattle.follows.proofs.counting.CountScan.{live_of, count_pos}
use Rattle.follows.proofs.counting.CountRegion.{claim_counted}
use Rattle.state_words.specs.Sections.{word, set_starts}
use Rattle.state_shown.specs.Sets.{ShowsBundle, no_bundle}
use Rattle.state_shown.specs.laws.Finds.{bundle_in}
use Rattle.state_shown.specs.States.{ShowsState, ShowsOwnSet, ShowsClaimed}
use Rattle.cfg_claims.specs.SplitOut as split
use Rattle.cfg_regions.specs.ByInst.{own_bundle}
use Rattle.cfg.specs.laws.shown.Shows.{CanClaim, K, Occupied, PreservesOccupied, ScanShows, cells_in_all, occupied_then, refuses_scan}
use Rattle.cfg.specs.laws.shown.Shows.{shows_nothing, shows_split, turned_as, world}
use Rattle.store.specs.declared.refusals.Refusal.{Refusal}

-- ---- Bundle i of region r's set, in words.
pub own_bundle_is : {g : Graph} {w : List ℕ} (r : ℕ) {d : DeferredEdgeBundleSet} → ShowsOwnSet g w r d → (i : ℕ) → i < length d
    → own_bundle w r i ≡ word w set_starts r + i
own_bundle_is {w} r x i h =
    let a = x.size in let b = x.few in let c = x.room in bundle_in (word w set_starts r) i (omega arith) (omega arith)

pub own_bundle_shown : {g : Graph} {w : List ℕ} (r : ℕ) {d : DeferredEdgeBundleSet} → ShowsOwnSet g w r d → (i : ℕ) → i < length d
    → ShowsBundle g w (own_bundle w r i) (get_or d i no_bundle)
own_bundle_shown r x i h = let a = x.size in rw (own_bundle_is r x i h) (x.each i (omega arith))

-- ---- All but bundle i, and bundle i.
pub all_but : (μ : Measure) (d : DeferredEdgeBundleSet) (i : ℕ) → i < length d
    → edge_total μ d ≡ edge_total μ (take i d ++ drop (suc i) d) + μ (get_or d i no_bundle).target (get_or d i no_bundle).accumulated_count
all_but μ [] i h = absurd (omega arith)
all_but μ (e ∷ d) zero h = omega arith
all_but μ (e ∷ d) (suc i) h = let z = all_but μ d i (omega arith) in omega arith

pub drop_total : (μ : Measure) (d : DeferredEdgeBundleSet) (i : ℕ) → i < length d
    → edge_total μ (drop i d) ≡ μ (get_or d i no_bundle).target (get_or d i no_bundle).accumulated_count + edge_total μ (drop (suc i) d)
drop_total μ d i h = ap (edge_total μ) (drop-cons d i no_bundle h)

module _ (g : Graph) (valid : Valid g) (fuel : ℕ) where
  abbrev claim : Claim
  claim = try_claim_edge_bundle g (incoming_edge_counts g) fuel

  -- How nesting stands when bundle i of set d is looked at.
  pub record CanScan (H : ℕ → ℕ) (d : DeferredEdgeBundleSet) (i : ℕ) (s : NestState) : Type 0 where
    pub good : Good (K g valid) d
    pub pre : Pre (K g valid) fuel H (λ q. edge_total (edges_to q) d) s
    pub inv : Inv (world g valid) s
    pub few : s.attempts + owed (K g valid) s.region_states + edge_total to_regions (drop i d) ≤ 65534

  module _ (H : ℕ → ℕ) (d : DeferredEdgeBundleSet) (i : ℕ) (h : i < length d) (s : NestState) (can : CanScan H d i s) where
    abbrev e : DeferredEdgeBundle
    e = get_or d i no_bundle

    abbrev others : DeferredEdgeBundleSet
    others = take i d ++ drop (suc i) d

    module _ (t : ℕ) (to : e.target ≡ to_region t) where
      with_target : (μ : Measure) → μ e.target e.accumulated_count ≡ μ (to_region t) e.accumulated_count
      with_target μ = ap (λ x. μ x e.accumulated_count) to

      pub bundle_live : is_in t (K g valid).live ≡ true
      bundle_live =
          let z = all_but (bundles_to t) d i h in
          let y = with_target (bundles_to t) in
          let x : at t (to_region t) ≡ 1 = rw (eq-eqb t t refl) in
          let f = can.good.fits t in live_of (K g valid) t (omega arith)

      pub bundle_counts : 1 ≤ e.accumulated_count
      bundle_counts =
          let z = all_but edgeless d i h in
          let y = with_target edgeless in
          let f = can.good.full in count_pos (K g valid) t e.accumulated_count (omega arith)

      pub can_claim_bundle : CanClaim g valid fuel (λ q. edge_total (edges_to q) others + H q)
          (λ q. edges_to q (to_region t) e.accumulated_count) 1 s
      can_claim_bundle =
          record {
            pre = pre_as (K g valid) can.pre (λ q. edge_total (edges_to q) others + H q)
                (λ q. edges_to q (to_region t) e.accumulated_count)
                (λ q. let z = all_but (edges_to q) d i h in let y = with_target (edges_to q) in omega arith) (λ q. omega arith);
            inv = can.inv;
            few = let z = drop_total to_regions d i h in let y = with_target to_regions in let f = can.few in omega arith;
          }

      pub claims_counted : {o : Option ClaimedRegion} {s₁ : NestState} → claim t e.accumulated_count e.target_inputs s ≡ done o s₁
          → Claims (K g valid) 1 t e.accumulated_count s o s₁
      claims_counted p =
          (subst (λ a. Post Nine (λ o s'. Claims (K g valid) 1 t e.accumulated_count s o s') a) p
          (claim_counted (K g valid) fuel t e.accumulated_count e.target_inputs (λ q. edge_total (edges_to q) others + H q) s
          bundle_live
          bundle_counts can_claim_bundle.pre)).post

      pub inv_after : t < length g.regions → {o : Option ClaimedRegion} {s₁ : NestState}
          → claim t e.accumulated_count e.target_inputs s ≡ done o s₁ → Inv (world g valid) s₁
      inv_after b {o} {s₁} p =
          let x : ClaimDone (world g valid) t e.target_inputs s o s₁ =
          (subst (λ a. IfDone (ClaimDone (world g valid) t e.target_inputs s) a) p
          (claim_post (world g valid) (incoming_edge_counts g) fuel t e.accumulated_count e.target_inputs s can.inv b
          bundle_live)).post in
          x.inv

      pub scan_on : t < length g.regions → {s₁ : NestState} → claim t e.accumulated_count e.target_inputs s ≡ done none s₁
          → CanScan H d (suc i) s₁
      scan_on b {s₁} p =
          let x = claims_counted p in
          let all : Counted (K g valid) 1 0 (λ q. edge_total (edges_to q) d) (λ q. edge_total (edges_to q) d) s s₁ =
          counted_as (K g valid) x.step 1 0 (λ q. edge_total (edges_to q) d) (λ q. edge_total (edges_to q) d) (omega arith)
          (λ q. omega arith) in
          record {
            good = can.good;
            pre = pre_after (K g valid) can.pre all;
            inv = inv_after b p;
            few =
                let z = drop_total to_regions d i h in
                let y = with_target to_regions in
                let f = can.few in
                let u = x.step.paid in omega arith;
          }

    pub scan_past_return : e.target ≡ to_return → CanScan H d (suc i) s
    scan_past_return to =
        record {
          good = can.good;
          pre = can.pre;
          inv = can.inv;
          few =
              let z = drop_total to_regions d i h in
              let y = ap (λ x. to_regions x e.accumulated_count) to in
              let f = can.few in omega arith;
        }

  -- ---- The definition's scan, a step of it.
  module _ (d : DeferredEdgeBundleSet) (i : ℕ) (h : i < length d) (s : NestState) where
    abbrev scan_from : ℕ → NestState → StepAnswer (Option SplitOut)
    scan_from j s = split_out_matching g claim (take j d) (drop j d) s

    abbrev this : DeferredEdgeBundle
    this = get_or d i no_bundle

    step_of : DeferredEdgeBundleSet → DeferredTarget → StepAnswer (Option SplitOut)
    step_of front x =
        let more = split_out_matching g claim front (drop (suc i) d) in
        let y : Step (Option SplitOut) = elim x [
          | to_return ↦ more
          | to_region r ↦ claim r this.accumulated_count this.target_inputs >>= split_out_or this (take i d ++ drop (suc i) d) more
        ] in y s

    scan_step : (x : DeferredTarget) → this.target ≡ x → scan_from i s ≡ step_of (take (suc i) d) x
    unfolding split_out_matching step_of
    scan_step x same =
        ap (λ l. split_out_matching g claim (take i d) l s) (drop-cons d i no_bundle h)
        ∙ ap (λ l. step_of l this.target) (sym (take-suc d i no_bundle h))
        ∙ ap (step_of (take (suc i) d)) same

    pub passed_return : {w w' : List ℕ} → this.target ≡ to_return → {a : split.SplitOut} → ScanShows g w w' d (scan_from (suc i) s) a
        → ScanShows g w w' d (scan_from i s) a
    unfolding step_of
    passed_return e x = rw (scan_step to_return e) x

    pub passed_waiting : {w w₁ w' : List ℕ} {t : ℕ} → this.target ≡ to_region t → {s₁ : NestState}
        → claim t this.accumulated_count this.target_inputs s ≡ done none s₁ → ((q : ℕ) → Occupied w q → Occupied w₁ q)
        → PreservesOccupied g w w₁
        → cells_in_all g w₁ ≤ cells_in_all g w
        → {a : split.SplitOut} → ScanShows g w₁ w' d (scan_from (suc i) s₁) a → ScanShows g w w' d (scan_from i s) a
    unfolding step_of
    passed_waiting {t} e p on u c (shows_nothing {s'} q st v k) =
        shows_nothing {s' = s'} (scan_step (to_region t) e ∙ rw (p, q)) st (occupied_then u v) (omega arith)
    passed_waiting {t} e p on u c (shows_split {i = j} {t = z} {y} {s'} q st l b o x cl g₁ n f v k) =
        shows_split {i = j} {t = z} {y = y} {s' = s'} (scan_step (to_region t) e ∙ rw (p, q)) st l b o x cl g₁ n
        (λ hd. f (on z hd)) (occupied_then u v) (omega arith)
    passed_waiting {t} e p on u c (refuses_scan {y} q) = refuses_scan {y = y} (scan_step (to_region t) e ∙ rw (p, q))

    pub scan_claims : {w w' : List ℕ} {t : ℕ} → this.target ≡ to_region t → {c : ClaimedRegion} {s' : NestState}
        → claim t this.accumulated_count this.target_inputs s ≡ done (some c) s' → ShowsState g w' s' → ShowsClaimed g w' c
        → c.origin ≡ t → c.structured_body_inputs ≡ this.target_inputs → (Occupied w t → ⊥) → PreservesOccupied g w w'
        → cells_in_all g w' + 4 ≤
        cells_in_all g w
        → ScanShows g w w' d (scan_from i s) (split.At i)
    unfolding step_of
    scan_claims {t} e {c} {s'} p st cl o n f u k =
        shows_split {i = i} {t = t} {y = record { bundle = this; claimed_region = c; others = take i d ++ drop (suc i) d }} {s' = s'}
        (scan_step (to_region t) e ∙ rw p) st h refl refl e cl o n f u k

    pub scan_refusal : {w w' : List ℕ} {t : ℕ} → this.target ≡ to_region t → {y : Refusal}
        → claim t this.accumulated_count this.target_inputs s ≡ turned_as y
        → ScanShows g w w' d (scan_from i s) (split.Refused y)
    unfolding step_of
    scan_refusal {t} e {y} p = refuses_scan {y = y} (scan_step (to_region t) e ∙ rw p)
