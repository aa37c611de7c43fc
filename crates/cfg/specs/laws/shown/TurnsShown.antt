-- Turns over the deferred edges of a region, from what the scan and the select of each show.
use Rattle.std.specs.Prelude.{◌≡◌, List, [], ◌∷◌, ℕ, suc, ◌+◌, ◌≤◌, ◌<◌, length}
use Rattle.std.proofs.Common.{subst, inl, arith}
use Rattle.std.proofs.Math.Option.{Option, some}
use Rattle.meaning.specs.Graph.{Graph, bool_cond}
use Rattle.format.specs.Valid.{Valid}
use Rattle.nesting.specs.Nesting.{NestState, StepAnswer, done, DeferredEdgeBundleSet, incoming_edge_counts, try_claim_edge_bundle}
use Rattle.nesting.specs.Nesting.{split_out_matching, SplitOut, resolve_deferred, structurize_select_into, condition_in, lazy, ok, err}
use Rattle.nesting.specs.Nesting.{Body, Claim}
use Rattle.nesting.specs.steps.Post.{Post}
use Rattle.follows.specs.simulation.Defined.{IfDone}
use Rattle.follows.specs.simulation.ClaimedRegions.{Came}
use Rattle.follows.specs.simulation.Claims.{claim_post}
use Rattle.follows.specs.simulation.Scan.{FirstDone, split_out_matching_post, found_post}
use Rattle.follows.specs.counting.Totals.{edge_total, edges_to, totals, edgeless}
use Rattle.follows.specs.counting.Counting.{Nine, Pre, Good, owed, live_count, pre_after, pre_as}
use Rattle.follows.proofs.counting.CountScan.{ScanCounted, BodyCounted, scan_few, split_out_counted}
use Rattle.follows.proofs.counting.CountRegion.{claim_counted, turn_counted}
use Rattle.state_shown.specs.laws.RegionsKept.{body_stays}
use Rattle.state_shown.specs.States.{ShowsBody}
use Rattle.state_words.specs.Totals.{Full}
use Rattle.std.specs.Prelude.{Err, Ok, Result, ⊤}
use Rattle.cfg_claims.specs.SplitOut as split
use Rattle.cfg.specs.laws.shown.Shows.{BodyShows, K, PreservesOccupied, PreservesOthers, ScanShows, TurnsShow, cells_in_all}
use Rattle.cfg.specs.laws.shown.Shows.{others_of_occupied, others_then, refuses_body, refuses_scan, refuses_turns, shows_nothing}
use Rattle.cfg.specs.laws.shown.Shows.{shows_turns, world}
use Rattle.cfg.specs.laws.shown.ScansShown.{CanScan}
use Rattle.state_words.specs.Rows.{kind_in_progress, region_kind}
use Rattle.store.specs.declared.refusals.Refusal.{Refusal}
use Rattle.store.specs.declared.refusals.Refusal.TheVariants.{TooMany}

module _ (g : Graph) (valid : Valid g) (fuel : ℕ) where
  abbrev claim : Claim
  claim = try_claim_edge_bundle g (incoming_edge_counts g) fuel

  -- How nesting stands before a turn over region r's set, where r began in state s₀.
  pub record CanTurn (s₀ : NestState) (r : ℕ) (H : ℕ → ℕ) (x : Body) (s : NestState) : Type 0 where
    pub came : Came (world g valid) s₀ r x.children x.deferred_edges s
    pub good : Good (K g valid) x.deferred_edges
    pub pre : Pre (K g valid) fuel H (λ q. edge_total (edges_to q) x.deferred_edges) s
    pub few : s.attempts + owed (K g valid) s.region_states + live_count (K g valid) ≤ 65534

  module _ (s₀ : NestState) (r : ℕ) (H : ℕ → ℕ) (x : Body) (s : NestState) (can : CanTurn s₀ r H x s) where
    abbrev d : DeferredEdgeBundleSet
    d = x.deferred_edges

    pub can_scan : CanScan g valid fuel H d 0 s
    can_scan =
        record {
          good = can.good;
          pre = can.pre;
          inv = can.came.doing.inv;
          few = let z = scan_few (K g valid) d can.good.fits in let f = can.few in omega arith;
        }

    module _ (o : Option SplitOut) (s₁ : NestState) (p : split_out_matching g claim [] d s ≡ done o s₁) where
      scanned : ScanCounted (K g valid) [] d s o s₁
      scanned =
          (subst (λ a. Post Nine (λ o s'. ScanCounted (K g valid) [] d s o s') a) p
          (split_out_counted (K g valid) fuel claim (claim_counted (K g valid) fuel) [] d H s
          (λ q. let z = can.good.fits q in omega arith)
          (let z = can.good.full in omega arith)
          (pre_as (K g valid) can.pre H (λ q. edge_total (edges_to q) [] + edge_total (edges_to q) d) (λ q. omega arith)
          (λ q. omega arith)))).post

      pub first_done : FirstDone (world g valid) claim (claim_post (world g valid) (incoming_edge_counts g) fuel) [] d s o s₁
      first_done =
          (subst (λ a. IfDone (FirstDone (world g valid) claim (claim_post (world g valid) (incoming_edge_counts g) fuel) [] d s) a) p
          (split_out_matching_post (world g valid) claim (claim_post (world g valid) (incoming_edge_counts g) fuel) [] d s
          can.came.doing.inv (λ e i. (can.came.set.entries e i).fits))).post

    module _ (y : SplitOut) (s₁ : NestState) (p : split_out_matching g claim [] d s ≡ done (some y) s₁) where
      -- The edges of both cases, to each region.
      pub few_in_cases : (q : ℕ) → totals (edges_to q) (ok y.claimed_region ∷ err y.others ∷ []) ≤ (K g valid).incoming q
      few_in_cases q = let z = (scanned (some y) s₁ p).step.kept q in let u = can.pre.room q in omega arith

      pub right_in_cases : totals edgeless (ok y.claimed_region ∷ err y.others ∷ []) ≡ 0
      right_in_cases = let z = (scanned (some y) s₁ p).good in let a = z.0.full in let b = z.1.full in omega arith

      pub turn_on : (x' : Body) (s₂ : NestState)
          → structurize_select_into g x.children bool_cond (lazy (condition_in d y.bundle))
          (ok y.claimed_region ∷ err y.others ∷ []) s₁ ≡ done x' s₂ → CanTurn s₀ r H x' s₂
      turn_on x' s₂ q =
          let fd = first_done (some y) s₁ p in
          let b : BodyCounted (K g valid) 0 (λ q. edge_total (edges_to q) d) s x' s₂ =
          (subst (λ a. Post Nine (λ x' s₂. BodyCounted (K g valid) 0 (λ q. edge_total (edges_to q) d) s x' s₂) a) q
          (turn_counted (K g valid) x s s₁ y can.good (scanned (some y) s₁ p))).post in
          record {
            came = (subst (λ a. IfDone (λ z s'. Came (world g valid) s₀ r z.children z.deferred_edges s') a) q
                (found_post (world g valid) claim (claim_post (world g valid) (incoming_edge_counts g) fuel) s₀ r x s s₁ can.came y
                fd.inv fd.step fd.found)).post;
            good = b.good;
            pre = pre_after (K g valid) can.pre b.step;
            few = let z = b.step.paid in let f = can.few in omega arith;
          }

  abbrev turns : ℕ → Body → NestState → StepAnswer Body
  turns k x s = resolve_deferred g claim k x s

  -- ---- The definition's turns, by what the scan gave.
  module _ (r n : ℕ) (x : Body) (s : NestState) {w : List ℕ} (busy : region_kind w r ≡ kind_in_progress)
      (in_graph : r < length g.regions) where
    pub turns_nothing : ShowsBody g w r x → {w' : List ℕ}
        → ScanShows g w w' x.deferred_edges (split_out_matching g claim [] x.deferred_edges s) split.Nothing
        → TurnsShow g w w' r (turns (suc n) x s) (Ok tt)
    unfolding resolve_deferred
    turns_nothing b (shows_nothing {s'} p st u c) =
        shows_turns {x = x} {s' = s'} (rw p) st (body_stays u.made_stays (u.regions_stay r in_graph (inl busy)) b)
        (others_of_occupied r u) c

    pub turns_refuse : {y : Refusal} {w' : List ℕ}
        → ScanShows g w w' x.deferred_edges (split_out_matching g claim [] x.deferred_edges s) (split.Refused y)
        → TurnsShow g w w' r (turns (suc n) x s) (Err y)
    unfolding resolve_deferred
    turns_refuse {y} (refuses_scan p) = refuses_turns {y = y} (rw p)

    module _ {w₁ : List ℕ} (y : SplitOut) (s₁ : NestState)
        (p : split_out_matching g claim [] x.deferred_edges s ≡ done (some y) s₁) (u : PreservesOccupied g w w₁)
        (c : cells_in_all g w₁ + 4 ≤ cells_in_all g w) where
      abbrev selected : StepAnswer Body
      selected = structurize_select_into g x.children bool_cond (lazy (condition_in x.deferred_edges y.bundle))
          (ok y.claimed_region ∷ err y.others ∷ []) s₁

      pub turns_full : {w₂ : List ℕ} → BodyShows g w₁ w₂ r (ok y.claimed_region ∷ err y.others ∷ []) 4 selected Full
          → TurnsShow g w w₂ r (turns (suc n) x s) (Err TooMany)
      unfolding resolve_deferred
      turns_full (refuses_body q) = refuses_turns {y = TooMany} (rw (p, q))

      pub turns_again : {w₂ w' : List ℕ} (x' : Body) (s₂ : NestState) → selected ≡ done x' s₂ → PreservesOthers g r w w₂
          → cells_in_all g w₂ ≤ cells_in_all g w₁ + 4 → {a : Result ⊤ Refusal} → TurnsShow g w₂ w' r (turns n x' s₂) a
          → TurnsShow g w w' r (turns (suc n) x s) a
      unfolding resolve_deferred
      turns_again x' s₂ q ar k (shows_turns {x = z} {s'} f st b ar₂ k₂) =
          shows_turns {x = z} {s' = s'} (rw (p, q, f)) st b (others_then ar ar₂) (omega arith)
      turns_again x' s₂ q ar k (refuses_turns {y} f) = refuses_turns {y = y} (rw (p, q, f))
