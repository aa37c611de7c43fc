-- Measures of deferred sets by their targets and counts, and what the summaries of a select's cases come to.
use Rattle.std.specs.Prelude.{◌≡◌, refl, Bool, true, false, List, [], ◌∷◌, ◌++◌, ℕ, zero, suc, ◌+◌, ◌≤◌, eqb}
use Rattle.std.proofs.Common.{arith, eqb-true}
use Rattle.std.proofs.lemmas.Bool.{eqb-false}
use Rattle.nesting.specs.Nesting.{DeferredTarget, to_region, to_return, DeferredEdgeBundle, DeferredEdgeBundleSet, same_target}
use Rattle.nesting.specs.Nesting.{MaybeClaimedRegion, deferred_of, DeferredTargetSummary, summarize_bundle, summarize_set, deferred_targets}
use Rattle.nesting.specs.Nesting.{PlannedBundle}
use Rattle.meaning.specs.Lists.{pick}
use Rattle.meaning.specs.facts.Tests.{clash}

abbrev pub Measure : Type 0
Measure = DeferredTarget → ℕ → ℕ

abbrev pub edge_total : Measure → DeferredEdgeBundleSet → ℕ
edge_total μ [] = 0
edge_total μ (e ∷ es) = μ e.target e.accumulated_count + edge_total μ es

abbrev pub totals : Measure → List MaybeClaimedRegion → ℕ
totals μ [] = 0
totals μ (c ∷ cs) = edge_total μ (deferred_of c) + totals μ cs

abbrev pub summary_total : Measure → List DeferredTargetSummary → ℕ
summary_total μ [] = 0
summary_total μ (w ∷ ws) = μ w.target w.total_edge_count + summary_total μ ws

abbrev pub planned_total : Measure → List PlannedBundle → ℕ
planned_total μ [] = 0
planned_total μ (p ∷ ps) = μ p.target p.total_edge_count + planned_total μ ps

-- Measures: whether a target is region r, the edges to r, the regions, and what has a wrong count: a region 0, a Return another.
abbrev pub at : ℕ → DeferredTarget → ℕ
at r (to_region q) = pick (eqb r q) 1 0
at r to_return = 0

abbrev pub bundles_to : ℕ → Measure
bundles_to r x n = at r x

abbrev pub edges_to : ℕ → Measure
edges_to r (to_region q) n = pick (eqb r q) n 0
edges_to r to_return n = 0

abbrev pub to_regions : Measure
to_regions (to_region q) n = 1
to_regions to_return n = 0

abbrev pub edgeless : Measure
edgeless (to_region q) zero = 1
edgeless (to_region q) (suc n) = 0
edgeless to_return zero = 0
edgeless to_return (suc n) = 1

-- at most as many bundles to each region as k says
abbrev pub SetFits : (ℕ → ℕ) → DeferredEdgeBundleSet → Type 0
SetFits k d = (r : ℕ) → edge_total (bundles_to r) d ≤ k r

abbrev pub FitsAll : (ℕ → ℕ) → List MaybeClaimedRegion → Type 0
FitsAll k [] = Unit
FitsAll k (c ∷ cs) = SetFits k (deferred_of c) × FitsAll k cs

pub total_append : (μ : Measure) (a b : DeferredEdgeBundleSet) → edge_total μ (a ++ b) ≡ edge_total μ a + edge_total μ b
total_append μ [] b = omega arith
total_append μ (e ∷ a) b = let z = total_append μ a b in omega arith

-- ---- the targets of a select: each bundle goes to the summary of its target
apart : (r : ℕ) (x y : DeferredTarget) → same_target x y ≡ false → at r x + at r y ≤ 1
apart r (to_region a) (to_region b) p = go (eqb r a) refl (eqb r b) refl
  where
    go : (u : Bool) → eqb r a ≡ u → (v : Bool) → eqb r b ≡ v → pick u 1 0 + pick v 1 0 ≤ 1
    go true h true l = let h' = eqb-true r a h in let l' = eqb-true r b l in absurd (eqb-false a b p (omega arith))
    go true h false l = omega arith
    go false h true l = omega arith
    go false h false l = omega arith
apart r (to_region a) to_return p = go (eqb r a)
  where
    go : (u : Bool) → pick u 1 0 + 0 ≤ 1
    go true = omega arith
    go false = omega arith
apart r to_return (to_region b) p = go (eqb r b)
  where
    go : (u : Bool) → 0 + pick u 1 0 ≤ 1
    go true = omega arith
    go false = omega arith
apart r to_return to_return p = omega arith

abbrev with_total : DeferredTargetSummary → ℕ → DeferredTargetSummary
with_total w n = record { target = w.target; input_count = w.input_count; total_edge_count = w.total_edge_count + n }

bundle_sum : (r : ℕ) (e : DeferredEdgeBundle) (ws : List DeferredTargetSummary)
    → summary_total (bundles_to r) (summarize_bundle e ws) ≤ summary_total (bundles_to r) ws + at r e.target
bundle_sum r e [] = omega arith
bundle_sum r e (w ∷ ws) = go (same_target e.target w.target) (bundle_sum r e ws)
  where
    go : (b : Bool) → summary_total (bundles_to r) (summarize_bundle e ws) ≤ summary_total (bundles_to r) ws + at r e.target
        → summary_total (bundles_to r) (pick b (with_total w e.accumulated_count ∷ ws) (w ∷ summarize_bundle e ws)) ≤
        (at r w.target + summary_total (bundles_to r) ws) + at r e.target
    go true ih = omega arith
    go false ih = omega arith

once : (a b t u k : ℕ) → a + b ≤ 1 → t ≤ u + b → a + u ≤ k → t ≤ k → a + t ≤ k
once zero b t u k p q x y = omega arith
once (suc a) b t u k p q x y = omega arith

bundle_fits : (r k : ℕ) (e : DeferredEdgeBundle) (ws : List DeferredTargetSummary) → summary_total (bundles_to r) ws ≤ k
    → at r e.target ≤ k → summary_total (bundles_to r) (summarize_bundle e ws) ≤ k
bundle_fits r k e [] h l = omega arith
bundle_fits r k e (w ∷ ws) h l = go (same_target e.target w.target) refl (bundle_fits r k e ws (omega arith) l)
  where
    go : (b : Bool) → same_target e.target w.target ≡ b → summary_total (bundles_to r) (summarize_bundle e ws) ≤ k
        → summary_total (bundles_to r) (pick b (with_total w e.accumulated_count ∷ ws) (w ∷ summarize_bundle e ws)) ≤ k
    go true p ih = h
    go false p ih =
        let a = apart r e.target w.target p in
        once (at r w.target) (at r e.target) (summary_total (bundles_to r) (summarize_bundle e ws))
        (summary_total (bundles_to r) ws) k (omega arith) (bundle_sum r e ws) h ih

set_fits : (r k : ℕ) (d : DeferredEdgeBundleSet) (ws : List DeferredTargetSummary) → summary_total (bundles_to r) ws ≤ k
    → edge_total (bundles_to r) d ≤ k → summary_total (bundles_to r) (summarize_set d ws) ≤ k
set_fits r k [] ws h l = h
set_fits r k (e ∷ es) ws h l = set_fits r k es (summarize_bundle e ws) (bundle_fits r k e ws h (omega arith)) (omega arith)

pub target_totals : (r : ℕ) (k : ℕ → ℕ) (cs : List MaybeClaimedRegion) (ws : List DeferredTargetSummary)
    → summary_total (bundles_to r) ws ≤ k r → FitsAll k cs → summary_total (bundles_to r) (deferred_targets cs ws) ≤ k r
target_totals r k [] ws h l = h
target_totals r k (c ∷ cs) ws h (l, ls) =
    target_totals r k cs (summarize_set (deferred_of c) ws) (set_fits r (k r) (deferred_of c) ws h (l r)) ls

-- A measure that a summary does not raise: where targets are the same, that of the counts' sum is at most the sum.
abbrev AddsUp : Measure → Type 0
AddsUp μ = (x y : DeferredTarget) (n m : ℕ) → same_target x y ≡ true → μ y (n + m) ≤ μ y n + μ x m

module _ (μ : Measure) (adds : AddsUp μ) where
  bundle_adds : (e : DeferredEdgeBundle) (ws : List DeferredTargetSummary)
      → summary_total μ (summarize_bundle e ws) ≤ summary_total μ ws + μ e.target e.accumulated_count
  bundle_adds e [] = omega arith
  bundle_adds e (w ∷ ws) = go (same_target e.target w.target) refl (bundle_adds e ws)
    where
      go : (b : Bool) → same_target e.target w.target ≡ b
          → summary_total μ (summarize_bundle e ws) ≤ summary_total μ ws + μ e.target e.accumulated_count
          → summary_total μ (pick b (with_total w e.accumulated_count ∷ ws) (w ∷ summarize_bundle e ws)) ≤
          (μ w.target w.total_edge_count + summary_total μ ws) + μ e.target e.accumulated_count
      go true p ih = let z = adds e.target w.target w.total_edge_count e.accumulated_count p in omega arith
      go false p ih = omega arith

  set_adds : (d : DeferredEdgeBundleSet) (ws : List DeferredTargetSummary)
      → summary_total μ (summarize_set d ws) ≤ summary_total μ ws + edge_total μ d
  set_adds [] ws = omega arith
  set_adds (e ∷ es) ws = let z = bundle_adds e ws in let y = set_adds es (summarize_bundle e ws) in omega arith

  pub targets_add : (cs : List MaybeClaimedRegion) (ws : List DeferredTargetSummary)
      → summary_total μ (deferred_targets cs ws) ≤ summary_total μ ws + totals μ cs
  targets_add [] ws = omega arith
  targets_add (c ∷ cs) ws = let z = set_adds (deferred_of c) ws in let y = targets_add cs (summarize_set (deferred_of c) ws) in omega arith

pub edges_add : (r : ℕ) → AddsUp (edges_to r)
edges_add r (to_region a) (to_region b) n m p = let q = eqb-true a b p in rw q (go (eqb r b))
  where
    go : (u : Bool) → pick u (n + m) 0 ≤ pick u n 0 + pick u m 0
    go true = omega arith
    go false = omega arith
edges_add r (to_region a) to_return n m p = omega arith
edges_add r to_return (to_region b) n m p = let z : false ≡ true = p in absurd (let y : ◌≡◌ {A = ℕ} 0 1 = cc in omega arith)
edges_add r to_return to_return n m p = omega arith

pub edgeless_adds : AddsUp edgeless
edgeless_adds x (to_region q) zero m p = go (0 + m)
  where
    go : (j : ℕ) → edgeless (to_region q) j ≤ 1 + edgeless x m
    go zero = omega arith
    go (suc j) = omega arith
edgeless_adds x (to_region q) (suc n) m p = let z : suc n + m ≡ suc (n + m) = omega arith in rw z (omega arith)
edgeless_adds (to_region q) to_return n m p = absurd (clash (cc))
edgeless_adds to_return to_return zero m p = let z : 0 + m ≡ m = omega arith in rw z (omega arith)
edgeless_adds to_return to_return (suc n) m p = go (suc n + m)
  where
    go : (j : ℕ) → edgeless to_return j ≤ 1 + edgeless to_return m
    go zero = omega arith
    go (suc j) = omega arith
