-- A loop takes the back edge out of its deferred set, and counts its exits one more: what that does to the set's measures.
use Rattle.std.specs.Prelude.{◌≡◌, refl, Bool, true, false, List, [], ◌∷◌, map, ℕ, zero, suc, ◌+◌, ◌≤◌, eqb}
use Rattle.std.proofs.Common.{sym, ap, ◌∙◌, arith, eqb-true, eq-eqb}
use Rattle.std.proofs.Math.Option.{Option, none, some}
use Rattle.meaning.specs.Graph.{Value}
use Rattle.meaning.specs.Lists.{is_in, times_in, pick}
use Rattle.meaning.specs.facts.Tests.{clash}
use Rattle.nesting.specs.Nesting.{LazyCond, DeferredTarget, to_region, to_return, DeferredEdgeBundle, DeferredEdgeBundleSet, same_target}
use Rattle.nesting.specs.Nesting.{get_edge_bundle_by_target, count_to, fill_gap, split_out_target, add_exit_edge}
use Rattle.follows.specs.simulation.Bundles.{but_last, found_in, last_or}
use Rattle.follows.specs.counting.Totals.{Measure, edge_total, at, bundles_to, edges_to, edgeless}
use Rattle.meaning.specs.facts.Members.{in_times}

-- ---- a bundle split out
last_total : (μ : Measure) (o x : DeferredEdgeBundle) (xs : DeferredEdgeBundleSet)
    → μ (last_or o x xs).target (last_or o x xs).accumulated_count + edge_total μ (but_last x xs) ≡ edge_total μ (x ∷ xs)
last_total μ o x [] = refl
last_total μ o x (y ∷ ys) = let z = last_total μ o y ys in omega arith

gap_total : (μ : Measure) (d : DeferredEdgeBundleSet) → edge_total μ (fill_gap d) ≡ edge_total μ d
gap_total μ [] = refl
gap_total μ (x ∷ xs) = last_total μ x x xs

pub split_total : (μ : Measure) (x : DeferredTarget) (d : DeferredEdgeBundleSet) (e : DeferredEdgeBundle)
    → get_edge_bundle_by_target x d ≡ some e
    → edge_total μ d ≡ μ e.target e.accumulated_count + edge_total μ (split_out_target x d)
split_total μ x [] e p = absurd (clash (cc))
split_total μ x (y ∷ ys) e p = go (same_target x y.target) p (λ h. split_total μ x ys e h)
  where
    go : (b : Bool) → pick b (some y) (get_edge_bundle_by_target x ys) ≡ some e
        → (get_edge_bundle_by_target x ys ≡ some e → edge_total μ ys ≡ μ e.target e.accumulated_count + edge_total μ
        (split_out_target x ys))
        → μ y.target y.accumulated_count + edge_total μ ys
        ≡ μ e.target e.accumulated_count + edge_total μ (pick b (fill_gap ys) (y ∷ split_out_target x ys))
    go true h ih = let z : y ≡ e = cc in let w = gap_total μ ys in let v = ap (λ n. μ n.target n.accumulated_count) z in omega arith
    go false h ih = let z = ih h in omega arith

-- no bundle to a region, no edge to it
edges_elsewhere : (r : ℕ) (x : DeferredTarget) (n : ℕ) → same_target (to_region r) x ≡ false → edges_to r x n ≡ 0
edges_elsewhere r (to_region q) n p = rw p
edges_elsewhere r to_return n p = refl

pub not_found : (r : ℕ) (d : DeferredEdgeBundleSet) → get_edge_bundle_by_target (to_region r) d ≡ none → edge_total (edges_to r) d ≡ 0
not_found r [] p = refl
not_found r (y ∷ ys) p = go (same_target (to_region r) y.target) refl p (λ h. not_found r ys h)
  where
    go : (b : Bool) → same_target (to_region r) y.target ≡ b → pick b (some y) (get_edge_bundle_by_target (to_region r) ys) ≡ none
        → (get_edge_bundle_by_target (to_region r) ys ≡ none → edge_total (edges_to r) ys ≡ 0)
        → edges_to r y.target y.accumulated_count + edge_total (edges_to r) ys ≡ 0
    go true h l ih = absurd (clash (cc))
    go false h l ih = let z = ih l in let w = edges_elsewhere r y.target y.accumulated_count h in omega arith

no_bundle : (r : ℕ) (x : DeferredTarget) (n : ℕ) → at r x ≡ 0 → edges_to r x n ≡ 0
no_bundle r (to_region q) n p = go (eqb r q) p
  where
    go : (b : Bool) → pick {A = ℕ} b 1 0 ≡ 0 → pick b n 0 ≡ 0
    go true h = absurd (omega arith)
    go false h = refl
no_bundle r to_return n p = refl

pub no_bundles : (r : ℕ) (d : DeferredEdgeBundleSet) → edge_total (bundles_to r) d ≡ 0 → edge_total (edges_to r) d ≡ 0
no_bundles r [] p = refl
no_bundles r (e ∷ es) p = let y = no_bundle r e.target e.accumulated_count (omega arith) in let z = no_bundles r es (omega arith) in
    omega arith

-- Where a region has one bundle at most, its count is all the edges to it.
pub count_total : (r : ℕ) (d : DeferredEdgeBundleSet) → edge_total (bundles_to r) d ≤ 1 → count_to r d ≡ edge_total (edges_to r) d
count_total r d h = go (get_edge_bundle_by_target (to_region r) d) refl
  where
    go : (o : Option DeferredEdgeBundle) → get_edge_bundle_by_target (to_region r) d ≡ o
        → ◌≡◌ {A = ℕ} (elim o [ none ↦ 0 | some e ↦ e.accumulated_count ]) (edge_total (edges_to r) d)
    go none p = sym (not_found r d p)
    go (some e) p =
        let t = sym (found_in (to_region r) d e p).1 in
        let self = eq-eqb r r refl in
        let one : at r e.target ≡ 1 = rw (t, self) in
        let here : edges_to r e.target e.accumulated_count ≡ e.accumulated_count = rw (t, self) in
        let b = split_total (bundles_to r) (to_region r) d e p in
        let n = split_total (edges_to r) (to_region r) d e p in
        let z = no_bundles r (split_out_target (to_region r) d) (omega arith) in
        omega arith

-- ---- exits counted one more
exit_at : (xs : List ℕ) (r : ℕ) (x : DeferredTarget) (n : ℕ) (vs : List Value) (k : LazyCond)
    → at r (add_exit_edge xs (record { target = x; accumulated_count = n; target_inputs = vs; condition = k })).target ≡ at r x
exit_at xs r (to_region q) n vs k = refl
exit_at xs r to_return n vs k = refl

exit_edges : (xs : List ℕ) (r : ℕ) (x : DeferredTarget) (n : ℕ) (vs : List Value) (k : LazyCond)
    → (let e = add_exit_edge xs (record { target = x; accumulated_count = n; target_inputs = vs; condition = k }) in
    edges_to r e.target e.accumulated_count) ≤ edges_to r x n + times_in r xs
exit_edges xs r to_return n vs k = omega arith
exit_edges xs r (to_region q) n vs k = go (eqb r q) (is_in q xs) refl refl
  where
    go : (b i : Bool) → eqb r q ≡ b → is_in q xs ≡ i → pick b (pick i (suc n) n) 0 ≤ pick b n 0 + times_in r xs
    go true true u v = let w = eqb-true r q u in let z = in_times q xs v in let y = ap (λ m. times_in m xs) w in omega arith
    go true false u v = omega arith
    go false i u v = omega arith

pub exits_bundles : (xs : List ℕ) (r : ℕ) (d : DeferredEdgeBundleSet)
    → edge_total (bundles_to r) (map (add_exit_edge xs) d) ≡ edge_total (bundles_to r) d
exits_bundles xs r [] = refl
exits_bundles xs r (e ∷ es) = let z = exits_bundles xs r es in let y =
    exit_at xs r e.target e.accumulated_count e.target_inputs e.condition in omega arith

-- at most as many more as the region is an exit, since one bundle at most is to it
pub exits_edges : (xs : List ℕ) (r : ℕ) (d : DeferredEdgeBundleSet) → edge_total (bundles_to r) d ≤ 1
    → edge_total (edges_to r) (map (add_exit_edge xs) d) ≤ edge_total (edges_to r) d + times_in r xs
exits_edges xs r [] h = omega arith
exits_edges xs r (e ∷ es) h =
    let here = exit_edges xs r e.target e.accumulated_count e.target_inputs e.condition in
    let kept = exit_at xs r e.target e.accumulated_count e.target_inputs e.condition in
    go (at r e.target) refl h here kept (λ l. exits_edges xs r es l)
  where
    e⁺ : DeferredEdgeBundle
    e⁺ = add_exit_edge xs e

    go : (a : ℕ) → at r e.target ≡ a → a + edge_total (bundles_to r) es ≤ 1
        → edges_to r (add_exit_edge xs e).target (add_exit_edge xs e).accumulated_count ≤ edges_to r e.target
        e.accumulated_count + times_in r xs
        → at r (add_exit_edge xs e).target ≡ at r e.target
        → (edge_total (bundles_to r) es ≤ 1 → edge_total (edges_to r) (map (add_exit_edge xs) es) ≤ edge_total
        (edges_to r) es + times_in r xs)
        → edges_to r (add_exit_edge xs e).target (add_exit_edge xs e).accumulated_count + edge_total (edges_to r)
        (map (add_exit_edge xs) es)
        ≤ (edges_to r e.target e.accumulated_count + edge_total (edges_to r) es) + times_in r xs
    go zero a l here kept ih = let z = ih (omega arith) in let y = no_bundle r e⁺.target e⁺.accumulated_count (kept ∙ a) in
        omega arith
    go (suc n) a l here kept ih = let z = no_bundles r (map (add_exit_edge xs) es) (omega (arith, exits_bundles xs r es)) in omega arith

exit_edgeless : (xs : List ℕ) (x : DeferredTarget) (n : ℕ) (vs : List Value) (k : LazyCond)
    → (let e = add_exit_edge xs (record { target = x; accumulated_count = n; target_inputs = vs; condition = k }) in
    edgeless e.target e.accumulated_count) ≤ edgeless x n
exit_edgeless xs to_return n vs k = omega arith
exit_edgeless xs (to_region q) n vs k = go (is_in q xs)
  where
    go : (i : Bool) → edgeless (to_region q) (pick i (suc n) n) ≤ edgeless (to_region q) n
    go true = omega arith
    go false = omega arith

pub exits_edgeless : (xs : List ℕ) (d : DeferredEdgeBundleSet) → edge_total edgeless (map (add_exit_edge xs) d) ≤ edge_total edgeless d
exits_edgeless xs [] = omega arith
exits_edgeless xs (e ∷ es) = let z = exits_edgeless xs es in let y =
    exit_edgeless xs e.target e.accumulated_count e.target_inputs e.condition in omega arith
