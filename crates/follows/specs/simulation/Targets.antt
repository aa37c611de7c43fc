-- The targets that a select's cases defer to: each once, all that stand in a case, and of the right number of inputs.
use Rattle.std.specs.Prelude.{Bool, false, true, List, [], ◌∷◌, ◌⊎◌, ◌≡◌, refl, length}
use Rattle.std.proofs.Common.{inl, inr, ◌∙◌, ap, sym}
use Rattle.nesting.specs.Nesting.{same_target, MaybeClaimedRegion, deferred_of, DeferredEdgeBundle, DeferredEdgeBundleSet, DeferredTarget}
use Rattle.nesting.specs.Nesting.{DeferredTargetSummary, deferred_targets, summarize_bundle, summarize_set}
use Rattle.meaning.specs.facts.Elements.{In}
use Rattle.nesting.specs.steps.TargetsAndCases.{same_target_is, summary_with}
use Rattle.follows.specs.simulation.World.{Fits, World}
use Rattle.meaning.specs.Lists.{pick}

abbrev pub DistinctTargets : List DeferredTargetSummary → Type 0
DistinctTargets [] = Unit
DistinctTargets (w ∷ ws) = ((y : DeferredTargetSummary) → In y ws → same_target y.target w.target ≡ false) × DistinctTargets ws

pub record Has (x : DeferredTarget) (ws : List DeferredTargetSummary) : Type 0 where
  pub it : DeferredTargetSummary
  pub there : In it ws
  pub target : it.target ≡ x

-- It stood there already, but for its count, or it is the bundle's.
abbrev Whence : DeferredEdgeBundle → List DeferredTargetSummary → DeferredTargetSummary → Type 0
Whence e ws y =
    ((z : DeferredTargetSummary) × In z ws × (y.target ≡ z.target) × (y.input_count ≡ z.input_count))
    ⊎ ((y.target ≡ e.target) × (y.input_count ≡ length e.target_inputs))

from_summary : (e : DeferredEdgeBundle) (ws : List DeferredTargetSummary) (y : DeferredTargetSummary) → In y (summarize_bundle e ws)
    → Whence e ws y
from_summary e [] y (inl p) = inr (ap (λ w. w.target) p, ap (λ w. w.input_count) p)
from_summary e [] y (inr no_way) = absurd no_way
from_summary e (w ∷ ws) y i = go (λ k. from_summary e ws y k) (same_target e.target w.target) i
  where
    go : (In y (summarize_bundle e ws) → Whence e ws y)
        → (b : Bool) → In y (pick b (summary_with e w ∷ ws) (w ∷ summarize_bundle e ws))
        → Whence e (w ∷ ws) y
    go ih true (inl p) = inl (w, inl refl, ap (λ x. x.target) p, ap (λ x. x.input_count) p)
    go ih true (inr k) = inl (y, inr k, refl, refl)
    go ih false (inl p) = inl (w, inl refl, ap (λ x. x.target) p, ap (λ x. x.input_count) p)
    go ih false (inr k) = more (ih k)
      where
        more : Whence e ws y
            → Whence e (w ∷ ws) y
        more (inl (z, l, p, q)) = inl (z, inr l, p, q)
        more (inr x) = inr x

summarize_distinct : (e : DeferredEdgeBundle) (ws : List DeferredTargetSummary) → DistinctTargets ws
    → DistinctTargets (summarize_bundle e ws)
summarize_distinct e [] h = ((λ y i. absurd i), tt)
summarize_distinct e (w ∷ ws) (h, hs) = go (summarize_distinct e ws hs) (same_target e.target w.target) refl
  where
    go : DistinctTargets (summarize_bundle e ws) → (b : Bool) → same_target e.target w.target ≡ b
        → DistinctTargets (pick b (summary_with e w ∷ ws) (w ∷ summarize_bundle e ws))
    go ih true p = (h, hs)
    go ih false p = ((λ y i. other y (from_summary e ws y i)), ih)
      where
        other : (y : DeferredTargetSummary) → Whence e ws y → same_target y.target w.target ≡ false
        other y (inl (z, l, q, a)) = rw q (h z l)
        other y (inr (q, a)) = rw q p

summarize_has : (e : DeferredEdgeBundle) (ws : List DeferredTargetSummary) → Has e.target (summarize_bundle e ws)
summarize_has e [] = record { it = _; there = inl refl; target = refl }
summarize_has e (w ∷ ws) = go (summarize_has e ws) (same_target e.target w.target) refl
  where
    go : Has e.target (summarize_bundle e ws) → (b : Bool) → same_target e.target w.target ≡ b
        → Has e.target (pick b (summary_with e w ∷ ws) (w ∷ summarize_bundle e ws))
    go ih true p = record { it = _; there = inl refl; target = sym (same_target_is e.target w.target p) }
    go ih false p = record { it = ih.it; there = inr ih.there; target = ih.target }

summarize_keeps : (e : DeferredEdgeBundle) (ws : List DeferredTargetSummary) (x : DeferredTarget) → Has x ws → Has x (summarize_bundle e ws)
summarize_keeps e [] x h = absurd h.there
summarize_keeps e (w ∷ ws) x h = go (λ k. summarize_keeps e ws x k) (same_target e.target w.target) h.there
  where
    go : (Has x ws → Has x (summarize_bundle e ws)) → (b : Bool) → (h.it ≡ w) ⊎ In h.it ws
        → Has x (pick b (summary_with e w ∷ ws) (w ∷ summarize_bundle e ws))
    go ih true (inl p) = record { it = _; there = inl refl; target = ap (λ z. z.target) (sym p) ∙ h.target }
    go ih true (inr i) = record { it = h.it; there = inr i; target = h.target }
    go ih false (inl p) = record { it = w; there = inl refl; target = ap (λ z. z.target) (sym p) ∙ h.target }
    go ih false (inr i) = let y = ih (record { it = h.it; there = i; target = h.target }) in
        record { it = y.it; there = inr y.there; target = y.target }

set_distinct : (d : DeferredEdgeBundleSet) (ws : List DeferredTargetSummary) → DistinctTargets ws → DistinctTargets (summarize_set d ws)
set_distinct [] ws h = h
set_distinct (e ∷ d) ws h = set_distinct d (summarize_bundle e ws) (summarize_distinct e ws h)

set_keeps : (d : DeferredEdgeBundleSet) (ws : List DeferredTargetSummary) (x : DeferredTarget) → Has x ws → Has x (summarize_set d ws)
set_keeps [] ws x h = h
set_keeps (e ∷ d) ws x h = set_keeps d (summarize_bundle e ws) x (summarize_keeps e ws x h)

set_has : (d : DeferredEdgeBundleSet) (ws : List DeferredTargetSummary) (y : DeferredEdgeBundle) → In y d
    → Has y.target (summarize_set d ws)
set_has [] ws y i = absurd i
set_has (e ∷ d) ws y (inl p) = rw p (set_keeps d (summarize_bundle e ws) e.target (summarize_has e ws))
set_has (e ∷ d) ws y (inr i) = set_has d (summarize_bundle e ws) y i

pub targets_distinct : (cs : List MaybeClaimedRegion) (ws : List DeferredTargetSummary) → DistinctTargets ws
    → DistinctTargets (deferred_targets cs ws)
targets_distinct [] ws h = h
targets_distinct (c ∷ cs) ws h = targets_distinct cs (summarize_set (deferred_of c) ws) (set_distinct (deferred_of c) ws h)

targets_keep : (cs : List MaybeClaimedRegion) (ws : List DeferredTargetSummary) (x : DeferredTarget) → Has x ws
    → Has x (deferred_targets cs ws)
targets_keep [] ws x h = h
targets_keep (c ∷ cs) ws x h = targets_keep cs (summarize_set (deferred_of c) ws) x (set_keeps (deferred_of c) ws x h)

module _ (W : World) where
  abbrev pub FitAll : List DeferredTargetSummary → Type 0
  FitAll ws = (w : DeferredTargetSummary) → In w ws → Fits W w.target w.input_count

  summarize_fits : (e : DeferredEdgeBundle) → Fits W e.target (length e.target_inputs) → (ws : List DeferredTargetSummary) → FitAll ws
      → FitAll (summarize_bundle e ws)
  summarize_fits e f ws h y i = go (from_summary e ws y i)
    where
      go : Whence e ws y → Fits W y.target y.input_count
      go (inl (z, l, p, q)) = rw (p, q) (h z l)
      go (inr (p, q)) = rw (p, q) f

  set_fits : (d : DeferredEdgeBundleSet) → ((e : DeferredEdgeBundle) → In e d → Fits W e.target (length e.target_inputs))
      → (ws : List DeferredTargetSummary)
      → FitAll ws → FitAll (summarize_set d ws)
  set_fits [] f ws h = h
  set_fits (e ∷ d) f ws h = set_fits d (λ x i. f x (inr i)) (summarize_bundle e ws) (summarize_fits e (f e (inl refl)) ws h)

  pub targets_fit : (cs : List MaybeClaimedRegion)
      → ((c : MaybeClaimedRegion) → In c cs → (e : DeferredEdgeBundle) → In e (deferred_of c)
      → Fits W e.target (length e.target_inputs))
      → (ws : List DeferredTargetSummary) → FitAll ws → FitAll (deferred_targets cs ws)
  targets_fit [] f ws h = h
  targets_fit (c ∷ cs) f ws h =
      targets_fit cs (λ x i. f x (inr i)) (summarize_set (deferred_of c) ws) (set_fits (deferred_of c) (λ e i. f c (inl refl) e i) ws h)

  pub targets_have : (cs : List MaybeClaimedRegion) (ws : List DeferredTargetSummary) (c : MaybeClaimedRegion) → In c cs
      → (y : DeferredEdgeBundle)
      → In y (deferred_of c) → Has y.target (deferred_targets cs ws)
  targets_have [] ws c i y k = absurd i
  targets_have (x ∷ cs) ws c (inl p) y k =
      targets_keep cs (summarize_set (deferred_of x) ws) y.target (set_has (deferred_of x) ws y (rw p at k))
  targets_have (x ∷ cs) ws c (inr i) y k = targets_have cs (summarize_set (deferred_of x) ws) c i y k
