-- Sets of deferred edges: each target once, finding by target, and what is left once a bundle is taken out.
use Rattle.std.specs.Prelude.{Bool, false, true, [], ◌++◌, ◌∷◌, ◌⊎◌, ◌≡◌, refl, suc, get_or, length, take, eqb}
use Rattle.std.proofs.Common.{inl, inr, ◌∙◌, ap, sym, arith, subst}
use Rattle.std.proofs.Math.Option.{some}
use Rattle.meaning.specs.facts.Tests.{clash, eqb_less, eqb_sym}
use Rattle.meaning.specs.Lists.{empty, pick}
use Rattle.nesting.specs.Nesting.{fill_gap, get_edge_bundle_by_target, same_target, split_out_target, DeferredEdgeBundle}
use Rattle.nesting.specs.Nesting.{DeferredEdgeBundleSet, DeferredTarget}
use Rattle.nesting.specs.steps.TargetsAndCases.{same_target_sym, same_target_self, same_target_is}
use Rattle.meaning.specs.facts.Elements.{In}

-- a set has each target once
abbrev pub DistinctBundles : DeferredEdgeBundleSet → Type 0
DistinctBundles [] = Unit
DistinctBundles (e ∷ es) = ((y : DeferredEdgeBundle) → In y es → same_target y.target e.target ≡ false) × DistinctBundles es

pub find_in : (d : DeferredEdgeBundleSet) → DistinctBundles d → (y : DeferredEdgeBundle) → In y d
    → get_edge_bundle_by_target y.target d ≡ some y
find_in [] h y no_way = absurd no_way
find_in (e ∷ es) h y (inl p) = rw (p, same_target_self e.target)
find_in (e ∷ es) h y (inr i) = rw (h.0 y i) (find_in es h.1 y i)

pub found_in : (x : DeferredTarget) (d : DeferredEdgeBundleSet) (y : DeferredEdgeBundle) → get_edge_bundle_by_target x d ≡ some y
    → In y d × (x ≡ y.target)
found_in x [] y p = absurd (clash (cc))
found_in x (e ∷ es) y p = go (λ r. found_in x es y r) (same_target x e.target) refl
  where
    go : (get_edge_bundle_by_target x es ≡ some y → In y es × (x ≡ y.target)) → (o : Bool) → same_target x e.target ≡ o
        → In y (e ∷ es) × (x ≡ y.target)
    go ih true q = let r : some e ≡ some y = rw q at p in let r' : y ≡ e = cc in
        (inl r', same_target_is x e.target q ∙ ap (λ z. z.target) (sym r'))
    go ih false q = let r : get_edge_bundle_by_target x es ≡ some y = rw q at p in let z = ih r in (inr z.0, z.1)

pub is_empty : (d : DeferredEdgeBundleSet) → empty d ≡ true → d ≡ []
is_empty [] h = refl
is_empty (x ∷ d) h = cc

abbrev pub is_always : DeferredEdgeBundleSet → Bool
is_always d = eqb (length d) 1

-- two bundles, so their conditions are kept
pub two_apart : (d : DeferredEdgeBundleSet) (x y : DeferredEdgeBundle) → In x d → In y d → same_target x.target y.target ≡ false
    → is_always d ≡ false
two_apart [] x y i k ne = absurd i
two_apart (e ∷ []) x y (inr no_way) k ne = absurd no_way
two_apart (e ∷ []) x y (inl p) (inr no_way) ne = absurd no_way
two_apart (e ∷ []) x y (inl p) (inl q) ne = let z : same_target x.target y.target ≡ true = rw (p, q) (same_target_self e.target) in
    cc
two_apart (e ∷ e' ∷ es) x y i k ne = eqb_sym (suc (suc (length es))) 1 ∙ eqb_less 1 (suc (suc (length es))) (omega arith)

-- ---- the last bundle takes the gap
-- the last of x ∷ d, with any default, and the others
abbrev pub last_or : DeferredEdgeBundle → DeferredEdgeBundle → DeferredEdgeBundleSet → DeferredEdgeBundle
last_or o x d = get_or (x ∷ d) (length d) o

abbrev pub but_last : DeferredEdgeBundle → DeferredEdgeBundleSet → DeferredEdgeBundleSet
but_last x d = take (length d) (x ∷ d)

in_but_last : (x : DeferredEdgeBundle) (d : DeferredEdgeBundleSet) (y : DeferredEdgeBundle) → In y (but_last x d) → In y (x ∷ d)
in_but_last x [] y i = absurd i
in_but_last x (z ∷ zs) y (inl p) = inl p
in_but_last x (z ∷ zs) y (inr i) = inr (in_but_last z zs y i)

distinct_but_last : (x : DeferredEdgeBundle) (d : DeferredEdgeBundleSet) → DistinctBundles (x ∷ d) → DistinctBundles (but_last x d)
distinct_but_last x [] h = tt
distinct_but_last x (z ∷ zs) (h, hs) = ((λ y i. h y (in_but_last z zs y i)), distinct_but_last z zs hs)

module _ (o : DeferredEdgeBundle) where
  last_in : (x : DeferredEdgeBundle) (d : DeferredEdgeBundleSet) → In (last_or o x d) (x ∷ d)
  last_in x [] = inl refl
  last_in x (z ∷ zs) = inr (last_in z zs)

  split_last : (x : DeferredEdgeBundle) (d : DeferredEdgeBundleSet) (y : DeferredEdgeBundle) → In y (x ∷ d)
      → (y ≡ last_or o x d) ⊎ In y (but_last x d)
  split_last x [] y (inl p) = inl p
  split_last x [] y (inr i) = absurd i
  split_last x (z ∷ zs) y (inl p) = inr (inl p)
  split_last x (z ∷ zs) y (inr i) = go (split_last z zs y i)
    where
      go : (y ≡ last_or o z zs) ⊎ In y (but_last z zs) → (y ≡ last_or o z zs) ⊎ ((y ≡ x) ⊎ In y (but_last z zs))
      go (inl p) = inl p
      go (inr k) = inr (inr k)

  last_apart : (x : DeferredEdgeBundle) (d : DeferredEdgeBundleSet) → DistinctBundles (x ∷ d) → (y : DeferredEdgeBundle)
      → In y (but_last x d)
      → same_target y.target (last_or o x d).target ≡ false
  last_apart x [] h y i = absurd i
  last_apart x (z ∷ zs) (h, hs) y (inl p) = rw p (same_target_sym x.target (last_or o z zs).target ∙ h (last_or o z zs) (last_in z zs))
  last_apart x (z ∷ zs) (h, hs) y (inr i) = last_apart z zs hs y i

distinct_fill_gap : (d : DeferredEdgeBundleSet) → DistinctBundles d → DistinctBundles (fill_gap d)
distinct_fill_gap [] h = tt
distinct_fill_gap (x ∷ d) h = (last_apart x x d h, distinct_but_last x d h)

in_fill_gap : (d : DeferredEdgeBundleSet) (y : DeferredEdgeBundle) → In y d → In y (fill_gap d)
in_fill_gap [] y i = i
in_fill_gap (x ∷ d) y i = split_last x x d y i

from_fill_gap : (d : DeferredEdgeBundleSet) (y : DeferredEdgeBundle) → In y (fill_gap d) → In y d
from_fill_gap [] y i = i
from_fill_gap (x ∷ d) y (inl p) = subst (λ z. In z (x ∷ d)) (sym p) (last_in x x d)
from_fill_gap (x ∷ d) y (inr i) = in_but_last x d y i

pub from_split_out : (x : DeferredTarget) (d : DeferredEdgeBundleSet) (y : DeferredEdgeBundle) → In y (split_out_target x d) → In y d
from_split_out x [] y i = i
from_split_out x (e ∷ es) y i = go (λ k. from_split_out x es y k) (same_target x e.target) i
  where
    go : (In y (split_out_target x es) → In y es) → (b : Bool) → In y (pick b (fill_gap es) (e ∷ split_out_target x es)) → (y ≡ e) ⊎ In y es
    go ih true k = inr (from_fill_gap es y k)
    go ih false (inl p) = inl p
    go ih false (inr k) = inr (ih k)

pub in_split_out : (x : DeferredTarget) (d : DeferredEdgeBundleSet) (y : DeferredEdgeBundle) → same_target x y.target ≡ false → In y d
    → In y (split_out_target x d)
in_split_out x [] y ne i = i
in_split_out x (e ∷ es) y ne i = go (λ k. in_split_out x es y ne k) (same_target x e.target) refl i
  where
    go : (In y es → In y (split_out_target x es)) → (b : Bool) → same_target x e.target ≡ b → (y ≡ e) ⊎ In y es
        → In y (pick b (fill_gap es) (e ∷ split_out_target x es))
    go ih true p (inl q) = absurd (let z : same_target x y.target ≡ true = rw q p in let z' : true ≡ false = sym z ∙ ne in clash (cc))
    go ih true p (inr k) = in_fill_gap es y k
    go ih false p (inl q) = inl q
    go ih false p (inr k) = inr (ih k)

pub distinct_split_out : (x : DeferredTarget) (d : DeferredEdgeBundleSet) → DistinctBundles d → DistinctBundles (split_out_target x d)
distinct_split_out x [] h = tt
distinct_split_out x (e ∷ es) (h, hs) = go (distinct_split_out x es hs) (same_target x e.target)
  where
    go : DistinctBundles (split_out_target x es) → (b : Bool) → DistinctBundles (pick b (fill_gap es) (e ∷ split_out_target x es))
    go ih true = distinct_fill_gap es hs
    go ih false = ((λ y i. h y (from_split_out x es y i)), ih)

-- ---- one bundle out of the middle
pub in_split : (a b : DeferredEdgeBundleSet) (x y : DeferredEdgeBundle) → In y (a ++ (x ∷ b)) → (y ≡ x) ⊎ In y (a ++ b)
in_split [] b x y i = i
in_split (e ∷ a) b x y (inl p) = inr (inl p)
in_split (e ∷ a) b x y (inr i) = go (in_split a b x y i)
  where
    go : (y ≡ x) ⊎ In y (a ++ b) → (y ≡ x) ⊎ ((y ≡ e) ⊎ In y (a ++ b))
    go (inl p) = inl p
    go (inr k) = inr (inr k)

pub split_in : (a b : DeferredEdgeBundleSet) (x y : DeferredEdgeBundle) → In y (a ++ b) → In y (a ++ (x ∷ b))
split_in [] b x y i = inr i
split_in (e ∷ a) b x y (inl p) = inl p
split_in (e ∷ a) b x y (inr i) = inr (split_in a b x y i)

pub split_at : (a b : DeferredEdgeBundleSet) (x : DeferredEdgeBundle) → In x (a ++ (x ∷ b))
split_at [] b x = inl refl
split_at (e ∷ a) b x = inr (split_at a b x)

pub split_distinct : (a b : DeferredEdgeBundleSet) (x : DeferredEdgeBundle) → DistinctBundles (a ++ (x ∷ b))
    → DistinctBundles (a ++ b) × ((y : DeferredEdgeBundle) → In y (a ++ b) → same_target x.target y.target ≡ false)
split_distinct [] b x (h, hs) = (hs, λ y i. same_target_sym x.target y.target ∙ h y i)
split_distinct (e ∷ a) b x (h, hs) =
    let z = split_distinct a b x hs in
    (((λ y i. h y (split_in a b x y i)), z.0), λ y i. other z y i)
  where
    other : DistinctBundles (a ++ b) × ((y : DeferredEdgeBundle) → In y (a ++ b) → same_target x.target y.target ≡ false)
        → (y : DeferredEdgeBundle)
        → (y ≡ e) ⊎ In y (a ++ b) → same_target x.target y.target ≡ false
    other z y (inl p) = rw p (h x (split_at a b x))
    other z y (inr i) = z.1 y i

pub one_only : (a b : DeferredEdgeBundleSet) (x y : DeferredEdgeBundle) → length (a ++ (x ∷ b)) ≡ 1 → In y (a ++ b) → ⊥
one_only [] [] x y p i = i
one_only [] (e ∷ b) x y p i = omega arith
one_only (e ∷ []) b x y p i = omega arith
one_only (e ∷ e' ∷ a) b x y p i = omega arith
