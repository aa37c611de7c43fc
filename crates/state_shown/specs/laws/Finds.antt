-- A search for a target among bundles that show their targets: the first of that target, or none. So of a set the definition's bundle.
use Rattle.std.specs.Prelude.{◌≡◌, Bool, List, [], ◌∷◌, length, get_or, eqb}
use Rattle.std.proofs.Math.Path.{refl}
use Rattle.std.proofs.Math.Bool.{true, false}
use Rattle.std.proofs.Math.Option.{none, some}
use Prim.Native.Nat.{ℕ, zero, suc, ◌+◌, ◌*◌, ◌≤◌, ◌<◌}
use Rattle.std.proofs.Common.{arith, lt-ltb, ne_eqb}
use Rattle.std.proofs.Math.Decide.{ℕ_discrete}
use Rattle.meaning.specs.Graph.{Graph}
use Rattle.meaning.specs.Lists.{pick}
use Rattle.meaning.specs.facts.Tests.{eqb_sym}
use Rattle.nesting.specs.Nesting.{DeferredTarget, DeferredEdgeBundleSet, same_target, get_edge_bundle_by_target}
use Rattle.state_sets.specs.SetTables.{bundle_at, find_by, slot}
use Rattle.state_shown.specs.Sets.{ShowsTarget, shows_region, shows_return, ShowsSet, no_bundle}
use Rattle.state_words.specs.Rows.{bundle_target, most_bundles, no_bundle_word, return_word, slot_size, slot_count}

pub bundle_in : (start i : ℕ) → start < most_bundles → i < slot_size → bundle_at start i ≡ start + i
unfolding bundle_at
bundle_in start i a b = rw (lt-ltb start most_bundles a, lt-ltb i slot_size b)

pub slot_in : (a : ℕ) → a < slot_count → slot a ≡ slot_size * a
unfolding slot
slot_in a h = rw (lt-ltb a slot_count h)

-- Words are the same just where targets are.
pub targets_tell : {g : Graph} → length g.regions ≤ 32 → {a b : ℕ} {x y : DeferredTarget} → ShowsTarget g a x → ShowsTarget g b y
    → eqb b a ≡ same_target x y
targets_tell few (shows_region {r} e h) (shows_region {r = q} f k) = rw (e, f) (eqb_sym q r)
targets_tell few (shows_region {r} e h) (shows_return f) = rw (e, f) (ne_eqb return_word r (omega arith))
targets_tell few (shows_return e) (shows_region {r = q} f k) = rw (e, f) (ne_eqb q return_word (omega arith))
targets_tell few (shows_return e) (shows_return f) = rw (e, f)

-- The first of n to target x, where k goes to `to k`; a is its bundle.
pub data FirstTo (x : DeferredTarget) (to : ℕ → DeferredTarget) (n start a : ℕ) : Type 0 where
  first_at : (i : ℕ) → i < n → same_target x (to i) ≡ true → ((k : ℕ) → k < i → same_target x (to k) ≡ false) → a ≡ start + i
      → FirstTo x to n start a
  none_to : ((k : ℕ) → k < n → same_target x (to k) ≡ false) → a ≡ no_bundle_word → FirstTo x to n start a

module _ {g : Graph} (l : List ℕ) (few : length g.regions ≤ 32) (start : ℕ) {t : ℕ} {x : DeferredTarget} (of_target : ShowsTarget g t x)
  where
    module _ (n : ℕ) (to : ℕ → DeferredTarget) (room : start + n ≤ most_bundles) (short : n ≤ slot_size)
        (each : (k : ℕ) → k < n → ShowsTarget g (bundle_target l (start + k)) (to k)) where
      first_from : (m i : ℕ) → i + m ≡ n → ((k : ℕ) → k < i → same_target x (to k) ≡ false) → FirstTo x to n start (find_by l start t m i)
      unfolding find_by
      first_from zero i e before = none_to (λ k h. before k (omega arith)) refl
      first_from (suc m) i e before =
          let here = targets_tell few of_target (each i (omega arith)) in
          rw (bundle_in start i (omega arith) (omega arith), here)
          (go (same_target x (to i)) refl (λ f. first_from m (suc i) (omega arith) f))
        where
          go : (b : Bool) → same_target x (to i) ≡ b
              → (((k : ℕ) → k < suc i → same_target x (to k) ≡ false) → FirstTo x to n start (find_by l start t m (suc i)))
              → FirstTo x to n start (pick b (start + i) (find_by l start t m (suc i)))
          go true b next = first_at i (omega arith) b before refl
          go false b next = next (λ k h. elim (ℕ_discrete k i) [ yes z ↦ rw z b | no z ↦ before k (omega arith) ])

      pub finds_first : FirstTo x to n start (find_by l start t n 0)
      finds_first = first_from n 0 (omega arith) (λ k h. absurd (omega arith))

-- ---- A set's bundle to a target.
get_there : (x : DeferredTarget) (d : DeferredEdgeBundleSet) (i : ℕ) → i < length d → same_target x (get_or d i no_bundle).target ≡ true
    → ((k : ℕ) → k < i → same_target x (get_or d k no_bundle).target ≡ false)
    → get_edge_bundle_by_target x d ≡ some (get_or d i no_bundle)
get_there x [] i h is before = absurd (omega arith)
get_there x (e ∷ d) zero h is before = rw is
get_there x (e ∷ d) (suc i) h is before =
    rw (before 0 (omega arith)) (get_there x d i (omega arith) is (λ k b. before (suc k) (omega arith)))

get_none : (x : DeferredTarget) (d : DeferredEdgeBundleSet) → ((k : ℕ) → k < length d → same_target x (get_or d k no_bundle).target ≡ false)
    → get_edge_bundle_by_target x d ≡ none
get_none x [] new = refl
get_none x (e ∷ d) new = rw (new 0 (omega arith)) (get_none x d (λ k b. new (suc k) (omega arith)))

-- The first of its target, or none; `first` is the number of the set's first bundle.
pub data Finds (first : ℕ) (x : DeferredTarget) (d : DeferredEdgeBundleSet) (a : ℕ) : Type 0 where
  found : (i : ℕ) → a ≡ first + i → i < length d → get_edge_bundle_by_target x d ≡ some (get_or d i no_bundle)
      → same_target x (get_or d i no_bundle).target ≡ true → ((j : ℕ) → j < i → same_target x (get_or d j no_bundle).target ≡ false)
      → Finds first x d a
  none_found : a ≡ no_bundle_word → get_edge_bundle_by_target x d ≡ none → Finds first x d a

pub finds : {g : Graph} (w : List ℕ) → length g.regions ≤ 32 → (start : ℕ) {t : ℕ} {x : DeferredTarget} → ShowsTarget g t x → {n : ℕ}
    {d : DeferredEdgeBundleSet} → ShowsSet g w start n d → Finds start x d (find_by w start t n 0)
finds {g} w few start {t} {x} of_target {n} {d} y =
    go (finds_first w few start of_target n (λ k. (get_or d k no_bundle).target) y.room y.few (λ k h. (y.each k h).target))
  where
    go : FirstTo x (λ k. (get_or d k no_bundle).target) n start (find_by w start t n 0) → Finds start x d (find_by w start t n 0)
    go (first_at i h is before e) = let size = y.size in found i e (omega arith) (get_there x d i (omega arith) is before) is before
    go (none_to new e) = let size = y.size in none_found e (get_none x d (λ k h. new k (omega arith)))
