-- ONE for each deferred target of a loop's exit list: for every set that the words show, as the definition adds it.
use Rattle.std.specs.Prelude.{◌≡◌, Bool, List, map, length, get_or}
use Rattle.std.proofs.Math.Path.{refl, ap, subst}
use Rattle.std.proofs.Common.{sym, ◌∙◌, add-one}
use Rattle.std.proofs.Math.Bool.{true, false}
use Prim.Native.Nat.{ℕ, zero, suc, ◌+◌, ◌≤◌, ◌<◌}
use native.Mathlib.Omega.{arith}
use Rattle.std.proofs.Math.Decide.{dec_lt}
use Rattle.std.proofs.lemmas.List.{length-map}
use Rattle.meaning.specs.Graph.{Graph}
use Rattle.meaning.specs.Lists.{pick, is_in}
use Rattle.meaning.specs.facts.Elements.{getD_map_in}
use Rattle.nesting.specs.Nesting.{exit_targets}
use Rattle.nesting.specs.Nesting.{DeferredTarget, to_region, to_return, DeferredEdgeBundle, DeferredEdgeBundleSet, add_exit_edge}
use Rattle.nesting.specs.Nesting.{exit_targets}
use Rattle.state_words.specs.Sections.{used, start, size, word, stored, bundles, set_starts, set_lengths}
use Rattle.state_sets.specs.SetTables.{bundle_at}
use Rattle.state_words.specs.Totals.{edges_word}
use Rattle.state_words.specs.laws.Edges.{edges_fit}
use Rattle.state_shown.specs.laws.Stores.{ChangesOnly, nothing_changes, changes_then, word_there, word_apart}
use Rattle.state_shown.specs.Sets.{ShowsTarget, shows_region, shows_return, ShowsBundle, ShowsSet, no_bundle}
use Rattle.state_shown.specs.States.{Slots, ShowsOwnSet, HasSlot}
use Rattle.state_shown.specs.laws.RegionsKept.{bundle_stays}
use Rattle.state_shown.specs.laws.Finds.{bundle_in}
use Rattle.state_shown.specs.laws.RegionSteps.{slots_stay, preserves_by, OnlyBundle, bundle_same}
use Rattle.state_shown.specs.laws.RegionSteps.{bundle_word_concerns, bundle_concerns}
use Rattle.state_shown.specs.laws.RegionSteps.{Concerns, concerns_then}
use Rattle.cfg_loops.specs.Exits.{exit_added, exits_from, exits_added}
use Rattle.state_words.specs.Rows.{bundle_count, bundle_count_at, bundle_target, bundle_target_at, bundle_word, bundle_word_at, cases_at}
use Rattle.state_words.specs.Rows.{largest, most_bundles, no_bundle_word, return_word, bundle_count_field}

counted : (n : ℕ) → n < largest → edges_word (n + 1) ≡ suc n
counted n h = edges_fit (n + 1) (omega arith) ∙ add-one n

return_counts : (xs : List ℕ) (e : DeferredEdgeBundle) → e.target ≡ to_return → add_exit_edge xs e ≡ e
return_counts xs e is = rw is

only_exit : (g : Graph) (r p : ℕ) (l : List ℕ) → OnlyBundle p l (exit_added g r p l)
unfolding exit_added
only_exit g r p l = go (is_in (bundle_target l p) (exit_targets g r))
  where
    go : (b : Bool) → OnlyBundle p l (pick b (stored l bundles (bundle_count_at p) (edges_word (bundle_count l p + 1))) l)
    go true = bundle_word_concerns l p 1 (edges_word (bundle_count l p + 1)) (omega arith)
    go false = bundle_same l p

-- ---- One bundle.
module _ (g : Graph) (r : ℕ) (not_return : is_in return_word (exit_targets g r) ≡ false) where
  abbrev counts_exit : DeferredEdgeBundle → DeferredEdgeBundle
  counts_exit = add_exit_edge (exit_targets g r)

  -- Its target stays.
  pub same_target_word : (p q : ℕ) (l : List ℕ) → bundle_target (exit_added g r p l) q ≡ bundle_target l q
  unfolding exit_added
  same_target_word p q l = go (is_in (bundle_target l p) (exit_targets g r))
    where
      go : (b : Bool)
          → bundle_target (pick b (stored l bundles (bundle_count_at p) (edges_word (bundle_count l p + 1))) l) q
          ≡ bundle_target l q
      go true = word_apart l bundles (bundle_count_at p) (edges_word (bundle_count l p + 1)) bundles (bundle_target_at q) (omega arith)
      go false = refl

  module _ (p : ℕ) (l : List ℕ) (fits : used ≤ length l) (low : p < most_bundles) where
    abbrev l' : List ℕ
    l' = exit_added g r p l

    other_word : (i : ℕ) → (i ≡ bundle_count_field → ⊥) → bundle_word l' p i ≡ bundle_word l p i
    unfolding exit_added
    other_word i d = go (is_in (bundle_target l p) (exit_targets g r))
      where
        go : (b : Bool)
            → bundle_word (pick b (stored l bundles (bundle_count_at p) (edges_word (bundle_count l p + 1))) l) p i
            ≡ bundle_word l p i
        go true = word_apart l bundles (bundle_count_at p) (edges_word (bundle_count l p + 1)) bundles (bundle_word_at p i) (omega arith)
        go false = refl

    count_word : (t c : ℕ) → bundle_target l p ≡ t → bundle_count l p ≡ c → c < largest
        → bundle_count l' p ≡ pick (is_in t (exit_targets g r)) (suc c) c
    unfolding exit_added
    count_word t c e f h = rw e (go (is_in t (exit_targets g r)))
      where
        go : (b : Bool)
            → bundle_count (pick b (stored l bundles (bundle_count_at p) (edges_word (bundle_count l p + 1))) l) p
            ≡ pick b (suc c) c
        go true = word_there l bundles (bundle_count_at p) (edges_word (bundle_count l p + 1)) (omega arith) (omega arith)
            ∙ ap (λ z. edges_word (z + 1)) f ∙ counted c h
        go false = f

    nothing_added : bundle_target l p ≡ no_bundle_word → l' ≡ l
    unfolding exit_added
    nothing_added e = rw (e, not_return)

    region_word_is : {x t : ℕ} → ShowsTarget g x (to_region t) → x ≡ t
    region_word_is (shows_region e h) = e

    return_word_is : {x : ℕ} → ShowsTarget g x to_return → x ≡ return_word
    return_word_is (shows_return e) = e

    module _ {e : DeferredEdgeBundle} (x : ShowsBundle g l p e) (low_count : e.accumulated_count < largest) where
      to_region_so : (t : ℕ) → e.target ≡ to_region t → ShowsBundle g l' p (counts_exit e)
      unfolding exit_targets
      to_region_so t is =
          let four = x.few in
          let made_stays = preserves_by (only_exit g r p l).changes (omega arith) g in
          let at : ShowsTarget g (bundle_target l p) (to_region t) = rw is at x.target in
          rw is
          (record {
            target = rw (other_word 0 (omega arith)) at;
            count = count_word t e.accumulated_count (region_word_is at) x.count low_count;
            condition = rw (other_word 2 (omega arith)) (made_stays.conditions_stay x.condition);
            size = rw is at x.size;
            few = x.few;
            inputs = λ k h. rw (other_word (3 + k) (omega arith)) (x.inputs k h);
          })

      to_return_so : e.target ≡ to_return → ShowsBundle g l' p (counts_exit e)
      to_return_so is =
          let at : ShowsTarget g (bundle_target l p) to_return = rw is at x.target in
          subst (λ z. ShowsBundle g l' p z) (sym (return_counts (exit_targets g r) e is)) (rw (nothing_added (return_word_is at)) x)

      exit_bundle : ShowsBundle g l' p (counts_exit e)
      exit_bundle = go e.target refl
        where
          go : (t : DeferredTarget) → e.target ≡ t → ShowsBundle g l' p (counts_exit e)
          go (to_region t) is = to_region_so t is
          go to_return is = to_return_so is

-- ---- The whole set of loop r, bundle by bundle.
module _ (g : Graph) (r : ℕ) (not_return : is_in return_word (exit_targets g r) ≡ false) (l₀ : List ℕ) (start n : ℕ)
    (d : DeferredEdgeBundleSet)
    (fits : used ≤ length l₀) (slots : Slots (length g.regions) l₀) (below : HasSlot (length g.regions) r)
    (own : start ≡ word l₀ set_starts r) (shown : ShowsSet g l₀ start n d)
    (low : (i : ℕ) → i < n → (get_or d i no_bundle).accumulated_count < largest) where
  record CountedTo (i : ℕ) (l : List ℕ) : Type 0 where
    concerns : Concerns g r l₀ l
    changes : ChangesOnly bundles cases_at l₀ l
    passed : (j : ℕ) → j < i → ShowsBundle g l (start + j) (counts_exit g r not_return (get_or d j no_bundle))
    left : (j : ℕ) → i ≤ j → j < n → ShowsBundle g l (start + j) (get_or d j no_bundle)
    targets : (j : ℕ) → bundle_target l (start + j) ≡ bundle_target l₀ (start + j)

  none_counted : CountedTo 0 l₀
  none_counted =
      record {
        concerns = bundle_concerns (bundle_same l₀ start) g r 0 slots below (omega arith) (own ∙ omega arith);
        changes = nothing_changes bundles cases_at l₀;
        passed = λ j h. absurd (omega arith);
        left = λ j a b. shown.each j b;
        targets = λ j. refl;
      }

  next_counted : {i : ℕ} {l : List ℕ} → i < n → CountedTo i l → CountedTo (suc i) (exit_added g r (bundle_at start i) l)
  next_counted {i} {l} h x =
      let few = shown.few in
      let room = shown.room in
      let p = start + i in
      let at : bundle_at start i ≡ p = bundle_in start i (omega arith) (omega arith) in
      let only = only_exit g r p l in
      let c = x.concerns in
      let words = c.made_stays.front.words in
      let here : p ≡ word l set_starts r + i = rw (c.same_starts r) (ap (λ z. z + i) own) in
      let step = bundle_concerns only g r i (slots_stay (λ a b. c.same_starts a) slots) below (omega arith) here in
      rw at
      record {
        concerns = concerns_then c step;
        changes = changes_then x.changes only.changes;
        passed = λ j b. elim (dec_lt j i) [
          | yes lt ↦ bundle_stays step.made_stays (only.others (start + j) (omega arith)) (x.passed j lt)
          | no ge ↦ (let e : j ≡ i = omega arith in
              rw e (exit_bundle g r not_return p l (omega arith) (omega arith) (x.left i (omega arith) h) (low i h)))
        ];
        left = λ j a b. bundle_stays step.made_stays (only.others (start + j) (omega arith)) (x.left j (omega arith) b);
        targets = λ j. same_target_word g r not_return p (start + j) l ∙ x.targets j;
      }

  counted_from : (k i : ℕ) (l : List ℕ) → i + k ≡ n → CountedTo i l → CountedTo n (exits_from g r start k i l)
  unfolding exits_from
  counted_from zero i l e x = let all : i ≡ n = omega arith in subst (λ z. CountedTo z l) all x
  counted_from (suc k) i l e x = counted_from k (suc i) (exit_added g r (bundle_at start i) l) (omega arith) (next_counted (omega arith) x)

  all_counted : CountedTo n (exits_from g r start n 0 l₀)
  all_counted = counted_from n 0 l₀ (omega arith) none_counted

  counted_set : ShowsSet g (exits_from g r start n 0 l₀) start n (map (add_exit_edge (exit_targets g r)) d)
  counted_set =
      let x = all_counted in
      record {
        size = shown.size ∙ sym (length-map d (add_exit_edge (exit_targets g r)));
        few = shown.few;
        room = shown.room;
        each = λ i h. let s = shown.size in
            subst (λ z. ShowsBundle g (exits_from g r start n 0 l₀) (start + i) z)
            (sym (getD_map_in (add_exit_edge (exit_targets g r)) d i no_bundle no_bundle (omega arith))) (x.passed i h);
        apart = λ i j a b e. shown.apart i j a b (sym (x.targets i) ∙ e ∙ x.targets j);
      }

-- Loop r's own set, after the code's last step.
pub record ExitsCounted (g : Graph) (r : ℕ) (l l' : List ℕ) (d : DeferredEdgeBundleSet) : Type 0 where
  pub concerns : Concerns g r l l'
  pub changes : ChangesOnly bundles cases_at l l'
  pub set : ShowsOwnSet g l' r (map (add_exit_edge (exit_targets g r)) d)

pub exits_shown : (g : Graph) (r : ℕ) (l : List ℕ) (d : DeferredEdgeBundleSet) → is_in return_word (exit_targets g r) ≡ false
    → used ≤ length l
    → Slots (length g.regions) l → HasSlot (length g.regions) r → ShowsOwnSet g l r d
    → ((i : ℕ) → i < length d → (get_or d i no_bundle).accumulated_count < largest)
    → ExitsCounted g r l (exits_added g r l) d
exits_shown g r l d not_return fits slots below shown low =
    let s = shown.size in
    let begin = word l set_starts r in
    let n = word l set_lengths r in
    let x = all_counted g r not_return l begin n d fits slots below refl shown (λ i h. low i (omega arith)) in
    let starts = x.changes.others set_starts (omega arith) (omega arith) in
    let lengths = x.changes.others set_lengths (omega arith) (omega arith) in
    record {
      concerns = x.concerns;
      changes = x.changes;
      set = rw (starts, lengths) (counted_set g r not_return l begin n d fits slots below refl shown (λ i h. low i (omega arith)));
    }
