-- Steps of sets: a set of one, a bundle taken out by swap or by shift, two slots that change hands, a condition.
use Rattle.std.specs.Prelude.{◌≡◌, refl, true, false, List, [], ◌∷◌, ◌++◌, ℕ, zero, suc, ◌+◌, ◌-◌, ◌≤◌, ◌<◌, length, get_or, take, drop, eqb, ltb}
use Rattle.std.proofs.Common.{sym, ap, ◌∙◌, arith, length-append, length-drop, length-take-le, get_or-take, get_or-drop, get_or-append-add, lt-ltb, le-ltb, eq-eqb, ne_eqb}
use Rattle.std.proofs.Math.Decide.{dec_lt, ℕ_discrete}
use Rattle.std.proofs.Math.ListN.{get_or-append}
use Rattle.meaning.specs.Graph.{Graph, Value, undef}
use Rattle.meaning.specs.Lists.{pick}
use Rattle.meaning.specs.facts.Elements.{get_d_any}
use Rattle.nesting.specs.Nesting.{DeferredTarget, DeferredEdgeBundle, DeferredEdgeBundleSet, same_target}
use Rattle.nesting.specs.Nesting.{LazyCond, edge_bundle, condition_in, split_out_target}
use Rattle.state_words.specs.Sections.{used, word, stored, stored_all, set_starts, set_lengths, bundles}
use Rattle.state_sets.specs.SetTables.{bundle_at, bundle_words, bundle_copied, swap_removed, shifted, shift_removed, swapped}
use Rattle.state_shown.specs.Tables.{ShowsCondition, shows_true}
use Rattle.state_shown.specs.Sets.{Names, target_size, ShowsTarget, ShowsBundle, ShowsSet, SameBundle}
use Rattle.state_shown.specs.Sets.{no_bundle}
use Rattle.state_shown.specs.States.{ShowsOwnSet, HasSlot, Slots}
use Rattle.state_shown.specs.Kept.{PreservesMade, KeptRegion}
use Rattle.state_shown.specs.laws.RegionsKept.{set_stays, same_bundle, same_bundle_then}
use Rattle.state_shown.specs.laws.Finds.{bundle_in}
use Rattle.state_shown.specs.laws.Stores.{word_there, word_apart}
use Rattle.state_shown.specs.laws.SetStores.{OnlySets, only_same, only_word, only_run, only_then, only_preserves, only_kept}
use Rattle.state_shown.specs.laws.SetStores.{starts_of_sets}
use Rattle.state_shown.specs.laws.SetStores.{lengths_of_sets, bundles_of_sets, word_other, run_elsewhere_word, Moves}
use Rattle.state_shown.specs.laws.SetStores.{moves_then, same_moves, same_elsewhere, bundle_stored, copy_moves, copy_beside}
use Rattle.state_words.specs.Rows.{bundle_condition, bundle_row_at, bundle_target, bundle_word, most_bundles, slot_count, slot_size}
use Rattle.state_words.specs.Rows.{condition_true, bundle_row_size, bundle_condition_field, bundle_count_field, bundle_target_field}

-- ---- Bundles and sets, moved.
module _ {g : Graph} {w w' : List ℕ} (made_stays : PreservesMade g w w') where
  pub bundle_moves : {p q : ℕ} {e : DeferredEdgeBundle} → Moves w w' p q → ShowsBundle g w p e → ShowsBundle g w' q e
  bundle_moves same x =
      let four = x.few in
      record {
        target = rw (same.words bundle_target_field (omega arith)) x.target;
        count = same.words bundle_count_field (omega arith) ∙ x.count;
        condition = rw (same.words bundle_condition_field (omega arith)) (made_stays.conditions_stay x.condition);
        size = x.size;
        few = x.few;
        inputs = λ k h. rw (same.words (3 + k) (omega arith)) (x.inputs k h);
      }

  -- Bundle j of the new set is bundle f j of the old one.
  pub set_moves : {start n start' n' : ℕ} {d d' : DeferredEdgeBundleSet} (f : ℕ → ℕ) → n' ≡ length d' → n' ≤ slot_size
      → start' + n' ≤ most_bundles
      → ((j : ℕ) → j < n' → f j < n) → ((i j : ℕ) → i < j → j < n' → f i ≡ f j → ⊥)
      → ((j : ℕ) → j < n' → Moves w w' (start + f j) (start' + j))
      → ((j : ℕ) → j < n' → get_or d' j no_bundle ≡ get_or d (f j) no_bundle)
      → ShowsSet g w start n d → ShowsSet g w' start' n' d'
  set_moves {start} {n} {start'} {n'} f size few room within differ moves is x =
      record {
        size = size;
        few = few;
        room = room;
        each = λ j h. rw (is j h) (bundle_moves (moves j h) (x.each (f j) (within j h)));
        apart = λ i j a b e.
            let same : bundle_target w (start + f i) ≡ bundle_target w (start + f j) =
            sym ((moves i (omega arith)).words bundle_target_field (omega arith)) ∙ e ∙ (moves j b).words bundle_target_field (omega arith) in
            elim (dec_lt (f i) (f j)) [
              | yes h ↦ x.apart (f i) (f j) h (within j b) same
              | no h ↦ x.apart (f j) (f i) (let z = differ i j a b in
                  elim (ℕ_discrete (f i) (f j)) [ yes q ↦ absurd (z q) | no q ↦ omega arith ]) (within i (omega arith)) (sym same)
            ];
      }

pub set_of_one : {g : Graph} {w : List ℕ} {p : ℕ} {e : DeferredEdgeBundle} → p < most_bundles → ShowsBundle g w p e
    → ShowsSet g w p 1 (e ∷ [])
set_of_one {g} {w} {p} {e} h x =
    record {
      size = refl;
      few = omega arith;
      room = omega arith;
      each = λ i b. let z : i ≡ 0 = omega arith in let y : p + 0 ≡ p = omega arith in rw (z, y) x;
      apart = λ i j a b. absurd (omega arith);
    }

-- ---- One bundle out of a list.
-- By swap: the last takes the place of the first to x.
pub record SplitLeaves (x : DeferredTarget) (d : DeferredEdgeBundleSet) (i : ℕ) : Type 0 where
  pub size : suc (length (split_out_target x d)) ≡ length d
  pub gap : (m : ℕ) → suc m ≡ length d → i < m → get_or (split_out_target x d) i no_bundle ≡ get_or d m no_bundle
  pub others : (j : ℕ) → suc j < length d → (j ≡ i → ⊥) → get_or (split_out_target x d) j no_bundle ≡ get_or d j no_bundle

split_first : (x : DeferredTarget) (e : DeferredEdgeBundle) (es : DeferredEdgeBundleSet) → same_target x e.target ≡ true
    → SplitLeaves x (e ∷ es) 0
split_first x e [] is = record { size = rw is; gap = λ m q h. absurd (omega arith); others = λ j h d. absurd (omega arith) }
split_first x e (y ∷ ys) is =
    record {
      size = rw is (ap (λ n. suc (suc n)) (length-take-le (length ys) (y ∷ ys) (omega arith)));
      gap = λ m q h.
          let z : m ≡ suc (length ys) = omega arith in rw (is, z) (get_d_any (y ∷ ys) (length ys) y no_bundle (omega arith));
      others =
          elim [
            | zero ↦ (λ h d. absurd (d refl))
            | suc j ↦ (λ h d. rw is (get_or-take (length ys) (y ∷ ys) j no_bundle (omega arith)))
          ];
    }

pub split_out_at : (x : DeferredTarget) (d : DeferredEdgeBundleSet) (i : ℕ) → i < length d
    → same_target x (get_or d i no_bundle).target ≡ true → ((j : ℕ) → j < i → same_target x (get_or d j no_bundle).target ≡ false)
    → SplitLeaves x d i
split_out_at x [] i h is before = absurd (omega arith)
split_out_at x (e ∷ es) zero h is before = split_first x e es is
split_out_at x (e ∷ es) (suc i) h is before =
    let first = before 0 (omega arith) in
    let rest = split_out_at x es i (omega arith) is (λ j k. before (suc j) (omega arith)) in
    record {
      size = rw first (ap suc rest.size);
      gap = λ m q k. let z : m ≡ suc (m - 1) = omega arith in rw (first, z) (rest.gap (m - 1) (omega arith) (omega arith));
      others =
          elim [
            | zero ↦ (λ k d. rw first)
            | suc j ↦ (λ k d. rw first (rest.others j (omega arith) (λ q. d (ap suc q))))
          ];
    }

-- By shift: those behind move up.
module _ (d : DeferredEdgeBundleSet) (i : ℕ) (h : i < length d) where
  pub shifted_size : suc (length (take i d ++ drop (suc i) d)) ≡ length d
  shifted_size =
      rw (length-append (take i d) (drop (suc i) d), length-take-le i d (omega arith), length-drop (suc i) d) (omega arith)

  pub shifted_before : (j : ℕ) → j < i → get_or (take i d ++ drop (suc i) d) j no_bundle ≡ get_or d j no_bundle
  shifted_before j k =
      get_or-append (take i d) (drop (suc i) d) no_bundle j (rw (length-take-le i d (omega arith)) k) ∙ get_or-take i d j no_bundle k

  pub shifted_behind : (j : ℕ) → i ≤ j → get_or (take i d ++ drop (suc i) d) j no_bundle ≡ get_or d (suc j) no_bundle
  shifted_behind j k =
      let len = length-take-le i d (omega arith) in
      let e : j ≡ length (take i d) + (j - i) = omega arith in
      let f : suc i + (j - i) ≡ suc j = omega arith in
      ap (λ q. get_or (take i d ++ drop (suc i) d) q no_bundle) e
      ∙ get_or-append-add (take i d) (drop (suc i) d) (j - i) no_bundle
      ∙ get_or-drop (suc i) d (j - i) no_bundle
      ∙ ap (λ q. get_or d q no_bundle) f

-- ---- A region whose slot is none of those stored into.
pub kept_beside : {n : ℕ} {w w' : List ℕ} → OnlySets w w' → Slots n w → {r q : ℕ} → HasSlot n r → HasSlot n q → (q ≡ r → ⊥)
    → word w' set_starts q ≡ word w set_starts q → word w' set_lengths q ≡ word w set_lengths q
    → ((p : ℕ) → (word w set_starts r ≤ p → p < word w set_starts r + slot_size → ⊥) → SameBundle w w' p) → KeptRegion w w' q
kept_beside {w} only slots {r} {q} a b d start length beside =
    only_kept only q start length
    (λ i h. beside (word w set_starts q + i)
    (λ x y.
    let at_r = slots.starts r a in
    let at_q = slots.starts q b in
    let e : slots.slot_number q ≡ slots.slot_number r = omega arith in
    d (slots.own q r b a e)))

-- ---- Taken out by swap.
module _ (w : List ℕ) (r b : ℕ) where
  abbrev last_of : ℕ
  last_of = bundle_at (word w set_starts r) (word w set_lengths r - 1)

  pub swap_removed_is : 1 ≤ word w set_lengths r
      → swap_removed w r b ≡ stored (bundle_copied w b last_of) set_lengths r (word w set_lengths r - 1)
  unfolding swap_removed
  swap_removed_is h = rw (ne_eqb (word w set_lengths r) 0 (omega arith))

  swap_removed_none : word w set_lengths r ≡ 0 → swap_removed w r b ≡ w
  unfolding swap_removed
  swap_removed_none h = rw (eq-eqb (word w set_lengths r) 0 h)

  by_length : (P : List ℕ → Type 0) → P w → P (stored (bundle_copied w b last_of) set_lengths r (word w set_lengths r - 1)) → P
      (swap_removed w r b)
  by_length P x y =
      elim (ℕ_discrete (word w set_lengths r) 0) [
        | yes e ↦ rw (swap_removed_none e) x
        | no d ↦ rw (swap_removed_is (omega arith)) y
      ]

  pub swap_removed_only : OnlySets w (swap_removed w r b)
  swap_removed_only =
      by_length (λ l. OnlySets w l) (only_same w)
      (only_then (only_run w bundles_of_sets (bundle_row_at b) _) (only_word (bundle_copied w b last_of) lengths_of_sets r _))

  pub swap_removed_starts : (q : ℕ) → word (swap_removed w r b) set_starts q ≡ word w set_starts q
  swap_removed_starts q =
      by_length (λ l. word l set_starts q ≡ word w set_starts q) refl
      (word_other (bundle_copied w b last_of) set_lengths r _ set_starts (omega arith) q
      ∙ run_elsewhere_word w bundles (bundle_row_at b) _ set_starts (omega arith) q)

  pub swap_removed_beside : (p : ℕ) → (p ≡ b → ⊥) → SameBundle w (swap_removed w r b) p
  swap_removed_beside p d =
      by_length (λ l. SameBundle w l p) (same_bundle w p)
      (same_bundle_then (copy_beside w b last_of p d) (same_elsewhere (bundle_copied w b last_of) set_lengths (omega arith) r _ p))

-- The bundle found by its target leaves region r's set: the rest is split-out-target's.
module _ {g : Graph} {w : List ℕ} (room : used ≤ length w) {r : ℕ} (below : r < slot_count) {d : DeferredEdgeBundleSet}
    (shown : ShowsOwnSet g w r d) where
  abbrev own_start : ℕ
  own_start = word w set_starts r

  length_stored : (l : List ℕ) (x : ℕ) → used ≤ length l → word (stored l set_lengths r x) set_lengths r ≡ x
  length_stored l x h = word_there l set_lengths r x (omega arith) below

  pub swap_removed_set : (x : DeferredTarget) (i : ℕ) → i < length d → same_target x (get_or d i no_bundle).target ≡ true
      → ((j : ℕ) → j < i → same_target x (get_or d j no_bundle).target ≡ false)
      → ShowsOwnSet g (swap_removed w r (own_start + i)) r (split_out_target x d)
  swap_removed_set x i h is before =
      let size = shown.size in
      let few = shown.few in
      let slot_room = shown.room in
      let out = split_out_at x d i h is before in
      let n = word w set_lengths r in
      let b = own_start + i in
      let only = swap_removed_only w r b in
      let copied_words = bundle_copied w b (last_of w r b) in
      let at : last_of w r b ≡ own_start + (n - 1) = bundle_in own_start (n - 1) (omega arith) (omega arith) in
      let whole = swap_removed_is w r b (omega arith) in
      let counted = (only_run w bundles_of_sets (bundle_row_at b) (bundle_words w (last_of w r b))).words in
      let new_length : word (swap_removed w r b) set_lengths r ≡ n - 1 =
      rw whole (length_stored copied_words (n - 1) (rw counted room)) in
      let out_size = out.size in
      rw (swap_removed_starts w r b r, new_length)
      (set_moves (only_preserves only g) (λ j. pick (eqb j i) (n - 1) j) (omega arith) (omega arith) (omega arith)
      (λ j k. elim (ℕ_discrete j i) [ yes e ↦ rw (eq-eqb j i e) (omega arith) | no e ↦ rw (ne_eqb j i e) (omega arith) ])
      (λ j k a c. elim (ℕ_discrete j i) [
        | yes e ↦ rw (eq-eqb j i e, ne_eqb k i (omega arith)) (omega arith)
        | no e ↦ elim (ℕ_discrete k i) [
          | yes f ↦ rw (ne_eqb j i e, eq-eqb k i f) (omega arith)
          | no f ↦ rw (ne_eqb j i e, ne_eqb k i f) (omega arith)
        ]
      ])
      (λ j k. elim (ℕ_discrete j i) [
        | yes e ↦ rw (eq-eqb j i e, e, ← at, whole)
            (moves_then (copy_moves w b (last_of w r b) room (omega arith))
            (same_moves (same_elsewhere copied_words set_lengths (omega arith) r (n - 1) b)))
        | no e ↦ rw (ne_eqb j i e) (same_moves (swap_removed_beside w r b (own_start + j) (omega arith)))
      ])
      (λ j k. elim (ℕ_discrete j i) [
        | yes e ↦ rw (eq-eqb j i e, e) (out.gap (n - 1) (omega arith) (omega arith))
        | no e ↦ rw (ne_eqb j i e) (out.others j (omega arith) e)
      ]) shown)

-- ---- Taken out by shift.
-- k bundles behind bundle i of those from `start` on each move one up.
pub record Shifted (w w' : List ℕ) (start i k : ℕ) : Type 0 where
  pub only : OnlySets w w'
  pub starts : (q : ℕ) → word w' set_starts q ≡ word w set_starts q
  pub lengths : (q : ℕ) → word w' set_lengths q ≡ word w set_lengths q
  pub beside : (p : ℕ) → (start + i ≤ p → p < start + i + k → ⊥) → SameBundle w w' p
  pub moved : (j : ℕ) → i ≤ j → j < i + k → Moves w w' (start + suc j) (start + j)

pub shifts : (w : List ℕ) (start i k : ℕ) → used ≤ length w → start + i + k < most_bundles → i + k < slot_size
    → Shifted w (shifted w start i k) start i k
unfolding shifted
shifts w start i zero room a b =
    record {
      only = only_same w;
      starts = λ q. refl;
      lengths = λ q. refl;
      beside = λ p d. same_bundle w p;
      moved = λ j c d. absurd (omega arith);
    }
shifts w start i (suc k) room a b =
    let at : bundle_at start i ≡ start + i = bundle_in start i (omega arith) (omega arith) in
    let behind : bundle_at start (suc i) ≡ start + suc i = bundle_in start (suc i) (omega arith) (omega arith) in
    let first = bundle_copied w (start + i) (start + suc i) in
    let xs = bundle_words w (start + suc i) in
    let once = only_run w bundles_of_sets (bundle_row_at (start + i)) xs in
    let counted = once.words in
    let rest = shifts first start (suc i) k (omega arith) (omega arith) (omega arith) in
    rw (at, behind)
    record {
      only = only_then once rest.only;
      starts = λ q. rest.starts q ∙ run_elsewhere_word w bundles (bundle_row_at (start + i)) xs set_starts (omega arith) q;
      lengths = λ q. rest.lengths q ∙ run_elsewhere_word w bundles (bundle_row_at (start + i)) xs set_lengths (omega arith) q;
      beside = λ p d.
          same_bundle_then (copy_beside w (start + i) (start + suc i) p (λ e. d (omega arith) (omega arith)))
          (rest.beside p (λ x y. d (omega arith) (omega arith)));
      moved = λ j c d.
          elim (ℕ_discrete j i) [
            | yes e ↦ rw e
                (moves_then (copy_moves w (start + i) (start + suc i) room (omega arith))
                (same_moves (rest.beside (start + i) (λ x y. omega arith))))
            | no e ↦ moves_then (same_moves (copy_beside w (start + i) (start + suc i) (start + suc j) (omega arith)))
                (rest.moved j (omega arith) (omega arith))
          ];
    }

-- What bundle i leaves of region r's set.
pub record ShiftRemoved (g : Graph) (w w' : List ℕ) (r i : ℕ) (d : DeferredEdgeBundleSet) : Type 0 where
  pub only : OnlySets w w'
  pub starts : (q : ℕ) → word w' set_starts q ≡ word w set_starts q
  pub lengths : (q : ℕ) → (q ≡ r → ⊥) → word w' set_lengths q ≡ word w set_lengths q
  pub beside : (p : ℕ) → (word w set_starts r ≤ p → p < word w set_starts r + slot_size → ⊥) → SameBundle w w' p
  pub set : ShowsOwnSet g w' r (take i d ++ drop (suc i) d)

pub shift_removes : {g : Graph} {w : List ℕ} → used ≤ length w → {r : ℕ} → r < slot_count → {d : DeferredEdgeBundleSet}
    → ShowsOwnSet g w r d →
    (i : ℕ)
    → i < length d → ShiftRemoved g w (shift_removed w r i) r i d
unfolding shift_removed
shift_removes {g} {w} room {r} below {d} shown i h =
    let size = shown.size in
    let few = shown.few in
    let slot_room = shown.room in
    let n = word w set_lengths r in
    let start = word w set_starts r in
    let s = shifts w start i (n - 1 - i) room (omega arith) (omega arith) in
    let moved = shifted w start i (n - 1 - i) in
    let counted = s.only.words in
    let only = only_then s.only (only_word moved lengths_of_sets r (n - 1)) in
    let same : (p : ℕ) → SameBundle moved (stored moved set_lengths r (n - 1)) p = λ p. same_elsewhere moved set_lengths (omega arith) r
    (n - 1) p in
    let starts : (q : ℕ) → word (stored moved set_lengths r (n - 1)) set_starts q ≡ word w set_starts q =
    λ q. word_other moved set_lengths r (n - 1) set_starts (omega arith) q ∙ s.starts q in
    let new_length = word_there moved set_lengths r (n - 1) (omega arith) below in
    let new_size = shifted_size d i h in
    rw (ne_eqb n 0 (omega arith))
    record {
      only = only;
      starts = starts;
      lengths = λ q e. word_apart moved set_lengths r (n - 1) set_lengths q e ∙ s.lengths q;
      beside = λ p e. same_bundle_then (s.beside p (λ x y. e (omega arith) (omega arith))) (same p);
      set = rw (starts r, new_length)
          (set_moves (only_preserves only g) (λ j. pick (ltb j i) j (suc j)) (omega arith) (omega arith) (omega arith)
          (λ j k. elim (dec_lt j i) [ yes e ↦ rw (lt-ltb j i e) (omega arith) | no e ↦ rw (le-ltb j i (omega arith)) (omega arith) ])
          (λ j k a c. elim (dec_lt j i) [
            | yes e ↦ elim (dec_lt k i) [
              | yes f ↦ rw (lt-ltb j i e, lt-ltb k i f) (omega arith)
              | no f ↦ rw (lt-ltb j i e, le-ltb k i (omega arith)) (omega arith)
            ]
            | no e ↦ rw (le-ltb j i (omega arith), le-ltb k i (omega arith)) (omega arith)
          ])
          (λ j k. elim (dec_lt j i) [
            | yes e ↦ rw (lt-ltb j i e) (same_moves (same_bundle_then (s.beside (start + j) (λ x y. omega arith)) (same (start + j))))
            | no e ↦ rw (le-ltb j i (omega arith))
                (moves_then (s.moved j (omega arith) (omega arith)) (same_moves (same (start + j))))
          ])
          (λ j k. elim (dec_lt j i) [
            | yes e ↦ rw (lt-ltb j i e) (shifted_before d i h j e)
            | no e ↦ rw (le-ltb j i (omega arith)) (shifted_behind d i h j (omega arith))
          ]) shown);
    }

-- ---- Two slots change hands.
module _ (w : List ℕ) (room : used ≤ length w) (a b : ℕ) (at_a : a < slot_count) (at_b : b < slot_count) where
  abbrev first_stored : List ℕ
  first_stored = stored w set_starts a (word w set_starts b)

  pub swapped_only : OnlySets w (swapped w a b)
  swapped_only = only_then (only_word w starts_of_sets a _) (only_word first_stored starts_of_sets b _)

  pub swapped_second : word (swapped w a b) set_starts b ≡ word w set_starts a
  swapped_second =
      let counted = (only_word w starts_of_sets a (word w set_starts b)).words in
      word_there first_stored set_starts b (word w set_starts a) (omega arith) at_b

  pub swapped_first : word (swapped w a b) set_starts a ≡ word w set_starts b
  swapped_first =
      elim (ℕ_discrete a b) [
        | yes e ↦ ap (λ q. word (swapped w a b) set_starts q) e ∙ swapped_second ∙ ap (λ q. word w set_starts q) e
        | no d ↦ word_apart first_stored set_starts b (word w set_starts a) set_starts a d
            ∙ word_there w set_starts a (word w set_starts b) (omega arith) at_a
      ]

  pub swapped_other : (q : ℕ) → (q ≡ a → ⊥) → (q ≡ b → ⊥) → word (swapped w a b) set_starts q ≡ word w set_starts q
  swapped_other q d e =
      word_apart first_stored set_starts b (word w set_starts a) set_starts q e
      ∙ word_apart w set_starts a (word w set_starts b) set_starts q d

  pub swapped_lengths : (q : ℕ) → word (swapped w a b) set_lengths q ≡ word w set_lengths q
  swapped_lengths q =
      word_other first_stored set_starts b (word w set_starts a) set_lengths (omega arith) q
      ∙ word_other w set_starts a (word w set_starts b) set_lengths (omega arith) q

  pub swapped_bundle : (p : ℕ) → SameBundle w (swapped w a b) p
  swapped_bundle p =
      same_bundle_then (same_elsewhere w set_starts (omega arith) a (word w set_starts b) p)
      (same_elsewhere first_stored set_starts (omega arith) b (word w set_starts a) p)

  pub swapped_kept : (q : ℕ) → (q ≡ a → ⊥) → (q ≡ b → ⊥) → KeptRegion w (swapped w a b) q
  swapped_kept q d e =
      only_kept swapped_only q (swapped_other q d e) (swapped_lengths q) (λ i h. swapped_bundle (word w set_starts q + i))

  -- A set moves with its slot.
  pub swapped_first_set : {g : Graph} {n : ℕ} {d : DeferredEdgeBundleSet} → ShowsSet g w (word w set_starts b) n d
      → ShowsSet g (swapped w a b) (word (swapped w a b) set_starts a) n d
  swapped_first_set {g} x = rw swapped_first (set_stays (only_preserves swapped_only g) (λ i h. swapped_bundle (word w set_starts b + i)) x)

  -- Region q's slot is that of region `turned q`.
  abbrev turned : ℕ → ℕ
  turned q = pick (eqb q a) b (pick (eqb q b) a q)

  turned_start : (q : ℕ) → word (swapped w a b) set_starts q ≡ word w set_starts (turned q)
  turned_start q =
      elim (ℕ_discrete q a) [
        | yes e ↦ rw (eq-eqb q a e, e) swapped_first
        | no d ↦ elim (ℕ_discrete q b) [
          | yes e ↦ rw (ne_eqb q a d, eq-eqb q b e, e) swapped_second
          | no e ↦ rw (ne_eqb q a d, ne_eqb q b e) (swapped_other q d e)
        ]
      ]

  turned_slot : {n : ℕ} → HasSlot n a → HasSlot n b → (q : ℕ) → HasSlot n q → HasSlot n (turned q)
  turned_slot of_a of_b q h =
      elim (ℕ_discrete q a) [
        | yes e ↦ rw (eq-eqb q a e) of_b
        | no d ↦ elim (ℕ_discrete q b) [
          | yes e ↦ rw (ne_eqb q a d, eq-eqb q b e) of_a
          | no e ↦ rw (ne_eqb q a d, ne_eqb q b e) h
        ]
      ]

  turned_twice : (q : ℕ) → turned (turned q) ≡ q
  turned_twice q =
      elim (ℕ_discrete q a) [
        | yes e ↦ elim (ℕ_discrete b a) [
          | yes f ↦ rw (eq-eqb q a e, eq-eqb b a f) (f ∙ sym e)
          | no f ↦ rw (eq-eqb q a e, ne_eqb b a f, eq-eqb b b refl) (sym e)
        ]
        | no d ↦ elim (ℕ_discrete q b) [
          | yes e ↦ rw (ne_eqb q a d, eq-eqb q b e, eq-eqb a a refl) (sym e)
          | no e ↦ rw (ne_eqb q a d, ne_eqb q b e, ne_eqb q a d, ne_eqb q b e)
        ]
      ]

  pub swapped_slots : {n : ℕ} → HasSlot n a → HasSlot n b → Slots n w → Slots n (swapped w a b)
  swapped_slots of_a of_b x =
      let slot = turned_slot of_a of_b in
      record {
        slot_number = λ q. x.slot_number (turned q);
        starts = λ q h. turned_start q ∙ x.starts (turned q) (slot q h);
        below = λ q h. x.below (turned q) (slot q h);
        own = λ p q h k e.
            let same = x.own (turned p) (turned q) (slot p h) (slot q k) e in
            sym (turned_twice p) ∙ ap turned same ∙ turned_twice q;
      }

-- ---- The condition of a bundle in its set.
pub condition_shown : {g : Graph} {w : List ℕ} {start n : ℕ} {d : DeferredEdgeBundleSet} → ShowsSet g w start n d → (i : ℕ) → i < n
    → ShowsCondition w (pick (eqb n 1) condition_true (bundle_condition w (start + i))) (condition_in d (get_or d i no_bundle))
condition_shown {n} {d} x i h =
    let size = x.size in
    elim (ℕ_discrete n 1) [
      | yes e ↦ rw (eq-eqb n 1 e, eq-eqb (length d) 1 (omega arith)) record { tree = shows_true refl; made = omega arith }
      | no e ↦ rw (ne_eqb n 1 e, ne_eqb (length d) 1 (omega arith)) (x.each i h).condition
    ]

-- ---- A bundle stored whole: target, count, condition and four words, of which the first are its inputs.
pub bundle_made : {g : Graph} (w : List ℕ) (p : ℕ) {t n c : ℕ} (ws : List ℕ) {x : DeferredTarget} {vs : List Value} {y : LazyCond}
    → used ≤ length w → p < most_bundles → length ws ≡ 4 → ShowsTarget g t x → ShowsCondition w c y → length vs ≡ target_size g x
    → length vs ≤ 4
    → ((k : ℕ) → k < length vs → Names (get_or ws k 0) (get_or vs k (undef 0)))
    → ShowsBundle g (stored_all w bundles (bundle_row_at p) (t ∷ n ∷ c ∷ ws)) p (edge_bundle x n vs y)
bundle_made {g} w p {t} {n} {c} ws room h four target condition size few names =
    let xs = t ∷ n ∷ c ∷ ws in
    let seven : length xs ≡ bundle_row_size = ap (λ m. suc (suc (suc m))) four in
    let at : (i : ℕ) → i < bundle_row_size → bundle_word (stored_all w bundles (bundle_row_at p) xs) p i ≡ get_or xs i 0 =
    λ i k. bundle_stored w p xs seven room h i k in
    let made_stays = only_preserves (only_run w bundles_of_sets (bundle_row_at p) xs) g in
    record {
      target = rw (at bundle_target_field (omega arith)) target;
      count = at bundle_count_field (omega arith);
      condition = rw (at bundle_condition_field (omega arith)) (made_stays.conditions_stay condition);
      size = size;
      few = few;
      inputs = λ k j. let e : 3 + k ≡ suc (suc (suc k)) = omega arith in rw (at (3 + k) (omega arith), e) (names k j);
    }
