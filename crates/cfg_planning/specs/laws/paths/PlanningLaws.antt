-- For the proofs of planning.rt: a search or a plan over the cases, turn by turn. What is left always makes the same whole, so that the
-- last turn has the definition's answer. The record stands through all turns, for the plan reads inputs from it.
use Rattle.std.specs.Prelude.{◌≡◌, refl, ◌||◌, ◌&&◌, Bool, true, false, List, get_or, set, replicate, eqb}
use Rattle.std.proofs.Common.{◌∙◌, add-one}
use Rattle.std.specs.List.{list_all, range_with_len}
use Prim.Native.Nat.{ℕ, zero, suc, ◌+◌, ◌-◌, ◌≤◌, ◌<◌}
use native.Mathlib.Omega.{arith}
use Rattle.std.proofs.Math.Decide.{dec_lt}
use borrow.Author.Tests.{lt-ltb, le-ltb, eq-eqb, ne_eqb}
use Rattle.meaning.specs.Lists.{pick}
use Rattle.meaning.specs.Graph.{Graph}
use Rattle.record.specs.Stands.{OfRecord}
use Rattle.state_words.specs.Sections.{word, stored, head, set_starts, set_lengths, bundles}
use Rattle.state_sets.specs.SetTables.{input_word, input_stored, bundle_at}
use Rattle.state_regions.specs.RegionTables.{case_total}
use Rattle.state_shown.specs.Front.{SameKinds}
use Rattle.state_shown.specs.laws.FrontKept.{kinds_stored, kinds_then, kinds_input_stored}
use Rattle.cfg_merging.specs.Turns.{turned, turn_next, turn_last, front_turned, Left, left_next, left_last}
use Rattle.cfg_bundles.specs.EdgesAndCases.{input_count}
use Rattle.cfg_planning.specs.Planning.{place_of, per_case_deferred, per_case_condition, in_parent, with_passed, unique_from}
use Rattle.cfg_planning.specs.Planning.{unique_input, to_merge}
use Rattle.cfg_planning.specs.Planning.{is_true, all_from, all_true, Planned, planned, plan_input, also, plan_inputs, plan_bundle}
use Rattle.cfg_planning.specs.Planning.{plan_at}
use Rattle.cfg_planning.specs.Planning.{plan_bundles}
use Rattle.state_words.specs.Rows.{bundle_condition_at, bundle_target, cases_at}
use Rattle.state_words.specs.Rows.{no_bundle_word, spare_slot}

-- ---- The record stands in front of all that is stored.
front_inputs : (g : Graph) (l : List ℕ) (q : ℕ) (ps : List ℕ) → SameKinds l (plan_inputs g l q ps).words
unfolding plan_inputs plan_input
front_inputs g l q ps =
    front_turned (λ x. x.words) (also (λ m k. plan_input m q ps k))
    (λ x k. kinds_input_stored x.words q k (unique_input x.words ps k)) (input_count g l (bundle_target l q))
    (planned l false) 0

front_bundle : (g : Graph) (l : List ℕ) (q : ℕ) → SameKinds l (plan_bundle g l q).words
unfolding plan_bundle
front_bundle g l q = go (all_true x.words ps)
  where
    ps : List ℕ
    ps = per_case_deferred l (bundle_target l q)

    x : Planned
    x = plan_inputs g l q ps

    go : (b : Bool) → SameKinds l (pick b x (planned (stored x.words bundles (bundle_condition_at q) 0) true)).words
    go true = front_inputs g l q ps
    go false = kinds_then (front_inputs g l q ps) (kinds_stored x.words bundles (omega arith) (bundle_condition_at q) 0)

pub front_plan : (start : ℕ) (g : Graph) (x : Planned) (i : ℕ) → SameKinds x.words (plan_at start g x i).words
front_plan start g x i = front_bundle g x.words (bundle_at start i)

-- ---- The functions, path by path.
few_cases : (l : List ℕ) → case_total l ≤ 8
unfolding case_total
few_cases l = elim (dec_lt (word l head cases_at) 8) [
  | yes h ↦ rw (lt-ltb (word l head cases_at) 8 h) (omega arith)
  | no h ↦ rw (le-ltb (word l head cases_at) 8 (omega arith)) (omega arith)
]

module _ (l : List ℕ) (n : ℕ) (size : n ≡ case_total l) where
  pub few_total : n ≤ 8
  few_total = rw size (few_cases l)

  all_turns : n - 0 ≡ case_total l
  all_turns = omega (arith, size)

  pub places_first : (t : ℕ) → turned (λ ps j. set ps j (place_of l t j)) (replicate 8 0) (n - 0) 0 ≡ per_case_deferred l t
  unfolding per_case_deferred
  places_first t = rw all_turns

  pub unique_first : (ps : List ℕ) (k : ℕ) → unique_from l ps k (n - 0) 0 to_merge ≡ unique_input l ps k
  unique_first ps k = rw all_turns

-- A turn of the search for a shared value.
module _ (l ps : List ℕ) (k n j found : ℕ) {whole : ℕ} (left : unique_from l ps k (n - j) j found ≡ whole) where
  pub unique_last : n ≤ j → found ≡ whole
  unfolding unique_from
  unique_last h = let s : n - j ≡ 0 = omega arith in rw s at left

  module _ (more : j < n) where
    again : n - j ≡ suc (n - (j + 1))
    again = omega arith

    module _ (p : ℕ) (of_place : p ≡ get_or ps j 0) where
      pub unique_past : p ≡ no_bundle_word → unique_from l ps k (n - (j + 1)) (j + 1) found ≡ whole
      unfolding unique_from
      unique_past e = rw (add-one j) (rw (add-one j) at (rw (← of_place, eq-eqb p no_bundle_word e) at (rw again at left)))

      module _ (there : p ≡ no_bundle_word → ⊥) {x v f : ℕ} (of_input : x ≡ input_word l p k) (passed : v ≡ in_parent l j x)
          (is : f ≡ with_passed found v) where
        next : pick (eqb f to_merge) to_merge (unique_from l ps k (n - (j + 1)) (suc j) f) ≡ whole
        unfolding unique_from
        next = rw (← of_place, ne_eqb p no_bundle_word there, ← of_input, ← passed, ← is) at (rw again at left)

        pub unique_differs : f ≡ to_merge → to_merge ≡ whole
        unique_differs e = rw (eq-eqb f to_merge e) at next

        pub unique_next : (f ≡ to_merge → ⊥) → unique_from l ps k (n - (j + 1)) (j + 1) f ≡ whole
        unique_next d = rw (add-one j) (rw (add-one j) at (rw (ne_eqb f to_merge d) at next))

-- The test of all conditions, as one of each case's number.
pub all_listed : (l ps : List ℕ) (n j : ℕ)
    → list_all (λ i. is_true (per_case_condition l i (get_or ps i 0))) (range_with_len j n) ≡ all_from l ps n j
unfolding all_from
all_listed l ps zero j = refl
all_listed l ps (suc n) j = go (is_true (per_case_condition l j (get_or ps j 0))) (rw (add-one j) (all_listed l ps n (suc j)))
  where
    go : (b : Bool) {x y : Bool} → x ≡ y → (b && x) ≡ pick b y false
    go true e = e
    go false e = refl

pub input_planned : (l l₁ : List ℕ) (q : ℕ) (ps : List ℕ) (k v : ℕ) → v ≡ unique_input l ps k → l₁ ≡ input_stored l q k v
    → planned l₁ (eqb v to_merge) ≡ plan_input l q ps k
unfolding plan_input
input_planned l l₁ q ps k v e last = rw (last, e)

-- A step that adds to what was needed.
also_turn : (f : List ℕ → ℕ → Planned) (l l₁ : List ℕ) (b m m' : Bool) (i : ℕ) → planned l₁ b ≡ f l i → m' ≡ pick b true m
    → planned l₁ m' ≡ also f (planned l m) i
also_turn f l l₁ b m m' i step more = rw (more, ← step)

pub either_needed : (m b : Bool) → m || b ≡ pick b true m
either_needed true true = refl
either_needed true false = refl
either_needed false true = refl
either_needed false false = refl

pub inputs_next : (l l₁ : List ℕ) (q : ℕ) (ps : List ℕ) (b m m' : Bool) (n k : ℕ) {whole : Planned}
    → turned (also (λ x i. plan_input x q ps i)) (planned l m) (n - k) k ≡ whole → k < n → planned l₁ b ≡ plan_input l q ps k
    → m' ≡ pick b true m → turned (also (λ x i. plan_input x q ps i)) (planned l₁ m') (n - (k + 1)) (k + 1) ≡ whole
inputs_next l l₁ q ps b m m' n k left h step more =
    let f : List ℕ → ℕ → Planned = λ x i. plan_input x q ps i in
    rw (also_turn f l l₁ b m m' k step more) (turn_next (also f) (planned l m) n k left h)

pub inputs_planned : (l l' : List ℕ) (q : ℕ) (ps : List ℕ) (b : Bool) (n t k : ℕ) → n ≤ k → t ≡ bundle_target l q
    → OfRecord l (λ g. n ≡ input_count g l t)
    → turned (also (λ m i. plan_input m q ps i)) (planned l' b) (n - k) k ≡ turned (also (λ m i. plan_input m q ps i)) (planned l false) n 0
    → OfRecord l (λ g. planned l' b ≡ plan_inputs g l q ps)
unfolding plan_inputs
inputs_planned l l' q ps b n t k over of_target count left g st =
    turn_last (also (λ m i. plan_input m q ps i)) (planned l' b) n k left over ∙ rw (← of_target, ← count g st)

module _ (l l₁ ps : List ℕ) (q t : ℕ) (merged b : Bool) (of_target : t ≡ bundle_target l q)
    (of_places : ps ≡ per_case_deferred l t)
    (inputs : OfRecord l (λ g. planned l₁ merged ≡ plan_inputs g l q ps)) (test : b ≡ all_true l₁ ps) where
  pub bundle_true : b ≡ true → OfRecord l (λ g. planned l₁ merged ≡ plan_bundle g l q)
  unfolding plan_bundle
  bundle_true e g st = rw (← of_target, ← of_places, ← inputs g st, ← test, e)

  pub bundle_conditional : b ≡ false → {l₂ : List ℕ} → l₂ ≡ stored l₁ bundles (bundle_condition_at q) 0
      → OfRecord l (λ g. planned l₂ true ≡ plan_bundle g l q)
  unfolding plan_bundle
  bundle_conditional e last g st = rw (← of_target, ← of_places, ← inputs g st, ← test, e, last)

pub bundles_next : (l₀ l l₁ : List ℕ) (b m m' : Bool) (start n i p : ℕ)
    → OfRecord l₀ (Left (λ x. x.words) (plan_at start) (planned l₀ false) n (planned l m) i) → i < n → p ≡ bundle_at start i
    → OfRecord l (λ g. planned l₁ b ≡ plan_bundle g l p) → m' ≡ pick b true m
    → OfRecord l₀ (Left (λ x. x.words) (plan_at start) (planned l₀ false) n (planned l₁ m') (i + 1))
bundles_next l₀ l l₁ b m m' start n i p left h at step more =
    left_next (λ x. x.words) (plan_at start) (planned l₀ false) n (planned l m) i left (front_plan start) h (planned l₁ m')
    (λ g st. also_turn (λ x k. plan_bundle g x (bundle_at start k)) l l₁ b m m' i (rw (← at) (step g st)) more)

pub bundles_planned : (l l' : List ℕ) (b : Bool) (start n i : ℕ) → start ≡ word l set_starts spare_slot → n ≡ word l set_lengths spare_slot
    → n ≤ i
    → OfRecord l (Left (λ x. x.words) (plan_at start) (planned l false) n (planned l' b) i)
    → OfRecord l (λ g. planned l' b ≡ plan_bundles g l)
unfolding plan_bundles
bundles_planned l l' b start n i of_start of_length over left g st =
    left_last (λ x. x.words) (plan_at start) (planned l false) n (planned l' b) i left over g st ∙ rw (← of_start, ← of_length)
