-- What is counted while nesting: the attempts that each live region may still cost, and the edges still held for a region.
use Rattle.std.specs.Prelude.{◌≡◌, Bool, true, false, List, ℕ, ◌+◌, ◌*◌, ◌≤◌, ◌<◌, length, get_or, set, eqb}
use Rattle.std.proofs.Common.{sym, ◌∙◌, arith, length-set, get_or-set_same, get_or-set_other}
use Rattle.std.proofs.Math.Path.{ap}
use Rattle.std.proofs.lemmas.Bool.{eqb-false}
use Rattle.meaning.specs.Graph.{Graph, region, edges_of, targets_of}
use Rattle.meaning.specs.Lists.{is_in, Distinct, times_in, total, pick}
use Rattle.nesting.specs.Nesting.{exit_targets, DeferredEdgeBundleSet, StructurizeRegionState, not_begun, in_progress, claimed, ready}
use Rattle.nesting.specs.Nesting.{NestState}
use Rattle.nesting.specs.steps.StatesKept.{KeepsStates}
use Rattle.nesting.specs.steps.RegionsLeft.{state_of, not_begun_one, count_states, not_begun_count}
use Rattle.meaning.specs.facts.Tests.{at_or_else}
use Rattle.meaning.specs.facts.Sums.{total_one, total_change}
use Rattle.format.specs.Refusals.{too_many}
use Rattle.follows.specs.counting.Totals.{edge_total, edges_to, edgeless, SetFits}

-- The graph, its live regions, the incoming count of each, and the list in which claims look them up.
pub record Counting : Type 0 where
  pub g : Graph
  pub counts : List ℕ
  pub live : List ℕ
  pub incoming : ℕ → ℕ
  pub once : Distinct live
  pub below : (r : ℕ) → is_in r live ≡ true → r < length g.regions
  pub closed : (r x : ℕ) → is_in r live ≡ true → is_in x (targets_of g r) ≡ true → is_in x live ≡ true
  pub counts_right : (r : ℕ) → is_in r live ≡ true → get_or counts r 0 ≡ incoming r

-- Only a limit refuses: number 9, word 0.
abbrev pub Nine : ℕ → ℕ → Type 0
Nine n w = (n ≡ too_many) × (w ≡ 0)

abbrev pub busy : StructurizeRegionState → Bool
busy not_begun = false
busy in_progress = true
busy claimed = false
busy (ready b children d) = false

module _ (K : Counting) where
  abbrev pub live_count : ℕ
  live_count = length K.live

  abbrev pub live_one : ℕ → ℕ
  live_one r = pick (is_in r K.live) 1 0

  abbrev pub edges_leaving : ℕ → ℕ
  edges_leaving r = length (edges_of (region K.g r).terminator)

  -- what a region has yet to pay for: its edges, its last scan, and the scan that claims it
  abbrev pub owed_by : ℕ → StructurizeRegionState → ℕ
  owed_by i not_begun = edges_leaving i + 2 * live_count
  owed_by i in_progress = 0
  owed_by i claimed = 0
  owed_by i (ready b children d) = live_count

  -- the edges to r that region i has yet to give out, or holds; once r itself is claimed, all
  abbrev pub edges_waiting_by : ℕ → ℕ → StructurizeRegionState → ℕ
  edges_waiting_by r i not_begun = times_in r (targets_of K.g i) + times_in r (exit_targets K.g i)
  edges_waiting_by r i in_progress = times_in r (exit_targets K.g i)
  edges_waiting_by r i claimed = pick (eqb r i) (K.incoming r) 0
  edges_waiting_by r i (ready b children d) = times_in r (exit_targets K.g i) + edge_total (edges_to r) d

  weigh : (ℕ → StructurizeRegionState → ℕ) → List StructurizeRegionState → ℕ
  weigh W l = total (λ i. W i (get_or l i not_begun)) K.live

  unfoldable pub owed : List StructurizeRegionState → ℕ
  unfolding weigh
  owed l = weigh owed_by l

  unfoldable pub edges_waiting : ℕ → List StructurizeRegionState → ℕ
  unfolding weigh
  edges_waiting r l = weigh (edges_waiting_by r) l

  weigh_set : (W : ℕ → StructurizeRegionState → ℕ) (r : ℕ) (l : List StructurizeRegionState) (x : StructurizeRegionState)
      → is_in r K.live ≡ true → r < length l
      → weigh W (set l r x) + W r (get_or l r not_begun) ≡ weigh W l + W r x
  unfolding weigh
  weigh_set W r l x i h =
      let z = total_change (λ j. W j (get_or l j not_begun)) (λ j. W j (get_or (set l r x) j not_begun)) r
      (λ j ne. ap (W j) (get_or-set_other l r j x not_begun ne)) K.live K.once i in
      rw (get_or-set_same l r x not_begun h) at z

  pub owed_set : (r : ℕ) (l : List StructurizeRegionState) (x : StructurizeRegionState) → is_in r K.live ≡ true → r < length l
      → owed (set l r x) + owed_by r (get_or l r not_begun) ≡ owed l + owed_by r x
  unfolding owed
  owed_set r l x i h = weigh_set owed_by r l x i h

  pub edges_waiting_set : (q r : ℕ) (l : List StructurizeRegionState) (x : StructurizeRegionState) → is_in r K.live ≡ true → r < length l
      → edges_waiting q (set l r x) + edges_waiting_by q r (get_or l r not_begun) ≡ edges_waiting q l + edges_waiting_by q r x
  unfolding edges_waiting
  edges_waiting_set q r l x i h = weigh_set (edges_waiting_by q) r l x i h

  pub edges_waiting_at : (q r : ℕ) (l : List StructurizeRegionState) → is_in r K.live ≡ true
      → edges_waiting_by q r (get_or l r not_begun) ≤ edges_waiting q l
  unfolding edges_waiting weigh
  edges_waiting_at q r l i = total_one (λ j. edges_waiting_by q j (get_or l j not_begun)) r K.live i

  -- ---- a set: at most one bundle to each live region and none to another, each with an edge
  pub record Good (d : DeferredEdgeBundleSet) : Type 0 where
    pub fits : SetFits live_one d
    pub full : edge_total edgeless d ≡ 0

  abbrev pub Fine : ℕ → StructurizeRegionState → Type 0
  Fine i not_begun = Unit
  Fine i in_progress = Unit
  Fine i claimed = Unit
  Fine i (ready b children d) = Good d × (b ≡ edge_total (edges_to i) d)

  pub record CountInv (l : List StructurizeRegionState) : Type 0 where
    pub length : length l ≡ length K.g.regions
    pub fine : (i : ℕ) → Fine i (get_or l i not_begun)

  -- Before a step, with this fuel: H is what the callers keep in hand, f what the step may use.
  pub record Pre (fuel : ℕ) (H f : ℕ → ℕ) (s : NestState) : Type 0 where
    pub inv : CountInv s.region_states
    pub enough : not_begun_count s < fuel
    pub room : (r : ℕ) → edges_waiting r s.region_states + (f r + H r) ≤ K.incoming r
    pub waits : (r : ℕ) → busy (state_of s r) ≡ true → 1 ≤ H r

  -- A step at a cost of c attempts, with a gain; in hand was f, and then f'.
  pub record Counted (c gain : ℕ) (f f' : ℕ → ℕ) (s s' : NestState) : Type 0 where
    pub inv : CountInv s'.region_states
    pub paid : s'.attempts + owed s'.region_states + gain ≤ s.attempts + owed s.region_states + c
    pub begun : not_begun_count s' ≤ not_begun_count s
    pub kept : (r : ℕ) → edges_waiting r s'.region_states + f' r ≤ edges_waiting r s.region_states + f r
    pub stay : (r : ℕ) → busy (state_of s' r) ≡ busy (state_of s r)

  pub counted_then : {c c₁ c₂ gain gain₁ gain₂ : ℕ} {f f₁ f₁' f₂ : ℕ → ℕ} {s s₁ s₂ : NestState} → Counted c₁ gain₁ f f₁ s s₁
      → Counted c₂ gain₂ f₁' f₂ s₁ s₂
      → c₁ + c₂ + gain ≤ c + gain₁ + gain₂ → ((r : ℕ) → f₁' r ≤ f₁ r) → Counted c gain f f₂ s s₂
  counted_then a b p l = record {
    inv = b.inv;
    paid = let x = a.paid in let y = b.paid in omega arith;
    begun = let x = a.begun in let y = b.begun in omega arith;
    kept = λ r. let x = a.kept r in let y = b.kept r in let z = l r in omega arith;
    stay = λ r. b.stay r ∙ a.stay r;
  }

  -- at a higher cost, with less gain, or with something else in hand beside
  pub counted_as : {c gain : ℕ} {f f' : ℕ → ℕ} {s s' : NestState} → Counted c gain f f' s s' → (c' gain' : ℕ) (h h' : ℕ → ℕ)
      → c + gain' ≤ c' + gain → ((r : ℕ) → h' r + f r ≤ h r + f' r) → Counted c' gain' h h' s s'
  counted_as a c' gain' h h' q p =
      record {
        inv = a.inv;
        paid = let x = a.paid in omega arith;
        begun = a.begun;
        kept = λ r. let x = a.kept r in let y = p r in
            omega arith;
        stay = a.stay;
      }

  pub counted_still : {f f' : ℕ → ℕ} {s s' : NestState} → KeepsStates s s' → CountInv s.region_states → ((r : ℕ) → f' r ≤ f r)
      → Counted 0 0 f f' s s'
  counted_still q i l = record {
    inv = rw q.states i;
    paid = let x = ap owed q.states in let y = q.attempts in omega arith;
    begun = let x = ap (count_states not_begun_one) q.states in omega arith;
    kept = λ r. let x = ap (edges_waiting r) q.states in let y = l r in omega arith;
    stay = λ r. ap (λ l. busy (get_or l r not_begun)) q.states;
  }

  pub pre_after : {fuel c gain : ℕ} {H f f' : ℕ → ℕ} {s s' : NestState} → Pre fuel H f s → Counted c gain f f' s s' → Pre fuel H f' s'
  pre_after p a = record {
    inv = a.inv;
    enough = let x = a.begun in let y = p.enough in omega arith;
    room = λ r. let x = a.kept r in let y = p.room r in omega arith;
    waits = λ r b. p.waits r (sym (a.stay r) ∙ b);
  }

  pub pre_as : {fuel : ℕ} {H f : ℕ → ℕ} {s : NestState} → Pre fuel H f s → (H' f' : ℕ → ℕ) → ((r : ℕ) → f' r + H' r ≤ f r + H r)
      → ((r : ℕ) → H r ≤ H' r) → Pre fuel H' f' s
  pre_as p H' f' l m = record {
    inv = p.inv;
    enough = p.enough;
    room = λ r. let x = p.room r in let y = l r in omega arith;
    waits = λ r b. let x = p.waits r b in let y = m r in omega arith;
  }

  -- ---- a state is set
  pub inv_set : (l : List StructurizeRegionState) (r : ℕ) (x : StructurizeRegionState) → CountInv l → r < length l → Fine r x
      → CountInv (set l r x)
  inv_set l r x i h f = record {
    length = length-set l r x ∙ i.length;
    fine = λ j. at_or_else (Fine j (get_or (set l r x) j not_begun)) j r
        (λ e. let z : get_or (set l r x) r not_begun ≡ x = get_or-set_same l r x not_begun h in rw (e, z) f)
        (λ ne. let z : get_or (set l r x) j not_begun ≡ get_or l j not_begun = get_or-set_other l r j x not_begun (eqb-false j r ne) in
        rw z (i.fine j));
  }

pub busy_else : (l : List StructurizeRegionState) (r : ℕ) (x : StructurizeRegionState) (p : ℕ) → eqb p r ≡ false
    → busy (get_or (set l r x) p not_begun) ≡ busy (get_or l p not_begun)
busy_else l r x p h = ap busy (get_or-set_other l r p x not_begun (eqb-false p r h))

pub busy_here : (l : List StructurizeRegionState) (r : ℕ) (x : StructurizeRegionState) → r < length l
    → busy (get_or (set l r x) r not_begun) ≡ busy x
busy_here l r x h = ap busy (get_or-set_same l r x not_begun h)
