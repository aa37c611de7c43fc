-- The regions not begun, and those not claimed: how many there are, and what it is that a step leaves no more of them.
use Rattle.std.specs.Prelude.{◌≡◌, refl, List, [], ◌∷◌, ℕ, zero, suc, ◌+◌, ◌≤◌, ◌<◌, length, get_or, set, replicate}
use Rattle.std.proofs.Common.{ap, ◌∙◌, arith}
use Rattle.std.proofs.Math.Option.{Option, none, some}
use Rattle.meaning.specs.Graph.{Value}
use Rattle.nesting.specs.Nesting.{StructurizeRegionState, not_begun, in_progress, claimed, ready, NestState, with_tables, Claim}
use Rattle.nesting.specs.steps.Post.{Post}
use Rattle.nesting.specs.steps.StatesKept.{KeepsStates}

abbrev pub state_of : NestState → ℕ → StructurizeRegionState
state_of s r = get_or s.region_states r not_begun

abbrev pub with_state : NestState → ℕ → StructurizeRegionState → NestState
with_state s r x = with_tables (set s.region_states r x) s.region_input_rewrites s.node_outputs s

abbrev pub not_begun_one : StructurizeRegionState → ℕ
not_begun_one not_begun = 1
not_begun_one in_progress = 0
not_begun_one claimed = 0
not_begun_one (ready b children d) = 0

-- a region that can still be claimed
abbrev pub unclaimed_one : StructurizeRegionState → ℕ
unclaimed_one not_begun = 1
unclaimed_one in_progress = 0
unclaimed_one claimed = 0
unclaimed_one (ready b children d) = 1

abbrev pub count_states : (StructurizeRegionState → ℕ) → List StructurizeRegionState → ℕ
count_states w [] = 0
count_states w (x ∷ xs) = w x + count_states w xs

abbrev pub not_begun_count : NestState → ℕ
not_begun_count s = count_states not_begun_one s.region_states

abbrev pub unclaimed_count : NestState → ℕ
unclaimed_count s = count_states unclaimed_one s.region_states

pub count_set : (w : StructurizeRegionState → ℕ) (l : List StructurizeRegionState) (r : ℕ) (x : StructurizeRegionState) → r < length l
    → count_states w (set l r x) + w (get_or l r not_begun) ≡ count_states w l + w x
count_set w [] r x h = absurd (omega arith)
count_set w (y ∷ l) zero x h = omega arith
count_set w (y ∷ l) (suc r) x h = let z = count_set w l r x (omega arith) in omega arith

pub unclaimed_most : (l : List StructurizeRegionState) → count_states unclaimed_one l ≤ length l
unclaimed_most [] = omega arith
unclaimed_most (x ∷ l) = let z = unclaimed_most l in let y = one x in omega arith
  where
    one : (x : StructurizeRegionState) → unclaimed_one x ≤ 1
    one not_begun = omega arith
    one in_progress = omega arith
    one claimed = omega arith
    one (ready b children d) = omega arith

pub all_not_begun : (n i : ℕ) → get_or (replicate n not_begun) i not_begun ≡ not_begun
all_not_begun zero i = refl
all_not_begun (suc n) zero = refl
all_not_begun (suc n) (suc i) = all_not_begun n i

-- as many regions, no more of them not begun, and by k fewer unclaimed
pub record FewerUnclaimed (k : ℕ) (s s' : NestState) : Type 0 where
  pub length : length s'.region_states ≡ length s.region_states
  pub not_begun : not_begun_count s' ≤ not_begun_count s
  pub unclaimed : unclaimed_count s' + k ≤ unclaimed_count s

pub fewer_refl : (s : NestState) → FewerUnclaimed 0 s s
fewer_refl s = record { length = refl; not_begun = omega arith; unclaimed = omega arith }

pub fewer_then : {k : ℕ} {s s₁ s₂ : NestState} → FewerUnclaimed 0 s s₁ → FewerUnclaimed k s₁ s₂ → FewerUnclaimed k s s₂
fewer_then a b = record {
  length = b.length ∙ a.length;
  not_begun = let x = a.not_begun in let y = b.not_begun in omega arith;
  unclaimed = let x = a.unclaimed in let y = b.unclaimed in omega arith;
}

pub fewer_less : {k : ℕ} {s s' : NestState} → FewerUnclaimed k s s' → FewerUnclaimed 0 s s'
fewer_less a = record { length = a.length; not_begun = a.not_begun; unclaimed = let x = a.unclaimed in omega arith }

pub fewer_still : {s s' : NestState} → KeepsStates s s' → FewerUnclaimed 0 s s'
fewer_still q = record {
  length = ap length q.states;
  not_begun = let z = ap (count_states not_begun_one) q.states in omega arith;
  unclaimed = let z = ap (count_states unclaimed_one) q.states in omega arith;
}

abbrev pub AnyRefusal : ℕ → ℕ → Type 0
AnyRefusal n w = Unit

-- Claims: one fewer unclaimed if it succeeds.
abbrev pub claimed_count : {A : Type 0} → Option A → ℕ
claimed_count none = 0
claimed_count (some a) = 1

abbrev pub ClaimFewer : Claim → Type 0
ClaimFewer claim = (r n : ℕ) (inputs : List Value) (s : NestState)
    → Post AnyRefusal (λ o s'. FewerUnclaimed (claimed_count o) s s') (claim r n inputs s)
