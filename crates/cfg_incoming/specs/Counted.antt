-- Counts of the 32 regions: one more for a number, and one for each of a list as often as it stands there.
use Rattle.std.specs.Prelude.{◌≡◌, List, ℕ, ◌+◌, ◌≤◌, ◌<◌, eqb, get_or, drop}
use Rattle.meaning.specs.Lists.{pick, times_in}

pub record AtMost (c : List ℕ) (n : ℕ) : Type 0 where
  pub each : (a : ℕ) → a < 32 → get_or c a 0 ≤ n

pub record OneMore (c c' : List ℕ) (r : ℕ) : Type 0 where
  pub each : (a : ℕ) → a < 32 → get_or c' a 0 ≡ get_or c a 0 + pick (eqb a r) 1 0

-- What stands twice counts twice.
pub record GainsAll (c c' ts : List ℕ) : Type 0 where
  pub each : (a : ℕ) → a < 32 → get_or c' a 0 ≡ get_or c a 0 + times_in a ts

-- The counts c became c' by the first j of a list; what the others add is left.
pub record CountedUpTo (c c' : List ℕ) (j : ℕ) (ts : List ℕ) : Type 0 where
  pub each : (a : ℕ) → a < 32 → get_or c' a 0 + times_in a (drop j ts) ≡ get_or c a 0 + times_in a ts

-- No count gained more than j.
pub record Grows (c c' : List ℕ) (j : ℕ) : Type 0 where
  pub most : (n : ℕ) → AtMost c n → AtMost c' (n + j)
