-- The loop of visits: the regions to visit stand on a stack, those visited are marked, and their edges are counted at once.
use Rattle.std.specs.Prelude.{◌≡◌, Bool, true, false, List, ℕ, ◌+◌, ◌-◌, ◌*◌, ◌≤◌, ◌<◌, length, get_or, set}
use Rattle.meaning.specs.Graph.{Graph}
use Rattle.meaning.specs.Lists.{All, is_in, pick, total}
use Rattle.nesting.specs.Nesting.{visit, reachable, incoming_edge_count}
use Rattle.cfg_incoming.specs.Counted.{AtMost}

-- ---- How many of the regions are not marked: it bounds the stack and the counts.
abbrev pub unseen : List Bool → ℕ
unseen seen = total (λ b. pick b 0 1) seen

-- What a mark does: to a region that was not marked yet, and to any other number.
pub record NewMark (seen after : List Bool) (r : ℕ) : Type 0 where
  pub within : r < 32
  pub fresh : get_or seen r false ≡ false
  pub is : after ≡ set seen r true

pub record OldMark (seen after : List Bool) (r : ℕ) : Type 0 where
  pub old : r < 32 → get_or seen r false ≡ true
  pub is : after ≡ seen

abbrev pub Marks : List Bool → List Bool → ℕ → Bool → Type 0
Marks seen after r true = NewMark seen after r
Marks seen after r false = OldMark seen after r

-- A visit pushes at most eight regions and counts at most 131,070 edges, each time another region.
pub record Room (seen : List Bool) (counts : List ℕ) (depth : ℕ) : Type 0 where
  pub sized : length seen ≡ 32
  pub stack : depth + 8 * unseen seen ≤ 257
  pub small : AtMost counts (4194241 - 131070 * unseen seen)

-- What the loop has visited, of what the definition visits: `live` in its order, with the fuel and the regions that are left.
pub record Visiting (g : Graph) (fuel : ℕ) (todo : List ℕ) (seen : List Bool) (counts : List ℕ) : Type 0 where
  pub live : List ℕ
  pub marked : (a : ℕ) → a < 32 → get_or seen a false ≡ is_in a live
  pub inside : All (λ t. t < length g.regions) todo
  pub whole : visit g fuel todo live ≡ reachable g
  pub counted : (a : ℕ) → a < 32 → get_or counts a 0 ≡ incoming_edge_count g live a
