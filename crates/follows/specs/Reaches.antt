-- What the entry reaches.
use Rattle.std.specs.Prelude.{◌≡◌, true, ℕ}
use Rattle.meaning.specs.Graph.{Graph, targets_of}
use Rattle.meaning.specs.Lists.{is_in}

-- The entry, and every target of a region that the entry reaches.
pub data Reaches (g : Graph) : ℕ → Type 0 where
  entry : Reaches g g.entry
  target : {r : ℕ} (x : ℕ) → Reaches g r → is_in x (targets_of g r) ≡ true → Reaches g x
