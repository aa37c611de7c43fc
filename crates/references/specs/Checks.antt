-- The checks that the code has functions for: a value against a type, an edge where its target stands for the first time.
use Rattle.std.specs.Prelude.{List, map, ℕ, get_or}
use Rattle.meaning.specs.Graph.{Graph, Value, Edge, no_edge}
use Rattle.format.specs.Store.{Answer, accepted, if_accepted}
use Rattle.format.specs.References.{behind_all, named_right, of_type, edge_right}
use Rattle.fields.specs.ByNumber.{stands_before}
use Rattle.meaning.specs.Lists.{pick}

-- A value behind all instructions of region r: named, and of type t.
abbrev pub typed : Graph → ℕ → ℕ → Value → Answer Unit
typed g r t v = if_accepted (named_right g r (behind_all g r) v) λ _. of_type g r t v

-- The values for the target at place k, where it stands for the first time.
abbrev pub first_right : Graph → ℕ → List Edge → ℕ → Answer Unit
first_right g r es k = pick (stands_before (map (λ e. e.target) es) k) (accepted tt) (edge_right g r (get_or es k no_edge))
