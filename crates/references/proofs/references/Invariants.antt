-- The entry, and then each round has one region.
use Rattle.meaning.specs.Graph.{region}
use Rattle.format.specs.References as format
use Rattle.references.specs.laws.Rounds.{Round}
use Rattle.references.proofs.references.Given as goal

abbrev pub invariant-loop-r : goal.invariant-loop-r
invariant-loop-r l = Round l.w (λ g k. format.region_right g k (region g k)) (λ g. format.references g) l.n l.r
