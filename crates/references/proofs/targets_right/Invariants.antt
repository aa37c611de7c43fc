-- Each round has one target: a region, or none.
use Rattle.meaning.specs.Graph.{region, edges_of}
use Rattle.format.specs.References as format
use Rattle.fields.specs.ByNumber.{edge_of}
use Rattle.references.specs.laws.Rounds.{Round}
use Rattle.references.proofs.targets_right.Given as goal

abbrev pub invariant-loop-j : goal.invariant-loop-j
invariant-loop-j l =
    Round l.w (λ g k. format.target_right g l.r (edge_of g l.r k))
    (λ g. format.first_refusal (format.target_right g l.r) (edges_of (region g l.r).terminator)) l.n l.j
