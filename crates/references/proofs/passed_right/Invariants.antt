-- As many values as inputs, and then each round has one of both.
use lib.ListN.{get_or}
use Rattle.meaning.specs.Graph.{no_value, region}
use Rattle.format.specs.References as format
use Rattle.fields.specs.ByNumber.{edge_of}
use Rattle.references.specs.Checks.{typed}
use Rattle.references.specs.laws.Rounds.{Round}
use Rattle.references.proofs.passed_right.Given as goal

abbrev pub invariant-loop-k : goal.invariant-loop-k
invariant-loop-k l =
    Round l.w (λ g k. typed g l.r (get_or (region g l.t).inputs k 0) (get_or (edge_of g l.r l.j).inputs k no_value))
    (λ g. format.edge_right g l.r (edge_of g l.r l.j)) l.n l.k
