-- As many values as the first Return region has, and then each round has one of both.
use lib.ListN.{get_or}
use Rattle.meaning.specs.Graph.{no_value}
use Rattle.format.specs.References as format
use Rattle.fields.specs.ByNumber.{end_values}
use Rattle.references.specs.Checks.{typed}
use Rattle.references.specs.laws.Rounds.{Round}
use Rattle.references.proofs.returned_right.Given as goal

abbrev pub invariant-loop-k : goal.invariant-loop-k
invariant-loop-k l =
    Round l.w (λ g k. typed g l.r (get_or (format.return_types g) k 0) (get_or (end_values g l.r) k no_value))
    (λ g. format.passed_right g l.r (format.return_types g) (end_values g l.r)) l.n l.k
