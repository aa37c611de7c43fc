-- Each round has one value.
use lib.ListN.{get_or}
use Rattle.meaning.specs.Graph.{no_value}
use Rattle.format.specs.References as format
use Rattle.fields.specs.ByNumber.{end_values}
use Rattle.references.specs.laws.Rounds.{Round}
use Rattle.references.proofs.exit_values_right.Given as goal

abbrev pub invariant-loop-k : goal.invariant-loop-k
invariant-loop-k l =
    Round l.w (λ g k. format.named_right g l.r (format.behind_all g l.r) (get_or (end_values g l.r) k no_value))
    (λ g. format.first_refusal (format.named_right g l.r (format.behind_all g l.r)) (end_values g l.r)) l.n l.k
