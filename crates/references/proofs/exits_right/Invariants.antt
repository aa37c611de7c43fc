-- Each round has one exit: no region, named twice, or right.
use mathlib.Core.List.{[]}
use Rattle.meaning.specs.Graph.{region}
use Rattle.format.specs.References as format
use Rattle.references.specs.laws.Walks.{exit_right}
use Rattle.references.specs.laws.Rounds.{Round}
use Rattle.references.proofs.exits_right.Given as goal

abbrev pub invariant-loop-k : goal.invariant-loop-k
invariant-loop-k l =
    Round l.w (λ g. exit_right g l.r (region g l.r).exits) (λ g. format.exits_right g l.r [] (region g l.r).exits) l.n l.k
