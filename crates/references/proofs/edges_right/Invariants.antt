-- Each round has one target, with its values where it stands for the first time.
use mathlib.Core.List.{[]}
use Rattle.meaning.specs.Graph.{region, edges_of}
use Rattle.format.specs.References as format
use Rattle.references.specs.Checks.{first_right}
use Rattle.references.specs.laws.Rounds.{Round}
use Rattle.references.proofs.edges_right.Given as goal

abbrev pub invariant-loop-j : goal.invariant-loop-j
invariant-loop-j l =
    Round l.w (λ g. first_right g l.r (edges_of (region g l.r).terminator))
    (λ g. format.first_refusal (format.edge_right g l.r) (format.first_edges [] (edges_of (region g l.r).terminator))) l.n l.j
