use native.Mathlib.Omega.{arith}
use mathlib.Core.Path.{◌∙◌}
use lib.ListN.{drop}
use Rattle.meaning.specs.Graph.{region}
use Rattle.format.specs.References as format
use Rattle.fields.specs.ByNumber.{edge_of}
use Rattle.references.specs.laws.Walks.{types_walk}
use Rattle.references.specs.laws.Steps.{edge_differs, edge_agrees}
use Rattle.references.proofs.passed_right.Goals as goal

pub returns-then-n-input_count : goal.returns-then-n-input_count
returns-then-n-input_count c g s =
    let a = c.args in
    edge_differs g a.r (edge_of g a.r a.j) (c.target-t.ensures g s) (c.passed_count-n.ensures g s)
    (c.input_count.ensures g s) c.if-n-input_count.true

pub loop-k-init : goal.loop-k-init
loop-k-init c =
    let a = c.args in
    let target = c.target-t in
    record {
      bound = omega arith;
      left = λ g k. format.types_right g a.r (drop k (region g target.result).inputs) (drop k (edge_of g a.r a.j).inputs);
      walk = λ g s.
          let types = c.if-n-input_count.false ∙ c.input_count.ensures g s in
          types_walk g a.r (region g target.result).inputs (edge_of g a.r a.j).inputs types
          (c.passed_count-n.ensures g s);
      rest = λ g s.
          edge_agrees g a.r (edge_of g a.r a.j) (target.ensures g s) (c.passed_count-n.ensures g s)
          (c.input_count.ensures g s) c.if-n-input_count.false;
    }
