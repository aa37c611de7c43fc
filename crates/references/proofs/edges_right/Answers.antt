use native.Mathlib.Omega.{arith}
use mathlib.Core.Path.{refl}
use lib.ListN.{drop}
use Rattle.meaning.specs.Graph.{region, edges_of, targets_of}
use Rattle.format.specs.References as format
use Rattle.fields.specs.ByNumber.{before}
use Rattle.references.specs.laws.EdgesWalk.{edges_walk}
use Rattle.references.proofs.edges_right.Goals as goal

pub loop-j-init : goal.loop-j-init
unfolding before
loop-j-init c =
    let r = c.args.r in
    record {
      bound = omega arith;
      left = λ g k.
          let seen = before (targets_of g r) k in
          format.first_refusal (format.edge_right g r) (format.first_edges seen (drop k (edges_of (region g r).terminator)));
      walk = λ g s. edges_walk (format.edge_right g r) (edges_of (region g r).terminator) (c.target_count-n.ensures g s);
      rest = λ g s. refl;
    }
