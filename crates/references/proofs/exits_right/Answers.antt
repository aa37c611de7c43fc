use native.Mathlib.Omega.{arith}
use mathlib.Core.Path.{refl}
use lib.ListN.{drop}
use Rattle.meaning.specs.Graph.{region}
use Rattle.format.specs.References as format
use Rattle.fields.specs.ByNumber.{before}
use Rattle.references.specs.laws.Walks.{exits_walk}
use Rattle.references.proofs.exits_right.Goals as goal

pub loop-k-init : goal.loop-k-init
unfolding before
loop-k-init c =
    let r = c.args.r in
    record {
      bound = omega arith;
      left = λ g k. format.exits_right g r (before (region g r).exits k) (drop k (region g r).exits);
      walk = λ g s. exits_walk g r (region g r).exits (c.exit_count-n.ensures g s);
      rest = λ g s. refl;
    }
