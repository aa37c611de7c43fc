use native.Mathlib.Omega.{arith}
use mathlib.Core.Path.{refl}
use lib.ListN.{drop}
use Rattle.meaning.specs.Graph.{no_value}
use Rattle.format.specs.References as format
use Rattle.fields.specs.ByNumber.{end_values}
use Rattle.references.specs.laws.Walks.{each_walk}
use Rattle.references.proofs.exit_values_right.Goals as goal

pub loop-k-init : goal.loop-k-init
loop-k-init c =
    let r = c.args.r in
    record {
      bound = omega arith;
      left = λ g k. format.first_refusal (format.named_right g r (format.behind_all g r)) (drop k (end_values g r));
      walk = λ g s. each_walk (end_values g r) no_value (c.value_count-n.ensures g s) (format.named_right g r (format.behind_all g r));
      rest = λ g s. refl;
    }
