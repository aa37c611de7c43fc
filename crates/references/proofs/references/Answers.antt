use native.Mathlib.Omega.{arith}
use lib.ListN.{drop}
use Rattle.format.specs.References as format
use Rattle.references.specs.laws.Walks.{regions_walk}
use Rattle.references.specs.laws.Steps.{bad_entry, good_entry}
use Rattle.references.proofs.references.Goals as goal

pub returns-then-n-entry : goal.returns-then-n-entry
returns-then-n-entry c g s = bad_entry g (c.region_count-n.ensures g s) (c.entry.ensures g s) c.if-n-entry.true

pub loop-r-init : goal.loop-r-init
loop-r-init c =
    let count = c.region_count-n in
    record {
      bound = omega arith;
      left = λ g k. format.regions_right g k (drop k g.regions);
      walk = λ g s. regions_walk g (count.ensures g s);
      rest = λ g s. good_entry g (count.ensures g s) (c.entry.ensures g s) c.if-n-entry.false;
    }
