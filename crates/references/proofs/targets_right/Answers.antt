use native.Mathlib.Omega.{arith}
use mathlib.Core.Path.{refl}
use lib.ListN.{drop}
use Rattle.meaning.specs.Graph.{region, edges_of, no_edge}
use Rattle.format.specs.References as format
use Rattle.references.specs.laws.Walks.{each_walk}
use Rattle.references.specs.laws.Steps.{bad_target, good_target}
use Rattle.references.specs.laws.Rounds.{round_passed, round_refused}
use Rattle.references.proofs.targets_right.Goals as goal

pub loop-j-init : goal.loop-j-init
loop-j-init c =
    let r = c.args.r in
    record {
      bound = omega arith;
      left = λ g k. format.first_refusal (format.target_right g r) (drop k (edges_of (region g r).terminator));
      walk = λ g s. each_walk (edges_of (region g r).terminator) no_edge (c.target_count-n.ensures g s) (format.target_right g r);
      rest = λ g s. refl;
    }

pub returns-then-count-target : goal.returns-then-count-target
returns-then-count-target c =
    round_refused c.loop-j.invariant c.loop-j-test.true λ g s.
    bad_target g _ (c.region_count-count.ensures g s) _ (c.target.ensures g s) c.if-count-target.true

pub loop-j-preserved : goal.loop-j-preserved
loop-j-preserved c =
    round_passed c.loop-j.invariant c.loop-j-test.true λ g s.
    good_target g _ (c.region_count-count.ensures g s) _ (c.target.ensures g s) c.if-count-target.false
