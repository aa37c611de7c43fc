use native.Mathlib.Omega.{arith}
use Rattle.meaning.specs.Graph.{nowhere}
use Rattle.meaning.specs.facts.Sums.{sum_turn}
use Rattle.cfg_incoming.proofs.visit_count.Goals as goal

pub loop-r-preserved : goal.loop-r-preserved
loop-r-preserved c = (
  omega arith,
  λ g s. rw (c.from-sum.ensures, c.target_count.ensures g s)
      (sum_turn _ _ nowhere (c.region_count-r-end.ensures g s) _ _ _
      c.loop-r-test.true (c.loop-r.invariant.1 g s)),
)
