use Rattle.cfg_merging.specs.Rewriting.{rewrite_set}
use Rattle.cfg_merging.specs.laws.paths.RewritingLaws.{front_bundle}
use Rattle.cfg_merging.specs.Turns.{left_next, left_last}
use Rattle.state_sets.specs.SetTables.{bundle_at}
use Rattle.cfg_merging.proofs.rewriting.rewrite_set.Goals as goal

pub loop-i-preserved : goal.loop-i-preserved
loop-i-preserved c = left_next _ _ _ _ _ _ c.loop-i.invariant (λ g m k. front_bundle g m (bundle_at _ k))
    c.loop-i-test.true _
    (rw c.bundle_at.ensures at c.rewrite_bundle.ensures)

pub returns : goal.returns
unfolding rewrite_set
returns c = left_last _ _ _ _ _ _ c.loop-i.invariant c.loop-i-test.false
