use Rattle.cfg_merging.specs.Targets.{summarize_set}
use Rattle.cfg_merging.specs.Turns.{turn_next, turn_last}
use Rattle.cfg_merging.proofs.targets.summarize_set.Goals as goal

pub loop-i-preserved : goal.loop-i-preserved
loop-i-preserved c = rw (c.summarize_bundle.ensures, c.bundle_at.ensures)
    (turn_next _ _ _ _ c.loop-i.invariant c.loop-i-test.true)

pub returns : goal.returns
unfolding summarize_set
returns c = turn_last _ _ _ _ c.loop-i.invariant c.loop-i-test.false
