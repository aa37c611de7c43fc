use Rattle.cfg_merging.specs.laws.paths.TargetsLaws.{targets_path}
use Rattle.cfg_merging.specs.Turns.{turn_next}
use Rattle.cfg_merging.proofs.targets.deferred_targets.Goals as goal

pub loop-j-preserved : goal.loop-j-preserved
loop-j-preserved c =
    rw (
      c.summarize_set.ensures,
      c.case_length-length.ensures,
      c.case_start-start.ensures,
    )
    (turn_next _ _ _ _ c.loop-j.invariant
    c.loop-j-test.true)

pub returns : goal.returns
returns c = targets_path _ _ _ _ _ c.put_set_length.ensures c.case_count-n.ensures
    c.loop-j-test.false c.loop-j.invariant
