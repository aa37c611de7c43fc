use Rattle.cfg_planning.specs.laws.paths.PlanningLaws.{either_needed, bundles_next, bundles_planned}
use Rattle.cfg_planning.proofs.planning.plan_bundles.Goals as goal

pub loop-i-preserved : goal.loop-i-preserved
loop-i-preserved c = bundles_next _ _ _ _ _ _ _ _ _ _ c.loop-i.invariant
    c.loop-i-test.true c.bundle_at.ensures c.plan_bundle-needed.ensures
    (either_needed c.loop-i.needed _)

pub returns : goal.returns
returns c = bundles_planned _ _ _ _ _ _ c.set_start-start.ensures c.set_length-n.ensures
    c.loop-i-test.false c.loop-i.invariant
