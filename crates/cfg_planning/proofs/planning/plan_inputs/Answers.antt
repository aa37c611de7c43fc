use Rattle.cfg_planning.specs.laws.paths.PlanningLaws.{either_needed, inputs_next, inputs_planned}
use Rattle.cfg_planning.proofs.planning.plan_inputs.Goals as goal

pub loop-k-preserved : goal.loop-k-preserved
loop-k-preserved c = inputs_next _ _ _ _ _ _ _ _ _ c.loop-k.invariant c.loop-k-test.true
    c.plan_input-merged.ensures
    (either_needed c.loop-k.merged _)

pub returns : goal.returns
returns c = inputs_planned _ _ _ _ _ _ _ _ c.loop-k-test.false c.target.ensures
    c.target_input_count-n.ensures c.loop-k.invariant
