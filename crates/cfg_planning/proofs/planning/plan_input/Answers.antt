use Rattle.cfg_planning.specs.laws.paths.PlanningLaws.{input_planned}
use Rattle.cfg_planning.proofs.planning.plan_input.Goals as goal

pub returns : goal.returns
returns c = input_planned _ _ _ _ _ _ c.unique_input-v.ensures c.set_target_input.ensures
