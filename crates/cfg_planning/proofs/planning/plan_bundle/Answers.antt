use Rattle.cfg_planning.specs.laws.paths.PlanningLaws.{bundle_true, bundle_conditional}
use Rattle.cfg_planning.proofs.planning.plan_bundle.Goals as goal

pub returns-then-all_true : goal.returns-then-all_true
returns-then-all_true c =
    bundle_true _ _ _ _ _ _ _ c.target.ensures
    c.per_case_deferred-places.ensures
    c.plan_inputs-merged.ensures
    c.all_true.ensures c.if-all_true.true

pub returns-else-all_true : goal.returns-else-all_true
returns-else-all_true c =
    bundle_conditional _ _ _ _ _ _ _
    c.target.ensures
    c.per_case_deferred-places.ensures
    c.plan_inputs-merged.ensures
    c.all_true.ensures c.if-all_true.false c.set_condition.ensures
