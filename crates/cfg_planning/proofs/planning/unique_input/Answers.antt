use Rattle.cfg_planning.specs.laws.paths.PlanningLaws.{unique_past, unique_differs}
use Rattle.cfg_planning.specs.laws.paths.PlanningLaws.{few_total, unique_first, unique_last}
use Rattle.cfg_planning.specs.laws.paths.PlanningLaws.{unique_next}
use mathlib.Core.Path.{ap}
use lib.ListN.{get_or}
use Rattle.cfg_planning.proofs.planning.unique_input.Goals as goal
use Rattle.cfg_planning.proofs.planning.unique_input.Goals.{then-p+else-found, else-p}

pub loop-j-init : goal.loop-j-init
loop-j-init c = (few_total _ _ c.case_count-n.ensures, unique_first _ _ c.case_count-n.ensures _ _)

pub returns-then-found : goal.returns-then-found
returns-then-found c =
    unique_differs _ _ _ _ _ _ c.loop-j.invariant.1
    c.loop-j-test.true _ (ap (λ i. get_or c.args.places.now i 0) c.from.ensures) c.if-p.true
    c.target_input.ensures
    c.in_parent-v.ensures c.with_passed-found.ensures c.if-found.true

pub loop-j-preserved : goal.loop-j-preserved
loop-j-preserved c = (
  c.loop-j.invariant.0,
  elim c.if-p.branch [
    | then-p+else-found w ↦
        rw w.found-is
        (unique_next _ _ _ _ _ _ c.loop-j.invariant.1 c.loop-j-test.true _ (ap (λ i. get_or c.args.places.now i 0) c.from.ensures) w.if-p.true w.target_input.ensures w.in_parent-v.ensures
        w.with_passed-found.ensures w.if-found.false)
    | else-p w ↦ rw w.found-is (unique_past _ _ _ _ _ _ c.loop-j.invariant.1 c.loop-j-test.true _ (ap (λ i. get_or c.args.places.now i 0) c.from.ensures) w.if-p.false)
  ],
)

pub returns : goal.returns
returns c = unique_last _ _ _ _ _ _ c.loop-j.invariant.1 c.loop-j-test.false
