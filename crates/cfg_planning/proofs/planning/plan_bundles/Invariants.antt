use Rattle.cfg_planning.specs.Planning.{plan_at, planned}
use Rattle.cfg_merging.specs.Turns.{Left}
use mathlib.Core.Bool.{false}
use Rattle.record.specs.Stands.{OfRecord}
use Rattle.cfg_planning.proofs.planning.plan_bundles.Given as goal

abbrev pub invariant-loop-i : goal.invariant-loop-i
invariant-loop-i l = OfRecord l.initial.w (Left (λ x. x.words) (plan_at l.start.0) (planned l.initial.w false) l.n
    (planned l.w l.needed) l.i)
