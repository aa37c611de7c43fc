use Rattle.cfg_planning.specs.Planning.{plan_input, planned, also}
use Rattle.cfg_merging.specs.Turns.{turned}
use Prim.Native.Nat.{◌-◌}
use mathlib.Core.Path.{◌≡◌}
use mathlib.Core.Bool.{false}
use Rattle.cfg_planning.proofs.planning.plan_inputs.Given as goal

abbrev pub invariant-loop-k : goal.invariant-loop-k
invariant-loop-k l = turned (also (λ m i. plan_input m l.q.0 l.places i)) (planned l.w l.merged) (l.n - l.k) l.k
    ≡ turned (also (λ m i. plan_input m l.q.0 l.places i)) (planned l.initial.w false) l.n 0
