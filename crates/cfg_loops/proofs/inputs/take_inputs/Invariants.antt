use Rattle.std.proofs.Common.{◌≤◌}
use Rattle.cfg_loops.specs.Inputs.{TakesFrom}
use Rattle.cfg_loops.proofs.inputs.take_inputs.Given as goal

abbrev pub invariant-loop-k : goal.invariant-loop-k
invariant-loop-k l = TakesFrom l.r l.wrapper l.n l.k l.initial.w l.initial.vs l.w l.vs l.x × (l.x.count ≤ l.k)
