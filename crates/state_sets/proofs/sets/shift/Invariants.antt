use Rattle.state_sets.specs.SetTables.{shifted}
use Prim.Native.Nat.{◌-◌}
use mathlib.Core.Path.{◌≡◌}
use Rattle.state_sets.proofs.sets.shift.Given as goal

abbrev pub invariant-loop-j : goal.invariant-loop-j
invariant-loop-j l = shifted l.w l.start.0 l.j (l.n - 1 - l.j) ≡ shifted l.initial.w l.start.0 l.i (l.n - 1 - l.i)
