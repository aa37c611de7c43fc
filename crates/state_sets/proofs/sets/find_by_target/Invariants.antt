use Rattle.state_sets.specs.SetTables.{find_by}
use Prim.Native.Nat.{◌-◌}
use mathlib.Core.Path.{◌≡◌}
use Rattle.state_sets.proofs.sets.find_by_target.Given as goal

abbrev pub invariant-loop-i : goal.invariant-loop-i
invariant-loop-i l = find_by l.w l.start.0 l.t (l.n - l.i) l.i ≡ find_by l.w l.start.0 l.t l.n 0
