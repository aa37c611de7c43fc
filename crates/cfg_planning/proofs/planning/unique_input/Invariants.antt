use Rattle.cfg_planning.specs.Planning.{unique_from, unique_input}
use mathlib.Core.Path.{◌≡◌}
use Prim.Native.Nat.{◌-◌, ◌≤◌}
use Rattle.cfg_planning.proofs.planning.unique_input.Given as goal

abbrev pub invariant-loop-j : goal.invariant-loop-j
invariant-loop-j l = (l.n ≤ 8) × (unique_from l.w l.places l.k (l.n - l.j) l.j l.found ≡ unique_input l.w l.places l.k)
