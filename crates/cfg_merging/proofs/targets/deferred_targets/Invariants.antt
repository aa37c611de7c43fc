use Rattle.cfg_merging.specs.Targets.{summarize_case}
use Rattle.cfg_merging.specs.Turns.{turned}
use mathlib.Core.Path.{◌≡◌}
use Prim.Native.Nat.{◌-◌}
use Rattle.cfg_merging.proofs.targets.deferred_targets.Given as goal

abbrev pub invariant-loop-j : goal.invariant-loop-j
invariant-loop-j l = turned summarize_case l.w (l.n - l.j) l.j ≡ turned summarize_case l.initial.w l.n 0
