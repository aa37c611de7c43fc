use Rattle.cfg_merging.specs.Targets.{summarize_bundle}
use Rattle.cfg_merging.specs.Turns.{turned}
use mathlib.Core.Path.{◌≡◌}
use Prim.Native.Nat.{◌-◌}
use Rattle.state_sets.specs.SetTables.{bundle_at}
use Rattle.cfg_merging.proofs.targets.summarize_set.Given as goal

abbrev pub invariant-loop-i : goal.invariant-loop-i
invariant-loop-i l = turned (λ m k. summarize_bundle m (bundle_at l.start.0 k)) l.w (l.n - l.i) l.i ≡ turned
    (λ m k. summarize_bundle m (bundle_at l.start.0 k)) l.initial.w l.n 0
