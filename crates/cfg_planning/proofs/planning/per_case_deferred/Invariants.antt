use Rattle.cfg_planning.specs.Planning.{place_of, per_case_deferred}
use Rattle.cfg_merging.specs.Turns.{turned}
use mathlib.Core.Path.{◌≡◌}
use Prim.Native.Nat.{◌-◌, ◌≤◌}
use lib.ListN.{set}
use Rattle.cfg_planning.proofs.planning.per_case_deferred.Given as goal

abbrev pub invariant-loop-j : goal.invariant-loop-j
invariant-loop-j l = (l.n ≤ 8) × (turned (λ ps i. set ps i (place_of l.w l.t i)) l.places (l.n - l.j) l.j ≡ per_case_deferred l.w l.t)
