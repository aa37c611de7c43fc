use Prim.Native.Nat.{◌-◌}
use mathlib.Core.Path.{◌≡◌}
use Rattle.record.specs.Stands.{Stands, OfRecord}
use Rattle.cfg_bundles.specs.EdgesAndCases.{filled_from}
use Rattle.cfg_cases.proofs.cases.fill_cases.Given as goal

abbrev pub invariant-loop-j : goal.invariant-loop-j
invariant-loop-j l = OfRecord l.initial.w (λ g. Stands l.w g × (filled_from g l.w l.r (l.n - l.j) l.j ≡ filled_from g l.initial.w l.r l.n 0))
