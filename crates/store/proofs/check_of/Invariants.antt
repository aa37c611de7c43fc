use mathlib.Core.Path.{◌≡◌}
use Prim.Native.Nat.{◌*◌, ◌≤◌}
use Rattle.format.specs.Store.{weighted}
use Rattle.store.proofs.check_of.Given as goal

abbrev pub invariant-loop-place : goal.invariant-loop-place
invariant-loop-place l = (l.sum ≤ l.place * 129540) × (l.sum ≡ weighted l.bytes l.at l.place)
