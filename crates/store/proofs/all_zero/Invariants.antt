use mathlib.Core.Bool.{true}
use mathlib.Core.Path.{◌≡◌}
use Prim.Native.Nat.{◌+◌}
use Rattle.format.specs.Store.{all_zero}
use Rattle.store.specs.Block.{byte_place}
use Rattle.store.proofs.all_zero.Given as goal

abbrev pub invariant-loop-n : goal.invariant-loop-n
invariant-loop-n l = (l.at ≡ byte_place (l.from + l.n)) × (all_zero l.bytes l.from l.n ≡ true)
