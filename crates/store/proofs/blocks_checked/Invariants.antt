use mathlib.Core.Path.{◌≡◌}
use Rattle.format.specs.Store.{accepted, blocks_checked}
use Rattle.store.proofs.blocks_checked.Given as goal

abbrev pub invariant-loop-b : goal.invariant-loop-b
invariant-loop-b l = blocks_checked l.bytes l.b ≡ accepted tt
