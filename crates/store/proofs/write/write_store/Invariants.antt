use lib.ListN.{take}
use Rattle.store.specs.Writes.{BlocksPut}
use Rattle.store.proofs.write.write_store.Given as goal

abbrev pub invariant-loop-b : goal.invariant-loop-b
invariant-loop-b l = BlocksPut l.b (take l.used l.w) l.initial.out l.out
