use Prim.Native.Nat.{◌+◌, ◌*◌, ◌≤◌}
use lib.ListN.{take, drop}
use Rattle.store.specs.Writes.{WordsPut}
use Rattle.store.proofs.write.put_words.Given as goal

abbrev pub invariant-loop-j : goal.invariant-loop-j
invariant-loop-j l =
    (l.sum ≤ 259080 * (l.j + 1)) × WordsPut l.j l.number (drop l.from (take l.used l.w)) l.at l.initial.out l.out l.sum
