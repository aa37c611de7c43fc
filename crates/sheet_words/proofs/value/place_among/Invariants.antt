use mathlib.Core.Path.{◌≡◌}
use Prim.Native.Nat.{◌≤◌}
use Rattle.sheet_words.specs.Outputs.{node_times}
use Rattle.sheet_words.proofs.value.place_among.Given as goal

abbrev pub invariant-loop-i : goal.invariant-loop-i
invariant-loop-i l = (l.sum ≡ node_times l.w l.node l.i) × (l.sum ≤ l.i)
