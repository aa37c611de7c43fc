use mathlib.Core.Path.{◌≡◌}
use Prim.Native.Nat.{◌+◌, ◌-◌, ◌≤◌}
use Rattle.sheet_words.specs.PutInFront.{Puts}
use Rattle.sheet_words.specs.laws.Rows.{run}
use Rattle.sheet_words.specs.Outputs.{node_times}
use Rattle.sheet_selects.specs.OwnOutputs.{own, type_word}
use Rattle.sheet_selects.proofs.put_output_types.Given as goal

abbrev pub invariant-loop-o : goal.invariant-loop-o
invariant-loop-o l =
    Puts l.initial.out l.initial.e (run (own l.w l.node (type_word l.w)) l.o (l.initial.o - l.o)) l.out l.e × (node_times l.w l.node l.initial.o ≡ node_times l.w l.node l.o + l.n) × (l.n + l.o ≤ l.initial.o)
