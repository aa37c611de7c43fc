-- The loop's invariant: the lines passed are written. Each line has a word at least.
use Prim.Native.Nat.{◌-◌}
use lib.ListN.{length}
use Rattle.text_lines.specs.laws.SheetTexts.{LinesTurned}
use Rattle.text_lines.proofs.lines.put_sheet.Given as goal

abbrev pub invariant-loop-c : goal.invariant-loop-c
invariant-loop-c l = LinesTurned l.words l.initial.text l.initial.c l.text l.c

abbrev pub decreases-loop-c : goal.decreases-loop-c
decreases-loop-c l = length l.words - l.c.at
