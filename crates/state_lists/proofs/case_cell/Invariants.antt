use mathlib.Core.Path.{◌≡◌}
use Rattle.state_lists.specs.CellByCell.{case_cell}
use Rattle.state_lists.proofs.case_cell.Given as goal

abbrev pub invariant-loop-i : goal.invariant-loop-i
invariant-loop-i l = l.h.0 ≡ case_cell l.w l.initial.h.0 l._i
