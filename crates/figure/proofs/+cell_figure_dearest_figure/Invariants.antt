-- Each of the three functions goes on with a smaller handle: a cell's lists stand below it, and a list begins with its own cell.
-- The loops' invariants: what is still to come and the sum so far cost as much as the whole, and the dearest likewise.
use Rattle.std.proofs.Common.{◌+◌, ◌*◌}
use Rattle.figure.specs.Figured.{SummedTo, DearestTo}
use Rattle.figure.proofs.+cell_figure_dearest_figure.Given as goal

abbrev pub decreases-cell_figure : goal.decreases-cell_figure
decreases-cell_figure l = 3 * l.h.0 + 1

abbrev pub decreases-dearest : goal.decreases-dearest
decreases-dearest l = 3 * l.cases.0

abbrev pub decreases-figure : goal.decreases-figure
decreases-figure l = 3 * l.list.0 + 2

abbrev pub invariant-dearest-loop-h : goal.invariant-dearest-loop-h
invariant-dearest-loop-h l = DearestTo l.w l.initial.h.0 l.h.0 l.most

abbrev pub decreases-dearest-loop-h : goal.decreases-dearest-loop-h
decreases-dearest-loop-h l = l.h.0

abbrev pub invariant-figure-loop-h : goal.invariant-figure-loop-h
invariant-figure-loop-h l = SummedTo l.w l.initial.h.0 l.h.0 l.sum

abbrev pub decreases-figure-loop-h : goal.decreases-figure-loop-h
decreases-figure-loop-h l = l.h.0
