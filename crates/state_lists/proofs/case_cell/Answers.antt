use mathlib.Core.Path.{refl}
use Rattle.state_lists.specs.CellByCell.{case_cell}
use Rattle.state_lists.specs.laws.CellByCellLaws.{case_step}
use Rattle.state_lists.proofs.case_cell.Goals as goal

pub loop-i-init : goal.loop-i-init
unfolding case_cell
loop-i-init c = refl

pub loop-i-preserved : goal.loop-i-preserved
loop-i-preserved c = case_step _ _ _ c.loop-i.invariant c.cases_after-h.ensures
