use borrow.Author.Rules.{rules}
use mathlib.Core.Path.{◌≡◌, refl}
use Prim.Native.Nat.{ℕ, ◌+◌, ◌≤◌, ◌<◌}
use native.Mathlib.Omega.{arith}
use Rattle.state_lists.specs.CellByCell.{case_cell}
use Rattle.state_lists.specs.laws.CellByCellLaws.{named_below, case_step, total_turn, total_end}
use Rattle.state_lists.proofs.case_total.Goals as goal

pub loop-h-init : goal.loop-h-init
unfolding case_cell
loop-h-init c = (refl, λ j l. absurd (omega arith), omega arith)

pub loop-h-smaller : goal.loop-h-smaller
loop-h-smaller c = named_below _ c.cases_after-h.ensures c.loop-h-test.true

pub loop-h-preserved : goal.loop-h-preserved
loop-h-preserved c = (
  case_step _ _ _ c.loop-h.invariant.0 c.cases_after-h.ensures,
  total_turn _ _ _ c.loop-h.invariant.0 c.loop-h-test.true c.loop-h.invariant.1,
  omega (arith, named_below _ c.cases_after-h.ensures c.loop-h-test.true, c.loop-h.invariant.2),
)
