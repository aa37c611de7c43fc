use Prim.Native.Nat.{◌-◌, ◌≤◌}
use native.Mathlib.Omega.{arith}
use Rattle.cfg_select_nodes.specs.Turns.{TurnsOn}
use Rattle.cfg_select_nodes.specs.laws.paths.TurnsLaws.{turned, refused, over}
use Rattle.cfg_select_nodes.specs.laws.paths.TurnsLaws.{begins}
use Rattle.cfg_select_nodes.specs.Cases.{GetsRegion}
use Rattle.state_words.specs.laws.Filled.{full_of_err}
use borrow.Author.Rules.{rules}
use Rattle.cfg_select_nodes.proofs.cases.case_regions.Goals as goal

pub returns-in_err-case_region : goal.returns-in_err-case_region
returns-in_err-case_region c =
    rw (full_of_err c.from_residual.ensures.0)
    (rw (← c.case_count-n.ensures)
    (refused _ _ _ _ _ c.loop-j.invariant.1 c.loop-j-test.true
    (rw c.in_err-case_region.was at c.case_region.ensures)))

pub loop-j-preserved : goal.loop-j-preserved
loop-j-preserved c = (
  omega arith,
  turned _ _ _ _ _ c.loop-j.invariant.1 c.loop-j-test.true
      (rw c.in_ok-case_region.was at c.case_region.ensures),
)

pub returns : goal.returns
returns c = rw (← c.case_count-n.ensures) (over _ _ _ _ _ c.loop-j.invariant.1 c.loop-j-test.false)
