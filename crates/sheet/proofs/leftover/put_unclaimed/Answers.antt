use Rattle.sheet.specs.laws.RegionsLaws.{lines_start, lines_turn, lines_end}
use Rattle.sheet.proofs.leftover.put_unclaimed.Goals as goal

pub loop-r-init : goal.loop-r-init
loop-r-init c = lines_start _ c.region_count-r.ensures _ _

pub loop-r-preserved : goal.loop-r-preserved
loop-r-preserved c =
    lines_turn _ c.region_count-r.ensures _ c.loop-r-test.true c.loop-r.auto.r c.loop-r.invariant c.put_if_ready-e.ensures

pub returns : goal.returns
returns c = lines_end _ c.region_count-r.ensures _ c.loop-r-test.false c.loop-r.invariant
