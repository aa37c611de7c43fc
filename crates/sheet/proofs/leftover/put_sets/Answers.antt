use Rattle.sheet.specs.laws.RegionsLaws.{sets_start, sets_turn, sets_end}
use Rattle.sheet.proofs.leftover.put_sets.Goals as goal

pub loop-r-init : goal.loop-r-init
loop-r-init c = sets_start _ c.region_count-r.ensures _ _

pub loop-r-preserved : goal.loop-r-preserved
loop-r-preserved c =
    sets_turn _ c.region_count-r.ensures _ c.loop-r-test.true c.loop-r.auto.r c.loop-r.invariant c.put_set_if_left-e.ensures

pub returns : goal.returns
returns c = sets_end _ c.region_count-r.ensures _ c.loop-r-test.false c.loop-r.invariant
