-- Each answer is a path through the reader `region`.
use Rattle.reading.specs.laws.AnswerSteps.{exit_is}
use Rattle.record.specs.laws.RegionsForgotten.{region_inputs, region_blocks}
use Rattle.record.specs.laws.RegionSteps.{region_whole}
use Rattle.record.proofs.regions.read_region.Goals as goal

pub returns-in_err-p : goal.returns-in_err-p
returns-in_err-p c = rw (exit_is c.from_residual.result c.from_residual.ensures.1) (region_inputs _ _ c.in_err-p.ensures)

pub returns-in_err-b : goal.returns-in_err-b
returns-in_err-b c =
    let a = c.in_ok-p.ensures in
    rw (exit_is c.from_residual-in_err-b.result c.from_residual-in_err-b.ensures.1) (region_blocks _ _ a.is (rw a.same at c.in_err-b.ensures))

pub returns : goal.returns
returns c = region_whole _ _ _ c.in_ok-p.ensures c.in_ok-b.ensures _ c.read_ending.ensures
