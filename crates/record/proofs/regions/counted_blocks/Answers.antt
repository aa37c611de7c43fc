-- The count is refused, or so many are read.
use Rattle.reading.specs.laws.AnswerSteps.{exit_is}
use Rattle.reading.specs.laws.Forgotten.{counted_stop}
use Rattle.record.specs.laws.Parts.{within_parts}
use Rattle.record.specs.laws.RegionSteps.{counted_blocks_rest}
use Rattle.record.proofs.regions.counted_blocks.Goals as goal

pub blocks-requires : goal.blocks-requires
blocks-requires c = (within_parts 0 8 _ _ c.in_ok-n.ensures.is).high_bound

pub returns-in_err-n : goal.returns-in_err-n
returns-in_err-n c = rw (exit_is c.from_residual.result c.from_residual.ensures.1) (counted_stop _ _ _ _ _ c.in_err-n.ensures)

pub returns : goal.returns
returns c = counted_blocks_rest _ _ c.in_ok-n.ensures _ c.blocks-2.ensures
