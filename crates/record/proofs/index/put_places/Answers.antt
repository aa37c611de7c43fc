-- Three stores and the blocks are a row of the index.
use Rattle.std.proofs.Common.{arith}
use Rattle.record.specs.laws.IndexSteps.{store_row}
use Rattle.record.proofs.index.put_places.Goals as goal

pub returns : goal.returns
returns c = store_row _ _ _ _ _ c.requires (omega arith) c.store_blocks.ensures
