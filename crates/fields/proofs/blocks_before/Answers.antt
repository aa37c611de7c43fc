use native.Mathlib.Omega.{arith}
use Rattle.fields.specs.laws.BlocksBefore.{blocks_more}
use Rattle.fields.proofs.blocks_before.Goals as goal

pub loop-i-preserved : goal.loop-i-preserved
loop-i-preserved c = blocks_more c.loop-i.invariant c.block_count.ensures (omega arith)
