use native.Mathlib.Omega.{arith}
use Rattle.fields.specs.laws.BlocksBefore.{more_instructions}
use Rattle.fields.proofs.instructions_before.Goals as goal

pub loop-q-preserved : goal.loop-q-preserved
loop-q-preserved c = (
  omega arith,
  λ g s. more_instructions g _ _ (c.loop-q.invariant.1 g s) (c.block_length.ensures g s),
)
