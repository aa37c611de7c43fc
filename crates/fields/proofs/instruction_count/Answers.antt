use native.Mathlib.Omega.{arith}
use Rattle.fields.specs.laws.Numbered.{count_more, count_all}
use Rattle.fields.proofs.instruction_count.Goals as goal

pub loop-b-preserved : goal.loop-b-preserved
loop-b-preserved c = (
  omega arith,
  λ g s. rw (c.block_length.ensures g s)
      (count_more _ (c.block_count-n.ensures g s) _ _ _ c.loop-b-test.true
      (c.loop-b.invariant.1 g s)),
)

pub returns : goal.returns
returns c g s = count_all _ (c.block_count-n.ensures g s) _ _ _ c.loop-b-test.false (c.loop-b.invariant.1 g s)
