use native.Mathlib.Omega.{arith}
use Rattle.std.proofs.lemmas.Result.{err_from_is_err_and}
use Rattle.meaning.specs.Graph.{region}
use Rattle.references.specs.laws.Steps.{block_passes, block_stops, blocks_end}
use Rattle.references.proofs.reads_right.Goals as goal

pub returns-in_err-block_reads_right : goal.returns-in_err-block_reads_right
returns-in_err-block_reads_right c g s =
    let p = err_from_is_err_and c.from_residual.result c.from_residual.ensures.1 in
    rw (p.1, p.2)
    (block_stops g _ (region g c.args.r).blocks (c.block_count-n.ensures g s) _ _ _ c.loop-b-test.true
    (c.loop-b.invariant.2 g s)
    (c.in_err-block_reads_right.ensures g s))

pub loop-b-preserved : goal.loop-b-preserved
loop-b-preserved c = (
  omega arith,
  omega arith,
  λ g s.
      rw (c.block_length.ensures g s)
      (block_passes g _ (region g c.args.r).blocks
      (c.block_count-n.ensures g s) _ _ _
      c.loop-b-test.true (c.loop-b.invariant.2 g s)
      (c.in_ok-block_reads_right.ensures g s)),
)

pub returns : goal.returns
returns c g s =
    blocks_end g _ (region g c.args.r).blocks (c.block_count-n.ensures g s) _ _ _
    c.loop-b-test.false (c.loop-b.invariant.2 g s)
