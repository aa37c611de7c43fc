use native.Mathlib.Omega.{arith}
use Rattle.sheet_regions.proofs.laws.ListsLaws.{blocks_start, blocks_turn, blocks_all}
use Rattle.sheet_regions.proofs.put_block_numbers.Goals as goal

pub loop-b-init : goal.loop-b-init
loop-b-init c =
    blocks_start c.args.w.now c.args.r
    c.blocks_before-first.result c.block_count-b.ensures c.args.out.now
    c.args.x (omega arith)

pub loop-b-preserved : goal.loop-b-preserved
loop-b-preserved c =
    blocks_turn _ _ _ c.block_count-b.ensures _ c.loop-b.invariant c.loop-b-test.true c.loop-b.auto.b
    (rw c.from.ensures at c.put_number-y.ensures)

pub returns : goal.returns
returns c = blocks_all _ _ _ c.block_count-b.ensures _ c.loop-b.invariant c.loop-b-test.false c.blocks_before-first.ensures
