use Rattle.meaning.specs.Graph.{region}
use Rattle.sheet_words.specs.laws.Rows.{run_start, run_turn}
use Rattle.sheet_blocks.specs.BlockParts.{block_part, puts_blocks}
use Rattle.sheet_blocks.proofs.blocks.put_blocks.Goals as goal

pub loop-b-init : goal.loop-b-init
loop-b-init c = λ g s x. run_start _ _ _ _

pub loop-b-preserved : goal.loop-b-preserved
loop-b-preserved c = λ g s x.
    let first = c.blocks_before-first.result in
    run_turn (block_part s first c.args.r (region g c.args.r).blocks) _ _ c.loop-b-test.true
    c.loop-b.auto.b (c.loop-b.invariant g s x) (rw c.from.ensures at (c.put_block-front.ensures g s x))

pub returns : goal.returns
returns c = λ g s x.
    let r = c.args.r in
    let stands = x.state.stands in
    rw (c.blocks_before-first.ensures.is g stands)
    at (puts_blocks s c.blocks_before-first.result r (region g r).blocks (c.block_count-n.ensures g stands)
    c.loop-b-test.false (c.loop-b.invariant g s x))
