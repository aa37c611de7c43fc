use mathlib.Core.Path.{ap}
use Prim.Native.Nat.{◌+◌}
use native.Mathlib.Omega.{arith}
use lib.ListN.{drop}
use Rattle.meaning.specs.Graph.{region}
use Rattle.text.specs.laws.BufferLaws.{of_text}
use Rattle.text_parts.specs.laws.Steps.{wrote_block, wrote_blocks}
use Rattle.text_parts.specs.Listing.{blocks_text}
use Rattle.text_parts.proofs.blocks.put_blocks.Goals as goal

pub loop-b-preserved : goal.loop-b-preserved
loop-b-preserved c =
    let l = c.loop-b in (
      omega arith,
      λ g s q w.
          let r = c.args.r in
          let bs = (region g r).blocks in
          let size = c.block_count-n.ensures g s in
          l.invariant.1 g s q
          (wrote_block r l.k bs l.b (omega arith) (c.put_block-place.ensures g s)
          (of_text (ap (λ n. blocks_text r (l.k + n) (drop (l.b + 1) bs)) (c.block_length.ensures g s)) w)),
    )

pub returns : goal.returns
returns c = λ g s.
    let r = c.args.r in
    let bs = (region g r).blocks in
    let size = c.block_count-n.ensures g s in
    c.loop-b.invariant.1 g s _ (wrote_blocks r c.loop-b.k bs c.loop-b.b (omega arith))
