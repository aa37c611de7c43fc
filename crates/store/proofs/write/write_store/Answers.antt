use native.Mathlib.Omega.{arith}
use Prim.Native.Nat.{◌<◌}
use lib.ListN.{length}
use Rattle.store.specs.laws.Writes.{no_block_put, next_block_put, refused_none, refused_over, refused_short}
use Rattle.store.specs.laws.Writes.{store_put}
use Rattle.store.proofs.write.write_store.Goals as goal
use Rattle.store.proofs.write.write_store.Goals.{then-used-eq0-via-then-used-eq0, then-used-eq0-via-else-used-eq0+then-used-gt-RECORD_END}

pub returns-then-used-eq0 : goal.returns-then-used-eq0
returns-then-used-eq0 c =
    let room : 4048 < length c.args.w.now = omega arith in
    elim c.then-used-eq0.branch [
      | then-used-eq0-via-then-used-eq0 w ↦ refused_none _ _ room (omega arith)
      | then-used-eq0-via-else-used-eq0+then-used-gt-RECORD_END w ↦ refused_over _ _ room (omega arith)
    ]

pub returns-then-out-blocks : goal.returns-then-out-blocks
returns-then-out-blocks c =
    refused_short _ _ (omega arith) c.from-used.result (omega arith) (omega arith) (omega arith) (omega arith)

pub loop-b-init : goal.loop-b-init
loop-b-init c = no_block_put _ _

pub loop-b-preserved : goal.loop-b-preserved
loop-b-preserved c = next_block_put _ _ _ _ _ c.loop-b.invariant c.put_block.ensures

pub returns : goal.returns
returns c =
    store_put _ _ (omega arith) c.from-used.result (omega arith) (omega arith) (omega arith) _ c.loop-b.b (omega arith) (omega arith)
    c.loop-b.invariant
