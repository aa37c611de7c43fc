use Prim.Native.Nat.{◌*◌}
use native.Mathlib.Omega.{arith}
use lib.ListN.{take, drop}
use Rattle.store.specs.laws.Writes.{block_put}
use Rattle.store.proofs.write.put_block.Goals as goal

pub returns : goal.returns
returns c =
    let b = c.args.b in
    let ws = take c.args.used c.args.w.now in
    block_put (512 * b) b c.put_words-check.result (drop (253 * b) ws) c.args.out.now _ _ _ _ _ (omega arith)
    c.put_pair.ensures c.put_words-check.ensures c.put_pair-2.ensures c.put_pair-3.ensures
