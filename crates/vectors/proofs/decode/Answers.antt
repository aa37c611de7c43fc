use mathlib.Core.Path.{◌≡◌}
use Prim.Native.Nat.{◌/◌}
use native.Mathlib.Omega.{arith}
use lib.ListN.{length, length-set}
use Rattle.vectors.proofs.Laws.{decoded_all, decoded_more}
use Rattle.vectors.proofs.decode.Goals as goal

pub loop-n-preserved : goal.loop-n-preserved
loop-n-preserved c =
    let known = c.loop-n.invariant in
    (simp length-set known.0, decoded_more _ _ _ known.1 (omega arith) (omega arith) _ c.byte.ensures)

pub returns : goal.returns
returns c =
    let known = c.loop-n.invariant in
    let all : c.loop-n.n ≡ length c.args.digits.now / 2 = omega arith in
    record { within = omega arith; room = known.0; bytes = rw all at (decoded_all _ _ _ known.1 (omega arith)) }
