use mathlib.Core.Path.{refl}
use Prim.Native.Nat.{◌+◌}
use native.Mathlib.Omega.{arith}
use lib.ListN.{get_or}
use Rattle.format.specs.Store.{weighted}
use Rattle.format.specs.laws.Stores.{weight_bound, weighted_more}
use Rattle.store.proofs.check_of.Goals as goal

pub loop-place-init : goal.loop-place-init
unfolding weighted
loop-place-init c = (omega arith, refl)

pub loop-place-preserved : goal.loop-place-preserved
loop-place-preserved c =
    let at = c.args.at + c.loop-place.place in
    let byte = get_or c.args.bytes.now at 0 in
    let small = c.type_inv.bytes at in
    rw c.from.ensures (
      omega (arith, weight_bound byte c.loop-place.place (omega arith) (omega arith)),
      omega (arith, weighted_more c.args.bytes.now c.args.at c.loop-place.place),
    )
