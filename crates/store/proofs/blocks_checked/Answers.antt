use mathlib.Core.Path.{refl, sym, ◌∙◌}
use native.Mathlib.Omega.{arith}
use Rattle.std.proofs.lemmas.Result.{err_from_is_err_and}
use Rattle.format.specs.Store.{blocks_checked}
use Rattle.store.specs.laws.Blocks.{blocks_more, blocks_stop}
use Rattle.store.proofs.blocks_checked.Goals as goal

pub loop-b-init : goal.loop-b-init
unfolding blocks_checked
loop-b-init c = refl

pub returns-in_err-block_checked : goal.returns-in_err-block_checked
returns-in_err-block_checked c =
    let p = err_from_is_err_and c.from_residual.result c.from_residual.ensures.1 in
    rw (p.1, p.2)
    (blocks_stop _ _ _ _ _ c.loop-b.invariant (omega arith) c.in_err-block_checked.ensures)

pub loop-b-preserved : goal.loop-b-preserved
loop-b-preserved c = blocks_more _ _ c.loop-b.invariant ∙ sym c.in_ok-block_checked.ensures
