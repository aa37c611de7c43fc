use mathlib.Core.Path.{refl, sym, ◌∙◌, ap}
use native.Mathlib.Nat.{add_assoc}
use native.Mathlib.Omega.{arith}
use Rattle.format.specs.Store.{all_zero}
use Rattle.store.specs.Block.{byte_place}
use Rattle.store.specs.laws.Words.{word_read}
use Rattle.format.specs.laws.Stores.{zero_more, zero_stays}
use Rattle.store.proofs.all_zero.Goals as goal

pub loop-n-init : goal.loop-n-init
unfolding all_zero
loop-n-init c = (omega arith, refl)

pub returns-then-pair_at-ne0 : goal.returns-then-pair_at-ne0
returns-then-pair_at-ne0 c =
    sym
    (zero_stays _ _ _ _ c.loop-n.invariant.1
    (λ z. c.if-pair_at-ne0.true (word_read c.args.bytes.now _ _ _ c.pair_at.ensures
    c.loop-n.invariant.0 ∙ z))
    (omega arith))

pub loop-n-preserved : goal.loop-n-preserved
loop-n-preserved c = (
  c.next_place-at.ensures _ c.loop-n.invariant.0 ∙ ap byte_place (add_assoc _ _ 1),
  zero_more _ _ _ c.loop-n.invariant.1
      (sym (word_read c.args.bytes.now _ _ _ c.pair_at.ensures c.loop-n.invariant.0) ∙ c.if-pair_at-ne0.false),
)
