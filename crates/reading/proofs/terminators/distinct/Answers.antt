use Rattle.std.proofs.Common.{refl, sym, ◌∙◌, arith}
use Rattle.reading.specs.Readings.{firsts}
use Rattle.reading.specs.laws.Targets.{firsts_again, firsts_new}
use Rattle.reading.proofs.terminators.distinct.Goals as goal
use Rattle.reading.proofs.terminators.distinct.Goals.{then-not-stands_before, else-not-stands_before}

pub loop-j-init : goal.loop-j-init
unfolding firsts
loop-j-init c = (omega arith, refl)

pub loop-j-preserved : goal.loop-j-preserved
loop-j-preserved c =
    let stands_at = rw c.word_at-t.ensures at c.stands_before.ensures in
    elim c.if-not-stands_before.branch [
      | then-not-stands_before w ↦
          (omega arith, w.k-is ∙ firsts_new _ _ _ c.loop-j.invariant.1 (sym stands_at ∙ w.if-not-stands_before.true))
      | else-not-stands_before w ↦
          (omega arith, w.k-is ∙ firsts_again _ _ _ c.loop-j.invariant.1 (sym stands_at ∙ w.if-not-stands_before.false))
    ]
