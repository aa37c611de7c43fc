use mathlib.Core.Path.{refl}
use native.Mathlib.Omega.{arith}
use Rattle.store.specs.laws.Words.{word_read}
use Rattle.meaning.specs.facts.Elements.{tabulate_more}
use Rattle.meaning.specs.Lists.{tabulate}
use Rattle.store.proofs.copy_words.Goals as goal

pub loop-j-init : goal.loop-j-init
unfolding tabulate
loop-j-init c = (refl, refl)

pub loop-j-preserved : goal.loop-j-preserved
loop-j-preserved c = (
  c.next_place-at.ensures _ c.loop-j.invariant.0,
  rw (
    c.loop-j.invariant.1,
    word_read
        c.args.bytes.now _ _ _ c.pair_at.ensures
        c.loop-j.invariant.0,
  ) (tabulate_more _ _ _ (omega arith)),
)
