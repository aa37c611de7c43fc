use mathlib.Core.Path.{sym, ◌∙◌}
use native.Mathlib.Omega.{arith}
use lib.ListN.{take}
use lib.Seq.{get_or-drop}
use Rattle.store.specs.laws.Writes.{none_put, word_put}
use Rattle.store.proofs.write.put_words.Goals as goal

pub loop-j-init : goal.loop-j-init
loop-j-init c = (c.weight-sum.ensures.1, none_put _ _ _ _ _ c.weight-sum.ensures.0)

pub loop-j-preserved : goal.loop-j-preserved
loop-j-preserved c =
    let ws = take c.args.used c.args.w.now in (
      omega arith,
      word_put _ _ _ _ _ _ _ _ _ _ c.loop-j.invariant.1
          (c.record_word-word.ensures ∙ sym (get_or-drop c.args.from ws c.loop-j.j 0))
          c.put_pair.ensures
          c.weight-sum-in-loop-j.ensures.0,
    )
