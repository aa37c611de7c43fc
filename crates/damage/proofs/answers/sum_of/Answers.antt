use mathlib.Core.Path.{◌∙◌}
use Prim.Native.Nat.{◌+◌, ◌%◌}
use Rattle.std.proofs.Common.{rules}
use Rattle.std.proofs.lemmas.Iterator.{YieldsList-from_slice}
use Rattle.std.proofs.lemmas.Iterator.Consumers.{fold_from_yields_List}
use Rattle.damage.proofs.Laws.{folded}
use Rattle.damage.proofs.answers.sum_of.Goals as goal

pub returns : goal.returns
returns c =
    fold_from_yields_List _ (λ a b. (a + b) % 256) 0 c.fold.result c.fold.ensures.ran (YieldsList-from_slice _ c.iter.ensures.rest)
    (λ a x b q k. search rules)
    ∙ folded 0 c.args.text.now
