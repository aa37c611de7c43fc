use mathlib.Core.Path.{refl}
use native.Mathlib.Omega.{arith}
use lib.ListN.{take}
use Rattle.vectors.specs.Tally.{tally_of, tally_next}
use Rattle.damage.specs.Answers.{length_as_listed}
use Rattle.damage.proofs.Laws.{listed_right}
use Rattle.damage.proofs.changes.lengths.Goals as goal

pub loop-n-init : goal.loop-n-init
unfolding tally_of
loop-n-init c = refl

pub loop-n-preserved : goal.loop-n-preserved
loop-n-preserved c =
    let a = c.args in
    let n = c.loop-n.n in
    let store = take n a.bytes.now in
    let is = listed_right store a.answers.now n c.answer_of-a.ensures refl c.is_listed.ensures in
    tally_next (length_as_listed a.bytes.now a.answers.now) n c.loop-n.invariant is c.told-t.ensures
