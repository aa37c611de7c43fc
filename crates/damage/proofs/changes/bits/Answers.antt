use mathlib.Core.Path.{◌≡◌, sym, ap, ◌∙◌}
use Prim.Native.Nat.{◌+◌, ◌-◌}
use native.Mathlib.Omega.{arith}
use Rattle.vectors.specs.Tally.{tally_of, tally_next}
use Rattle.damage.specs.Answers.{bit_right}
use Rattle.damage.specs.Changes.{bit_changed}
use Rattle.damage.proofs.Laws.{listed_right}
use Rattle.damage.proofs.changes.bits.Goals as goal

pub loop-bit-init : goal.loop-bit-init
unfolding tally_of
loop-bit-init c = let none : c.args.from - c.args.from ≡ 0 = omega arith in rw none

pub loop-bit-preserved : goal.loop-bit-preserved
loop-bit-preserved c =
    let a = c.args in
    let bit = c.loop-bit.bit in
    let agrees = bit_right a.right_check a.block a.answers.now a.from in
    let back : a.from + (bit - a.from) ≡ bit = omega arith in
    let on : bit - a.from + 1 ≡ bit + 1 - a.from = omega arith in
    let store = c.change-b.ensures ∙ ap (bit_changed a.right_check a.block) (sym back) in
    let is = listed_right _ a.answers.now (bit - a.from) c.answer_of-a.ensures store c.is_listed.ensures in
    let next = tally_next agrees (bit - a.from) c.loop-bit.invariant is c.told-t.ensures in
    next ∙ ap (tally_of agrees) on
