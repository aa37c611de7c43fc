-- The word is one of the lent words, or the end or the array is passed.
use mathlib.Core.Logic.{inl, inr}
use Rattle.std.proofs.Common.{refl, arith}
use Rattle.reading.specs.laws.Forgotten.{word_in, word_out, word_past}
use Rattle.reading.proofs.words.word.Goals as goal

pub returns-then-end-at : goal.returns-then-end-at
returns-then-end-at c =
    elim c.then-end-at.either [ inl h ↦ word_out _ _ _ h | inr h ↦ word_past _ _ _ (omega (arith, h.1)) ]

pub returns : goal.returns
returns c = record { is = word_in _ _ _ c.if-end-at.false (omega arith); same = refl }
