-- Each answer is a path through the reader `within`.
use mathlib.Core.Logic.{inl, inr}
use Rattle.reading.specs.laws.AnswerSteps.{exit_is}
use Rattle.reading.specs.laws.Forgotten.{within_stop, within_low, within_high, within_in}
use Rattle.reading.proofs.words.within.Goals as goal

pub returns-in_err-n : goal.returns-in_err-n
returns-in_err-n c = rw (exit_is c.from_residual.result c.from_residual.ensures.1) (within_stop _ _ _ _ c.in_err-n.ensures)

pub returns-then-n-low : goal.returns-then-n-low
returns-then-n-low c =
    let a = c.in_ok-n.ensures in
    elim c.then-n-low.either [ inl h ↦ within_low _ _ _ _ a.is h | inr h ↦ within_high _ _ _ _ a.is h.0 h.1 ]

pub returns : goal.returns
returns c = record { is = within_in _ _ _ _ c.in_ok-n.ensures.is c.if-n-low.false c.if-high-n.false; same = c.in_ok-n.ensures.same }
