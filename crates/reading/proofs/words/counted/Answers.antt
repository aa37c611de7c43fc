-- The count is refused, or so many are read.
use Rattle.reading.specs.laws.AnswerSteps.{exit_is, reads_rest}
use Rattle.reading.specs.laws.Forgotten.{counted_stop, counted_rest}
use Rattle.reading.proofs.words.counted.Goals as goal

pub returns-in_err-n : goal.returns-in_err-n
returns-in_err-n g c = λ p by. rw (exit_is c.from_residual.result c.from_residual.ensures.1) (counted_stop _ _ _ _ _ c.in_err-n.ensures)

pub returns : goal.returns
returns g c =
    λ p by. reads_rest _ _ _ _ _ c.in_ok-n.ensures.same (counted_rest _ _ _ _ _ c.in_ok-n.ensures.is) _ (c.many.ensures p _ by)
