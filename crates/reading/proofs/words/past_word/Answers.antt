use Rattle.std.proofs.Common.{ap}
use Rattle.format.specs.Places.{forget_value}
use Rattle.reading.specs.laws.AnswerSteps.{exit_is}
use Rattle.reading.proofs.words.past_word.Goals as goal

pub returns-in_err-e : goal.returns-in_err-e
returns-in_err-e c = rw (exit_is c.from_residual.result c.from_residual.ensures.1) (ap forget_value c.in_err-e.ensures)

pub returns : goal.returns
returns c = record { is = ap forget_value c.in_ok-e.ensures.is; same = c.in_ok-e.ensures.same }
