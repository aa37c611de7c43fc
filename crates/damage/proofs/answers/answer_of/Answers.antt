use Rattle.damage.proofs.Laws.{of_refusal, of_record}
use Rattle.damage.proofs.answers.answer_of.Goals as goal

pub returns-in-Err : goal.returns-in-Err
returns-in-Err c = of_refusal _ _ _ (rw c.in-Err.is at c.accept.ensures) c.number.ensures c.word.ensures

pub returns-in-Ok : goal.returns-in-Ok
returns-in-Ok c = of_record _ _ _ (rw c.in-Ok.is at c.accept.ensures) c.shown_sum.ensures
