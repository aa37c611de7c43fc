-- Each answer is a path through the reader `instruction`.
use Rattle.reading.specs.laws.ValuesForgotten.{instruction_stop, instruction_type, instruction_cost, instruction_rest}
use Rattle.reading.specs.laws.AnswerSteps.{exit_is, word_on, reads_rest}
use Rattle.reading.proofs.values.instruction.Goals as goal

pub returns-in_err-p : goal.returns-in_err-p
returns-in_err-p c = rw (exit_is c.from_residual.result c.from_residual.ensures.1) (instruction_stop _ _ c.in_err-p.ensures)

pub returns-in_err-q : goal.returns-in_err-q
returns-in_err-q c =
    let a = c.in_ok-p.ensures in
    rw (exit_is c.from_residual-in_err-q.result c.from_residual-in_err-q.ensures.1) (instruction_type _ _ a.is (rw a.same at c.in_err-q.ensures))

pub returns-in_err-e : goal.returns-in_err-e
returns-in_err-e c =
    let a = c.in_ok-p.ensures in
    let b = word_on a.same c.in_ok-q.ensures in
    rw (exit_is c.from_residual-in_err-e.result c.from_residual-in_err-e.ensures.1) (instruction_cost _ _ a.is b.is (rw b.same at c.in_err-e.ensures))

pub returns : goal.returns
returns c =
    let a = c.in_ok-p.ensures in
    let b = word_on a.same c.in_ok-q.ensures in
    let d = word_on b.same c.in_ok-e.ensures in
    reads_rest _ _ _ _ _ d.same (instruction_rest _ _ a.is b.is d.is) _ c.counted_values.ensures
