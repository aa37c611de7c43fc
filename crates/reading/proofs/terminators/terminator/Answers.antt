-- Each answer is a path through the reader `terminator`.
use Rattle.reading.specs.laws.TerminatorsForgotten.{terminator_stop, terminator_opcode, terminator_rest}
use Rattle.reading.specs.laws.AnswerSteps.{exit_is, step_on, reads_rest}
use Rattle.reading.proofs.terminators.terminator.Goals as goal

pub returns-in_err-k : goal.returns-in_err-k
returns-in_err-k c = rw (exit_is c.from_residual.result c.from_residual.ensures.1) (terminator_stop _ _ c.in_err-k.ensures)

pub returns-in_err-e : goal.returns-in_err-e
returns-in_err-e c =
    let a = c.in_ok-k.ensures in
    rw (exit_is c.from_residual-in_err-e.result c.from_residual-in_err-e.ensures.1) (terminator_opcode _ _ a.is (rw a.same at c.in_err-e.ensures))

pub returns : goal.returns
returns c =
    let a = c.in_ok-k.ensures in
    let b = step_on a.same c.in_ok-e.ensures in
    reads_rest _ _ _ _ _ b.same (terminator_rest _ _ a.is b.is) _ c.operands.ensures
