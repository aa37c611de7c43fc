-- Each answer is a path through `operands_read`, at the bounds of the kind.
use Rattle.reading.specs.laws.TerminatorsForgotten.{operands_stop, operands_count, operands_rest}
use Rattle.reading.specs.laws.AnswerSteps.{exit_is, word_on, reads_rest}
use Rattle.reading.proofs.terminators.operands.Goals as goal

pub returns-in_err-p : goal.returns-in_err-p
returns-in_err-p c =
    rw (exit_is c.from_residual.result c.from_residual.ensures.1) (operands_stop _ _ _ c.fewest_values.ensures c.most_values.ensures c.in_err-p.ensures)

pub returns-in_err-n : goal.returns-in_err-n
returns-in_err-n c =
    let a = c.in_ok-p.ensures in
    rw (exit_is c.from_residual-in_err-n.result c.from_residual-in_err-n.ensures.1) (operands_count _ _ _ c.fewest_values.ensures c.most_values.ensures a.is
    c.fewest_targets.ensures c.most_targets.ensures (rw a.same at c.in_err-n.ensures))

pub returns : goal.returns
returns c =
    let a = c.in_ok-p.ensures in
    let b = word_on a.same c.in_ok-n.ensures in
    reads_rest _ _ _ _ _ b.same (operands_rest _ _ _ c.fewest_values.ensures c.most_values.ensures a.is
    c.fewest_targets.ensures c.most_targets.ensures b.is) _ c.edges.ensures
