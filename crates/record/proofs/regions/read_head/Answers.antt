-- Each answer is a path through the reader `head`.
use Rattle.reading.specs.laws.AnswerSteps.{exit_is, step_on}
use Rattle.record.specs.laws.RegionsForgotten.{head_count_is, head_stop, head_rest}
use Rattle.record.proofs.regions.read_head.Goals as goal

pub returns-in_err-n : goal.returns-in_err-n
returns-in_err-n c = rw (exit_is c.from_residual.result c.from_residual.ensures.1) (head_count_is _ _ c.in_err-n.ensures)

pub returns-in_err-e : goal.returns-in_err-e
returns-in_err-e c =
    let a = c.in_ok-n.ensures in
    rw (exit_is c.from_residual-in_err-e.result c.from_residual-in_err-e.ensures.1) (head_stop _ _ a.is (rw a.same at c.in_err-e.ensures))

pub returns : goal.returns
returns c =
    let a = c.in_ok-n.ensures in
    let b = step_on a.same c.in_ok-e.ensures in
    record { is = head_rest _ _ a.is b.is; same = b.same }
