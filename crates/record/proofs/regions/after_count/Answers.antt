-- Each answer is a path through `after_count`.
use Rattle.reading.specs.laws.AnswerSteps.{exit_is, word_on, reads_rest}
use Rattle.record.specs.laws.RegionsForgotten.{after_count_entry, after_count_test, after_count_rest}
use Rattle.record.proofs.regions.after_count.Goals as goal

pub returns-in_err-p : goal.returns-in_err-p
returns-in_err-p c = rw (exit_is c.from_residual.result c.from_residual.ensures.1) (after_count_entry _ _ c.in_err-p.ensures)

pub returns-in_err-e : goal.returns-in_err-e
returns-in_err-e c =
    let a = c.in_ok-p.ensures in
    rw (exit_is c.from_residual-in_err-e.result c.from_residual-in_err-e.ensures.1) (after_count_test _ _ a.is (rw a.same at c.in_err-e.ensures))

pub returns : goal.returns
returns c =
    let a = c.in_ok-p.ensures in
    let b = word_on a.same c.in_ok-e.ensures in
    reads_rest _ _ _ _ _ b.same (after_count_rest _ _ a.is b.is) _ c.counted_types.ensures
