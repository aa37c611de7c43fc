-- Each answer is a path through `ending_read`; a place that is kept stands among the lent words.
use Rattle.std.proofs.Common.{arith}
use Rattle.format.specs.Read.{word}
use Rattle.reading.specs.laws.AnswerSteps.{exit_is, step_on}
use Rattle.meaning.specs.facts.Parts.{taken_inside}
use Rattle.record.specs.laws.Parts.{within_parts}
use Rattle.record.specs.laws.RegionsForgotten.{ending_limit, ending_terminator, ending_exits, counted_inside}
use Rattle.record.specs.laws.RegionSteps.{ending_whole}
use Rattle.record.proofs.regions.read_ending.Goals as goal

pub overflow_cast-result : goal.overflow_cast-result
overflow_cast-result c =
    omega (arith, (taken_inside c.args.w.now c.args.c.end (within_parts 1 65535 _ _ c.in_ok-p.ensures.is).inside).1)

pub overflow_cast-result-2 : goal.overflow_cast-result-2
overflow_cast-result-2 c =
    let a = c.in_ok-p.ensures in
    let b = step_on a.same c.in_ok-q.ensures in
    let d = step_on b.same c.in_ok-e.ensures in
    omega (arith, (taken_inside c.args.w.now c.args.c.end (counted_inside _ _ 0 32 word d.is)).1)

pub returns-in_err-p : goal.returns-in_err-p
returns-in_err-p c = rw (exit_is c.from_residual.result c.from_residual.ensures.1) (ending_limit _ _ c.in_err-p.ensures)

pub returns-in_err-q : goal.returns-in_err-q
returns-in_err-q c =
    let a = c.in_ok-p.ensures in
    rw (exit_is c.from_residual-in_err-q.result c.from_residual-in_err-q.ensures.1) (ending_terminator _ _ a.is (rw a.same at c.in_err-q.ensures))

pub returns-in_err-e : goal.returns-in_err-e
returns-in_err-e c =
    let a = c.in_ok-p.ensures in
    let b = step_on a.same c.in_ok-q.ensures in
    rw (exit_is c.from_residual-in_err-e.result c.from_residual-in_err-e.ensures.1) (ending_exits _ _ a.is b.is (rw b.same at c.in_err-e.ensures))

pub returns : goal.returns
returns c =
    let a = c.in_ok-p.ensures in
    let b = step_on a.same c.in_ok-q.ensures in
    ending_whole _ _ _ a b (step_on b.same c.in_ok-e.ensures)
