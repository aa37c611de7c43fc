use mathlib.Core.Path.{ap}
use native.Mathlib.Omega.{arith}
use Rattle.std.proofs.lemmas.Result.{err_from_is_err_and}
use Rattle.nester.specs.laws.NestingRecord.{number_of, nested_unfigured, nested_formed, nested_refused}
use Rattle.nester.proofs.nest_record.Goals as goal

pub returns-in-Untouched : goal.returns-in-Untouched
returns-in-Untouched c g st valid =
    nested_unfigured valid (c.in_ok-structurize_func.ensures g st valid)
    (ap number_of c.in-Untouched.is) (λ a b. omega arith)
    c.write_or_refuse.ensures

pub returns-in-Whole : goal.returns-in-Whole
returns-in-Whole c g st valid =
    nested_formed valid (c.in_ok-structurize_func.ensures g st valid)
    (ap number_of c.in-Whole.is) (omega arith) (omega arith)
    c.write_with_figure.ensures

pub returns-in-Closed : goal.returns-in-Closed
returns-in-Closed c g st valid =
    nested_formed valid (c.in_ok-structurize_func.ensures g st valid)
    (ap number_of c.in-Closed.is) (omega arith) (omega arith)
    c.write_with_figure-in-Closed.ensures

pub returns-in-Leftover : goal.returns-in-Leftover
returns-in-Leftover c g st valid =
    nested_unfigured valid (c.in_ok-structurize_func.ensures g st valid)
    (ap number_of c.in-Leftover.is) (λ a b. omega arith)
    c.write_or_refuse-in-Leftover.ensures

pub returns-in_err-structurize_func : goal.returns-in_err-structurize_func
returns-in_err-structurize_func c g st valid =
    let p = err_from_is_err_and c.from_residual.result c.from_residual.ensures.1 in
    rw (p.1, p.2) (nested_refused valid (c.in_err-structurize_func.ensures g st valid) _)
