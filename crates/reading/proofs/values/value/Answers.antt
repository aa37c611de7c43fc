-- Each answer is a path through the reader `value`.
use Rattle.std.proofs.Common.{sym}
use Rattle.reading.specs.laws.ValuesForgotten.{value_stop, value_kind, value_rest}
use Rattle.reading.specs.laws.AnswerSteps.{exit_is, reads_rest}
use Rattle.reading.proofs.values.value.Goals as goal

pub returns-in_err-k : goal.returns-in_err-k
returns-in_err-k c = rw (exit_is c.from_residual.result c.from_residual.ensures.1) (value_stop _ _ c.in_err-k.ensures)

pub returns-then-not-is_kind : goal.returns-then-not-is_kind
returns-then-not-is_kind c = value_kind _ _ c.in_ok-k.ensures.is (sym c.if-not-is_kind.ensures)

pub returns : goal.returns
returns c =
    let a = c.in_ok-k.ensures in
    reads_rest _ _ _ _ _ a.same (value_rest _ _ a.is (sym c.if-not-is_kind.ensures)) _ c.named.ensures
