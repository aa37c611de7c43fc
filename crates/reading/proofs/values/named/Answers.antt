-- Each answer is a path through `named_by`.
use Rattle.std.proofs.Common.{sym}
use Rattle.reading.specs.laws.ValuesForgotten.{named_stop, named_short, named_bad, named_in}
use Rattle.reading.specs.laws.AnswerSteps.{exit_is, word_on}
use Rattle.reading.proofs.values.named.Goals as goal

pub returns-in_err-p : goal.returns-in_err-p
returns-in_err-p c = rw (exit_is c.from_residual.result c.from_residual.ensures.1) (named_stop _ _ _ c.in_err-p.ensures)

pub returns-in_err-i : goal.returns-in_err-i
returns-in_err-i c =
    let a = c.in_ok-p.ensures in
    rw (exit_is c.from_residual-in_err-i.result c.from_residual-in_err-i.ensures.1) (named_short _ _ _ a.is (rw a.same at c.in_err-i.ensures))

pub returns-then-not-index_right : goal.returns-then-not-index_right
returns-then-not-index_right c =
    let a = c.in_ok-p.ensures in
    named_bad _ _ _ a.is (word_on a.same c.in_ok-i.ensures).is (sym c.if-not-index_right.ensures)

pub returns : goal.returns
returns c =
    let a = c.in_ok-p.ensures in
    let b = word_on a.same c.in_ok-i.ensures in
    record { is = named_in _ _ _ a.is b.is (sym c.if-not-index_right.ensures); same = b.same }
