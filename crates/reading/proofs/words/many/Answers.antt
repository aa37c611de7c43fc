use Rattle.reading.specs.laws.AnswerSteps.{exit_is}
use Rattle.reading.specs.laws.Turns.{turn_start, turn_next, turn_stop, turn_end}
use Rattle.reading.proofs.words.many.Goals as goal

pub loop-init : goal.loop-init
loop-init g c = λ p w by. turn_start

pub returns-in_err-c : goal.returns-in_err-c
returns-in_err-c g c = λ p w by.
    rw (exit_is c.from_residual.result c.from_residual.ensures.1) (turn_stop (c.loop.invariant p w by) c.loop-test.true c.in_err-c.field-0.0
    (by _ _ c.in_err-c.ensures))

pub loop-preserved : goal.loop-preserved
loop-preserved g c = λ p w by. turn_next (c.loop.invariant p w by) c.loop-test.true (by _ _ c.in_ok-c.ensures)

pub returns : goal.returns
returns g c = λ p w by. turn_end (c.loop.invariant p w by) c.loop-test.false
