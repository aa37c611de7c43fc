use mathlib.Core.Path.{refl}
use native.Mathlib.Omega.{arith}
use Rattle.nesting.specs.decoding.Decode.{next_word}
use Rattle.text_cursor.specs.laws.WordsToTextSteps.{puts_word, puts_no_word, puts_ended}
use Rattle.text_lines.specs.laws.LineTexts.{untouched_shown, whole_shown, closed_shown, leftover_shown, no_outcome}
use Rattle.text_lines.proofs.lines.outcome.Goals as goal

pub returns-in_default : goal.returns-in_default
unfolding next_word
returns-in_default c = puts_ended refl c.in_default.ensures c.stop.ensures

pub returns-in-0 : goal.returns-in-0
returns-in-0 c =
    puts_word c.in-Some.ensures (λ rest. rw c.in-0.is (untouched_shown rest)) c.unshown.ensures

pub returns-in-1 : goal.returns-in-1
returns-in-1 c =
    puts_word c.in-Some.ensures (λ rest. rw c.in-1.is (whole_shown rest)) c.labeled.ensures

pub returns-in-2 : goal.returns-in-2
returns-in-2 c =
    puts_word c.in-Some.ensures (λ rest. rw c.in-2.is (closed_shown rest)) c.labeled-in-2.ensures

pub returns-in-3 : goal.returns-in-3
returns-in-3 c =
    puts_word c.in-Some.ensures (λ rest. rw c.in-3.is (leftover_shown rest)) c.unshown-in-3.ensures

pub returns-in_default-outcome : goal.returns-in_default-outcome
returns-in_default-outcome c =
    puts_no_word c.in-Some.ensures (no_outcome c.in-Some.outcome (omega arith)) c.stop-in_default-outcome.ensures
