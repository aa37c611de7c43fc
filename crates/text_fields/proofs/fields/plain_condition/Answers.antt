use mathlib.Core.Path.{refl}
use Rattle.nesting.specs.decoding.Decode.{next_word}
use native.Mathlib.Omega.{arith}
use Rattle.text_cursor.specs.laws.Readers.{plain_none}
use Rattle.text_cursor.specs.laws.WordsToTextSteps.{puts_word, puts_no_word, puts_ended}
use Rattle.text_fields.proofs.fields.plain_condition.Goals as goal

pub returns-in_default : goal.returns-in_default
unfolding next_word
returns-in_default c = puts_ended refl c.in_default.ensures c.stop.ensures

pub returns-in-1 : goal.returns-in-1
unfolding next_word
returns-in-1 c =
    puts_word c.in-Some.ensures (λ rest. rw c.in-1.is refl) (c.say.ensures _)

pub returns-in-2 : goal.returns-in-2
unfolding next_word
returns-in-2 c =
    puts_word c.in-Some.ensures (λ rest. rw c.in-2.is refl) (c.say-in-2.ensures _)

pub returns-in-3 : goal.returns-in-3
unfolding next_word
returns-in-3 c =
    puts_word c.in-Some.ensures (λ rest. rw c.in-3.is refl) (c.say-in-3.ensures _)

pub returns-in_default-letter : goal.returns-in_default-letter
unfolding next_word
returns-in_default-letter c =
    puts_no_word c.in-Some.ensures
    (plain_none c.in-Some.letter (λ e. omega arith) (λ e. omega arith) (λ e. omega arith)) c.stop-in_default-letter.ensures
