use mathlib.Core.Path.{refl}
use native.Mathlib.Omega.{arith}
use Rattle.nesting.specs.decoding.Decode.{next_word}
use Rattle.text_cursor.specs.laws.Readers.{either_none}
use Rattle.text_cursor.specs.laws.WordsToTextSteps.{puts_word, puts_no_word, puts_ended}
use Rattle.text_cursor.proofs.cursor.either.Goals as goal

pub returns-in_default : goal.returns-in_default
unfolding next_word
returns-in_default c = puts_ended refl c.in_default.ensures c.stop.ensures

pub returns-in-0 : goal.returns-in-0
unfolding next_word
returns-in-0 c =
    puts_word c.in-Some.ensures (λ rest. rw c.in-0.is refl) (c.say.ensures _)

pub returns-in-1 : goal.returns-in-1
unfolding next_word
returns-in-1 c =
    puts_word c.in-Some.ensures (λ rest. rw c.in-1.is refl) (c.say-in-1.ensures _)

pub returns-in_default-word : goal.returns-in_default-word
unfolding next_word
returns-in_default-word c =
    puts_no_word c.in-Some.ensures (either_none _ _ c.in-Some.word (λ e. omega arith) (λ e. omega arith)) c.stop-in_default-word.ensures
