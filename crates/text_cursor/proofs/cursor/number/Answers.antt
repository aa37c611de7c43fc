use mathlib.Core.Path.{refl}
use Rattle.nesting.specs.decoding.Decode.{next_word}
use Rattle.text_cursor.specs.Lines.{shown}
use Rattle.text_cursor.specs.laws.WordsToTextSteps.{puts_said, puts_word, puts_ended}
use Rattle.text_cursor.proofs.cursor.number.Goals as goal

pub returns-in_default : goal.returns-in_default
unfolding shown next_word
returns-in_default c = puts_ended refl c.in_default.ensures c.stop.ensures

pub returns : goal.returns
unfolding shown next_word
returns c = puts_word c.in-Some.ensures (λ rest. refl)
    (puts_said refl c.put_number-place.ensures)
