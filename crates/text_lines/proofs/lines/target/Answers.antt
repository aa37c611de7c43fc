use mathlib.Core.Path.{refl, sym, ◌∙◌}
use Rattle.nesting.specs.decoding.Decode.{next_word}
use Rattle.text_cursor.specs.Lines.{shown}
use Rattle.text_cursor.specs.laws.WordsToTextSteps.{puts_word, puts_ended, puts_there}
use Rattle.text_lines.specs.laws.LineTexts.{number_target}
use Rattle.meaning.specs.facts.Elements.{first_dropped}
use Rattle.text_lines.proofs.lines.target.Goals as goal

pub returns-in_default : goal.returns-in_default
unfolding shown next_word
returns-in_default c = puts_ended refl c.in_default.ensures c.stop.ensures

pub returns-then-region-eq-RETURN_WORD : goal.returns-then-region-eq-RETURN_WORD
unfolding shown next_word
returns-then-region-eq-RETURN_WORD c =
    puts_word c.in-Some.ensures (λ rest. rw c.if-region-eq-RETURN_WORD.true refl) (c.say.ensures _)

pub returns-else-region-eq-RETURN_WORD : goal.returns-else-region-eq-RETURN_WORD
returns-else-region-eq-RETURN_WORD c =
    let a = c.args in
    puts_there
    (λ l. number_target _ λ e. c.if-region-eq-RETURN_WORD.false
    (c.in-Some.ensures.word ∙ sym (first_dropped a.words.now a.c.at 0) ∙ e))
    c.number.ensures
