use mathlib.Core.Path.{refl, sym}
use mathlib.Core.List.{[]}
use native.Mathlib.Omega.{arith}
use Rattle.nesting.specs.decoding.Decode.{next_word}
use Rattle.text_cursor.specs.Lines.{shown}
use Rattle.text_cursor.specs.laws.WordsToTextSteps.{puts_then, puts_word, puts_ended}
use Rattle.text_lines.specs.laws.LineTexts.{line_shown}
use Rattle.text_lines.proofs.lines.put_line.Goals as goal

pub returns-in_default : goal.returns-in_default
unfolding shown next_word
returns-in_default c = record {
  puts = puts_ended refl c.in_default.ensures c.stop.ensures;
  on = λ l. absurd (omega (arith, c.in_default.ensures));
}

pub returns : goal.returns
returns c =
    record {
      puts = puts_word c.in-Some.ensures (λ rest. sym (line_shown _ rest))
          (puts_then c.line_by-d.ensures (c.say.ensures _));
      on = λ l. omega (arith, c.in-Some.ensures.at, c.line_by-d.ensures.ahead, (c.say.ensures []).ahead);
    }
