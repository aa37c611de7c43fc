use Rattle.text_cursor.specs.laws.WordsToTextSteps.{puts_then, puts_as}
use Rattle.text_lines.specs.laws.LineTexts.{loop_shown}
use Rattle.text_lines.proofs.lines.loop_line.Goals as goal

pub returns : goal.returns
returns c =
    puts_as loop_shown (puts_then c.labeled-d.ensures (puts_then c.listed-d.ensures (puts_then
    c.labeled-d-2.ensures c.labeled.ensures)))
