use Rattle.text_cursor.specs.laws.WordsToTextSteps.{puts_then, puts_as}
use Rattle.text_lines.specs.laws.LineTexts.{twice_shown, first_shown}
use Rattle.text_lines.proofs.lines.put_first_line.Goals as goal

pub returns : goal.returns
returns c =
    puts_as first_shown (puts_then c.outcome-d.ensures (puts_then c.labeled-d.ensures (puts_as twice_shown
    c.either.ensures)))
