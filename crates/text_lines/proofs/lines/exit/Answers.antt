use Rattle.text_cursor.specs.laws.WordsToTextSteps.{puts_then, puts_as}
use Rattle.text_lines.specs.laws.LineTexts.{exit_shown}
use Rattle.text_lines.proofs.lines.exit.Goals as goal

pub returns : goal.returns
returns c =
    puts_as exit_shown (puts_then c.labeled-d.ensures (puts_then c.labeled-d-2.ensures
    c.listed.ensures))
