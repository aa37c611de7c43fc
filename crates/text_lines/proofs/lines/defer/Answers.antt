use Rattle.text_cursor.specs.laws.WordsToTextSteps.{puts_then, puts_as}
use Rattle.text_lines.specs.laws.LineTexts.{defer_shown}
use Rattle.text_lines.proofs.lines.defer.Goals as goal

pub returns : goal.returns
returns c =
    puts_as defer_shown (puts_then c.labeled-d.ensures (puts_then (c.say-d.ensures _) (puts_then
    c.target-d.ensures (puts_then c.labeled-d-2.ensures (puts_then c.listed-d.ensures
    c.labeled.ensures)))))
