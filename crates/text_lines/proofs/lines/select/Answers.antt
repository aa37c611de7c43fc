use Rattle.text_cursor.specs.laws.WordsToTextSteps.{puts_then, puts_as}
use Rattle.text_lines.specs.laws.LineTexts.{kind_shown, select_shown}
use Rattle.text_lines.proofs.lines.select.Goals as goal

pub returns : goal.returns
returns c =
    puts_as select_shown (puts_then c.labeled-d.ensures (puts_then (puts_as kind_shown c.either-d.ensures)
    (puts_then c.labeled-d-2.ensures (puts_then c.listed-d.ensures c.listed.ensures))))
