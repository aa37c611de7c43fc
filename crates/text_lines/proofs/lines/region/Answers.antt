use Rattle.text_cursor.specs.laws.WordsToTextSteps.{puts_then, puts_as}
use Rattle.text_lines.specs.laws.LineTexts.{region_shown}
use Rattle.text_lines.proofs.lines.region.Goals as goal

pub returns : goal.returns
returns c =
    puts_as region_shown (puts_then c.labeled-d.ensures (puts_then c.listed-d.ensures (puts_then
    c.listed-d-2.ensures c.listed.ensures)))
