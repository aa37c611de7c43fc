use Rattle.text_cursor.specs.laws.WordsToTextSteps.{puts_then, puts_as}
use Rattle.text_lines.specs.laws.LineTexts.{block_shown}
use Rattle.text_lines.proofs.lines.block.Goals as goal

pub returns : goal.returns
returns c =
    puts_as block_shown (puts_then c.labeled-d.ensures c.listed.ensures)
