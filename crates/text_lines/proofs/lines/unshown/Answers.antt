use Rattle.text_cursor.specs.laws.WordsToTextSteps.{puts_then}
use Rattle.text_lines.proofs.lines.unshown.Goals as goal

pub returns : goal.returns
returns c = puts_then (c.skip-d.ensures _) (c.say.ensures _)
