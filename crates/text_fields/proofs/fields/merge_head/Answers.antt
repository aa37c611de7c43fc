use Rattle.text_cursor.specs.laws.WordsToTextSteps.{puts_then}
use Rattle.text_fields.proofs.fields.merge_head.Goals as goal

pub returns : goal.returns
returns c =
    puts_then (c.skip-d.ensures _) (puts_then (c.say-d.ensures _) (puts_then c.number-d.ensures
    (c.say.ensures _)))
