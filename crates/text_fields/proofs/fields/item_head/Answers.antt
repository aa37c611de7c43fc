use Rattle.text_cursor.specs.laws.WordsToTextSteps.{puts_then}
use Rattle.text_fields.proofs.fields.item_head.Goals as goal

pub returns : goal.returns
returns c =
    puts_then c.number-d.ensures (puts_then (c.say-d.ensures _) (puts_then c.number-d-2.ensures (puts_then
    (c.say-d-2.ensures _) (puts_then c.number-d-3.ensures (puts_then (c.say-d-3.ensures _) (puts_then
    c.number-d-4.ensures (c.say.ensures _)))))))
