use Rattle.text_fields.specs.Fields.{list_within}
use Rattle.text_cursor.specs.laws.WordsToTextSteps.{puts_then, puts_any}
use Rattle.text_fields.proofs.fields.listed.Goals as goal

pub returns : goal.returns
returns c =
    puts_then (c.say-d.ensures _)
    (puts_any 1 (λ depth. list_within depth
    c.args.kind)
    c.put_list.ensures)
