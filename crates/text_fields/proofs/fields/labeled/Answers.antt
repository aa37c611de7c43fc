use Rattle.text_fields.specs.Fields.{field_within}
use Rattle.text_cursor.specs.laws.WordsToTextSteps.{puts_then, puts_any}
use Rattle.text_fields.proofs.fields.labeled.Goals as goal

pub returns : goal.returns
returns c =
    puts_then (c.say-d.ensures _)
    (puts_any 0 (λ depth. field_within depth
    c.args.kind)
    c.put_field.ensures)
