use Rattle.sheet_words.specs.laws.PutInFrontLaws.{puts_as, puts_noted}
use Rattle.sheet_words.specs.laws.ValueShown.{value_shown}
use Rattle.sheet_words.proofs.value.put_value.Goals as goal

pub returns : goal.returns
returns c = λ g s x.
    puts_as (puts_noted c.note-noted.ensures c.put_parts.ensures)
    (rw c.look_up-x.ensures (value_shown x c.args.v))
