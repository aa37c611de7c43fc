use Rattle.text.specs.laws.BufferLaws.{◌▸◌}
use Rattle.text.proofs.put_labeled.Goals as goal

pub returns : goal.returns
returns c =
    c.put_text-place.ensures ▸ c.put_number.ensures
