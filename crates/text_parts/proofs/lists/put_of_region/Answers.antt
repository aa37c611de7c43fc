use Rattle.text.specs.laws.BufferLaws.{◌▸◌}
use Rattle.text_parts.proofs.lists.put_of_region.Goals as goal

pub returns : goal.returns
returns c =
    c.put_byte-place.ensures ▸ c.put_dotted.ensures
