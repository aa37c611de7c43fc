use Rattle.text.specs.laws.BufferLaws.{◌▸◌}
use Rattle.text_record.proofs.regions.put_end_values.Goals as goal

pub returns : goal.returns
returns c =
    λ g s. c.put_text-place.ensures ▸ c.put_values-place.ensures g s ▸ c.put_byte.ensures
