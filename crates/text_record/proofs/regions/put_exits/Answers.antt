use Rattle.text.specs.laws.BufferLaws.{◌▸◌}
use Rattle.text_parts.specs.Listing.{exits_line}
use Rattle.text_record.proofs.regions.put_exits.Goals as goal

pub returns : goal.returns
unfolding exits_line
returns c =
    λ g s. c.put_text-place.ensures ▸ c.put_numbers-place.ensures g s ▸ c.put_byte.ensures
