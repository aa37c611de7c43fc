use mathlib.Core.Path.{ap}
use Rattle.text.specs.laws.BufferLaws.{◌▸◌, of_text}
use Rattle.text_parts.specs.Listing.{value_listing}
use Rattle.text_record.proofs.regions.put_select.Goals as goal

pub returns : goal.returns
returns c =
    λ g s.
    c.put_text-place.ensures
    ▸ of_text (ap value_listing (c.value.ensures g s)) c.put_value-place.ensures
    ▸ c.put_text-place-2.ensures
    ▸ c.put_numbers-place.ensures g s
    ▸ c.put_byte.ensures
