use mathlib.Core.Path.{ap}
use Rattle.text.specs.Text.{labeled}
use Rattle.text.specs.laws.BufferLaws.{◌▸◌, of_text}
use Rattle.text_parts.specs.Listing.{region_line_text}
use Rattle.text_record.proofs.regions.put_region_head.Goals as goal

pub returns : goal.returns
unfolding region_line_text labeled
returns c =
    λ g s.
    c.put_labeled-place.ensures
    ▸ c.put_text-place.ensures
    ▸ c.put_numbers-place.ensures g s
    ▸ of_text (ap (labeled " limit ") (c.limit.ensures g s)) c.put_labeled-place-2.ensures
    ▸ c.put_byte.ensures
