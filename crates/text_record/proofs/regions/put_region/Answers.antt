use Rattle.text.specs.laws.BufferLaws.{◌▸◌}
use Rattle.text_parts.specs.Listing.{region_text}
use Rattle.text_record.proofs.regions.put_region.Goals as goal

pub returns : goal.returns
unfolding region_text
returns c =
    λ g s.
    c.put_region_head-place.ensures g s
    ▸ c.put_blocks-place.ensures g s
    ▸ c.put_terminator-place.ensures g s
    ▸ c.put_passes-place.ensures g s
    ▸ c.put_exits.ensures g s
