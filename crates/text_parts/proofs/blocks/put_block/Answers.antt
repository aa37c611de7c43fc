use Rattle.text.specs.laws.BufferLaws.{◌▸◌}
use Rattle.text_parts.specs.Listing.{block_text}
use Rattle.text_parts.proofs.blocks.put_block.Goals as goal

pub returns : goal.returns
unfolding block_text
returns c =
    λ g s. c.put_text-place.ensures ▸ c.put_items-place.ensures g s ▸ c.put_byte.ensures
