use Rattle.text.specs.laws.BufferLaws.{◌▸◌}
use Rattle.text_parts.specs.Listing.{dotted_text}
use Rattle.text_parts.proofs.lists.put_dotted.Goals as goal

pub returns : goal.returns
unfolding dotted_text
returns c =
    c.put_number-place.ensures ▸ c.put_labeled.ensures
