use mathlib.Core.Path.{ap}
use Rattle.text.specs.Text.{labeled}
use Rattle.text.specs.laws.BufferLaws.{◌▸◌, of_text}
use Rattle.text_parts.specs.Listing.{head_text}
use Rattle.text_record.proofs.put_head.Goals as goal

pub returns : goal.returns
unfolding head_text labeled
returns c =
    λ g s.
    of_text (ap (labeled "record regions ") (c.region_count.ensures g s)) c.put_labeled-place.ensures
    ▸ of_text (ap (labeled " entry ") (c.entry.ensures g s)) c.put_labeled-place-2.ensures
    ▸ of_text (ap (labeled " test ") (c.test_cost.ensures g s)) c.put_labeled-place-3.ensures
    ▸ c.put_text-place.ensures
    ▸ c.put_numbers-place.ensures g s
    ▸ c.put_byte.ensures
