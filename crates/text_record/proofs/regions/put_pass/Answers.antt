use mathlib.Core.Path.{ap}
use Rattle.text.specs.Text.{labeled}
use Rattle.text.specs.laws.BufferLaws.{◌▸◌, of_text}
use Rattle.text_parts.specs.Listing.{pass_text}
use Rattle.text_record.proofs.regions.put_pass.Goals as goal

pub returns : goal.returns
unfolding pass_text labeled
returns c =
    λ g s.
    of_text (ap (labeled "pass ") (c.target.ensures g s)) c.put_labeled-place.ensures
    ▸ c.put_text-place.ensures
    ▸ c.put_values-place.ensures g s
    ▸ c.put_byte.ensures
