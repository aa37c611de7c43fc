use mathlib.Core.Path.{ap}
use Rattle.text.specs.Text.{labeled}
use Rattle.text.specs.laws.BufferLaws.{◌▸◌, of_text}
use Rattle.text_parts.specs.Listing.{item_listing}
use Rattle.text_parts.proofs.blocks.put_item.Goals as goal

pub returns : goal.returns
unfolding item_listing labeled
returns c =
    λ g s.
    let x = c.instruction-x.ensures g s in
    c.put_dotted-place.ensures
    ▸ of_text (ap (λ i. labeled "/" i.opcode) x) c.put_labeled-place.ensures
    ▸ of_text (ap (λ i. labeled "/" i.ty) x) c.put_labeled-place-2.ensures
    ▸ of_text (ap (λ i. labeled "/" i.cost) x) c.put_labeled-place-3.ensures
    ▸ c.put_byte-place.ensures
    ▸ c.put_values.ensures g s
