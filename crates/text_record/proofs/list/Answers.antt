use mathlib.Core.Path.{sym, ap, subst, ◌∙◌}
use Rattle.text.specs.Whole.{Whole, written_to}
use Rattle.text.specs.laws.WholeTexts.{whole}
use Rattle.text.specs.laws.BufferLaws.{◌▸◌}
use Rattle.text_parts.specs.Listing.{listing_of}
use Rattle.text_record.proofs.list.Goals as goal

pub returns : goal.returns
unfolding listing_of
returns c =
    λ g s.
    let answer = c.finish.ensures ∙ ap (λ n. written_to n c.put_regions-place.result)
    (c.put_regions-place.auto.out ∙ c.put_head-place.auto.out) in
    subst (Whole (listing_of g) c.args.out.now c.put_regions-place.new.out) (sym answer)
    (whole (listing_of g) _ _ c.put_regions-place.result
    (c.put_head-place.ensures g s ▸ c.put_regions-place.ensures g s))
