use lib.ListN.{drop}
use Rattle.record.specs.Stands.{OfRecord}
use Rattle.text.specs.Buffer.{Buffer, buffer, Wrote}
use Rattle.text_parts.specs.Listing.{regions_text}
use Rattle.text_record.proofs.regions.put_regions.Given as goal

abbrev pub invariant-loop-r : goal.invariant-loop-r
invariant-loop-r l =
    OfRecord l.w (λ g. (q : Buffer)
    → Wrote (buffer l.out l.place) (regions_text l.r (drop l.r g.regions)) q → Wrote (buffer l.initial.out l.initial.place) (regions_text 0 g.regions) q)
