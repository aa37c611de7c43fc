use lib.ListN.{drop}
use Rattle.record.specs.Stands.{OfRecord}
use Rattle.text.specs.laws.Lists.{other}
use Rattle.text.specs.Buffer.{Buffer, buffer, Wrote}
use Rattle.text.specs.Text.{text_of_each}
use Rattle.text_parts.specs.Parts.{list_of}
use Rattle.text_parts.specs.Listing.{value_listing}
use Rattle.text_parts.proofs.lists.put_values.Given as goal

abbrev pub invariant-loop-k : goal.invariant-loop-k
invariant-loop-k l =
    OfRecord l.w (λ g. (q : Buffer)
    → Wrote (buffer l.out l.place) (text_of_each (other value_listing) (drop l.k (list_of g l.l))) q
    → Wrote (buffer l.initial.out l.initial.place) (text_of_each (other value_listing) (drop 1 (list_of g l.l))) q)
