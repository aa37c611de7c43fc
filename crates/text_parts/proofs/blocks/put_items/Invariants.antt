use mathlib.Core.List.{[]}
use lib.ListN.{get_or, drop}
use Rattle.meaning.specs.Graph.{region}
use Rattle.meaning.specs.Text.{Text}
use Rattle.record.specs.Stands.{OfRecord}
use Rattle.text.specs.laws.Lists.{other}
use Rattle.text.specs.Buffer.{Buffer, buffer, Wrote}
use Rattle.text.specs.Text.{text_of_each}
use Rattle.text_parts.specs.Listing.{items_text}
use Rattle.text_parts.proofs.blocks.put_items.Given as goal

abbrev pub invariant-loop-i : goal.invariant-loop-i
invariant-loop-i l =
    OfRecord l.w (λ g. (q : Buffer)
    → Wrote (buffer l.out l.place) (text_of_each (other (λ (t : Text). t)) (drop l.i (items_text l.r l.k (get_or (region g l.r).blocks l.b [])))) q
    → Wrote (buffer l.initial.out l.initial.place) (text_of_each (other (λ (t : Text). t)) (drop 1 (items_text l.r l.k (get_or (region g l.r).blocks l.b [])))) q)
