use mathlib.Core.Path.{sym, ap, ◌∙◌}
use native.Mathlib.Omega.{arith}
use Rattle.meaning.specs.Graph.{no_value}
use Rattle.text.specs.laws.Lists.{other, wrote_empty, wrote_listed, wrote_next, wrote_all}
use Rattle.text.specs.laws.BufferLaws.{◌▸◌, of_text}
use Rattle.text_parts.specs.Parts.{list_of}
use Rattle.text_parts.specs.Listing.{value_listing, values_text}
use Rattle.text_parts.proofs.lists.put_values.Goals as goal

pub returns-then-n-eq0 : goal.returns-then-n-eq0
unfolding values_text
returns-then-n-eq0 c =
    λ g s. wrote_empty value_listing (list_of g c.args.l) (sym (c.value_count-n.ensures g s) ∙ c.if-n-eq0.true)
    c.put_byte.ensures

pub loop-k-preserved : goal.loop-k-preserved
loop-k-preserved c = λ g s q w.
    let xs = list_of g c.args.l in
    c.loop-k.invariant g s q
    (wrote_next (other value_listing) no_value xs
    c.loop-k.k
    (omega (arith, c.value_count-n.ensures g s))
    (c.put_byte-place.ensures ▸ of_text
    (ap value_listing (c.value_item-in-loop-k.ensures g s)) c.put_value-place-in-loop-k.ensures)
    w)

pub returns : goal.returns
unfolding values_text
returns c =
    λ g s.
    let xs = list_of g c.args.l in
    let size = c.value_count-n.ensures g s in
    wrote_listed value_listing no_value xs (omega arith)
    (of_text (ap value_listing (c.value_item.ensures g s))
    c.put_value-place.ensures)
    (c.loop-k.invariant g s _ (wrote_all (other value_listing) xs c.loop-k.k (omega arith)))
