use mathlib.Core.List.{[]}
use mathlib.Core.Path.{sym, ap, ◌∙◌}
use native.Mathlib.Nat.{add-zero}
use native.Mathlib.Omega.{arith}
use lib.ListN.{get_or}
use Rattle.meaning.specs.Graph.{region}
use Rattle.meaning.specs.Text.{Text}
use Rattle.format.specs.References.{no_instr}
use Rattle.text.specs.laws.Lists.{other, wrote_empty, wrote_listed, wrote_next, wrote_all}
use Rattle.text.specs.laws.BufferLaws.{◌▸◌, of_text}
use Rattle.text_parts.specs.laws.Steps.{items_text_length, items_at}
use Rattle.text_parts.specs.Listing.{item_listing, items_text}
use Rattle.text_parts.proofs.blocks.put_items.Goals as goal

pub returns-then-n-eq0 : goal.returns-then-n-eq0
returns-then-n-eq0 c =
    λ g s.
    let a = c.args in
    let is = get_or (region g a.r).blocks a.b [] in
    wrote_empty (λ t. t) (items_text a.r a.k is)
    (items_text_length _ _ is ∙ sym (c.block_length-n.ensures g s) ∙ c.if-n-eq0.true)
    c.put_byte.ensures

pub loop-i-preserved : goal.loop-i-preserved
loop-i-preserved c =
    let a = c.args in
    let l = c.loop-i in
    λ g s q w.
    let is = get_or (region g a.r).blocks a.b [] in
    let size = c.block_length-n.ensures g s in
    l.invariant g s q
    (wrote_next (other (λ (t : Text). t)) [] (items_text a.r a.k is) l.i
    (omega (arith, items_text_length a.r a.k is))
    (c.put_byte-place.ensures ▸ of_text
    (items_at a.r a.k is l.i (omega arith)) (c.put_item-place-in-loop-i.ensures g s))
    w)

pub returns : goal.returns
returns c =
    λ g s.
    let a = c.args in
    let l = c.loop-i in
    let is = get_or (region g a.r).blocks a.b [] in
    let size = c.block_length-n.ensures g s in
    let first = items_at a.r a.k is 0 (omega arith) in
    wrote_listed (λ t. t) [] (items_text a.r a.k is) (omega (arith, items_text_length a.r a.k is))
    (of_text (ap (λ n. item_listing a.r n (get_or is 0 no_instr)) (sym (add-zero a.k)) ∙ first)
    (c.put_item-place.ensures g s))
    (l.invariant g s _ (wrote_all (other (λ (t : Text). t)) (items_text a.r a.k is) l.i
    (omega (arith, items_text_length a.r a.k is))))
