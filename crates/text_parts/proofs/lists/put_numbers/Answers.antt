use mathlib.Core.List.{◌++◌}
use mathlib.Core.Path.{sym, ap, ◌∙◌}
use native.Mathlib.Omega.{arith}
use Rattle.meaning.specs.Text.{decimal, ascii}
use Rattle.text.specs.laws.Lists.{other, wrote_empty, wrote_listed, wrote_next, wrote_all}
use Rattle.text.specs.laws.BufferLaws.{of_text}
use Rattle.text_parts.specs.Parts.{numbers_of}
use Rattle.text_parts.specs.Listing.{numbers_text}
use Rattle.text_parts.proofs.lists.put_numbers.Goals as goal

pub returns-then-n-eq0 : goal.returns-then-n-eq0
unfolding numbers_text
returns-then-n-eq0 c =
    λ g s. wrote_empty decimal (numbers_of g c.args.l) (sym (c.number_count-n.ensures g s) ∙ c.if-n-eq0.true)
    c.put_byte.ensures

pub loop-k-preserved : goal.loop-k-preserved
loop-k-preserved c = λ g s q w.
    let xs = numbers_of g c.args.l in
    c.loop-k.invariant g s q
    (wrote_next (other decimal) 0 xs c.loop-k.k
    (omega (arith, c.number_count-n.ensures g s))
    (of_text (ap (λ n. ascii "," ++ decimal n) (c.number_item-in-loop-k.ensures g s))
    c.put_labeled-place.ensures)
    w)

pub returns : goal.returns
unfolding numbers_text
returns c =
    λ g s.
    let xs = numbers_of g c.args.l in
    let size = c.number_count-n.ensures g s in
    wrote_listed decimal 0 xs (omega arith)
    (of_text (ap decimal (c.number_item.ensures g s))
    c.put_number-place.ensures)
    (c.loop-k.invariant g s _ (wrote_all (other decimal) xs c.loop-k.k (omega arith)))
