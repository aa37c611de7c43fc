use mathlib.Core.List.{◌∷◌}
use mathlib.Core.Path.{◌≡◌, sym}
use Prim.Native.Nat.{◌+◌}
use native.Mathlib.Numerals.{add-one}
use native.Mathlib.Omega.{arith}
use lib.Seq.{drop-cons}
use lib.ListN.{drop, get_or, drop_of_length-le}
use Rattle.text.specs.laws.BufferLaws.{◌▸◌, of_text, wrote_none}
use Rattle.text.proofs.put_text.Goals as goal

pub loop-b-preserved : goal.loop-b-preserved
loop-b-preserved c =
    let l = c.loop-b in
    let text = c.args.text.now in
    let next : drop l.b-index text ≡ get_or text l.b-index 0 ∷ drop (l.b-index + 1) text = rw add-one (drop-cons text l.b-index 0 (omega arith)) in
    λ q w. l.invariant q (of_text (sym next) (c.put_byte-place.ensures ▸ w))

pub returns : goal.returns
returns c =
    let l = c.loop-b in
    l.invariant _ (of_text (sym (drop_of_length-le c.args.text.now {i = l.b-index}
    (omega arith))) wrote_none)
