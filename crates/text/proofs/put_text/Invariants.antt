use lib.ListN.{drop}
use Rattle.text.specs.Buffer.{Buffer, buffer, Wrote}
use Rattle.text.proofs.put_text.Given as goal

abbrev pub invariant-loop-b : goal.invariant-loop-b
invariant-loop-b l =
    (q : Buffer) → Wrote (buffer l.out l.place) (drop l.b-index l.text) q → Wrote (buffer l.initial.out l.at) l.text q
