use Rattle.meaning.specs.Graph.{region, edges_of}
use Rattle.record.specs.Stands.{OfRecord}
use Rattle.text.specs.Buffer.{Buffer, buffer, Wrote}
use Rattle.text_record.specs.laws.Passes.{passes_from}
use Rattle.text_record.proofs.regions.put_passes.Given as goal

abbrev pub invariant-loop-j : goal.invariant-loop-j
invariant-loop-j l =
    OfRecord l.w (λ g. (q : Buffer)
    → Wrote (buffer l.out l.place) (passes_from (edges_of (region g l.r).terminator) l.j) q
    → Wrote (buffer l.initial.out l.initial.place) (passes_from (edges_of (region g l.r).terminator) 0) q)
