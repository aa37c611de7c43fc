use mathlib.Core.Path.{sym, ap, ◌∙◌}
use native.Mathlib.Omega.{arith}
use lib.ListN.{drop_of_length-le}
use Rattle.vectors.specs.Reading.{read_bytes}
use Rattle.vectors.proofs.Laws.{read_next}
use Rattle.replay.specs.Agrees.{agrees}
use Rattle.replay.proofs.fed_all.Goals as goal

pub loop-b-preserved : goal.loop-b-preserved
loop-b-preserved c =
    (c.fed-reader.ensures.within, read_next agrees c.args.chunk.now c.loop-b.b-index (omega arith) c.fed-reader.ensures c.loop-b.invariant.1)

pub returns : goal.returns
unfolding read_bytes
returns c =
    let known = c.loop-b.invariant in
    record {
      reads = sym (ap (read_bytes agrees _) (drop_of_length-le c.args.chunk.now {i = c.loop-b.b-index} (omega arith))) ∙ known.1;
      within = known.0;
    }
