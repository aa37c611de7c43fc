use mathlib.Core.Path.{◌≡◌}
use Prim.Native.Nat.{◌≤◌}
use lib.ListN.{drop}
use Rattle.vectors.specs.Reading.{read_bytes, reading_of}
use Rattle.replay.specs.Agrees.{agrees}
use Rattle.replay.proofs.fed_all.Given as goal

abbrev pub invariant-loop-b : goal.invariant-loop-b
invariant-loop-b l =
    (l.reader.size ≤ 65536)
    × (read_bytes agrees (reading_of l.reader l.text) (drop l.b-index l.chunk) ≡ read_bytes agrees (reading_of l.initial.reader l.initial.text) l.chunk)
