use Rattle.std.proofs.Common.{◌≡◌, ◌≤◌, List, [], ℕ, length}
use Rattle.std.specs.Io.KnownBytes.{Consumes}
use Rattle.vectors.specs.Reading.{read_bytes, reading_of, at_start}
use Rattle.replay.specs.Agrees.{agrees}
use Rattle.replay.proofs.replayed.Given as goal

-- The list as far as it was read.
abbrev pub invariant-loop-turn : goal.invariant-loop-turn
invariant-loop-turn g l = record {
  chunk : 65536 ≡ length l.chunk;
  size : l.reader.size ≤ 65536;
  so_far : (listed : List ℕ)
      × Consumes (g.R.Read.remaining l.initial.list) (g.R.Read.remaining l.list) listed
      × (reading_of l.reader l.text ≡ read_bytes agrees (reading_of at_start []) listed);
}
