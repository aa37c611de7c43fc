-- What a replay tells of a list that it read.
use Rattle.std.specs.Prelude.{◌≡◌, List, [], ℕ}
use Rattle.std.specs.declared.option.Option.{Option}
use Rattle.std.specs.Io.KnownBytes.{Consumes}
use Rattle.vectors.specs.declared.Tally.{Tally}
use Rattle.vectors.specs.Reading.{read_bytes, reading_of, at_start}
use Rattle.replay.specs.Agrees.{agrees}

-- The tally is that of the bytes that were read, where those are known.
pub record Replays (before after : Option (List ℕ)) (tally : Tally) : Type 0 where
  pub listed : List ℕ
  pub read : Consumes before after listed
  pub counted : tally ≡ (read_bytes agrees (reading_of at_start []) listed).tally
