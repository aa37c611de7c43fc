-- A lent buffer that is written from a place on, byte by byte.
use Rattle.std.specs.Prelude.{◌≡◌, List, [], ◌∷◌, ℕ, ◌+◌, length, set, leb}
use Rattle.meaning.specs.Lists.{pick}

-- The place is at most the length while every byte found room, and one more from the first that found none on.
pub record Buffer : Type 0 where
  pub bytes : List ℕ
  pub place : ℕ

abbrev pub buffer : List ℕ → ℕ → Buffer
buffer bytes place = record { bytes = bytes; place = place }

-- The next byte; one that finds no room is dropped.
abbrev pub put_byte_at : Buffer → ℕ → Buffer
put_byte_at o b =
    buffer (set o.bytes o.place b) (pick (leb o.place (length o.bytes)) (o.place + 1) o.place)

-- The bytes of a text, one after another.
unfoldable pub puts : Buffer → List ℕ → Buffer
puts o [] = o
puts o (b ∷ t) = puts (put_byte_at o b) t

-- What a routine that writes a text makes of the buffer.
pub record Wrote (o : Buffer) (t : List ℕ) (p : Buffer) : Type 0 where
  pub is : p ≡ puts o t
