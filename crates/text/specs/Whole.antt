-- A whole text from the buffer's beginning: what is answered, and what the buffer holds then.
use Rattle.std.specs.Prelude.{◌≡◌, List, ◌++◌, ℕ, ◌≤◌, length, take, drop, leb, Result, Ok, Err}
use Rattle.text.specs.declared.BufferFull.{BufferFull}
use Rattle.meaning.specs.Lists.{pick}

-- How many bytes a text has, or that its buffer was too small.
abbrev pub Written : Type 0
Written = Result ℕ BufferFull

abbrev pub full : Written
full = Err (record {})

-- A place beyond the buffer's end says that some byte found no room.
abbrev pub written_to : ℕ → ℕ → Written
written_to room place = pick (leb place room) (Ok place) full

-- A text over the front of a buffer, as much of it as finds room.
abbrev pub over : List ℕ → List ℕ → List ℕ
over text before = take (length before) text ++ drop (length text) before

-- Ok n: the text, of n bytes, stands in front, and the rest is as lent. An error: the text is longer than the buffer, which its front fills.
pub record Whole (text before after : List ℕ) (r : Written) : Type 0 where
  pub answer : r ≡ pick (leb (length text) (length before)) (Ok (length text)) full
  pub bytes : after ≡ over text before

-- A text that stands in front of a buffer.
pub record InFront (text after : List ℕ) (n : ℕ) : Type 0 where
  pub within : n ≤ length after
  pub is : take n after ≡ text
