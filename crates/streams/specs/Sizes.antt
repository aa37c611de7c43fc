-- How many bytes of a buffer are a text.
use Rattle.std.specs.Prelude.{◌≡◌, ℕ, ◌≤◌, List, length, take, leb, Result, Ok, Err}
use Rattle.meaning.specs.Lists.{pick}
use Rattle.text.specs.Whole.{Written}
use Rattle.streams.specs.declared.ReadFailed.{ReadFailed}

-- So many bytes are the front of a list. The second part follows from the first, and spares a caller's `&buffer[..n]` a proof.
abbrev pub IsPrefixLen : ℕ → List ℕ → Type 0
IsPrefixLen n xs = (n ≤ length xs) × (n ≡ length (take n xs))

-- How many bytes were read, whether or not a read failed then.
abbrev pub bytes_read : Result ℕ ReadFailed → ℕ
bytes_read (Ok n) = n
bytes_read (Err e) = e.size

-- All of its bytes, where the buffer has as many; else none.
abbrev pub size_within : Written → ℕ → ℕ
size_within (Ok n) room = pick (leb n room) n 0
size_within (Err e) room = 0
