-- The parts of a reading that the code has functions for: a region from its turn limit on, and the head.
use Rattle.std.specs.Prelude.{List, ℕ}
use Rattle.format.specs.Read.{Read, got, bad, Reader, read_then, word, within, counted, type, terminator, Head, head}
use Rattle.format.specs.Places.{forget_value}

-- from the turn limit of a region on
unfoldable pub ending_read : Reader (List ℕ)
ending_read ws at = read_then (within 1 65535 ws at) λ l p. read_then (forget_value (terminator ws p)) λ u q. counted 0 32 word ws q

-- Of the head only its region count is kept.
abbrev pub count_of : Read Head → Read ℕ
count_of (got h at) = got h.count at
count_of (bad n) = bad n

unfoldable pub head_count : Reader ℕ
unfolding head
head_count ws at = count_of (head ws at)

-- entry, test cost, the types of the constants
unfoldable pub after_count : Reader (List ℕ)
after_count ws at = read_then (word ws at) λ a p. read_then (word ws p) λ b e. counted 0 64 type ws e
