-- Where the record and its index stand in the lent words. How many words are lent is the code's alone: the laws ask only that
-- the index has room, and that the words are fewer than the places that 16 bits can name.
use Rattle.std.specs.Prelude.{List, ℕ, ◌+◌, ◌*◌, ◌≤◌, length}

-- A place that is none of theirs.
abbrev pub beyond : ℕ
beyond = 65535

-- Behind the longest record, 16 blocks of 253 words.
abbrev pub record_end : ℕ
record_end = 4048

-- The index has a row for each of 32 regions: where the region begins, where its turn limit and its exits stand, its 8 blocks.
abbrev pub row_words : ℕ
row_words = 11

abbrev pub start_word : ℕ
start_word = 0

abbrev pub limit_word : ℕ
limit_word = 1

abbrev pub exits_word : ℕ
exits_word = 2

abbrev pub blocks_word : ℕ
blocks_word = 3

abbrev pub index_at : ℕ → ℕ
index_at r = record_end + row_words * r

abbrev pub index_end : ℕ
index_end = index_at 32

pub record Lent (w : List ℕ) : Type 0 where
  pub room : index_end ≤ length w
  pub few : length w ≤ beyond
