-- The sections of the lent words, by number: a word read in one, a word stored in one.
use Rattle.std.specs.Prelude.{List, [], ◌∷◌, ℕ, zero, suc, ◌+◌, get_or, set, take, drop, ltb}
use Rattle.meaning.specs.Lists.{pick}
use Rattle.store.specs.Layout.{index_end}

pub data Section : Type 0 where
  front head kinds backedges set_starts set_lengths children bodies : Section
  levels cases rewrites outputs conditions cells bundles : Section

-- Where each begins, and how many words it has: the record and its index, then the tables of nesting. laws/Apart shows that each begins
-- where the one before it ends.
abbrev pub table : Section → ℕ × ℕ
table front = (0, index_end)
table head = (index_end, 16)
table kinds = (index_end + 16, 32)
table backedges = (index_end + 48, 32)
table set_starts = (index_end + 80, 33)
table set_lengths = (index_end + 113, 33)
table children = (index_end + 146, 32)
table bodies = (index_end + 178, 32)
table levels = (index_end + 210, 256)
table cases = (index_end + 466, 80)
table rewrites = (index_end + 546, 641)
table outputs = (index_end + 1187, 5120)
table conditions = (index_end + 6307, 4644)
table cells = (index_end + 10951, 3912)
table bundles = (index_end + 14863, 7679)

abbrev pub start : Section → ℕ
start k = (table k).0

abbrev pub size : Section → ℕ
size k = (table k).1

-- How many words they have in all.
abbrev pub used : ℕ
used = start bundles + size bundles

-- Its number, by which two are told apart.
abbrev pub number : Section → ℕ
number front = 0
number head = 1
number kinds = 2
number backedges = 3
number set_starts = 4
number set_lengths = 5
number children = 6
number bodies = 7
number levels = 8
number cases = 9
number rewrites = 10
number outputs = 11
number conditions = 12
number cells = 13
number bundles = 14

-- n words from o on; the word at i of them, 0 beyond; a word stored at i of them, none beyond.
unfoldable pub part : ℕ → ℕ → List ℕ → List ℕ
part o n l = take n (drop o l)

abbrev pub read_at : ℕ → ℕ → List ℕ → ℕ → ℕ
read_at o n l i = get_or (part o n l) i 0

unfoldable pub stored_at : ℕ → ℕ → List ℕ → ℕ → ℕ → List ℕ
stored_at o n l i x = pick (ltb i n) (set l (o + i) x) l

-- The words of section k; the word at i of it; a word stored there; words stored from i on.
abbrev pub section : List ℕ → Section → List ℕ
section l k = part (start k) (size k) l

abbrev pub word : List ℕ → Section → ℕ → ℕ
word l k i = read_at (start k) (size k) l i

abbrev pub stored : List ℕ → Section → ℕ → ℕ → List ℕ
stored l k i x = stored_at (start k) (size k) l i x

unfoldable pub stored_all_at : ℕ → ℕ → List ℕ → ℕ → List ℕ → List ℕ
stored_all_at o n l i [] = l
stored_all_at o n l i (x ∷ xs) = stored_all_at o n (stored_at o n l i x) (suc i) xs

abbrev pub stored_all : List ℕ → Section → ℕ → List ℕ → List ℕ
stored_all l k i xs = stored_all_at (start k) (size k) l i xs

-- In section k, from turn i on, n words, each at its place.
unfoldable pub filled : Section → (ℕ → ℕ) → (ℕ → ℕ) → ℕ → ℕ → List ℕ → List ℕ
filled k place x zero i l = l
filled k place x (suc n) i l = filled k place x n (suc i) (stored l k (place i) (x i))
