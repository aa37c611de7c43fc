-- Where the parts of a record stand among its words, by the readers that reach them.
use Rattle.std.specs.Prelude.{List, ℕ, zero, suc, ◌+◌}
use Rattle.format.specs.Read.{Read, got, bad, Reader, counted, type, block, terminator, read_region, head}

-- The place after what was read; 0 after a refusal.
abbrev pub next : {A : Type 0} → Read A → ℕ
next (got a at) = at
next (bad n) = 0

-- What is left of a reading when the value is forgotten.
abbrev pub forget_value : {A : Type 0} → Read A → Read Unit
forget_value (got a at) = got tt at
forget_value (bad n) = bad n

-- The place after k of them, each read where the one before ends.
unfoldable pub after : {A : Type 0} → ℕ → Reader A → List ℕ → ℕ → ℕ
after zero p ws at = at
after (suc k) p ws at = next (p ws (after k p ws at))

-- Of a record: where region r begins.
unfoldable pub start_of_region : List ℕ → ℕ → ℕ
unfolding after head read_region
start_of_region ws r = after r read_region ws (next (head ws 1))

-- Of a region that begins at a place: where its block count stands, its block b, its turn limit, its terminator, its exit count.
unfoldable pub blocks_of_region : List ℕ → ℕ → ℕ
unfolding counted type
blocks_of_region ws at = next (counted 0 4 type ws at)

unfoldable pub block_of_region : List ℕ → ℕ → ℕ → ℕ
unfolding after blocks_of_region block
block_of_region ws at b = after b block ws (blocks_of_region ws at + 1)

unfoldable pub limit_of_region : List ℕ → ℕ → ℕ
unfolding counted block blocks_of_region
limit_of_region ws at = next (counted 0 8 block ws (blocks_of_region ws at))

unfoldable pub exits_of_region : List ℕ → ℕ → ℕ
unfolding terminator limit_of_region
exits_of_region ws at = next (terminator ws (limit_of_region ws at + 1))
