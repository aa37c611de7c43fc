-- Numbers of edges as words: those that a word can hold, and their sums.
use Rattle.std.specs.Prelude.{◌≡◌, ℕ, ◌+◌, ◌≤◌, min}
use Rattle.std.proofs.Common.{arith}
use Rattle.state_words.specs.Totals.{edges_word}

pub edges_fit : (n : ℕ) → n ≤ 65535 → edges_word n ≡ n
edges_fit n h = omega arith

pub edges_sum : (a b : ℕ) → a ≤ 65535 → b ≤ 65535 → edges_word (min (a + b) 4294967295) ≡ edges_word (a + b)
edges_sum a b h k = omega arith
