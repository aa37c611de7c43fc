-- The parts of a reading that the code has functions for: the last words of a value, targets and what is passed to them, and
-- words that stand for the first time.
use Rattle.std.specs.Prelude.{Bool, false, ◌||◌, List, [], ℕ, zero, suc, ◌+◌, length, get_or, eqb}
use Rattle.meaning.specs.Graph.{Value}
use Rattle.format.specs.Read.{Reader, read_then, expect, word, within, many, counted, index_right, read_value, fewest_values, most_values}
use Rattle.format.specs.Read.{fewest_targets, most_targets}
use Rattle.format.specs.Places.{forget_value}
use Rattle.meaning.specs.Lists.{pick, distinct_from}

-- Whether t is among the n words from a place on.
unfoldable pub stands : List ℕ → ℕ → ℕ → ℕ → Bool
stands w from t zero = false
stands w from t (suc n) = stands w from t n || eqb t (get_or w (from + n) 0)

-- 1 if word n of them stands for the first time, else 0.
unfoldable pub first : List ℕ → ℕ → ℕ → ℕ
unfolding stands
first w from n = pick (stands w from (get_or w (from + n) 0) n) 0 1

-- How many of n words stand for the first time.
unfoldable pub firsts : List ℕ → ℕ → ℕ → ℕ
unfolding first
firsts w from zero = 0
firsts w from (suc n) = firsts w from n + first w from n

-- The last two words of a value of kind k: region and index.
unfoldable pub named_by : ℕ → Reader Unit
named_by k ws at = read_then (word ws at) λ r p. read_then (word ws p) λ i e. expect (index_right k i) ws e

-- n targets, and the values passed to each distinct one
unfoldable pub edges_lists : ℕ → Reader (List (List Value))
edges_lists n ws at = read_then (many n word ws at) λ ts e. many (length (distinct_from [] ts)) (counted 0 4 read_value) ws e

-- the values of a terminator of kind k, its targets and what is passed to them
unfoldable pub operands_read : ℕ → Reader (List (List Value))
unfolding edges_lists
operands_read k ws at =
    read_then (forget_value (counted (fewest_values k) (most_values k) read_value ws at)) λ u p.
    read_then (within (fewest_targets k) (most_targets k) ws p) λ n e. edges_lists n ws e
