-- A value's three words: an output by its node, and its place among that node's.
use Rattle.std.specs.Prelude.{List, [], ◌∷◌, ℕ, zero, suc, ◌+◌, ltb, eqb, min}
use Rattle.meaning.specs.Lists.{pick}
use Rattle.state_words.specs.Sections.{word, head}
use Rattle.state_words.specs.Values.{parts_of}
use Rattle.state_words.specs.Rows.{output_node, outputs_at}

unfoldable pub node_of : List ℕ → ℕ → ℕ
node_of w o = pick (ltb o (word w head outputs_at)) (output_node w o) 0

-- How many of the first n outputs are the node's.
unfoldable pub node_times : List ℕ → ℕ → ℕ → ℕ
node_times w node zero = 0
node_times w node (suc i) = node_times w node i + pick (eqb (output_node w i) node) 1 0

abbrev pub place_among : List ℕ → ℕ → ℕ → ℕ
place_among w node o = node_times w node (min o (word w head outputs_at))

abbrev pub output_words : List ℕ → ℕ → List ℕ
output_words w o = 3 ∷ node_of w o ∷ place_among w (node_of w o) o ∷ []

-- The three words that show a value.
unfoldable pub value_words : List ℕ → ℕ → List ℕ
value_words w x =
    let p = parts_of x in
    pick (eqb p.kind 3) (output_words w p.index) (p.kind ∷ p.of ∷ p.index ∷ [])
