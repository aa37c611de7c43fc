-- The parts of a vector's text: the store's bytes and the listed answer.
use Rattle.std.specs.Prelude.{true, false, List, [], ◌∷◌, ℕ, suc, ◌+◌, ◌-◌, ◌*◌, ◌%◌, take, drop, eqb, ltb}

-- How many bytes there are up to the first b, and with it; all of them if there is none.
unfoldable pub behind : ℕ → List ℕ → ℕ
behind b [] = 0
behind b (x ∷ xs) = elim (eqb x b) [ true ↦ 1 | false ↦ suc (behind b xs) ]

abbrev pub hex_digit : ℕ → ℕ
hex_digit b = elim (ltb b 58) [ true ↦ b % 16 | false ↦ (b - 39) % 16 ]

abbrev pub hex_byte : ℕ → ℕ → ℕ
hex_byte a b = 16 * hex_digit a + hex_digit b

-- Two digits to a byte; one that stays over, as the line's end does, gives none.
unfoldable pub hex_bytes : List ℕ → List ℕ
hex_bytes [] = []
hex_bytes (a ∷ []) = []
hex_bytes (a ∷ b ∷ ds) = hex_byte a b ∷ hex_bytes ds

-- What stands behind the first word.
unfoldable pub line_and_answer : List ℕ → List ℕ
unfolding behind
line_and_answer v = drop (behind 32 v) v

unfoldable pub listed_store : List ℕ → List ℕ
unfolding behind hex_bytes line_and_answer
listed_store v = let l = line_and_answer v in hex_bytes (take (behind 10 l) l)

unfoldable pub answer_of : List ℕ → List ℕ
unfolding behind line_and_answer
answer_of v = let l = line_and_answer v in drop (behind 10 l) l
