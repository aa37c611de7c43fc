-- Which listed sheets and refusals are right: those that leave the lent words, and print the text, that the definition has.
use Rattle.std.specs.Prelude.{Bool, ◌&&◌, List, [], ◌∷◌, ◌++◌, ℕ, ◌+◌, ◌*◌, length, take, drop, replicate}
use Rattle.format.specs.Store.{Answer, accepted, refused}
use Rattle.nesting.specs.Sheet.{answer_words, printed}
use Rattle.vectors.specs.Parts.{behind, hex_bytes}
use Rattle.vectors.specs.Same.{same_list}

-- The words that are lent for each sheet, 0xa5a5a5a5.
unfoldable pub lent_words : List ℕ
lent_words = replicate 16384 2779096485

-- Words in front of the lent ones, which are as they were behind them.
abbrev pub put_over : List ℕ → List ℕ → List ℕ
put_over ws lent = ws ++ drop (length ws) lent

-- What the lent words hold after nesting: the sheet in front; all as lent on a refusal.
abbrev pub words_left : List ℕ → Answer (List ℕ) → List ℕ
words_left lent (accepted ws) = put_over ws lent
words_left lent (refused n w) = lent

abbrev pub word_from : ℕ → ℕ → ℕ → ℕ → ℕ
word_from a b c d = 16777216 * a + 65536 * b + 256 * c + d

-- Four bytes to a word, the highest first; what stays over gives none.
unfoldable pub words_from_bytes : List ℕ → List ℕ
words_from_bytes [] = []
words_from_bytes (a ∷ []) = []
words_from_bytes (a ∷ b ∷ []) = []
words_from_bytes (a ∷ b ∷ c ∷ []) = []
words_from_bytes (a ∷ b ∷ c ∷ d ∷ bs) = word_from a b c d ∷ words_from_bytes bs

-- A listed answer: a line with the words, eight digits each, and behind it the text.
abbrev pub listed_words : List ℕ → List ℕ
listed_words listed = words_from_bytes (hex_bytes (take (behind 10 listed) listed))

abbrev pub listed_text : List ℕ → List ℕ
listed_text listed = drop (behind 10 listed) listed

-- Right: the lent words are then the listed ones and behind them as lent, and what is printed is the listed text.
unfoldable pub is_nested : List ℕ → List ℕ → Bool
is_nested store listed =
    same_list (words_left lent_words (answer_words store 16384)) (put_over (listed_words listed) lent_words)
    && same_list (printed store) (listed_text listed)
