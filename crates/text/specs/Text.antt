-- Texts of labeled numbers, and of items one after another.
use Rattle.std.specs.Prelude.{List, [], ◌∷◌, ◌++◌, ℕ}
use Prim.Native.String.{String}
use Rattle.meaning.specs.Text.{Text, ascii, decimal}

-- A label and a number.
unfoldable pub labeled : String → ℕ → Text
unfolding decimal
labeled label n = ascii label ++ decimal n

-- The texts of the items, one after another.
unfoldable pub text_of_each : {A : Type 0} → (A → Text) → List A → Text
text_of_each show [] = []
text_of_each show (x ∷ xs) = show x ++ text_of_each show xs

-- A refusal is one line: its number and its word (document 01, "The printed sheet").
unfoldable pub refusal_text : ℕ → ℕ → Text
unfolding labeled
refusal_text n w = labeled "refused " n ++ labeled " " w ++ ascii "\n"
