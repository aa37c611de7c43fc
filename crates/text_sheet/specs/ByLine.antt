-- What a program prints that prints line 1 and then line after line until it comes to a place.
use Rattle.std.specs.Prelude.{◌≡◌, List, [], ◌++◌, ℕ, ◌-◌, ◌<◌, length, drop}
use Rattle.meaning.specs.Text.{Text}
use Rattle.nesting.specs.decoding.Decode.{decoded, decode_line}
use Rattle.text_cursor.specs.Lines.{shown, line_text, decode_first, first_text}

-- From a place to n, line after line: each is read there, and the next place is further on.
pub data LinesTo (words : List ℕ) (n : ℕ) : ℕ → Text → Type 0 where
  no_more : {at : ℕ} {text : Text} → at ≡ n → text ≡ [] → LinesTo words n at text
  one_more : {at next : ℕ} {text others : Text} (line : Text) (rest : List ℕ) → shown line_text decode_line
      (drop at words) ≡ decoded line rest
      → length words - length rest ≡ next → at < next → text ≡ line ++ others → LinesTo words n next others → LinesTo words n at text

-- Line 1 has four words.
pub record ByLine (words : List ℕ) (n : ℕ) (text : Text) : Type 0 where
  pub first : Text
  pub rest : List ℕ
  pub read : shown first_text decode_first words ≡ decoded first rest
  pub four : length words - length rest ≡ 4
  pub others : Text
  pub lines : LinesTo words n 4 others
  pub all : text ≡ first ++ others
