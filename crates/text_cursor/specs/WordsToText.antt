-- Words read and text written, side by side: what the code's functions do.
use Rattle.std.specs.Prelude.{◌≡◌, List, ℕ, ◌+◌, ◌≤◌, ◌<◌, length, get_or, drop, leb}
use Rattle.meaning.specs.Lists.{pick}
use Rattle.meaning.specs.Text.{Text}
use Rattle.text.specs.Buffer.{buffer, Wrote}
use Rattle.nesting.specs.decoding.Decode.{Decoded, decoded, nothing, next_word}
use Rattle.text_cursor.specs.declared.cursor.SheetCursor.{SheetCursor}
use Rattle.text_cursor.specs.Lines.{TextReader}

-- The words from a place on. A place beyond their end says that a word was missing, or was none that may stand there.
unfoldable pub words_from : List ℕ → ℕ → Decoded Unit
words_from ws at = pick (leb at (length ws)) (decoded tt (drop at ws)) nothing

-- A reading from there on.
abbrev pub reading : TextReader → Decoded Unit → Decoded Text
reading r x = next_word x λ u. r

abbrev pub read_text : Decoded Text → Decoded Unit
read_text (decoded t ws) = decoded tt ws
read_text nothing = nothing

-- From a cursor and a buffer on: the words are read as the reader says, and what it gives is written. Where it gives nothing the bytes
-- are left open.
pub record PutsText (r : TextReader) (ws : List ℕ) (c : SheetCursor) (before after : List ℕ) (d : SheetCursor) : Type 0 where
  pub words : words_from ws d.at ≡ read_text (reading r (words_from ws c.at))
  pub bytes : {t : Text} {rest : List ℕ} → reading r (words_from ws c.at) ≡ decoded t rest
      → Wrote (buffer before c.place) t (buffer after d.place)
  pub ahead : c.at ≤ d.at

-- The same by a reader that takes a bound of the words left, behind `front` of them.
abbrev pub PutsWithin : ℕ → (ℕ → TextReader) → List ℕ → SheetCursor → List ℕ → List ℕ → SheetCursor → Type 0
PutsWithin front r ws c before after d = (depth : ℕ) → length ws ≤ c.at + front + depth → PutsText (r depth) ws c before after d

-- The same by a reader that takes a word at least.
pub record PutsOn (r : TextReader) (ws : List ℕ) (c : SheetCursor) (before after : List ℕ) (d : SheetCursor) : Type 0 where
  pub puts : PutsText r ws c before after d
  pub on : c.at < length ws → c.at < d.at

-- Word w stands at a cursor, and d is behind it.
pub record NextWord (ws : List ℕ) (c : SheetCursor) (w : ℕ) (d : SheetCursor) : Type 0 where
  pub inside : c.at < length ws
  pub word : w ≡ get_or ws c.at 0
  pub at : d.at ≡ c.at + 1
  pub place : d.place ≡ c.place

-- Nothing to read there.
pub record Stopped (ws : List ℕ) (c d : SheetCursor) : Type 0 where
  pub beyond : length ws < d.at
  pub ahead : c.at ≤ d.at
