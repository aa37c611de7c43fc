-- What the routines answer, and what the lent buffer then holds.
use Rattle.std.specs.Prelude.{◌≡◌, List, [], ℕ, ◌*◌, ◌-◌, ◌≤◌, length, drop, leb, Result, Ok, Err}
use Rattle.meaning.specs.Lists.{pick}
use Rattle.meaning.specs.Text.{Text}
use Rattle.text.specs.Whole.{Written, Whole, over}
use Rattle.nesting.specs.decoding.Decode.{Decoded, decoded, nothing, words_text}
use Rattle.text_sheet.specs.declared.PrintedLine.{PrintedLine}
use Rattle.text_sheet.specs.declared.NotPrinted.{NotPrinted}
use Rattle.text_sheet.specs.declared.NotPrinted.TheVariants.{Full, NoLine}
use Rattle.text_cursor.specs.Lines.{TextReader}

-- What was read, or no text where nothing was.
abbrev pub text_of : Decoded Text → Text
text_of (decoded t rest) = t
text_of nothing = []

-- A line is answered with the place of the next word and its bytes.
abbrev pub Printed : Type 0
Printed = Result PrintedLine NotPrinted

abbrev pub printed : ℕ → ℕ → Printed
printed next bytes = Ok (record { next = next; bytes = bytes })

abbrev pub line_answer : List ℕ → ℕ → Decoded Text → Printed
line_answer words room (decoded t rest) = pick (leb (length t) room) (printed (length words - length rest) (length t)) (Err Full)
line_answer words room nothing = Err NoLine

-- The line that a reader gives of the words from a place on. Its text stands in front of the buffer, as much of it as finds room, and the
-- rest is as lent. Sixteen bytes for each word are always room enough.
pub record LinePrinted (read : TextReader) (words : List ℕ) (at : ℕ) (before after : List ℕ) (r : Printed) : Type 0 where
  pub answer : r ≡ line_answer words (length before) (read (drop at words))
  pub bytes : after ≡ over (text_of (read (drop at words))) before
  pub fits : 16 * (length words - at) ≤ length before → r ≡ Err Full → ⊥

-- The sheet that the words are, likewise; no text where they are none.
pub record SheetPrinted (words before after : List ℕ) (r : Written) : Type 0 where
  pub text : Whole (words_text words) before after r
  pub fits : 16 * length words ≤ length before → r ≡ Ok (length (words_text words))
