-- The lines of a sheet from its words: what is read of them (nesting's Decode), and its text.
use Rattle.std.specs.Prelude.{List, [], ◌++◌, map}
use Rattle.meaning.specs.Lists.{concat}
use Rattle.meaning.specs.Text.{Text, ascii}
use Rattle.nesting.specs.Sheet.{joint, line_1, sheet_text}
use Rattle.nesting.specs.decoding.Lines.{Line, fields, TypedSheet, as_sheet}
use Rattle.nesting.specs.decoding.Decode.{WordReader, next_word, ◌>>=◌, decode_as, decode_number, outcome_of_word, flag_of, decode_sheet}

abbrev pub TextReader : Type 0
TextReader = WordReader Text

-- What is read, as a text.
unfoldable pub shown : {A : Type 0} → (A → Text) → WordReader A → TextReader
unfolding next_word
shown show r ws = next_word (r ws) λ x. decode_as (show x)

-- The fields of a line, with spaces between them.
abbrev pub fields_text : Line → Text
fields_text l = (joint " " (fields l)).text

abbrev pub line_text : Line → Text
line_text l = fields_text l ++ ascii "\n"

-- Line 1 by its four words: a sheet that has no other line.
abbrev pub decode_first : WordReader TypedSheet
decode_first = do
  o ← decode_number >>= outcome_of_word
  f ← decode_number
  n ← decode_number
  b ← decode_number >>= flag_of
  decode_as (record { outcome = o; figure = f; attempts = n; twice = b; lines = [] })

abbrev pub first_text : TypedSheet → Text
first_text s = (joint " " (line_1 (as_sheet s))).text ++ ascii "\n"

-- The lines behind line 1, and the whole sheet.
abbrev pub lines_text : List Line → Text
lines_text ls = concat (map line_text ls)

abbrev pub decoded_sheet_text : TextReader
decoded_sheet_text = shown (λ s. sheet_text (as_sheet s)) decode_sheet
