-- Readers that give a text for the words they read: a number, a value, a word by its kind.
use Rattle.std.specs.Prelude.{[], ◌++◌, ℕ, zero, suc}
use Rattle.meaning.specs.Lists.{bit}
use Rattle.meaning.specs.Text.{Text, ascii, decimal}
use Rattle.nesting.specs.Sheet.{kind, outcome, figure_field}
use Rattle.nesting.specs.decoding.Lines.{value_field, target_field}
use Rattle.nesting.specs.decoding.Decode.{next_word, ◌>>=◌, decode_as, refuse, decode_number, decode_value}
use Rattle.nesting.specs.decoding.Decode.{kind_of, outcome_of_word, flag_of}
use Rattle.text_cursor.specs.Lines.{TextReader, shown}

-- A text for which no word is read.
abbrev pub say : Text → TextReader
say t = decode_as t

-- One text, then another.
infixr 30 ◌then◌
unfoldable pub ◌then◌ : TextReader → TextReader → TextReader
unfolding next_word
◌then◌ r q ws = next_word (r ws) λ t rest. next_word (q rest) λ u. decode_as (t ++ u)

abbrev pub number_text : TextReader
number_text = shown decimal decode_number

abbrev pub value_text : TextReader
value_text = shown (λ v. (value_field v).text) decode_value

-- A word for which nothing is shown.
abbrev pub skip_text : TextReader
skip_text = shown (λ w. []) decode_number

-- A condition that has no parts.
abbrev pub plain_by : ℕ → TextReader
plain_by zero = refuse
plain_by (suc zero) = say (ascii "t")
plain_by (suc (suc zero)) = say (ascii "f")
plain_by (suc (suc (suc zero))) = say (ascii "u")
plain_by (suc (suc (suc (suc n)))) = refuse

abbrev pub plain_text : TextReader
plain_text = decode_number >>= plain_by

-- A word that is 0 or 1.
abbrev pub either_by : Text → Text → ℕ → TextReader
either_by z o zero = say z
either_by z o (suc zero) = say o
either_by z o (suc (suc n)) = refuse

abbrev pub either_text : Text → Text → TextReader
either_text z o = decode_number >>= either_by z o

abbrev pub kind_text : TextReader
kind_text = shown (λ k. ascii " " ++ (kind k).text) (decode_number >>= kind_of)

abbrev pub target_text : TextReader
target_text = shown (λ r. (target_field r).text) decode_number

-- Line 1: the outcome with its figure, and twice.
abbrev pub outcome_text : TextReader
outcome_text = do
  o ← decode_number >>= outcome_of_word
  f ← decode_number
  decode_as ((outcome o).text ++ ascii " figure " ++ (figure_field o f).text)

abbrev pub twice_text : TextReader
twice_text = shown (λ b. ascii " twice " ++ decimal (bit b) ++ ascii "\n") (decode_number >>= flag_of)
