-- The numbers of the refusals (document 01, "What turns a record away"). 1 to 8 belong to store and record, 9 to 11 to what comes after.
use Rattle.std.specs.Prelude.{ℕ}

abbrev pub wrong_length : ℕ
wrong_length = 1

abbrev pub wrong_block_number : ℕ
wrong_block_number = 2

abbrev pub wrong_check : ℕ
wrong_check = 3

abbrev pub wrong_word_count : ℕ
wrong_word_count = 4

abbrev pub out_of_range : ℕ
out_of_range = 5

abbrev pub wrong_reference : ℕ
wrong_reference = 6

abbrev pub wrong_type : ℕ
wrong_type = 7

abbrev pub exit_named_twice : ℕ
exit_named_twice = 8

abbrev pub too_many : ℕ
too_many = 9

abbrev pub too_few_words : ℕ
too_few_words = 10

abbrev pub figure_too_large : ℕ
figure_too_large = 11

-- No number of document 01: what a proof shows never to come.
abbrev pub never : ℕ
never = 0
