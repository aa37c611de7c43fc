-- The numbers that the words of a sheet have (document 01, "The printed sheet").
use Rattle.std.specs.Prelude.{ℕ}

-- What leads a line.
abbrev pub lead_region : ℕ
lead_region = 0

abbrev pub lead_block : ℕ
lead_block = 1

abbrev pub lead_select : ℕ
lead_select = 2

abbrev pub lead_loop : ℕ
lead_loop = 3

abbrev pub lead_exit : ℕ
lead_exit = 4

abbrev pub lead_defer : ℕ
lead_defer = 5

-- The kinds of a select.
abbrev pub kind_bool : ℕ
kind_bool = 0

abbrev pub kind_num : ℕ
kind_num = 1

-- The letters of a condition.
abbrev pub letter_t : ℕ
letter_t = 1

abbrev pub letter_f : ℕ
letter_f = 2

abbrev pub letter_u : ℕ
letter_u = 3

abbrev pub letter_m : ℕ
letter_m = 4

-- The outcomes.
abbrev pub outcome_untouched : ℕ
outcome_untouched = 0

abbrev pub outcome_whole : ℕ
outcome_whole = 1

abbrev pub outcome_closed : ℕ
outcome_closed = 2

abbrev pub outcome_leftover : ℕ
outcome_leftover = 3

-- The target Return.
abbrev pub return_word : ℕ
return_word = 65535
