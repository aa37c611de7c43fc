-- The lent words read back as the lines of a sheet. RoundTrip shows that no two such sheets have the same words.
use Rattle.std.specs.Prelude.{Bool, true, false, List, [], ◌∷◌, ℕ, zero, suc, length}
use Rattle.meaning.specs.Graph.{Code, SelectionKind, bool_cond, number}
use Rattle.nesting.specs.Nesting.{Outcome, untouched, whole, closed, leftover}
use Rattle.nesting.specs.Sheet.{sheet_text}
use Rattle.nesting.specs.decoding.Lines.{Line, region_line, block_line, select_line, loop_line, exit_line, defer_line, TypedSheet}
use Rattle.nesting.specs.decoding.Lines.{as_sheet}
use Rattle.meaning.specs.Text.{Text}
use Rattle.nesting.specs.ShownForm.{Item, Condition, t_cond, f_cond, u_cond, m_cond, Conditions, no_part, part}

-- What was read and the words after it, or nothing readable.
pub data Decoded (A : Type 0) : Type 0 where
  decoded : A → List ℕ → Decoded A
  nothing : Decoded A

abbrev pub WordReader : Type 0 → Type 0
WordReader A = List ℕ → Decoded A

unfoldable pub next_word : {A B : Type 0} → Decoded A → (A → WordReader B) → Decoded B
next_word (decoded a ws) f = f a ws
next_word nothing f = nothing

infixl 10 ◌>>=◌
abbrev pub ◌>>=◌ : {A B : Type 0} → WordReader A → (A → WordReader B) → WordReader B
m >>= f = λ ws. next_word (m ws) f

abbrev pub decode_as : {A : Type 0} → A → WordReader A
decode_as a = λ ws. decoded a ws

abbrev pub refuse : {A : Type 0} → WordReader A
refuse = λ ws. nothing

abbrev pub decode_number : WordReader ℕ
decode_number [] = nothing
decode_number (w ∷ ws) = decoded w ws

unfoldable pub decode_times : {A : Type 0} → WordReader A → ℕ → WordReader (List A)
decode_times r zero = decode_as []
decode_times r (suc n) = do
  x ← r
  xs ← decode_times r n
  decode_as (x ∷ xs)

abbrev pub decode_list : {A : Type 0} → WordReader A → WordReader (List A)
decode_list r = decode_number >>= decode_times r

abbrev pub decode_value : WordReader Code
decode_value = do
  k ← decode_number
  r ← decode_number
  i ← decode_number
  decode_as (record { kind = k; region = r; index = i })

abbrev pub decode_item : WordReader Item
decode_item = do
  r ← decode_number
  i ← decode_number
  op ← decode_number
  ty ← decode_number
  vs ← decode_list decode_value
  decode_as (record { region = r; index = i; opcode = op; type = ty; reads = vs })

abbrev pub kind_of : ℕ → WordReader SelectionKind
kind_of zero = decode_as bool_cond
kind_of (suc zero) = decode_as number
kind_of (suc (suc n)) = refuse

abbrev pub parts : List Condition → Conditions
parts [] = no_part
parts (c ∷ cs) = part c (parts cs)

abbrev pub condition_by : WordReader Condition → ℕ → WordReader Condition
condition_by r zero = refuse
condition_by r (suc zero) = decode_as t_cond
condition_by r (suc (suc zero)) = decode_as f_cond
condition_by r (suc (suc (suc zero))) = decode_as u_cond
condition_by r (suc (suc (suc (suc zero)))) = do
  n ← decode_number
  cs ← decode_list r
  decode_as (m_cond n (parts cs))
condition_by r (suc (suc (suc (suc (suc k))))) = refuse

-- `depth` bounds how deep conditions stand in conditions.
unfoldable pub decode_condition : ℕ → WordReader Condition
decode_condition zero = refuse
decode_condition (suc depth) = decode_number >>= condition_by (decode_condition depth)

-- A condition is no deeper than it has words.
abbrev pub decode_any_condition : WordReader Condition
decode_any_condition ws = decode_condition (length ws) ws

abbrev pub decode_region : WordReader Line
decode_region = do
  r ← decode_number
  ts ← decode_list decode_number
  ks ← decode_list decode_number
  vs ← decode_list decode_value
  decode_as (region_line r ts ks vs)

abbrev pub decode_block : WordReader Line
decode_block = do
  n ← decode_number
  is ← decode_list decode_item
  decode_as (block_line n is)

abbrev pub decode_select : WordReader Line
decode_select = do
  n ← decode_number
  k ← decode_number >>= kind_of
  v ← decode_value
  rs ← decode_list decode_number
  ts ← decode_list decode_number
  decode_as (select_line (record { number = n; kind = k; scrutinee = v; output_types = ts }) rs)

abbrev pub decode_loop : WordReader Line
decode_loop = do
  n ← decode_number
  vs ← decode_list decode_value
  r ← decode_number
  v ← decode_value
  decode_as (loop_line n vs r v)

abbrev pub decode_exit : WordReader Line
decode_exit = do
  n ← decode_number
  op ← decode_number
  vs ← decode_list decode_value
  decode_as (exit_line n op vs)

abbrev pub decode_defer : WordReader Line
decode_defer = do
  r ← decode_number
  x ← decode_number
  n ← decode_number
  vs ← decode_list decode_value
  c ← decode_any_condition
  decode_as (defer_line (record { region = r; target = x; count = n; inputs = vs; condition = c }))

-- By the word that leads the line.
abbrev pub line_by : ℕ → WordReader Line
line_by zero = decode_region
line_by (suc zero) = decode_block
line_by (suc (suc zero)) = decode_select
line_by (suc (suc (suc zero))) = decode_loop
line_by (suc (suc (suc (suc zero)))) = decode_exit
line_by (suc (suc (suc (suc (suc zero))))) = decode_defer
line_by (suc (suc (suc (suc (suc (suc n)))))) = refuse

abbrev pub decode_line : WordReader Line
decode_line = decode_number >>= line_by

-- Lines to the last word; `most` bounds their number.
unfoldable pub decode_lines : ℕ → WordReader (List Line)
decode_lines zero [] = decoded [] []
decode_lines (suc most) [] = decoded [] []
decode_lines zero (w ∷ ws) = nothing
decode_lines (suc most) (w ∷ ws) =
    next_word (decode_line (w ∷ ws)) λ l rest.
    next_word (decode_lines most rest) λ ls.
    decode_as (l ∷ ls)

abbrev pub outcome_of_word : ℕ → WordReader Outcome
outcome_of_word zero = decode_as untouched
outcome_of_word (suc zero) = decode_as whole
outcome_of_word (suc (suc zero)) = decode_as closed
outcome_of_word (suc (suc (suc zero))) = decode_as leftover
outcome_of_word (suc (suc (suc (suc n)))) = refuse

abbrev pub flag_of : ℕ → WordReader Bool
flag_of zero = decode_as false
flag_of (suc zero) = decode_as true
flag_of (suc (suc n)) = refuse

-- Every line has a word at least, so no more lines than words are left.
abbrev pub decode_all_lines : WordReader (List Line)
decode_all_lines ws = decode_lines (length ws) ws

unfoldable pub decode_sheet : WordReader TypedSheet
decode_sheet = do
  o ← decode_number >>= outcome_of_word
  f ← decode_number
  n ← decode_number
  b ← decode_number >>= flag_of
  ls ← decode_all_lines
  decode_as (record { outcome = o; figure = f; attempts = n; twice = b; lines = ls })

abbrev pub text_of_got : Decoded TypedSheet → Text
text_of_got (decoded s ws) = sheet_text (as_sheet s)
text_of_got nothing = []

-- The text that is printed for the words of a sheet.
unfoldable pub words_text : List ℕ → Text
words_text ws = text_of_got (decode_sheet ws)
