-- Reading the words of a sheet gives its lines back, so no two sheets have the same words.
use Rattle.std.specs.Prelude.{◌≡◌, Bool, true, false, ℕ, zero, suc, ◌≤◌, max, length, eqb}
use Rattle.std.proofs.Math.Path.{refl}
use Rattle.std.proofs.Common.{sym, ap, ◌∙◌, arith, le_of_suc-le-suc, not-suc-le-zero, length-append}
use mathlib.Core.List.{List, [], ◌∷◌, ◌++◌, map, append_assoc}
use Rattle.meaning.specs.Graph.{Graph, Code, SelectionKind, bool_cond, number}
use Rattle.nesting.specs.Nesting.{Outcome, untouched, whole, closed, leftover, Nested}
use Rattle.nesting.specs.Sheet.{Field, sheet_of, sheet_words, sheet_text, outcome, figure_field, a_number, number_as}
use Rattle.nesting.specs.decoding.Lines.{Line, region_line, block_line, select_line, loop_line, exit_line, defer_line, TypedSheet}
use Rattle.nesting.specs.decoding.Lines.{value_field, values_field, item_field, target_field, condition_field, condition_fields}
use Rattle.nesting.specs.decoding.Lines.{fields, words_of, lines_words, as_sheet, typed_sheet}
use Rattle.nesting.specs.decoding.LinesWritten.{sheet_written}
use Rattle.nesting.specs.decoding.Decode.{Decoded, decoded, WordReader, next_word, ◌>>=◌, decode_as, decode_number, decode_times}
use Rattle.nesting.specs.decoding.Decode.{decode_value, decode_item, parts, decode_condition, decode_any_condition, decode_line}
use Rattle.nesting.specs.decoding.Decode.{decode_lines, outcome_of_word, flag_of, decode_sheet, text_of_got, words_text}
use Rattle.meaning.specs.Lists.{pick, bit}
use Rattle.nesting.specs.ShownForm.{Item, Condition, t_cond, f_cond, u_cond, m_cond, Conditions, no_part, part, ShownSelect}
use Rattle.nesting.specs.SheetNumbers.{lead_defer, return_word}

-- ---- one thing after another
then_decoded : {A B : Type 0} (x : Decoded A) (f : A → WordReader B) (a : A) (rest : List ℕ) → x ≡ decoded a rest → next_word x f ≡ f a rest
unfolding next_word
then_decoded x f a rest e = rw e

-- ---- lists
module _ {A : Type 0} (r : WordReader A) (w : A → Field) (h : (x : A) (rest : List ℕ) → r ((w x).words ++ rest) ≡ decoded x rest) where
  many : (xs : List A) (rest : List ℕ) → decode_times r (length (map w xs)) (words_of (map w xs) ++ rest) ≡ decoded xs rest
  unfolding decode_times next_word
  many [] rest = refl
  many (x ∷ xs) rest =
      rw (append_assoc (w x).words (words_of (map w xs)) rest, h x (words_of (map w xs) ++ rest), many xs rest)

  -- with words between it and the rest
  many_then : (xs : List A) (ys rest : List ℕ)
      → decode_times r (length (map w xs)) (words_of (map w xs) ++ ys ++ rest) ≡ decoded xs (ys ++ rest)
  many_then xs ys rest = rw (append_assoc (words_of (map w xs)) ys rest) (many xs (ys ++ rest))

numbers_read : (ns ys rest : List ℕ)
    → decode_times decode_number (length (map a_number ns)) (words_of (map a_number ns) ++ ys ++ rest) ≡ decoded ns (ys ++ rest)
numbers_read = many_then decode_number a_number (λ n rest. refl)

value_read : (v : Code) (rest : List ℕ) → decode_value ((value_field v).words ++ rest) ≡ decoded v rest
unfolding next_word
value_read v rest = refl

values_read : (vs : List Code) (ys rest : List ℕ)
    → decode_times decode_value (length (map value_field vs)) (words_of (map value_field vs) ++ ys ++ rest) ≡ decoded vs (ys ++ rest)
values_read = many_then decode_value value_field value_read

item_read : (i : Item) (rest : List ℕ) → decode_item ((item_field i).words ++ rest) ≡ decoded i rest
unfolding next_word
item_read i rest = then_decoded _ _ _ _ (values_read i.reads [] rest)

items_read : (is : List Item) (ys rest : List ℕ)
    → decode_times decode_item (length (map item_field is)) (words_of (map item_field is) ++ ys ++ rest) ≡ decoded is (ys ++ rest)
items_read = many_then decode_item item_field item_read

-- ---- conditions
mutual
  depth : Condition → ℕ
  depth t_cond = 1
  depth f_cond = 1
  depth u_cond = 1
  depth (m_cond n cs) = suc (depths cs)

  depths : Conditions → ℕ
  depths no_part = 0
  depths (part c cs) = max (depth c) (depths cs)

mutual
  unfolding depth condition_field

  depth_words : (c : Condition) → depth c ≤ length (condition_field c).words
  depth_words t_cond = omega arith
  depth_words f_cond = omega arith
  depth_words u_cond = omega arith
  depth_words (m_cond n cs) = omega (arith, depths_words cs)

  depths_words : (cs : Conditions) → depths cs ≤ length (words_of (condition_fields cs))
  depths_words no_part = omega arith
  depths_words (part c cs) =
      omega (arith, depth_words c, depths_words cs, length-append (condition_field c).words (words_of (condition_fields cs)))

-- the parts, as they are read
abbrev parts_of : Conditions → List Condition
parts_of no_part = []
parts_of (part c cs) = c ∷ parts_of cs

parts_again : (cs : Conditions) → parts (parts_of cs) ≡ cs
parts_again no_part = refl
parts_again (part c cs) = ap (part c) (parts_again cs)

mutual
  unfolding depth condition_field decode_condition decode_times next_word

  condition_read : (c : Condition) (d : ℕ) → depth c ≤ d → (rest : List ℕ)
      → decode_condition d ((condition_field c).words ++ rest) ≡ decoded c rest
  condition_read t_cond zero h rest = absurd (not-suc-le-zero h)
  condition_read t_cond (suc d) h rest = refl
  condition_read f_cond zero h rest = absurd (not-suc-le-zero h)
  condition_read f_cond (suc d) h rest = refl
  condition_read u_cond zero h rest = absurd (not-suc-le-zero h)
  condition_read u_cond (suc d) h rest = refl
  condition_read (m_cond n cs) zero h rest = absurd (not-suc-le-zero h)
  condition_read (m_cond n cs) (suc d) h rest =
      then_decoded _ _ _ _ (parts_read cs d (le_of_suc-le-suc h) rest) ∙ ap (λ x. decoded (m_cond n x) rest) (parts_again cs)

  parts_read : (cs : Conditions) (d : ℕ) → depths cs ≤ d → (rest : List ℕ)
      → decode_times (decode_condition d) (length (condition_fields cs)) (words_of (condition_fields cs) ++ rest)
      ≡ decoded (parts_of cs) rest
  parts_read no_part d h rest = refl
  parts_read (part c cs) d h rest =
      ap (decode_times (decode_condition d) (suc (length (condition_fields cs))))
      (append_assoc (condition_field c).words (words_of (condition_fields cs)) rest)
      ∙ then_decoded _ _ _ _ (condition_read c d (omega arith) (words_of (condition_fields cs) ++ rest))
      ∙ then_decoded _ _ _ _ (parts_read cs d (omega arith) rest)

any_condition_read : (c : Condition) (rest : List ℕ) → decode_any_condition ((condition_field c).words ++ rest) ≡ decoded c rest
any_condition_read c rest =
    let ws = (condition_field c).words in
    condition_read c (length (ws ++ rest)) (omega (arith, depth_words c, length-append ws rest)) rest

-- ---- lines
pub target_words : (r : ℕ) → (target_field r).words ≡ r ∷ []
target_words r = at (eqb r return_word)
  where
    at : (b : Bool) → (pick b (number_as r "return") (a_number r)).words ≡ r ∷ []
    at true = refl
    at false = refl

-- by the kind, since its word is one of two
select_read : (n : ℕ) (k : SelectionKind) (v : Code) (rs ts rest : List ℕ)
    → let x : ShownSelect = record { number = n; kind = k; scrutinee = v; output_types = ts } in
    decode_line (words_of (fields (select_line x rs)) ++ rest) ≡ decoded (select_line x rs) rest
unfolding next_word
select_read n bool_cond v rs ts rest = then_decoded _ _ _ _ (numbers_read rs _ rest) ∙ then_decoded _ _ _ _ (numbers_read ts [] rest)
select_read n number v rs ts rest = then_decoded _ _ _ _ (numbers_read rs _ rest) ∙ then_decoded _ _ _ _ (numbers_read ts [] rest)

pub line_read : (l : Line) (rest : List ℕ) → decode_line (words_of (fields l) ++ rest) ≡ decoded l rest
unfolding next_word
line_read (region_line r ts ks vs) rest =
    then_decoded _ _ _ _ (numbers_read ts _ rest) ∙ then_decoded _ _ _ _ (numbers_read ks _ rest)
    ∙ then_decoded _ _ _ _ (values_read vs [] rest)
line_read (block_line n is) rest = then_decoded _ _ _ _ (items_read is [] rest)
line_read (select_line x rs) rest = select_read x.number x.kind x.scrutinee rs x.output_types rest
line_read (loop_line n vs r v) rest = then_decoded _ _ _ _ (values_read vs _ rest)
line_read (exit_line n op vs) rest = then_decoded _ _ _ _ (values_read vs [] rest)
line_read (defer_line e) rest =
    let vs = e.inputs in
    let c = e.condition in
    ap (λ ws. decode_line
    (lead_defer ∷ e.region ∷ (ws ++ (e.count ∷ ((values_field vs).words ++ ((condition_field c).words ++ []))) ++ rest)))
    (target_words e.target)
    ∙ then_decoded _ _ _ _ (values_read vs _ rest)
    ∙ then_decoded _ _ _ _ (ap decode_any_condition (append_assoc (condition_field c).words [] rest) ∙ any_condition_read c rest)

-- a line has a first word, so the reader of lines takes it
takes_line : (l : Line) (n : ℕ) (rest : List ℕ)
    → decode_lines (suc n) (words_of (fields l) ++ rest) ≡ next_word (decode_line (words_of (fields l) ++ rest)) λ x ws. next_word
    (decode_lines n ws) λ xs. decode_as (x ∷ xs)
unfolding decode_lines
takes_line (region_line r ts ks vs) n rest = refl
takes_line (block_line b is) n rest = refl
takes_line (select_line x rs) n rest = refl
takes_line (loop_line b vs r v) n rest = refl
takes_line (exit_line b op vs) n rest = refl
takes_line (defer_line e) n rest = refl

pub some_words : (l : Line) → 1 ≤ length (words_of (fields l))
some_words (region_line r ts ks vs) = omega arith
some_words (block_line b is) = omega arith
some_words (select_line x rs) = omega arith
some_words (loop_line b vs r v) = omega arith
some_words (exit_line b op vs) = omega arith
some_words (defer_line e) = omega arith

fewer_lines : (ls : List Line) → length ls ≤ length (lines_words ls)
fewer_lines [] = omega arith
fewer_lines (l ∷ ls) = omega (arith, some_words l, fewer_lines ls, length-append (words_of (fields l)) (lines_words ls))

lines_read : (ls : List Line) (n : ℕ) → length ls ≤ n → decode_lines n (lines_words ls) ≡ decoded ls []
unfolding decode_lines
lines_read [] zero h = refl
lines_read [] (suc n) h = refl
lines_read (l ∷ ls) zero h = absurd (not-suc-le-zero h)
lines_read (l ∷ ls) (suc n) h =
    takes_line l n (lines_words ls)
    ∙ then_decoded _ _ _ _ (line_read l (lines_words ls))
    ∙ then_decoded _ _ _ _ (lines_read ls n (le_of_suc-le-suc h))

-- ---- the sheet
outcome_read : (o : Outcome) (rest : List ℕ) → (decode_number >>= outcome_of_word) ((outcome o).words ++ rest) ≡ decoded o rest
unfolding next_word
outcome_read untouched rest = refl
outcome_read whole rest = refl
outcome_read closed rest = refl
outcome_read leftover rest = refl

split_words : (o : Outcome) (f n t : ℕ) (rest : List ℕ)
    → (outcome o).words ++ ((figure_field o f).words ++ (n ∷ t ∷ [])) ++ rest ≡ (outcome o).words ++ (f ∷ n ∷ t ∷ rest)
split_words untouched f n t rest = refl
split_words whole f n t rest = refl
split_words closed f n t rest = refl
split_words leftover f n t rest = refl

flag_read : (b : Bool) (rest : List ℕ) → (decode_number >>= flag_of) (bit b ∷ rest) ≡ decoded b rest
unfolding next_word
flag_read true rest = refl
flag_read false rest = refl

pub round_trip : (s : TypedSheet) → decode_sheet (sheet_words (as_sheet s)) ≡ decoded s []
unfolding decode_sheet sheet_words next_word
round_trip s =
    ap decode_sheet (split_words s.outcome s.figure s.attempts (bit s.twice) (lines_words s.lines))
    ∙ then_decoded _ _ _ _ (outcome_read s.outcome _)
    ∙ then_decoded _ _ _ _ (flag_read s.twice _)
    ∙ then_decoded _ _ _ _ (lines_read s.lines _ (fewer_lines s.lines))

pub unambiguous : (s t : TypedSheet) → sheet_words (as_sheet s) ≡ sheet_words (as_sheet t) → s ≡ t
unambiguous s t e =
    let p : decoded s [] ≡ decoded t [] = sym (round_trip s) ∙ ap decode_sheet e ∙ round_trip t in
    cc

-- So the text can be had from the words alone.
pub typed_text_is : (s : TypedSheet) → words_text (sheet_words (as_sheet s)) ≡ sheet_text (as_sheet s)
unfolding words_text
typed_text_is s = ap text_of_got (round_trip s)

pub words_text_is : (g : Graph) (x : Nested) → words_text (sheet_words (sheet_of g x)) ≡ sheet_text (sheet_of g x)
words_text_is g x = rw (← sheet_written g x) (typed_text_is (typed_sheet g x))
