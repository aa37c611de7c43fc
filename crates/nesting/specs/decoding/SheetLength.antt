-- The length of a sheet in words is its own sum, line by line: what refusal 10 compares with the lent words.
use Rattle.std.specs.Prelude.{◌≡◌, refl, List, [], ◌∷◌, ◌++◌, map, ℕ, ◌+◌, ◌*◌, length}
use Rattle.std.proofs.Common.{ap, ◌∙◌, arith, length-append}
use Rattle.meaning.specs.Graph.{Graph, Code, SelectionKind, bool_cond, number}
use Rattle.nesting.specs.Nesting.{Outcome, untouched, whole, closed, leftover, Nested}
use Rattle.nesting.specs.Sheet.{a_number, kind, outcome, figure_field, sheet_of, sheet_words}
use Rattle.nesting.specs.decoding.Lines.{Line, region_line, block_line, select_line, loop_line, exit_line, defer_line, TypedSheet}
use Rattle.nesting.specs.decoding.Lines.{value_field, item_field, condition_field, condition_fields, fields, words_of, lines_words}
use Rattle.nesting.specs.decoding.Lines.{as_sheet, typed_sheet}
use Rattle.nesting.specs.decoding.LinesWritten.{sheet_written}
use Rattle.nesting.specs.decoding.RoundTrip.{target_words}
use Rattle.nesting.specs.ShownForm.{Item, Condition, t_cond, f_cond, u_cond, m_cond, Conditions, no_part, part}

abbrev pub items_length : List Item → ℕ
items_length [] = 0
items_length (i ∷ is) = 5 + 3 * length i.reads + items_length is

unfoldable mutual
  pub condition_length : Condition → ℕ
  condition_length t_cond = 1
  condition_length f_cond = 1
  condition_length u_cond = 1
  condition_length (m_cond n cs) = 3 + parts_length cs

  pub parts_length : Conditions → ℕ
  parts_length no_part = 0
  parts_length (part c cs) = condition_length c + parts_length cs

abbrev pub line_length : Line → ℕ
line_length (region_line r ts ks vs) = 5 + length ts + length ks + 3 * length vs
line_length (block_line n is) = 3 + items_length is
line_length (select_line x rs) = 8 + length rs + length x.output_types
line_length (loop_line n vs r v) = 7 + 3 * length vs
line_length (exit_line n op vs) = 4 + 3 * length vs
line_length (defer_line e) = 5 + 3 * length e.inputs + condition_length e.condition

abbrev pub lines_length : List Line → ℕ
lines_length [] = 0
lines_length (l ∷ ls) = line_length l + lines_length ls

abbrev pub sheet_length : TypedSheet → ℕ
sheet_length s = 4 + lines_length s.lines

-- ---- shown
numbers_long : (ns : List ℕ) → length (words_of (map a_number ns)) ≡ length ns
numbers_long [] = refl
numbers_long (n ∷ ns) = omega (arith, numbers_long ns)

values_long : (vs : List Code) → length (words_of (map value_field vs)) ≡ 3 * length vs
values_long [] = refl
values_long (v ∷ vs) = omega (arith, values_long vs)

item_long : (i : Item) → length (item_field i).words ≡ 5 + 3 * length i.reads
item_long i = omega (arith, values_long i.reads, length-append (words_of (map value_field i.reads)) [])

items_long : (is : List Item) → length (words_of (map item_field is)) ≡ items_length is
items_long [] = refl
items_long (i ∷ is) = omega (arith, item_long i, items_long is, length-append (item_field i).words (words_of (map item_field is)))

mutual
  unfolding condition_field condition_length

  condition_long : (c : Condition) → length (condition_field c).words ≡ condition_length c
  condition_long t_cond = refl
  condition_long f_cond = refl
  condition_long u_cond = refl
  condition_long (m_cond n cs) = omega (arith, parts_long cs)

  parts_long : (cs : Conditions) → length (words_of (condition_fields cs)) ≡ parts_length cs
  parts_long no_part = refl
  parts_long (part c cs) =
      omega (arith, condition_long c, parts_long cs, length-append (condition_field c).words (words_of (condition_fields cs)))

kind_long : (k : SelectionKind) → length (kind k).words ≡ 1
kind_long bool_cond = refl
kind_long number = refl

line_long : (l : Line) → length (words_of (fields l)) ≡ line_length l
line_long (region_line r ts ks vs) = simp (length-append, numbers_long, values_long) (omega arith)
line_long (block_line n is) = simp (length-append, items_long) (omega arith)
line_long (select_line x rs) = simp (length-append, kind_long x.kind, numbers_long) (omega arith)
line_long (loop_line n vs r v) = simp (length-append, values_long) (omega arith)
line_long (exit_line n op vs) = simp (length-append, values_long) (omega arith)
line_long (defer_line e) = simp (length-append, values_long, target_words, condition_long) (omega arith)

lines_long : (ls : List Line) → length (lines_words ls) ≡ lines_length ls
lines_long [] = refl
lines_long (l ∷ ls) = omega (arith, line_long l, lines_long ls, length-append (words_of (fields l)) (lines_words ls))

line_1_long : (o : Outcome) (f n t : ℕ) (rest : List ℕ) → length ((outcome o).words ++ ((figure_field o f).words ++ (n ∷ t ∷ [])) ++ rest)
    ≡ 4 + length rest
line_1_long untouched f n t rest = omega arith
line_1_long whole f n t rest = omega arith
line_1_long closed f n t rest = omega arith
line_1_long leftover f n t rest = omega arith

pub typed_long : (s : TypedSheet) → length (sheet_words (as_sheet s)) ≡ sheet_length s
unfolding sheet_words
typed_long s = line_1_long s.outcome s.figure s.attempts _ (lines_words s.lines) ∙ ap (λ n. 4 + n) (lines_long s.lines)

pub sheet_long : (g : Graph) (x : Nested) → length (sheet_words (sheet_of g x)) ≡ sheet_length (typed_sheet g x)
sheet_long g x = rw (← sheet_written g x) (typed_long (typed_sheet g x))
