-- The figure, the sheet, and the whole answer (document 01, "What comes out", "The printed sheet").
use Rattle.std.specs.Prelude.{List, [], ◌∷◌, ◌++◌, map, ℕ, ◌+◌, ◌*◌, max, suc, Bool, true, false, get_or, take, length, leb, eqb}
use Prim.Native.String.{String}
use Rattle.meaning.specs.Lists.{concat, total, times_in, pick, bit}
use Rattle.meaning.specs.Graph.{Instr, SelectionKind, Value, const, input, instr, output, bool, undef, held, Graph, bool_cond, number}
use Rattle.meaning.specs.Graph.{no_value, const_kind, input_kind, instr_kind, output_kind, bool_kind, undef_kind}
use Rattle.meaning.specs.Runs.{Node, block, select, loop, exit, Nodes, ⟨⟩, ◌▸◌, Cases, ∅, case}
use Rattle.meaning.specs.Text.{Text, ascii, decimal, joined, listed}
use Rattle.format.specs.Store.{Answer, accepted, refused, if_accepted}
use Rattle.format.specs.Accept.{accept}
use Rattle.format.specs.Refusals.{too_few_words, figure_too_large}
use Rattle.nesting.specs.Nesting.{Outcome, LazyCond, undef_cond, false_cond, true_cond, merge, LazyConds, ◌&◌, DeferredTarget}
use Rattle.nesting.specs.Nesting.{to_region, to_return, DeferredEdgeBundle, untouched, whole, closed, leftover, Piece, Nested}
use Rattle.nesting.specs.Nesting.{structurize_func}
use Rattle.nesting.specs.SheetNumbers.{kind_bool, kind_num, lead_block, lead_defer, lead_exit, lead_loop, lead_region, lead_select}
use Rattle.nesting.specs.SheetNumbers.{letter_f, letter_m, letter_t, letter_u, outcome_closed, outcome_leftover, outcome_untouched}
use Rattle.nesting.specs.SheetNumbers.{outcome_whole, return_word}

-- ---- The figure of a nested form: what a run can cost at most (document 01, "What comes out").
module _ (test_cost : ℕ) where
  unfoldable mutual
    -- A block its instructions' sum; a select the test cost and its dearest case; a loop its turn limit times body and test cost.
    pub node_figure : Node → ℕ
    node_figure (block n r k is) = total (λ i. i.cost) is
    node_figure (select x cs) = test_cost + dearest cs
    node_figure (loop x ks) = x.limit * (figure ks + test_cost)
    node_figure (exit n op vs) = 0

    -- A region its children's sum.
    pub figure : Nodes → ℕ
    figure ⟨⟩ = 0
    figure (k ▸ ks) = node_figure k + figure ks

    pub dearest : Cases → ℕ
    dearest ∅ = 0
    dearest (case c ks cs) = max (figure ks) (dearest cs)

-- ---- The fields of a line: the lent words and the text, side by side (document 01, "The printed sheet").
pub record Field : Type 0 where
  pub words : List ℕ
  pub text : Text

-- A word of the text alone.
abbrev pub label : String → Field
label s = record { words = []; text = ascii s }

-- A number with a name for it in the text.
abbrev pub number_as : ℕ → String → Field
number_as n s = record { words = n ∷ []; text = ascii s }

abbrev pub a_number : ℕ → Field
a_number n = record { words = n ∷ []; text = decimal n }

-- Fields as one: their words, and their texts with `sep` between them.
abbrev pub joint : String → List Field → Field
joint sep fs = record { words = concat (map (λ f. f.words) fs); text = joined (ascii sep) (map (λ f. f.text) fs) }

-- A list: its count, then its items; joined by commas, `-` if empty.
abbrev pub list : List Field → Field
list fs = record { words = length fs ∷ (joint "," fs).words; text = listed (λ f. f.text) fs }

abbrev pub numbers : List ℕ → Field
numbers ns = list (map a_number ns)

-- As in 1.0: a region (or a node) and an index.
abbrev pub dotted : ℕ → ℕ → Field
dotted r k = joint "." (a_number r ∷ a_number k ∷ [])

-- An undefined value, by its type.
abbrev pub undefined : ℕ → Field
undefined ty = record { words = undef_kind ∷ 0 ∷ ty ∷ []; text = ascii "undef" ++ decimal ty }

-- The kind of a select: bool 0, num 1.
abbrev pub kind : SelectionKind → Field
kind bool_cond = number_as kind_bool "bool"
kind number = number_as kind_num "num"

-- The target Return prints `return` and is 65,535 as a word, which is no number of a region that is accepted (`accept_valid`).
abbrev pub target : DeferredTarget → Field
target to_return = number_as return_word "return"
target (to_region r) = pick (eqb r return_word) (number_as r "return") (a_number r)

unfoldable mutual
  -- A condition: t, f, u, or m, the node and its parts in brackets.
  pub condition : LazyCond → Field
  condition true_cond = number_as letter_t "t"
  condition false_cond = number_as letter_f "f"
  condition undef_cond = number_as letter_u "u"
  condition (merge n k v cs) =
      let parts = conditions cs in
      record { words = letter_m ∷ n ∷ (list parts).words; text = ascii "m" ++ decimal n ++ ascii "[" ++ (joint "," parts).text ++ ascii "]" }

  pub conditions : LazyConds → List Field
  conditions LazyConds.no_conds = []
  conditions (c & cs) = condition c ∷ conditions cs

-- ---- The lines of a nested form (document 01, "The printed sheet"); first the child nodes of a region line.
abbrev pub kids : Nodes → List ℕ
kids ⟨⟩ = []
kids (block n r k is ▸ ks) = n ∷ kids ks
kids (select x cs ▸ ks) = x.number ∷ kids ks
kids (loop x body ▸ ks) = x.number ∷ kids ks
kids (exit n op vs ▸ ks) = n ∷ kids ks

abbrev pub case_numbers : Cases → List ℕ
case_numbers ∅ = []
case_numbers (case c ks cs) = c.region ∷ case_numbers cs

-- `nodes` has the node of each output ever defined, in order.
module _ (nodes : List ℕ) where
  -- A value: kind, region, index. An output is shown as its node and its place among that node's.
  abbrev pub value : Value → Field
  value (const i) = record { words = const_kind ∷ 0 ∷ i ∷ []; text = ascii "c" ++ decimal i }
  value (input r k) = joint "" (number_as input_kind "i" ∷ dotted r k ∷ [])
  value (instr r k) = joint "" (number_as instr_kind "d" ∷ dotted r k ∷ [])
  value (output o) = let n = get_or nodes o 0 in joint "" (number_as output_kind "n" ∷ dotted n (times_in n (take o nodes)) ∷ [])
  value (bool false) = record { words = bool_kind ∷ 0 ∷ 0 ∷ []; text = ascii "false" }
  value (bool true) = record { words = bool_kind ∷ 0 ∷ 1 ∷ []; text = ascii "true" }
  value (undef ty) = undefined ty
  value no_value = undefined 0  -- on no sheet: `nested_named`
  value (held r k) = undefined 0  -- on no sheet: `no_marks`

  abbrev pub values : List Value → Field
  values vs = list (map value vs)

  -- The items of a block, from index k on: region.index/opcode/type/reads.
  abbrev pub items : ℕ → ℕ → List Instr → List Field
  items r k [] = []
  items r k (i ∷ is) = joint "/" (dotted r k ∷ a_number i.opcode ∷ a_number i.type ∷ values i.reads ∷ []) ∷ items r (suc k) is

  -- Region, inputs' types, child nodes, output values.
  abbrev pub region_fields : ℕ → List ℕ → Nodes → List Value → List Field
  region_fields r ts ks vs =
      number_as lead_region "region" ∷ a_number r ∷ label "in" ∷ numbers ts
      ∷ label "kids" ∷ numbers (kids ks) ∷ label "out" ∷ values vs ∷ []

  unfoldable mutual
    -- Each child, a select's cases or a loop's body following it. Block: node, items. Select: node, kind, value, case regions,
    -- types of its outputs. Loop: node, first inputs, body region, repeat value. Exit: node, opcode, values.
    pub node_lines : Node → List (List Field)
    node_lines (block n r k is) = (number_as lead_block "block" ∷ a_number n ∷ list (items r k is) ∷ []) ∷ []
    node_lines (select x cs) =
        let types = map (λ o. o.type) x.outputs in
        (number_as lead_select "select" ∷ a_number x.number ∷ kind x.kind ∷ value x.scrutinee
        ∷ label "cases" ∷ numbers (case_numbers cs) ∷ label "out" ∷ numbers types ∷ [])
        ∷ case_lines cs
    node_lines (loop x ks) =
        (number_as lead_loop "loop" ∷ a_number x.number ∷ label "in" ∷ values x.initial_inputs
        ∷ label "body" ∷ a_number x.body ∷ label "repeat" ∷ value x.repeat ∷ [])
        ∷ region_fields x.body x.types ks x.outputs
        ∷ nodes_lines ks
    node_lines (exit n op vs) = (number_as lead_exit "exit" ∷ a_number n ∷ a_number op ∷ label "in" ∷ values vs ∷ []) ∷ []

    pub nodes_lines : Nodes → List (List Field)
    nodes_lines ⟨⟩ = []
    nodes_lines (k ▸ ks) = node_lines k ++ nodes_lines ks

    -- A case has no inputs.
    pub case_lines : Cases → List (List Field)
    case_lines ∅ = []
    case_lines (case c ks cs) = region_fields c.region [] ks c.outputs ∷ (nodes_lines ks ++ case_lines cs)

  abbrev pub piece_lines : Piece → List (List Field)
  piece_lines p = region_fields p.region p.inputs p.children p.outputs ∷ nodes_lines p.children

  -- Region, target, count, inputs, condition.
  abbrev pub defer_fields : ℕ → DeferredEdgeBundle → List Field
  defer_fields r e =
      number_as lead_defer "defer" ∷ a_number r ∷ label "to" ∷ target e.target ∷ label "count" ∷ a_number e.accumulated_count
      ∷ label "in" ∷ values e.target_inputs ∷ label "if" ∷ condition e.condition ∷ []

  -- In the order of the region's set.
  abbrev pub defer_lines : Piece → List (List Field)
  defer_lines p = map (defer_fields p.region) p.deferred

-- A piece put where its region belongs among pieces with ascending regions.
abbrev pub ascending : Piece → List Piece → List Piece
ascending p [] = p ∷ []
ascending p (q ∷ qs) = pick (leb p.region q.region) (p ∷ q ∷ qs) (q ∷ ascending p qs)

-- The entry first, then each unclaimed Ready region, ascending; then the defer lines of all of them, ascending.
abbrev pub lines_of : Nested → List (List Field)
lines_of x =
    concat (map (piece_lines x.output_nodes) (x.entry ∷ x.unclaimed))
    ++ concat (map (defer_lines x.output_nodes) (ascending x.entry x.unclaimed))

-- ---- The sheet (document 01, "The printed sheet"): what line 1 holds, and the other lines.
pub record Sheet : Type 0 where
  pub outcome : Outcome
  pub figure : ℕ  -- 0 where there is none
  pub attempts : ℕ
  pub twice : Bool
  pub lines : List (List Field)

-- The figure exists for whole and closed; an untouched record has line 1 only.
unfoldable pub sheet_of : Graph → Nested → Sheet
unfolding figure node_lines condition decimal joined listed
sheet_of g x =
    let figured = figure g.test_cost x.entry.children in
    record {
      outcome = x.outcome;
      figure = elim x.outcome [ untouched ↦ 0 | whole ↦ figured | closed ↦ figured | leftover ↦ 0 ];
      attempts = x.attempts;
      twice = x.twice;
      lines = elim x.outcome [ untouched ↦ [] | whole ↦ lines_of x | closed ↦ lines_of x | leftover ↦ lines_of x ];
    }

-- The outcomes, 0 to 3.
abbrev pub outcome : Outcome → Field
outcome untouched = number_as outcome_untouched "untouched"
outcome whole = number_as outcome_whole "whole"
outcome closed = number_as outcome_closed "closed"
outcome leftover = number_as outcome_leftover "leftover"

-- `-` if there is none, which is 0 as a word.
abbrev pub figure_field : Outcome → ℕ → Field
figure_field untouched n = number_as n "-"
figure_field whole n = a_number n
figure_field closed n = a_number n
figure_field leftover n = number_as n "-"

-- Line 1: outcome, figure, attempts, twice.
abbrev pub line_1 : Sheet → List Field
line_1 s =
    outcome s.outcome
    ∷ label "figure" ∷ figure_field s.outcome s.figure
    ∷ label "attempts" ∷ a_number s.attempts
    ∷ label "twice" ∷ a_number (bit s.twice) ∷ []

-- The sheet in the lent words, and as it is printed.
unfoldable pub sheet_words : Sheet → List ℕ
sheet_words s = concat (map (λ l. (joint " " l).words) (line_1 s ∷ s.lines))

unfoldable pub sheet_text : Sheet → Text
unfolding decimal joined
sheet_text s = concat (map (λ l. (joint " " l).text ++ ascii "\n") (line_1 s ∷ s.lines))

-- ---- From the bytes of a store to the whole answer: a refusal, or the sheet in the lent words and in print (document 01).
-- Refusal 11: the figure exceeds 4,294,967,295.
abbrev pub figure_fits : Sheet → Answer Sheet
figure_fits s = elim (leb s.figure 4294967295) [ true ↦ accepted s | false ↦ refused figure_too_large 0 ]

-- Store, reading, references, nesting, figure: the sheet, or a refusal other than 10.
unfoldable pub sheet_for : List ℕ → Answer Sheet
unfolding accept structurize_func sheet_of
sheet_for store =
    if_accepted (accept store) λ g.
    if_accepted (structurize_func g) λ x.
    figure_fits (sheet_of g x)

-- Refusal 10: the lent words are too few.
abbrev pub words_fit : ℕ → Sheet → Answer Sheet
words_fit lent s = elim (leb (length (sheet_words s)) lent) [ true ↦ accepted s | false ↦ refused too_few_words 0 ]

unfoldable pub answer : List ℕ → ℕ → Answer Sheet
unfolding sheet_for sheet_words
answer store lent = if_accepted (sheet_for store) (words_fit lent)

-- The words of the sheet, which the lent words then begin with.
unfoldable pub answer_words : List ℕ → ℕ → Answer (List ℕ)
unfolding answer
answer_words store lent = if_accepted (answer store lent) λ s. accepted (sheet_words s)

-- A refusal prints one line: `refused`, the number and its word.
unfoldable pub answer_text : Answer Sheet → Text
unfolding sheet_text
answer_text (refused n w) = joined (ascii " ") (ascii "refused" ∷ decimal n ∷ decimal w ∷ []) ++ ascii "\n"
answer_text (accepted s) = sheet_text s

-- What the program prints for the bytes of standard input: it lends 16,384 words.
unfoldable pub printed : List ℕ → Text
unfolding answer answer_text
printed store = answer_text (answer store 16384)
