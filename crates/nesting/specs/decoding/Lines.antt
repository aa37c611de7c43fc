-- The lines of a sheet by what they hold, for reading them back. So the layout stands twice: Sheet's is the one to believe, made from a
-- nested form; this one is made from what a reader of words can give back. LinesWritten shows that they agree.
use Rattle.std.specs.Prelude.{List, [], ◌∷◌, ◌++◌, map, Bool, ℕ, get_or, eqb}
use Rattle.meaning.specs.Lists.{concat, pick}
use Rattle.meaning.specs.Graph.{Code, Graph}
use Rattle.meaning.specs.Runs.{Node, block, select, loop, exit, Nodes, ⟨⟩, ◌▸◌, Cases, ∅, case}
use Rattle.meaning.specs.Text.{Text, ascii, decimal}
use Rattle.nesting.specs.Nesting.{Outcome, DeferredEdgeBundle, untouched, whole, closed, leftover, Piece, Nested}
use Rattle.nesting.specs.Sheet.{figure, Field, label, number_as, a_number, joint, list, numbers, dotted, kind, kids, case_numbers}
use Rattle.nesting.specs.Sheet.{ascending, Sheet}
use Rattle.nesting.specs.ShownForm.{Item, Condition, t_cond, f_cond, u_cond, m_cond, Conditions, no_part, part, ShownSelect}
use Rattle.nesting.specs.ShownForm.{ShownEdge, shown_value, block_items, shown_select, shown_edge}
use Rattle.nesting.specs.SheetNumbers.{lead_block, lead_defer, lead_exit, lead_loop, lead_region, lead_select, letter_f, letter_m}
use Rattle.nesting.specs.SheetNumbers.{letter_t, letter_u, return_word}

pub data Line : Type 0 where
  region_line : ℕ → List ℕ → List ℕ → List Code → Line  -- region, inputs' types, child nodes, output values
  block_line : ℕ → List Item → Line  -- node, items
  select_line : ShownSelect → List ℕ → Line  -- with its case regions
  loop_line : ℕ → List Code → ℕ → Code → Line  -- node, first inputs, body region, repeat value
  exit_line : ℕ → ℕ → List Code → Line  -- node, opcode, values
  defer_line : ShownEdge → Line

pub record TypedSheet : Type 0 where
  pub outcome : Outcome
  pub figure : ℕ
  pub attempts : ℕ
  pub twice : Bool
  pub lines : List Line

-- ---- how a line is written
-- By kind, 0 to 5.
abbrev pub value_texts : ℕ → ℕ → List Text
value_texts r k =
    (ascii "c" ++ decimal k)
    ∷ (ascii "i" ++ (dotted r k).text)
    ∷ (ascii "d" ++ (dotted r k).text)
    ∷ (ascii "n" ++ (dotted r k).text)
    ∷ pick (eqb k 1) (ascii "true") (ascii "false")
    ∷ (ascii "undef" ++ decimal k)
    ∷ []

abbrev pub value_field : Code → Field
value_field v =
    record { words = v.kind ∷ v.region ∷ v.index ∷ []; text = get_or (value_texts v.region v.index) v.kind [] }

abbrev pub values_field : List Code → Field
values_field vs = list (map value_field vs)

abbrev pub item_field : Item → Field
item_field i = joint "/" (dotted i.region i.index ∷ a_number i.opcode ∷ a_number i.type ∷ values_field i.reads ∷ [])

abbrev pub target_field : ℕ → Field
target_field r = pick (eqb r return_word) (number_as r "return") (a_number r)

unfoldable mutual
  pub condition_field : Condition → Field
  condition_field t_cond = number_as letter_t "t"
  condition_field f_cond = number_as letter_f "f"
  condition_field u_cond = number_as letter_u "u"
  condition_field (m_cond n cs) =
      let parts = condition_fields cs in
      record { words = letter_m ∷ n ∷ (list parts).words; text = ascii "m" ++ decimal n ++ ascii "[" ++ (joint "," parts).text ++ ascii "]" }

  pub condition_fields : Conditions → List Field
  condition_fields no_part = []
  condition_fields (part c cs) = condition_field c ∷ condition_fields cs

abbrev pub fields : Line → List Field
fields (region_line r ts ks vs) =
    number_as lead_region "region" ∷ a_number r ∷ label "in" ∷ numbers ts ∷ label "kids" ∷ numbers ks ∷ label "out" ∷ values_field vs ∷ []
fields (block_line n is) = number_as lead_block "block" ∷ a_number n ∷ list (map item_field is) ∷ []
fields (select_line x rs) =
    number_as lead_select "select" ∷ a_number x.number ∷ kind x.kind ∷ value_field x.scrutinee
    ∷ label "cases" ∷ numbers rs ∷ label "out" ∷ numbers x.output_types ∷ []
fields (loop_line n vs r v) =
    number_as lead_loop "loop" ∷ a_number n ∷ label "in" ∷ values_field vs ∷ label "body" ∷ a_number r ∷ label "repeat" ∷ value_field v ∷ []
fields (exit_line n op vs) = number_as lead_exit "exit" ∷ a_number n ∷ a_number op ∷ label "in" ∷ values_field vs ∷ []
fields (defer_line e) =
    number_as lead_defer "defer" ∷ a_number e.region ∷ label "to" ∷ target_field e.target ∷ label "count" ∷ a_number e.count
    ∷ label "in" ∷ values_field e.inputs ∷ label "if" ∷ condition_field e.condition ∷ []

abbrev pub words_of : List Field → List ℕ
words_of fs = concat (map (λ f. f.words) fs)

abbrev pub lines_words : List Line → List ℕ
lines_words ls = concat (map words_of (map fields ls))

abbrev pub as_sheet : TypedSheet → Sheet
as_sheet s = record { outcome = s.outcome; figure = s.figure; attempts = s.attempts; twice = s.twice; lines = map fields s.lines }

-- ---- the lines of a nested form
-- `nodes` has the node of each output ever defined, in order.
module _ (nodes : List ℕ) where
  unfoldable mutual
    pub typed_node : Node → List Line
    typed_node (block n r k is) = block_line n (block_items nodes r k is) ∷ []
    typed_node (select x cs) = select_line (shown_select nodes x) (case_numbers cs) ∷ typed_cases cs
    typed_node (loop x ks) =
        loop_line x.number (map (shown_value nodes) x.initial_inputs) x.body (shown_value nodes x.repeat)
        ∷ region_line x.body x.types (kids ks) (map (shown_value nodes) x.outputs)
        ∷ typed_nodes ks
    typed_node (exit n op vs) = exit_line n op (map (shown_value nodes) vs) ∷ []

    pub typed_nodes : Nodes → List Line
    typed_nodes ⟨⟩ = []
    typed_nodes (k ▸ ks) = typed_node k ++ typed_nodes ks

    pub typed_cases : Cases → List Line
    typed_cases ∅ = []
    typed_cases (case c ks cs) =
        region_line c.region [] (kids ks) (map (shown_value nodes) c.outputs) ∷ (typed_nodes ks ++ typed_cases cs)

  abbrev pub typed_pieces : List Piece → List Line
  typed_pieces [] = []
  typed_pieces (p ∷ ps) =
      region_line p.region p.inputs (kids p.children) (map (shown_value nodes) p.outputs)
      ∷ (typed_nodes p.children ++ typed_pieces ps)

  abbrev pub typed_edge : ℕ → DeferredEdgeBundle → Line
  typed_edge r e = defer_line (shown_edge nodes r e)

  abbrev pub typed_deferred : List Piece → List Line
  typed_deferred [] = []
  typed_deferred (p ∷ ps) = map (typed_edge p.region) p.deferred ++ typed_deferred ps

abbrev pub typed_lines : Nested → List Line
typed_lines x =
    typed_pieces x.output_nodes (x.entry ∷ x.unclaimed)
    ++ typed_deferred x.output_nodes (ascending x.entry x.unclaimed)

abbrev pub typed_sheet : Graph → Nested → TypedSheet
typed_sheet g x =
    let figured = figure g.test_cost x.entry.children in
    let ls = typed_lines x in
    record {
      outcome = x.outcome;
      figure = elim x.outcome [ untouched ↦ 0 | whole ↦ figured | closed ↦ figured | leftover ↦ 0 ];
      attempts = x.attempts;
      twice = x.twice;
      lines = elim x.outcome [ untouched ↦ [] | whole ↦ ls | closed ↦ ls | leftover ↦ ls ];
    }
