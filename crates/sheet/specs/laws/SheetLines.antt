-- The words of a sheet are those of its lines.
use Rattle.std.specs.Prelude.{◌≡◌, refl, List, [], ◌∷◌, ◌++◌, map, ℕ, length}
use Rattle.std.proofs.Common.{sym, ap, ◌∙◌, append_assoc, append-nil}
use Rattle.std.proofs.lemmas.List.{map-append}
use Rattle.meaning.specs.Lists.{concat}
use Rattle.meaning.specs.Graph.{Graph, Value}
use Rattle.meaning.specs.Runs.{SelectNode, LoopNode, Node, block, select, loop, exit, Nodes, ⟨⟩, ◌▸◌, Cases, ∅, case}
use Rattle.meaning.specs.facts.Elements.{concat_append}
use Rattle.nesting.specs.Nesting.{Nested, Piece, Outcome, untouched, whole, closed, leftover, DeferredEdgeBundle}
use Rattle.nesting.specs.Sheet as sheet
use Rattle.nesting.specs.Sheet.{Field}
use Rattle.nesting.specs.decoding.Lines.{words_of}
use Rattle.nesting.specs.SheetNumbers.{lead_region, lead_block, lead_select, lead_loop, lead_exit}
use Rattle.sheet_words.specs.Parts.{region_words, select_words, loop_words, node_words, nodes_words, cases_words}
use Rattle.sheet_words.specs.laws.PartLaws.{numbers_words}
use Rattle.sheet_nodes.specs.Whole.{piece_words, defer_words, nested_lines, head_words, nested_words}

-- The words of lines.
abbrev of_lines : List (List Field) → List ℕ
of_lines ls = concat (map words_of ls)

lines_append : (ls ms : List (List Field)) → of_lines (ls ++ ms) ≡ of_lines ls ++ of_lines ms
lines_append ls ms = rw (map-append words_of ls ms) (concat_append (map words_of ls) (map words_of ms))

abbrev pub same_count : ℕ → ℕ
same_count n = n

-- Behind a line's last field nothing stands.
ends : (x y z : List ℕ) → x ++ (y ++ (z ++ [])) ≡ x ++ y ++ z
ends x y z = simp (append_assoc, append-nil)

ends_four : (x y z u : List ℕ) → x ++ (y ++ (z ++ (u ++ []))) ≡ x ++ y ++ z ++ u
ends_four x y z u = simp (append_assoc, append-nil)

module _ (nodes : List ℕ) where
  region_line : (r : ℕ) (ts : List ℕ) (ks : Nodes) (vs : List Value)
      → words_of (sheet.region_fields nodes r ts ks vs) ≡ region_words same_count nodes r ts ks vs
  region_line r ts ks vs =
      ap (λ z. lead_region ∷ r ∷ z) (ends (sheet.numbers ts).words (sheet.numbers (sheet.kids ks)).words (sheet.values nodes vs).words)
      ∙ ap (λ z. lead_region ∷ r ∷ (z ++ (sheet.numbers (sheet.kids ks)).words ++ (sheet.values nodes vs).words)) (numbers_words ts)
      ∙ ap (λ z. lead_region ∷ r ∷ ((length ts ∷ ts) ++ z ++ (sheet.values nodes vs).words)) (numbers_words (sheet.kids ks))

  select_line : (x : SelectNode) (cs : Cases)
      → words_of (sheet.number_as 2 "select" ∷ sheet.a_number x.number ∷ sheet.kind x.kind ∷ sheet.value nodes x.scrutinee
      ∷ sheet.label "cases" ∷ sheet.numbers (sheet.case_numbers cs) ∷ sheet.label "out"
      ∷ sheet.numbers (map (λ o. o.type) x.outputs) ∷ [])
      ≡ select_words same_count nodes x cs
  select_line x cs =
      ap (λ z. lead_select ∷ x.number ∷ z) (ends_four (sheet.kind x.kind).words (sheet.value nodes x.scrutinee).words
      (sheet.numbers (sheet.case_numbers cs)).words (sheet.numbers (map (λ o. o.type) x.outputs)).words)

  loop_line : (x : LoopNode)
      → words_of (sheet.number_as 3 "loop" ∷ sheet.a_number x.number ∷ sheet.label "in" ∷ sheet.values nodes x.initial_inputs
      ∷ sheet.label "body" ∷ sheet.a_number x.body ∷ sheet.label "repeat" ∷ sheet.value nodes x.repeat ∷ [])
      ≡ loop_words same_count nodes x
  loop_line x =
      ap (λ z. lead_loop ∷ x.number ∷ z)
      (ends (sheet.values nodes x.initial_inputs).words (x.body ∷ []) (sheet.value nodes x.repeat).words)

  mutual
    unfolding sheet.node_lines node_words

    node_line_words : (k : Node) → of_lines (sheet.node_lines nodes k) ≡ node_words same_count nodes k
    node_line_words (block n r k is) =
        append-nil (lead_block ∷ n ∷ ((sheet.list (sheet.items nodes r k is)).words ++ []))
        ∙ ap (λ z. lead_block ∷ n ∷ z) (append-nil (sheet.list (sheet.items nodes r k is)).words)
    node_line_words (select x cs) =
        ap (λ z. z ++ of_lines (sheet.case_lines nodes cs)) (select_line x cs)
        ∙ ap (λ z. select_words same_count nodes x cs ++ z) (case_line_words cs)
    node_line_words (loop x ks) =
        ap (λ z. z ++ (words_of (sheet.region_fields nodes x.body x.types ks x.outputs) ++ of_lines (sheet.nodes_lines nodes ks)))
        (loop_line x)
        ∙ ap (λ z. loop_words same_count nodes x ++ (z ++ of_lines (sheet.nodes_lines nodes ks)))
        (region_line x.body x.types ks x.outputs)
        ∙ ap (λ z. loop_words same_count nodes x ++ (region_words same_count nodes x.body x.types ks x.outputs ++ z))
        (nodes_line_words ks)
        ∙ sym (append_assoc (loop_words same_count nodes x) (region_words same_count nodes x.body x.types ks x.outputs)
        (nodes_words same_count nodes ks))
    node_line_words (exit n op vs) =
        append-nil (lead_exit ∷ n ∷ op ∷ ((sheet.values nodes vs).words ++ []))
        ∙ ap (λ z. lead_exit ∷ n ∷ op ∷ z) (append-nil (sheet.values nodes vs).words)

    nodes_line_words : (ks : Nodes) → of_lines (sheet.nodes_lines nodes ks) ≡ nodes_words same_count nodes ks
    nodes_line_words ⟨⟩ = refl
    nodes_line_words (k ▸ ks) =
        lines_append (sheet.node_lines nodes k) (sheet.nodes_lines nodes ks)
        ∙ ap (λ z. z ++ of_lines (sheet.nodes_lines nodes ks)) (node_line_words k)
        ∙ ap (λ z. node_words same_count nodes k ++ z) (nodes_line_words ks)

    case_line_words : (cs : Cases) → of_lines (sheet.case_lines nodes cs) ≡ cases_words same_count nodes cs
    case_line_words ∅ = refl
    case_line_words (case c ks cs) =
        ap (λ z. z ++ of_lines (sheet.nodes_lines nodes ks ++ sheet.case_lines nodes cs)) (region_line c.region [] ks c.outputs)
        ∙ ap (λ z. region_words same_count nodes c.region [] ks c.outputs ++ z)
        (lines_append (sheet.nodes_lines nodes ks) (sheet.case_lines nodes cs)
        ∙ ap (λ z. z ++ of_lines (sheet.case_lines nodes cs)) (nodes_line_words ks)
        ∙ ap (λ z. nodes_words same_count nodes ks ++ z) (case_line_words cs))
        ∙ sym (append_assoc (region_words same_count nodes c.region [] ks c.outputs) (nodes_words same_count nodes ks)
        (cases_words same_count nodes cs))

  pieces_words : (ps : List Piece)
      → of_lines (concat (map (sheet.piece_lines nodes) ps)) ≡ concat (map (piece_words same_count nodes) ps)
  pieces_words [] = refl
  pieces_words (p ∷ ps) =
      lines_append (sheet.piece_lines nodes p) (concat (map (sheet.piece_lines nodes) ps))
      ∙ ap (λ z. z ++ of_lines (concat (map (sheet.piece_lines nodes) ps))) (piece_line p)
      ∙ ap (λ z. piece_words same_count nodes p ++ z) (pieces_words ps)
    where
      piece_line : (p : Piece) → of_lines (sheet.piece_lines nodes p) ≡ piece_words same_count nodes p
      piece_line p =
          ap (λ z. z ++ of_lines (sheet.nodes_lines nodes p.children)) (region_line p.region p.inputs p.children p.outputs)
          ∙ ap (λ z. region_words same_count nodes p.region p.inputs p.children p.outputs ++ z) (nodes_line_words p.children)

  defers_words : (ps : List Piece) → of_lines (concat (map (sheet.defer_lines nodes) ps))
      ≡ concat (map (λ (p : Piece). concat (map (defer_words nodes p.region) p.deferred)) ps)
  defers_words [] = refl
  defers_words (p ∷ ps) =
      lines_append (sheet.defer_lines nodes p) (concat (map (sheet.defer_lines nodes) ps))
      ∙ ap (λ z. z ++ of_lines (concat (map (sheet.defer_lines nodes) ps))) (each_line p.deferred)
      ∙ ap (λ z. concat (map (defer_words nodes p.region) p.deferred) ++ z) (defers_words ps)
    where
      each_line : (es : List DeferredEdgeBundle) → of_lines (map (sheet.defer_fields nodes p.region) es)
          ≡ concat (map (defer_words nodes p.region) es)
      each_line [] = refl
      each_line (e ∷ es) = ap (λ z. defer_words nodes p.region e ++ z) (each_line es)

lines_are : (x : Nested) → of_lines (sheet.lines_of x) ≡ nested_lines same_count x
unfolding nested_lines
lines_are x =
    let nodes = x.output_nodes in
    let ps = concat (map (sheet.piece_lines nodes) (x.entry ∷ x.unclaimed)) in
    let ds = concat (map (sheet.defer_lines nodes) (sheet.ascending x.entry x.unclaimed)) in
    lines_append ps ds
    ∙ ap (λ z. z ++ of_lines ds) (pieces_words nodes (x.entry ∷ x.unclaimed))
    ∙ ap (λ z. concat (map (piece_words same_count nodes) (x.entry ∷ x.unclaimed)) ++ z)
    (defers_words nodes (sheet.ascending x.entry x.unclaimed))

-- ---- The whole sheet.
pub sheet_lines : (g : Graph) (x : Nested) → nested_words same_count g x ≡ sheet.sheet_words (sheet.sheet_of g x)
unfolding nested_words sheet.sheet_words sheet.sheet_of
sheet_lines g x = ap (λ z. head_words (sheet.sheet_of g x) ++ z) (by x.outcome refl)
  where
    by : (o : Outcome) → x.outcome ≡ o → elim o as (λ o. List ℕ) [
      | untouched ↦ []
      | whole ↦ nested_lines same_count x
      | closed ↦ nested_lines same_count x
      | leftover ↦ nested_lines same_count x
    ] ≡ of_lines (elim o as (λ o. List (List Field)) [
      | untouched ↦ []
      | whole ↦ sheet.lines_of x
      | closed ↦ sheet.lines_of x
      | leftover ↦ sheet.lines_of x
    ])
    by untouched e = refl
    by whole e = sym (lines_are x)
    by closed e = sym (lines_are x)
    by leftover e = sym (lines_are x)
