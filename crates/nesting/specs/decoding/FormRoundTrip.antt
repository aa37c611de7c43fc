-- Reading the words of a nested form's sheet gives the form back, as it is shown.
use Rattle.std.specs.Prelude.{◌≡◌, ℕ}
use Rattle.std.proofs.Math.Path.{refl}
use Rattle.std.proofs.Common.{sym, ap, ◌∙◌}
use mathlib.Core.List.{List, [], ◌∷◌, ◌++◌, map, append_assoc}
use Rattle.std.proofs.Math.Option.{Option, some, bind}
use borrow.Author.Tests.{eq-eqb}
use Rattle.meaning.specs.Graph.{Graph}
use Rattle.meaning.specs.Runs.{Node, block, select, loop, exit, Nodes, ⟨⟩, ◌▸◌, Cases, ∅, case}
use Rattle.nesting.specs.Nesting.{DeferredEdgeBundle, Outcome, untouched, whole, closed, leftover, Piece, Nested}
use Rattle.nesting.specs.Sheet.{kids, case_numbers, ascending, sheet_of, sheet_words}
use Rattle.nesting.specs.decoding.Lines.{Line, typed_node, typed_nodes, typed_cases, typed_pieces, typed_edge, typed_deferred}
use Rattle.nesting.specs.decoding.Lines.{typed_lines, typed_sheet}
use Rattle.nesting.specs.decoding.LinesWritten.{sheet_written}
use Rattle.nesting.specs.decoding.RoundTrip.{round_trip}
use Rattle.nesting.specs.ShownForm.{ShownNodes, no_node, ◌▹◌, ShownRegions, no_region, ◌▹▹◌, ShownForm, shown_node, shown_nodes}
use Rattle.nesting.specs.ShownForm.{shown_cases, shown_pieces, shown_deferred, shown_form, ShownEdge, shown_edge}
use Rattle.nesting.specs.decoding.DecodeForm.{shown_number, Parts, a_node, a_region, an_edge, with_nodes, with_regions, add_line}
use Rattle.nesting.specs.decoding.DecodeForm.{decode_parts, with_edges, with_pieces, form_of, form_of_decoded, decode_form}

-- ---- parts with others in front
abbrev nodes_on : ShownNodes → Parts → Parts
nodes_on no_node ps = ps
nodes_on (k ▹ ks) ps = a_node k ∷ nodes_on ks ps

abbrev regions_on : ShownRegions → Parts → Parts
regions_on no_region ps = ps
regions_on (b ▹▹ bs) ps = a_region b ∷ regions_on bs ps

module _ (nodes : List ℕ) where
  kids_shown : (k : Node) (ks : Nodes) → kids (k ▸ ks) ≡ shown_number (shown_node nodes k) ∷ kids ks
  unfolding shown_node
  kids_shown (block n r k is) ks = refl
  kids_shown (select x cs) ks = refl
  kids_shown (loop x body) ks = refl
  kids_shown (exit n op vs) ks = refl

  nodes_taken : (ks : Nodes) (ps : Parts) (f : ShownNodes → Parts → Option Parts)
      → with_nodes (kids ks) (nodes_on (shown_nodes nodes ks) ps) f ≡ f (shown_nodes nodes ks) ps
  unfolding with_nodes shown_nodes
  nodes_taken ⟨⟩ ps f = refl
  nodes_taken (k ▸ ks) ps f =
      let n = shown_number (shown_node nodes k) in
      rw (kids_shown k ks, eq-eqb n n refl) (nodes_taken ks ps (λ x. f (shown_node nodes k ▹ x)))

  cases_taken : (cs : Cases) (ps : Parts) (f : ShownRegions → Parts → Option Parts)
      → with_regions (case_numbers cs) (regions_on (shown_cases nodes cs) ps) f ≡ f (shown_cases nodes cs) ps
  unfolding with_regions shown_cases
  cases_taken ∅ ps f = refl
  cases_taken (case c ks cs) ps f = rw (eq-eqb c.region c.region refl) (cases_taken cs ps (λ x. f (_ ▹▹ x)))

  -- ---- lines, whatever follows them
  mutual
    unfolding typed_node shown_node decode_parts add_line bind

    node_read : (k : Node) (ls : List Line) (ps : Parts) → decode_parts ls ≡ some ps
        → decode_parts (typed_node nodes k ++ ls) ≡ some (a_node (shown_node nodes k) ∷ ps)
    node_read (block n r k is) ls ps e = rw e
    node_read (select x cs) ls ps e = rw (cases_read cs ls ps e) (cases_taken cs ps _)
    node_read (loop x ks) ls ps e = rw (nodes_read ks ls ps e, nodes_taken ks ps, eq-eqb x.body x.body refl)
    node_read (exit n op vs) ls ps e = rw e

    nodes_read : (ks : Nodes) (ls : List Line) (ps : Parts) → decode_parts ls ≡ some ps
        → decode_parts (typed_nodes nodes ks ++ ls) ≡ some (nodes_on (shown_nodes nodes ks) ps)
    nodes_read ⟨⟩ ls ps e = e
    nodes_read (k ▸ ks) ls ps e =
        rw (append_assoc (typed_node nodes k) (typed_nodes nodes ks) ls) (node_read k _ _ (nodes_read ks ls ps e))

    cases_read : (cs : Cases) (ls : List Line) (ps : Parts) → decode_parts ls ≡ some ps
        → decode_parts (typed_cases nodes cs ++ ls) ≡ some (regions_on (shown_cases nodes cs) ps)
    cases_read ∅ ls ps e = e
    cases_read (case c ks cs) ls ps e =
        rw (append_assoc (typed_nodes nodes ks) (typed_cases nodes cs) ls, nodes_read ks _ _ (cases_read cs ls ps e)) (nodes_taken ks _ _)

  pieces_read : (qs : List Piece) (ls : List Line) (ps : Parts) → decode_parts ls ≡ some ps
      → decode_parts (typed_pieces nodes qs ++ ls) ≡ some (regions_on (shown_pieces nodes qs) ps)
  unfolding shown_pieces decode_parts add_line bind
  pieces_read [] ls ps e = e
  pieces_read (q ∷ qs) ls ps e =
      rw (append_assoc (typed_nodes nodes q.children) (typed_pieces nodes qs) ls, nodes_read q.children _ _ (pieces_read qs ls ps e))
      (nodes_taken q.children _ _)

  edges_read : (r : ℕ) (es : List DeferredEdgeBundle) (ls : List Line) (xs : List ShownEdge) → decode_parts ls ≡ some (map an_edge xs)
      → decode_parts (map (typed_edge nodes r) es ++ ls) ≡ some (map an_edge (map (shown_edge nodes r) es ++ xs))
  unfolding decode_parts add_line bind
  edges_read r [] ls xs e = e
  edges_read r (x ∷ es) ls xs e = rw (edges_read r es ls xs e)

  deferred_read : (qs : List Piece) → decode_parts (typed_deferred nodes qs) ≡ some (map an_edge (shown_deferred nodes qs))
  unfolding decode_parts
  deferred_read [] = refl
  deferred_read (q ∷ qs) = edges_read q.region q.deferred _ _ (deferred_read qs)

-- ---- the whole
edges_taken : (es : List ShownEdge) (f : List ShownEdge → Option ShownForm) → with_edges (map an_edge es) f ≡ f es
unfolding with_edges
edges_taken [] f = refl
edges_taken (e ∷ es) f = edges_taken es (λ x. f (e ∷ x))

pieces_taken : (bs : ShownRegions) (es : List ShownEdge) (f : ShownRegions → List ShownEdge → Option ShownForm)
    → with_pieces (regions_on bs (map an_edge es)) f ≡ f bs es
unfolding with_pieces
pieces_taken no_region [] f = refl
pieces_taken no_region (e ∷ es) f = edges_taken es (λ x. f no_region (e ∷ x))
pieces_taken (b ▹▹ bs) es f = pieces_taken bs es (λ x. f (b ▹▹ x))

lines_read : (x : Nested)
    → decode_parts (typed_lines x)
    ≡ some (
    regions_on (shown_pieces x.output_nodes (x.entry ∷ x.unclaimed))
    (map an_edge (shown_deferred x.output_nodes (ascending x.entry x.unclaimed)))
    )
lines_read x = pieces_read x.output_nodes (x.entry ∷ x.unclaimed) _ _
    (deferred_read x.output_nodes (ascending x.entry x.unclaimed))

sheet_read : (g : Graph) (x : Nested) → form_of (typed_sheet g x) ≡ some (shown_form g x)
unfolding shown_form form_of
sheet_read g x = at x.outcome refl
  where
    at : (o : Outcome) → x.outcome ≡ o → form_of (typed_sheet g x) ≡ some (shown_form g x)
    at untouched e = rw e
    at whole e = rw (e, lines_read x, pieces_taken)
    at closed e = rw (e, lines_read x, pieces_taken)
    at leftover e = rw (e, lines_read x, pieces_taken)

pub form_round_trip : (g : Graph) (x : Nested) → decode_form (sheet_words (sheet_of g x)) ≡ some (shown_form g x)
unfolding decode_form
form_round_trip g x = rw (← sheet_written g x) (ap form_of_decoded (round_trip (typed_sheet g x)) ∙ sheet_read g x)

-- So two nested results whose sheets have the same words show the same form.
pub same_form : (g h : Graph) (x y : Nested) → sheet_words (sheet_of g x) ≡ sheet_words (sheet_of h y) → shown_form g x ≡ shown_form h y
same_form g h x y e =
    let p : some (shown_form g x) ≡ some (shown_form h y) = sym (form_round_trip g x) ∙ ap decode_form e ∙ form_round_trip h y in
    cc
