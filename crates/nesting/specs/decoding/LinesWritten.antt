-- The sheet of a nested form is its typed lines, written.
use Rattle.std.specs.Prelude.{◌≡◌, true, false, List, [], ◌∷◌, ◌++◌, map, ℕ, suc}
use Rattle.std.proofs.Math.Path.{refl}
use Rattle.std.proofs.Common.{◌∙◌}
use Rattle.std.proofs.lemmas.List.{map-append}
use Rattle.meaning.specs.Lists.{concat}
use Rattle.meaning.specs.Graph.{Instr, Value, const, input, instr, output, bool, undef, held, Graph, no_value}
use Rattle.meaning.specs.Runs.{Node, block, select, loop, exit, Nodes, ⟨⟩, ◌▸◌, Cases, ∅, case}
use Rattle.meaning.specs.Text.{joined}
use Rattle.nesting.specs.Nesting.{Outcome, LazyCond, undef_cond, false_cond, true_cond, merge, LazyConds, ◌&◌, DeferredTarget}
use Rattle.nesting.specs.Nesting.{to_region, to_return, DeferredEdgeBundle, untouched, whole, closed, leftover, Piece, Nested}
use Rattle.nesting.specs.Sheet.{condition, conditions, target, value, items, node_lines, nodes_lines, case_lines, piece_lines}
use Rattle.nesting.specs.Sheet.{defer_fields, defer_lines, ascending, lines_of, sheet_of}
use Rattle.nesting.specs.decoding.Lines.{value_field, item_field, target_field, condition_field, condition_fields, fields, as_sheet}
use Rattle.nesting.specs.decoding.Lines.{typed_node, typed_nodes, typed_cases, typed_pieces, typed_edge, typed_deferred, typed_lines}
use Rattle.nesting.specs.decoding.Lines.{typed_sheet}
use Rattle.nesting.specs.ShownForm.{target_word, shown_cond, shown_conds, block_items, shown_value}

target_written : (t : DeferredTarget) → target_field (target_word t) ≡ target t
target_written (to_region r) = refl
target_written to_return = refl

mutual
  unfolding condition condition_field shown_cond

  condition_written : (c : LazyCond) → condition_field (shown_cond c) ≡ condition c
  condition_written undef_cond = refl
  condition_written false_cond = refl
  condition_written true_cond = refl
  condition_written (merge n kind v cs) = rw (conditions_written cs)

  conditions_written : (cs : LazyConds) → condition_fields (shown_conds cs) ≡ conditions cs
  conditions_written LazyConds.no_conds = refl
  conditions_written (c & cs) = rw (condition_written c, conditions_written cs)

module _ (nodes : List ℕ) where
  value_written : (v : Value) → value_field (shown_value nodes v) ≡ value nodes v
  unfolding joined
  value_written (const i) = refl
  value_written (input r k) = refl
  value_written (instr r k) = refl
  value_written (output o) = refl
  value_written (bool false) = refl
  value_written (bool true) = refl
  value_written (undef ty) = refl
  value_written no_value = refl
  value_written (held r k) = refl

  values_written : (vs : List Value) → map value_field (map (shown_value nodes) vs) ≡ map (value nodes) vs
  values_written [] = refl
  values_written (v ∷ vs) = rw (value_written v, values_written vs)

  items_written : (r k : ℕ) (is : List Instr) → map item_field (block_items nodes r k is) ≡ items nodes r k is
  items_written r k [] = refl
  items_written r k (i ∷ is) = rw (values_written i.reads, items_written r (suc k) is)

  mutual
    unfolding node_lines typed_node

    node_written : (k : Node) → map fields (typed_node nodes k) ≡ node_lines nodes k
    node_written (block n r k is) = rw (items_written r k is)
    node_written (select x cs) = rw (value_written x.scrutinee, cases_written cs)
    node_written (loop x ks) =
        rw (values_written x.initial_inputs, value_written x.repeat, values_written x.outputs, nodes_written ks)
    node_written (exit n op vs) = rw (values_written vs)

    nodes_written : (ks : Nodes) → map fields (typed_nodes nodes ks) ≡ nodes_lines nodes ks
    nodes_written ⟨⟩ = refl
    nodes_written (k ▸ ks) = rw (map-append fields (typed_node nodes k) (typed_nodes nodes ks), node_written k, nodes_written ks)

    cases_written : (cs : Cases) → map fields (typed_cases nodes cs) ≡ case_lines nodes cs
    cases_written ∅ = refl
    cases_written (case c ks cs) =
        rw (
          values_written c.outputs,
          map-append fields (typed_nodes nodes ks)
              (typed_cases nodes cs),
          nodes_written ks,
          cases_written cs,
        )

  pieces_written : (ps : List Piece) → map fields (typed_pieces nodes ps) ≡ concat (map (piece_lines nodes) ps)
  pieces_written [] = refl
  pieces_written (p ∷ ps) =
      let ks = p.children in
      rw (
        values_written p.outputs,
        map-append fields (typed_nodes nodes ks) (typed_pieces nodes ps),
        nodes_written ks,
        pieces_written ps,
      )

  edges_written : (r : ℕ) (es : List DeferredEdgeBundle) → map fields (map (typed_edge nodes r) es) ≡ map (defer_fields nodes r) es
  edges_written r [] = refl
  edges_written r (e ∷ es) =
      rw (target_written e.target, values_written e.target_inputs, condition_written e.condition, edges_written r es)

  deferred_written : (ps : List Piece) → map fields (typed_deferred nodes ps) ≡ concat (map (defer_lines nodes) ps)
  deferred_written [] = refl
  deferred_written (p ∷ ps) =
      map-append fields (map (typed_edge nodes p.region) p.deferred) (typed_deferred nodes ps)
      ∙ λ i. edges_written p.region p.deferred i ++ deferred_written ps i

lines_written : (x : Nested) → map fields (typed_lines x) ≡ lines_of x
lines_written x =
    let nodes = x.output_nodes in
    let ps = x.entry ∷ x.unclaimed in
    let qs = ascending x.entry x.unclaimed in
    map-append fields (typed_pieces nodes ps) (typed_deferred nodes qs)
    ∙ λ i. pieces_written nodes ps i ++ deferred_written nodes qs i

pub sheet_written : (g : Graph) (x : Nested) → as_sheet (typed_sheet g x) ≡ sheet_of g x
unfolding sheet_of
sheet_written g x = at x.outcome refl
  where
    at : (o : Outcome) → x.outcome ≡ o → as_sheet (typed_sheet g x) ≡ sheet_of g x
    at untouched e = rw e
    at whole e = rw (e, lines_written x)
    at closed e = rw (e, lines_written x)
    at leftover e = rw (e, lines_written x)
