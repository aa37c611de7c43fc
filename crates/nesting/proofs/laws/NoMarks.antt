-- What nesting answers has no marked value: not in the children of a piece, not in its outputs, not in what its deferred edges pass on.
use Rattle.std.specs.Prelude.{◌≡◌, refl, Bool, true, false, List, [], ◌∷◌, map, ℕ, suc, eqb, get_or, length}
use Rattle.std.proofs.Common.{subst}
use Rattle.std.proofs.Math.Option.{Option, none, some}
use Rattle.meaning.specs.Graph.{Value, const, input, instr, output, bool, undef, held, no_value, Instr, Graph}
use Rattle.meaning.specs.Lists.{any}
use Rattle.meaning.specs.Runs.{Node, Nodes, ⟨⟩, ◌▸◌, block, select, loop, exit, Cases, ∅, case}
use Rattle.format.specs.Store
use Rattle.format.specs.Store.{accepted, refused}
use Rattle.nesting.specs.Nesting.{LazyCond, condition_in, look_up_bundle, outcome_of, incoming_edge_counts, DeferredEdgeBundle}
use Rattle.nesting.specs.Nesting.{DeferredEdgeBundleSet, Outcome, untouched, whole, closed, leftover, Piece, Nested, NestState}
use Rattle.nesting.specs.Nesting.{StepAnswer, done, turned_away, NodeOutput, RewriteEntry, unmarked, look_up_last, ClaimedRegion}
use Rattle.nesting.specs.Nesting.{IncomingEdgeCount, case_outputs, look_up_reads, look_up_node, look_up_nodes, look_up_cases}
use Rattle.nesting.specs.Nesting.{look_up_piece, unclaimed_from, conclude_with, conclude_by, conclude, initial_state}
use Rattle.nesting.specs.Nesting.{try_claim_edge_bundle, structurize_func_by, structurize_func}
use Rattle.nesting.specs.AnswerValues.{marked, node_marked, nodes_marked, cases_marked, piece_marked, NoMarks}

unmarked_is : (v : Value) → marked (unmarked v) ≡ false
unmarked_is (held r k) = refl
unmarked_is (const i) = refl
unmarked_is (input r k) = refl
unmarked_is (instr r k) = refl
unmarked_is (output o) = refl
unmarked_is (bool b) = refl
unmarked_is (undef ty) = refl
unmarked_is no_value = refl

module _ (es : List RewriteEntry) where
  abbrev last : Value → Value
  last v = (look_up_last es v).value

  values_clear : (vs : List Value) → any marked (map last vs) ≡ false
  values_clear [] = refl
  values_clear (v ∷ vs) = rw (unmarked_is _, values_clear vs)

  reads_clear : (is : List Instr) → any (λ i. any marked i.reads) (map (λ i. (look_up_reads (look_up_last es) i).value) is) ≡ false
  reads_clear [] = refl
  reads_clear (i ∷ is) = rw (values_clear i.reads, reads_clear is)

  module _ (os : List NodeOutput) where
    mutual
      unfolding look_up_nodes nodes_marked

      node_clear : (x : Node) → node_marked (look_up_node (look_up_last es) os x).value ≡ false
      node_clear (block n r k is) = reads_clear is
      node_clear (select x cs) = rw (unmarked_is _, cases_clear cs x.number 0)
      node_clear (loop x ks) = rw (values_clear x.initial_inputs, values_clear x.outputs, unmarked_is _, nodes_clear ks)
      node_clear (exit n op vs) = values_clear vs

      nodes_clear : (ks : Nodes) → nodes_marked (look_up_nodes (look_up_last es) os ks).value ≡ false
      nodes_clear ⟨⟩ = refl
      nodes_clear (x ▸ ks) = rw (node_clear x, nodes_clear ks)

      cases_clear : (cs : Cases) (n j : ℕ) → cases_marked (look_up_cases (look_up_last es) os cs n j).value ≡ false
      cases_clear ∅ n j = refl
      cases_clear (case c ks cs) n j = rw (values_clear (case_outputs n j os), nodes_clear ks, cases_clear cs n (suc j))

module _ (g : Graph) (s : NestState) where
  bundles_clear : (c : DeferredEdgeBundle → LazyCond) (d : DeferredEdgeBundleSet)
      → any (λ e. any marked e.target_inputs) (map (λ e. (look_up_bundle (look_up_last s.region_input_rewrites) c e).value) d) ≡ false
  bundles_clear c [] = refl
  bundles_clear c (e ∷ d) = rw (values_clear s.region_input_rewrites e.target_inputs, bundles_clear c d)

  piece_clear : (p : Piece) → piece_marked (look_up_piece g s p).value ≡ false
  unfolding look_up_piece
  piece_clear p =
      let es = s.region_input_rewrites in
      let edges = bundles_clear (condition_in p.deferred) p.deferred in
      rw (nodes_clear es s.node_outputs p.children, values_clear es p.outputs, edges)

  pieces_clear : (ps : List Piece) → any piece_marked (map (λ p. (look_up_piece g s p).value) ps) ≡ false
  pieces_clear [] = refl
  pieces_clear (p ∷ ps) = rw (piece_clear p, pieces_clear ps)

concluded_clear : (g : Graph) (s : NestState) (o : Outcome) (p : Piece) (ps : List Piece) → NoMarks (conclude_with g s o p ps)
concluded_clear g s o p ps = record { entry = piece_clear g s p; unclaimed = pieces_clear g s ps }

by_outcome : (g : Graph) (s : NestState) (ks : Nodes) (d : DeferredEdgeBundleSet) (o : Outcome) → NoMarks (conclude_by g s ks d o)
by_outcome g s ks d untouched = concluded_clear g s untouched _ []
by_outcome g s ks d whole = concluded_clear g s whole _ []
by_outcome g s ks d closed = concluded_clear g s closed _ []
by_outcome g s ks d leftover = concluded_clear g s leftover _ (unclaimed_from g 0 s.region_states)

-- The same of an answer, if it is one.
abbrev Clear : Store.Answer Nested → Type 0
Clear (accepted n) = NoMarks n
Clear (refused k w) = Unit

conclude_clear : (g : Graph) (a : StepAnswer (Option ClaimedRegion)) → Clear (conclude g a)
unfolding conclude
conclude_clear g (turned_away k w) = tt
conclude_clear g (done none s) = tt
conclude_clear g (done (some c) s) = by_outcome g s c.children c.deferred_edges (outcome_of c.deferred_edges)

func_clear : (g : Graph) (counts : List IncomingEdgeCount) → Clear (structurize_func_by g counts)
unfolding structurize_func_by
func_clear g counts = go (eqb (get_or counts g.entry 0) 1)
  where
    go : (b : Bool) → Clear (elim b [
      | false ↦ accepted (conclude_by g (initial_state g) ⟨⟩ [] untouched)
      | true ↦ conclude g (try_claim_edge_bundle g counts (suc (length g.regions)) g.entry 1 [] (initial_state g))
    ])
    go false = by_outcome g (initial_state g) ⟨⟩ [] untouched
    go true = conclude_clear g _

pub no_marks : (g : Graph) (n : Nested) → structurize_func g ≡ accepted n → NoMarks n
unfolding structurize_func
no_marks g n e = subst Clear e (func_clear g (incoming_edge_counts g))
