-- No value of an answer is `no_value`, and each output stands in the answer's list of outputs' nodes. Of other values nothing is said.
use Rattle.std.specs.Prelude.{◌≡◌, Bool, ℕ, suc, eqb, get_or}
use Rattle.std.proofs.Common.{sym, arith}
use Rattle.std.proofs.Math.Path.{subst}
use Rattle.std.proofs.Math.Bool.{true, false}
use mathlib.Core.List.{List, [], ◌∷◌, map}
use Rattle.std.proofs.Math.Option.{Option, none, some}
use Rattle.std.proofs.Math.ListN.{length}
use Rattle.std.proofs.lemmas.List.{length-map}
use Rattle.meaning.specs.Lists.{All, filter}
use Rattle.meaning.specs.facts.Elements.{all_mapped, all_filter, all_replicate}
use Rattle.meaning.specs.Graph.{Value, undef, Instr, Graph, region}
use Rattle.meaning.specs.Runs.{Node, Nodes, ⟨⟩, ◌▸◌, block, select, loop, exit, Cases, ∅, case}
use Rattle.format.specs.Store.{Answer, accepted, refused}
use Rattle.nesting.specs.Nesting.{LookUp, DeferredEdgeBundleSet, IncomingEdgeCount, StructurizeRegionState, not_begun, in_progress}
use Rattle.nesting.specs.Nesting.{claimed, ready, NodeOutput, NestState, StepAnswer, done, turned_away, condition_in, ClaimedRegion}
use Rattle.nesting.specs.Nesting.{case_outputs, look_up_last, look_up_bundle, look_up_reads, look_up_node, look_up_nodes}
use Rattle.nesting.specs.Nesting.{look_up_cases, Outcome, untouched, whole, closed, leftover, Piece, Nested, initial_state}
use Rattle.nesting.specs.Nesting.{outcome_of, unclaimed_from, look_up_piece, conclude_with, conclude_by, conclude}
use Rattle.nesting.specs.Nesting.{incoming_edge_counts, try_claim_edge_bundle, structurize_func_by, structurize_func}
use Rattle.nesting.specs.AnswerValues.{Named, AllNamed, InstrsNamed, NodeNamed, NodesNamed, CasesNamed, BundleNamed, SetNamed}
use Rattle.nesting.specs.AnswerValues.{PieceNamed, NestedNamed}
use Rattle.nesting.specs.steps.Post.{Post}
use Rattle.nesting.specs.steps.RegionsLeft.{AnyRefusal}
use Rattle.nesting.proofs.named.NamedLookUps.{StateNamed, OutputsNamed, GoodLookUp, at_place, look_up_last_named, look_ups_named}
use Rattle.nesting.proofs.named.NamedSteps.{NamedKept}
use Rattle.nesting.proofs.named.NamedSelects.{condition_named}
use Rattle.nesting.proofs.named.NamedClaims.{ClaimMaybe, RegionNamed, try_claim_named}

module _ (M : ℕ) where
  -- ---- the last rewriting
  module _ (ρ : Value → LookUp Value) (f : (v : Value) → Named M v → Named M (ρ v).value) where
    instrs_last : (is : List Instr) → InstrsNamed M is → InstrsNamed M (map (λ i. (look_up_reads ρ i).value) is)
    instrs_last is h = all_mapped (λ i. (look_up_reads ρ i).value) (λ i. AllNamed M i.reads) (λ i. AllNamed M i.reads)
        (λ i k. look_ups_named M ρ f i.reads k) is h

    module _ (os : List NodeOutput) (outs : OutputsNamed M os) where
      case_outputs_named : (n j : ℕ) → AllNamed M (case_outputs n j os)
      case_outputs_named n j =
          all_mapped (λ o. get_or o.values j (undef 0)) (λ o. AllNamed M o.values) (Named M) (λ o h. at_place M o.values h j)
          (filter (λ o. eqb n o.node) os)
          (all_filter (λ o. AllNamed M o.values) (λ o. eqb n o.node) os outs)

      mutual
        unfolding look_up_nodes NodesNamed

        node_last : (x : Node) → NodeNamed M x → NodeNamed M (look_up_node ρ os x).value
        node_last (block n r k is) h = instrs_last is h
        node_last (select x cs) h = (f x.scrutinee h.0, cases_last cs h.1 x.number 0)
        node_last (loop x ks) h = (
          look_ups_named M ρ f x.initial_inputs h.0,
          look_ups_named M ρ f x.outputs h.1,
          f x.repeat h.2,
          nodes_last ks h.3,
        )
        node_last (exit n op vs) h = look_ups_named M ρ f vs h

        pub nodes_last : (ks : Nodes) → NodesNamed M ks → NodesNamed M (look_up_nodes ρ os ks).value
        nodes_last ⟨⟩ h = tt
        nodes_last (x ▸ ks) h = (node_last x h.0, nodes_last ks h.1)

        cases_last : (cs : Cases) → CasesNamed M cs → (n j : ℕ) → CasesNamed M (look_up_cases ρ os cs n j).value
        cases_last ∅ h n j = tt
        cases_last (case c ks cs) h n j =
            (look_ups_named M ρ f (case_outputs n j os) (case_outputs_named n j), nodes_last ks h.1, cases_last cs h.2 n (suc j))

  module _ (g : Graph) (s : NestState) (good : GoodLookUp M s) where
    piece_last : (p : Piece) → PieceNamed M p → PieceNamed M (look_up_piece g s p).value
    unfolding look_up_piece
    piece_last p h =
        let es = s.region_input_rewrites in
        let f = look_up_last_named M es good.log in (
          nodes_last (look_up_last es) f s.node_outputs good.outputs p.children h.0,
          look_ups_named M (look_up_last es) f p.outputs h.1,
          all_mapped (λ e. (look_up_bundle (look_up_last es) (condition_in p.deferred) e).value) (BundleNamed M) (BundleNamed M)
              (λ e k. (look_ups_named M (look_up_last es) f e.target_inputs k.0, condition_named M p.deferred e k)) p.deferred
              h.2,
        )

    unclaimed_named : (r : ℕ) (xs : List StructurizeRegionState) → All (StateNamed M) xs → All (PieceNamed M) (unclaimed_from g r xs)
    unclaimed_named r [] h = tt
    unclaimed_named r (not_begun ∷ xs) h = unclaimed_named (suc r) xs h.1
    unclaimed_named r (in_progress ∷ xs) h = unclaimed_named (suc r) xs h.1
    unclaimed_named r (claimed ∷ xs) h = unclaimed_named (suc r) xs h.1
    unclaimed_named r (ready b ks d ∷ xs) h = ((h.0.0, tt, h.0.1), unclaimed_named (suc r) xs h.1)

module _ (g : Graph) (s : NestState) (good : GoodLookUp (length s.node_outputs) s) where
  concluded_named : (o : Outcome) (p : Piece) (ps : List Piece) → PieceNamed (length s.node_outputs) p
      → All (PieceNamed (length s.node_outputs)) ps
      → NestedNamed (conclude_with g s o p ps)
  concluded_named o p ps h hs =
      let M = length s.node_outputs in
      let many = sym (length-map s.node_outputs (λ o. o.node)) in
      record {
        entry = subst (λ m. PieceNamed m (look_up_piece g s p).value) many (piece_last M g s good p h);
        unclaimed = subst (λ m. All (PieceNamed m) (map (λ p. (look_up_piece g s p).value) ps)) many
            (all_mapped (λ p. (look_up_piece g s p).value) (PieceNamed M) (PieceNamed M) (piece_last M g s good) ps hs);
      }

  first_inputs : (d : DeferredEdgeBundleSet) → SetNamed (length s.node_outputs) d
      → AllNamed (length s.node_outputs) (get_or (map (λ e. e.target_inputs) d) 0 [])
  first_inputs [] h = tt
  first_inputs (e ∷ d) h = h.0.0

  by_outcome : (ks : Nodes) (d : DeferredEdgeBundleSet) → NodesNamed (length s.node_outputs) ks → SetNamed (length s.node_outputs) d
      → (o : Outcome)
      → NestedNamed (conclude_by g s ks d o)
  unfolding NodesNamed
  by_outcome ks d hk hd untouched = concluded_named untouched _ [] (tt, tt, tt) tt
  by_outcome ks d hk hd whole = concluded_named whole _ [] (hk, first_inputs d hd, tt) tt
  by_outcome ks d hk hd closed = concluded_named closed _ [] (hk, tt, tt) tt
  by_outcome ks d hk hd leftover =
      concluded_named leftover _ (unclaimed_from g 0 s.region_states) (hk, tt, hd)
      (unclaimed_named (length s.node_outputs) g s good 0 s.region_states good.states)

first_good : (M : ℕ) (g : Graph) → GoodLookUp M (initial_state g)
first_good M g = record { states = all_replicate (StateNamed M) not_begun tt (length g.regions); log = tt; outputs = tt }

-- The same of an answer, if it is one.
abbrev IfNamed : Answer Nested → Type 0
IfNamed (accepted n) = NestedNamed n
IfNamed (refused k w) = Unit

module _ (g : Graph) (each : (M r : ℕ) → RegionNamed M (region g r)) where
  conclude_named : (a : StepAnswer (Option ClaimedRegion))
      → ((M : ℕ) → Post AnyRefusal (λ o s. NamedKept M (AllNamed M []) (ClaimMaybe M) (initial_state g) o s) a) → IfNamed (conclude g a)
  unfolding conclude
  conclude_named (turned_away k w) p = tt
  conclude_named (done none s) p = tt
  conclude_named (done (some c) s) p =
      let M = length s.node_outputs in
      let h = (p M).post.good (omega arith) tt (first_good M g) in
      by_outcome g s h.0 c.children c.deferred_edges h.1.1 h.1.2 (outcome_of c.deferred_edges)

  func_named : (counts : List IncomingEdgeCount) → IfNamed (structurize_func_by g counts)
  unfolding structurize_func_by NodesNamed
  func_named counts = go (eqb (get_or counts g.entry 0) 1)
    where
      go : (b : Bool) → IfNamed (elim b [
        | false ↦ accepted (conclude_by g (initial_state g) ⟨⟩ [] untouched)
        | true ↦ conclude g (try_claim_edge_bundle g counts (suc (length g.regions)) g.entry 1 [] (initial_state g))
      ])
      go false = by_outcome g (initial_state g) (first_good 0 g) ⟨⟩ [] tt tt untouched
      go true = conclude_named _ (λ M. try_claim_named M g (each M) counts (suc (length g.regions)) g.entry 1 [] (initial_state g))

  pub answer_named : (n : Nested) → structurize_func g ≡ accepted n → NestedNamed n
  unfolding structurize_func
  answer_named n e = subst IfNamed e (func_named (incoming_edge_counts g))
