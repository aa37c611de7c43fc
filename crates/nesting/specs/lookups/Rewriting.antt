-- A look_up by its two parts, the value and the note; and values rewritten by any function, as the look-ups do it.
use Rattle.std.specs.Prelude.{◌≡◌, refl, Bool, List, [], ◌∷◌, map, ℕ, suc}
use Rattle.std.proofs.Common.{ap, ◌∙◌}
use Rattle.meaning.specs.Graph.{Value, Instr}
use Rattle.meaning.specs.Runs.{SelectNode, LoopNode, Node, Nodes, ⟨⟩, ◌▸◌, block, select, loop, exit, Cases, ∅, case}
use Rattle.nesting.specs.Nesting.{DeferredEdgeBundle, RewriteEntry, NodeOutput, LookUp, plain, look_up, look_up_last, edge_bundle}
use Rattle.nesting.specs.Nesting.{ClaimedRegion, claimed_as, NestState, done, with_twice, look_up_each, rewrite_cases}
use Rattle.nesting.specs.Nesting.{MaybeClaimedRegion, ok, err, look_up_case, look_up_select, look_up_case_region, look_up_loop}
use Rattle.nesting.specs.Nesting.{look_up_node, look_up_nodes, look_up_cases}

abbrev pub rewrite : List RewriteEntry → Value → Value
rewrite es v = (look_up es v).value

-- by the last look_up, which takes the mark off
abbrev pub rewrite_last : List RewriteEntry → Value → Value
rewrite_last es v = (look_up_last es v).value

abbrev pub meets : List RewriteEntry → Value → Bool
meets es v = (look_up es v).twice

module _ (ρ : Value → Value) where
  abbrev pub rewrite_bundle : DeferredEdgeBundle → DeferredEdgeBundle
  rewrite_bundle e = edge_bundle e.target e.accumulated_count (map ρ e.target_inputs) e.condition

  abbrev pub rewrite_claimed : ClaimedRegion → ClaimedRegion
  rewrite_claimed c =
      claimed_as c.origin c.structured_body (map ρ c.structured_body_inputs) c.children (map rewrite_bundle c.deferred_edges)

  abbrev pub rewrite_case : MaybeClaimedRegion → MaybeClaimedRegion
  rewrite_case (err d) = err (map rewrite_bundle d)
  rewrite_case (ok c) = ok (rewrite_claimed c)

  abbrev pub rewrite_reads : Instr → Instr
  rewrite_reads i = record { opcode = i.opcode; type = i.type; cost = i.cost; reads = map ρ i.reads }

  module _ (os : List NodeOutput) where
    abbrev pub rewrite_select : SelectNode → SelectNode
    rewrite_select x = (look_up_select (λ v. plain (ρ v)) os x).value

    abbrev pub rewrite_loop : LoopNode → LoopNode
    rewrite_loop x = (look_up_loop (λ v. plain (ρ v)) os x).value

    abbrev pub rewrite_node : Node → Node
    rewrite_node x = (look_up_node (λ v. plain (ρ v)) os x).value

    abbrev pub rewrite_nodes : Nodes → Nodes
    rewrite_nodes ks = (look_up_nodes (λ v. plain (ρ v)) os ks).value

    abbrev pub rewrite_cases_of : Cases → ℕ → ℕ → Cases
    rewrite_cases_of cs n j = (look_up_cases (λ v. plain (ρ v)) os cs n j).value

-- ---- what a look_up gives is what its values give
module _ (look : Value → LookUp Value) where
  abbrev value_of : Value → Value
  value_of v = (look v).value

  case_value : (c : MaybeClaimedRegion) → (look_up_case look c).value ≡ rewrite_case value_of c
  case_value (ok c) = refl
  case_value (err d) = refl

  cases_value : (cs : List MaybeClaimedRegion) → map (λ c. (look_up_case look c).value) cs ≡ map (rewrite_case value_of) cs
  cases_value [] = refl
  cases_value (c ∷ cs) =
      ap (λ x. x ∷ map (λ c. (look_up_case look c).value) cs) (case_value c) ∙ ap (λ l. rewrite_case value_of c ∷ l) (cases_value cs)

  module _ (os : List NodeOutput) where
    mutual
      unfolding look_up_nodes

      node_value : (x : Node) → (look_up_node look os x).value ≡ rewrite_node value_of os x
      node_value (block n r k is) = refl
      node_value (select x cs) = ap (λ c. select (rewrite_select value_of os x) c) (of_cases cs x.number 0)
      node_value (loop x body) = ap (λ ks. loop (rewrite_loop value_of os x) ks) (nodes_value body)
      node_value (exit n op vs) = refl

      pub nodes_value : (ks : Nodes) → (look_up_nodes look os ks).value ≡ rewrite_nodes value_of os ks
      nodes_value ⟨⟩ = refl
      nodes_value (x ▸ ks) =
          ap (λ y. y ▸ (look_up_nodes look os ks).value) (node_value x) ∙ ap (λ l. rewrite_node value_of os x ▸ l) (nodes_value ks)

      of_cases : (cs : Cases) (n j : ℕ) → (look_up_cases look os cs n j).value ≡ rewrite_cases_of value_of os cs n j
      of_cases ∅ n j = refl
      of_cases (case c body cs) n j =
          let given = (look_up_case_region look os c n j).value in
          ap (λ ks. case given ks (look_up_cases look os cs n (suc j)).value) (nodes_value body)
          ∙ ap (λ more. case given (rewrite_nodes value_of os body) more) (of_cases cs n (suc j))

-- the cases of a select, looked up
pub rewrite_cases_is : (cs : List MaybeClaimedRegion) (s : NestState)
    → rewrite_cases cs s ≡ done (map (rewrite_case (rewrite s.region_input_rewrites)) cs)
    (with_twice (look_up_each (look_up_case (look_up s.region_input_rewrites)) cs).twice s)
unfolding rewrite_cases
rewrite_cases_is cs s =
    ap (λ l. done l (with_twice (look_up_each (look_up_case (look_up s.region_input_rewrites)) cs).twice s))
    (cases_value (look_up s.region_input_rewrites) cs)
