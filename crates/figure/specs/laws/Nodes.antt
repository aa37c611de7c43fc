-- The figure of lists of nodes: of a list behind another, of a region's blocks, of nodes looked up.
use Rattle.std.specs.Prelude.{◌≡◌, ℕ, suc, ◌+◌, ◌*◌}
use Rattle.std.proofs.Math.Path.{refl}
use Rattle.std.proofs.Common.{ap}
use mathlib.Core.List.{List, [], ◌∷◌}
use native.Mathlib.Omega.{arith}
use Rattle.std.proofs.Math.ListN.{length}
use Rattle.meaning.specs.Lists.{total}
use Rattle.meaning.specs.Graph.{Value, Instr, Graph, region}
use Rattle.meaning.specs.Runs.{Node, block, select, loop, exit, Nodes, ⟨⟩, ◌▸◌, Cases, ∅, case}
use Rattle.nesting.specs.Nesting.{join, blocks_from, blocks_of, LookUp, NodeOutput, look_up_reads, look_up_each, look_up_node}
use Rattle.nesting.specs.Nesting.{look_up_nodes, look_up_cases, NestState, Piece, look_up_piece}
use Rattle.nesting.specs.Sheet.{node_figure, figure, dearest}

abbrev pub block_cost : List Instr → ℕ
block_cost is = total (λ i. i.cost) is

module _ (test_cost : ℕ) where
  pub figure_join : (a b : Nodes) → figure test_cost (join a b) ≡ figure test_cost a + figure test_cost b
  unfolding figure
  figure_join ⟨⟩ b = omega arith
  figure_join (k ▸ a) b = let z = figure_join a b in omega arith

  figure_from : (n r k : ℕ) (bs : List (List Instr)) → figure test_cost (blocks_from n r k bs) ≡ total block_cost bs
  unfolding figure
  figure_from n r k [] = refl
  figure_from n r k (b ∷ bs) = let z = figure_from (suc n) r (k + length b) bs in omega arith

  pub figure_blocks : (g : Graph) (r : ℕ) → figure test_cost (blocks_of g r) ≡ total block_cost (region g r).blocks
  figure_blocks g r = figure_from _ r 0 (region g r).blocks

  -- A look_up changes values, and no cost.
  module _ (ρ : Value → LookUp Value) (os : List NodeOutput) where
    pub block_looked_up : (is : List Instr) → block_cost (look_up_each (look_up_reads ρ) is).value ≡ block_cost is
    block_looked_up [] = refl
    block_looked_up (i ∷ is) = let z = block_looked_up is in omega arith

    mutual
      unfolding figure look_up_nodes

      pub node_looked_up : (k : Node) → node_figure test_cost (look_up_node ρ os k).value ≡ node_figure test_cost k
      node_looked_up (block n r k is) = block_looked_up is
      node_looked_up (select x cs) = ap (λ n. test_cost + n) (cases_looked_up cs x.number 0)
      node_looked_up (loop x ks) = ap (λ n. x.limit * (n + test_cost)) (nodes_looked_up ks)
      node_looked_up (exit n op vs) = refl

      pub nodes_looked_up : (ks : Nodes) → figure test_cost (look_up_nodes ρ os ks).value ≡ figure test_cost ks
      nodes_looked_up ⟨⟩ = refl
      nodes_looked_up (k ▸ ks) = let a = node_looked_up k in let b = nodes_looked_up ks in omega arith

      pub cases_looked_up : (cs : Cases) (n j : ℕ) → dearest test_cost (look_up_cases ρ os cs n j).value ≡ dearest test_cost cs
      cases_looked_up ∅ n j = refl
      cases_looked_up (case c ks cs) n j = let a = nodes_looked_up ks in let b = cases_looked_up cs n (suc j) in omega arith

  -- The figure of a sheet is that of the rewritten children of the entry.
  pub piece_looked_up : (g : Graph) (s : NestState) (p : Piece)
      → figure test_cost (look_up_piece g s p).value.children ≡ figure test_cost p.children
  unfolding look_up_piece
  piece_looked_up g s p = nodes_looked_up _ _ p.children
