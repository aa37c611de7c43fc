-- What is said of the values of an answer: none is marked, none is `no_value` or an output out of range. Both cover all of each piece.
use Rattle.std.specs.Prelude.{◌≡◌, Bool, true, false, ◌||◌, List, ℕ, ◌<◌, length}
use Rattle.meaning.specs.Graph.{Value, const, input, instr, output, bool, undef, held, no_value, Instr}
use Rattle.meaning.specs.Lists.{any, All}
use Rattle.meaning.specs.Runs.{Node, Nodes, ⟨⟩, ◌▸◌, block, select, loop, exit, Cases, ∅, case}
use Rattle.nesting.specs.Nesting.{LazyCond, undef_cond, false_cond, true_cond, merge, LazyConds, no_conds, ◌&◌, DeferredEdgeBundle}
use Rattle.nesting.specs.Nesting.{DeferredEdgeBundleSet, Piece, Nested}

abbrev pub marked : Value → Bool
marked (held r k) = true
marked (const i) = false
marked (input r k) = false
marked (instr r k) = false
marked (output o) = false
marked (bool b) = false
marked (undef ty) = false
marked no_value = false

-- Whether a marked value stands in them.
unfoldable mutual
  pub node_marked : Node → Bool
  node_marked (block n r k is) = any (λ i. any marked i.reads) is
  node_marked (select x cs) = marked x.scrutinee || cases_marked cs
  node_marked (loop x ks) = any marked x.initial_inputs || (any marked x.outputs || (marked x.repeat || nodes_marked ks))
  node_marked (exit n op vs) = any marked vs

  pub nodes_marked : Nodes → Bool
  nodes_marked ⟨⟩ = false
  nodes_marked (x ▸ xs) = node_marked x || nodes_marked xs

  pub cases_marked : Cases → Bool
  cases_marked ∅ = false
  cases_marked (case c ks cs) = any marked c.outputs || (nodes_marked ks || cases_marked cs)

abbrev pub piece_marked : Piece → Bool
piece_marked p = nodes_marked p.children || (any marked p.outputs || any (λ e. any marked e.target_inputs) p.deferred)

-- No piece of the answer has a mark.
pub record NoMarks (n : Nested) : Type 0 where
  pub entry : piece_marked n.entry ≡ false
  pub unclaimed : any piece_marked n.unclaimed ≡ false

-- No `no_value`, and no output with a number of M or above.
module _ (M : ℕ) where
  abbrev pub Named : Value → Type 0
  Named (output o) = o < M
  Named no_value = ⊥
  Named (const i) = Unit
  Named (input r k) = Unit
  Named (instr r k) = Unit
  Named (bool b) = Unit
  Named (undef ty) = Unit
  Named (held r k) = Unit

  abbrev pub AllNamed : List Value → Type 0
  AllNamed vs = All Named vs

  abbrev pub InstrsNamed : List Instr → Type 0
  InstrsNamed is = All (λ i. AllNamed i.reads) is

  unfoldable mutual
    pub NodeNamed : Node → Type 0
    NodeNamed (block n r k is) = InstrsNamed is
    NodeNamed (select x cs) = Named x.scrutinee × CasesNamed cs
    NodeNamed (loop x ks) = AllNamed x.initial_inputs × AllNamed x.outputs × Named x.repeat × NodesNamed ks
    NodeNamed (exit n op vs) = AllNamed vs

    pub NodesNamed : Nodes → Type 0
    NodesNamed ⟨⟩ = Unit
    NodesNamed (k ▸ ks) = NodeNamed k × NodesNamed ks

    pub CasesNamed : Cases → Type 0
    CasesNamed ∅ = Unit
    CasesNamed (case c ks cs) = AllNamed c.outputs × NodesNamed ks × CasesNamed cs

  unfoldable mutual
    pub CondNamed : LazyCond → Type 0
    CondNamed undef_cond = Unit
    CondNamed false_cond = Unit
    CondNamed true_cond = Unit
    CondNamed (merge n kind v cs) = Named v × CondsNamed cs

    pub CondsNamed : LazyConds → Type 0
    CondsNamed no_conds = Unit
    CondsNamed (c & cs) = CondNamed c × CondsNamed cs

  abbrev pub BundleNamed : DeferredEdgeBundle → Type 0
  BundleNamed e = AllNamed e.target_inputs × CondNamed e.condition

  abbrev pub SetNamed : DeferredEdgeBundleSet → Type 0
  SetNamed d = All BundleNamed d

  abbrev pub PieceNamed : Piece → Type 0
  PieceNamed p = NodesNamed p.children × AllNamed p.outputs × SetNamed p.deferred

-- No value of what is nested is `no_value` or an output out of range.
pub record NestedNamed (n : Nested) : Type 0 where
  pub entry : PieceNamed (length n.output_nodes) n.entry
  pub unclaimed : All (PieceNamed (length n.output_nodes)) n.unclaimed
