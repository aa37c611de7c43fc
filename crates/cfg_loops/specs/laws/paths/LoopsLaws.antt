-- For the proofs of loops.rt: the steps of structurize_loop, by how far they came; each may find its table full.
use Rattle.std.specs.Prelude.{◌≡◌, List, ℕ, length}
use Rattle.meaning.specs.Graph.{region}
use Rattle.record.specs.Stands.{OfRecord}
use Rattle.std.specs.Prelude.{Ok}
use Rattle.state_words.specs.Totals.{Defined, Made, Done, Full}
use Rattle.state_words.specs.Sections.{word, stored, set_lengths, children, bodies}
use Rattle.state_nodes.specs.NodeTables.{Adds}
use Rattle.state_words.specs.Totals.{Defines}
use Rattle.state_sets.specs.SetTables.{swap_removed}
use Rattle.state_nodes.specs.NodeTables.{Loop}
use Rattle.cfg_lookups.specs.Materialized.{Materializes}
use Rattle.cfg_bundles.specs.EdgesAndCases.{condition_in}
use Rattle.cfg_loops.specs.Inputs.{backedge_inputs}
use Rattle.cfg_loops.specs.Exits.{exits_added}
use Rattle.nesting.specs.Nesting.{most_regions, most_nodes}
use Rattle.cfg_loops.specs.Loops.{AddsLoop, adds_loop, LoopDefined, loop_defined, no_value, no_node, EntersInputs, StructurizesLoop}
use Rattle.cfg_loops.specs.Loops.{looped, no_wrapper, no_loop}

-- ---- The functions, path by path.
module _ {r : ℕ} {l : List ℕ} where
  pub loop_put : {node repeat kept body h : ℕ} {l₁ l' : List ℕ} → body ≡ word l children r
      → Adds l l₁ (Loop body node r repeat kept) h → l' ≡ stored l₁ children r h → AddsLoop r node repeat kept l l'
  loop_put e a s = adds_loop (rw e at a) s

  module _ {c kept : ℕ} {l₁ : List ℕ} {a : Defined} (value : Materializes l c l₁ a) where
    pub value_full : a ≡ Full → LoopDefined r c kept l l₁ Full
    value_full e = no_value (rw e at value)

    module _ {x : ℕ} (some : a ≡ Ok x) {l₂ : List ℕ} {b : Defined} (node : Defines 1 most_nodes l₁ l₂ b) where
      pub node_full : b ≡ Full → LoopDefined r c kept l l₂ Full
      node_full e = no_node (rw some at value) (rw e at node)

      pub loop_whole : {n : ℕ} → b ≡ Ok n → {l' : List ℕ} → AddsLoop r n x kept l₂ l' → LoopDefined r c kept l l' Done
      loop_whole e m = loop_defined (rw some at value) (rw e at node) m

module _ {r p n c : ℕ} {l vs l₁ : List ℕ} {a : Defined} (count : OfRecord l (λ g. n ≡ length (region g r).inputs))
    (values : vs ≡ backedge_inputs l p) {m : ℕ} (many : m ≡ word l set_lengths r) (condition : c ≡ condition_in l p m) {l₀ : List ℕ}
    (removed : l₀ ≡ swap_removed l r p) (region_more : Defines 0 most_regions l₀ l₁ a) where
  pub wrapper_full : a ≡ Full → StructurizesLoop r p l l₁ Full
  wrapper_full e = no_wrapper (rw (removed, e) at region_more)

  module _ {wrapper : ℕ} (some : a ≡ Ok wrapper) {h : ℕ} {l₂ : List ℕ} (inputs : EntersInputs r wrapper n l₁ vs l₂ h) {l₃ : List ℕ}
      {b : Made} (made : LoopDefined r c h l₂ l₃ b) where
    pub loop_full : b ≡ Full → StructurizesLoop r p l l₃ Full
    loop_full e = no_loop count (rw (removed, some) at region_more) (rw values at inputs) (rw (condition, many, e) at made)

    pub loop_made : b ≡ Done → {l₄ l' : List ℕ} → l₄ ≡ stored l₃ bodies r wrapper → OfRecord l₄ (λ g. l' ≡ exits_added g r l₄)
        → StructurizesLoop r p l l' Done
    loop_made e s x =
        looped count (rw (removed, some) at region_more) (rw values at inputs) (rw (condition, many, e) at made) (rw s at x)
