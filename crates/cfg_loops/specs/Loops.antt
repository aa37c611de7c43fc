-- A loop made of a claimed region, as the words alone have it.
use Rattle.std.specs.Prelude.{◌≡◌, List, ℕ, length}
use Rattle.meaning.specs.Graph.{region}
use Rattle.record.specs.Stands.{OfRecord}
use Rattle.std.specs.Prelude.{Ok}
use Rattle.state_words.specs.Totals.{Made, Done, Full}
use Rattle.state_words.specs.Sections.{word, stored, set_lengths, children, bodies}
use Rattle.state_nodes.specs.NodeTables.{Adds, inserted}
use Rattle.state_words.specs.Totals.{Defines}
use Rattle.state_sets.specs.SetTables.{swap_removed}
use Rattle.state_nodes.specs.NodeTables.{Loop}
use Rattle.cfg_lookups.specs.Materialized.{Materializes}
use Rattle.cfg_bundles.specs.EdgesAndCases.{condition_in}
use Rattle.cfg_loops.specs.Inputs.{RewritesValues, TakesInputs, backedge_inputs}
use Rattle.cfg_loops.specs.Exits.{exits_added}
use Rattle.nesting.specs.Nesting.{most_regions, most_nodes}
use Rattle.state_words.specs.Rows.{entry_renumber, nodes_at, regions_at}

-- The loop's cell takes the place of region r's children.
pub data AddsLoop (r node repeat kept : ℕ) (l l' : List ℕ) : Type 0 where
  adds_loop : {h : ℕ} {l₁ : List ℕ} → Adds l l₁ (Loop (word l children r) node r repeat kept) h → l' ≡ stored l₁ children r h
      → AddsLoop r node repeat kept l l'

-- The repeat condition made real, the node defined, the loop added.
pub data LoopDefined (r c kept : ℕ) (l l' : List ℕ) : Made → Type 0 where
  loop_defined : {x n : ℕ} {l₁ l₂ : List ℕ} → Materializes l c l₁ (Ok x) → Defines nodes_at most_nodes l₁ l₂ (Ok n)
      → AddsLoop r n x kept l₂ l' → LoopDefined r c kept l l' Done
  no_value : Materializes l c l' Full → LoopDefined r c kept l l' Full
  no_node : {x : ℕ} {l₁ : List ℕ} → Materializes l c l₁ (Ok x) → Defines nodes_at most_nodes l₁ l' Full
      → LoopDefined r c kept l l' Full

-- Header r's n inputs looked up, taken and entered; h is the list of kept inputs.
pub data EntersInputs (r wrapper n : ℕ) (l vs l' : List ℕ) (h : ℕ) : Type 0 where
  enters : {l₁ l₂ us ws : List ℕ} → RewritesValues n 4 l vs l₁ us → TakesInputs r wrapper n l₁ us l₂ ws h
      → l' ≡ inserted l₂ r entry_renumber ws
      → EntersInputs r wrapper n l vs l' h

-- Region r, whose back edge is bundle p, leaves its set, and the wrapper, the inputs and the loop are made in this order.
pub data StructurizesLoop (r p : ℕ) (l l' : List ℕ) : Made → Type 0 where
  looped : {n wrapper h : ℕ} {l₁ l₂ l₃ : List ℕ} → OfRecord l (λ g. n ≡ length (region g r).inputs)
      → Defines regions_at most_regions (swap_removed l r p) l₁ (Ok wrapper) → EntersInputs r wrapper n l₁ (backedge_inputs l p) l₂ h
      → LoopDefined r (condition_in l p (word l set_lengths r)) h l₂ l₃ Done
      → OfRecord (stored l₃ bodies r wrapper) (λ g. l' ≡ exits_added g r (stored l₃ bodies r wrapper))
      → StructurizesLoop r p l l' Done
  no_wrapper : Defines regions_at most_regions (swap_removed l r p) l' Full → StructurizesLoop r p l l' Full
  no_loop : {n wrapper h : ℕ} {l₁ l₂ : List ℕ} → OfRecord l (λ g. n ≡ length (region g r).inputs)
      → Defines regions_at most_regions (swap_removed l r p) l₁ (Ok wrapper) → EntersInputs r wrapper n l₁ (backedge_inputs l p) l₂ h
      → LoopDefined r (condition_in l p (word l set_lengths r)) h l₂ l' Full
      → StructurizesLoop r p l l' Full
