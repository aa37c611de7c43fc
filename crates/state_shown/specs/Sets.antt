-- What the words show of deferred edges: a bundle by its number, a set as bundles in a row.
use Rattle.std.specs.Prelude.{◌≡◌, List, [], ℕ, ◌+◌, ◌≤◌, ◌<◌, length, get_or}
use Rattle.meaning.specs.Graph.{Value, Graph, region, undef}
use Rattle.format.specs.References.{return_types}
use Rattle.nesting.specs.Nesting.{DeferredTarget, to_region, to_return, DeferredEdgeBundle, DeferredEdgeBundleSet, edge_bundle, true_cond}
use Rattle.state_shown.specs.Values.{value}
use Rattle.state_shown.specs.Tables.{ShowsCondition}
use Rattle.state_words.specs.Values.{names_nothing}
use Rattle.state_words.specs.Rows.{bundle_condition, bundle_count, bundle_input, bundle_row_size, bundle_target, bundle_word, most_bundles}
use Rattle.state_words.specs.Rows.{return_word, slot_size}

-- A word that stands for a value, and names it.
pub record Names (x : ℕ) (v : Value) : Type 0 where
  pub is : value x ≡ v
  pub below : x < names_nothing

-- The word of a target: a region of the graph, or Return.
pub data ShowsTarget (g : Graph) (x : ℕ) : DeferredTarget → Type 0 where
  shows_region : {r : ℕ} → x ≡ r → r < length g.regions → ShowsTarget g x (to_region r)
  shows_return : x ≡ return_word → ShowsTarget g x to_return

-- How many inputs a target has.
abbrev pub target_size : Graph → DeferredTarget → ℕ
target_size g (to_region r) = length (region g r).inputs
target_size g to_return = length (return_types g)

pub record ShowsBundle (g : Graph) (w : List ℕ) (p : ℕ) (e : DeferredEdgeBundle) : Type 0 where
  pub target : ShowsTarget g (bundle_target w p) e.target
  pub count : bundle_count w p ≡ e.accumulated_count
  pub condition : ShowsCondition w (bundle_condition w p) e.condition
  pub size : length e.target_inputs ≡ target_size g e.target
  pub few : length e.target_inputs ≤ 4
  pub inputs : (k : ℕ) → k < length e.target_inputs → Names (bundle_input w p k) (get_or e.target_inputs k (undef 0))

abbrev pub no_bundle : DeferredEdgeBundle
no_bundle = edge_bundle to_return 0 [] true_cond

-- n bundles from `start` on, no two to one target.
pub record ShowsSet (g : Graph) (w : List ℕ) (start n : ℕ) (d : DeferredEdgeBundleSet) : Type 0 where
  pub size : n ≡ length d
  pub few : n ≤ slot_size
  pub room : start + n ≤ most_bundles
  pub each : (i : ℕ) → i < n → ShowsBundle g w (start + i) (get_or d i no_bundle)
  pub apart : (i j : ℕ) → i < j → j < n → bundle_target w (start + i) ≡ bundle_target w (start + j) → ⊥

-- Bundle p has the same words.
pub record SameBundle (w w' : List ℕ) (p : ℕ) : Type 0 where
  pub words : (i : ℕ) → i < bundle_row_size → bundle_word w' p i ≡ bundle_word w p i
