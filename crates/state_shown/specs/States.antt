-- What the words show of a state of nesting, whole: the tables, and the states of the graph's regions.
use Rattle.std.specs.Prelude.{◌≡◌, List, [], ℕ, ◌+◌, ◌*◌, ◌≤◌, ◌<◌, length, get_or}
use Rattle.meaning.specs.Graph.{Graph, region, undef}
use Rattle.meaning.specs.Runs.{Nodes}
use Rattle.format.specs.References.{return_types}
use Rattle.record.specs.Stands.{Stands}
use Rattle.nesting.specs.Nesting.{DeferredEdgeBundleSet, StructurizeRegionState, not_begun, in_progress, claimed, ready, NestState, Body}
use Rattle.nesting.specs.Nesting.{ClaimedRegion, MaybeClaimedRegion, ok, err, deferred_of, most_regions}
use Rattle.state_words.specs.Sections.{word, head, backedges, set_starts, set_lengths, children, bodies}
use Rattle.state_regions.specs.RegionTables.{case_total}
use Rattle.state_nodes.specs.NodeTables.{rewrite_kind}
use Rattle.state_shown.specs.Tables.{ShowsTables}
use Rattle.state_shown.specs.Sets.{Names, ShowsSet}
use Rattle.state_shown.specs.Cells.{ShowsChildren}
use Rattle.state_words.specs.Values.{names_nothing}
use Rattle.state_words.specs.Rows.{case_body, case_children, case_claimed, case_input, case_kind, case_nothing, case_origin, case_others}
use Rattle.state_words.specs.Rows.{case_own_edge, case_set_length, case_set_start, entry_none, kind_claimed, kind_in_progress}
use Rattle.state_words.specs.Rows.{kind_not_begun}
use Rattle.state_words.specs.Rows.{kind_ready, own_edges_from, region_kind, returned_at, rewrite_value, slot_count, slot_size, spare_slot}
use Rattle.state_words.specs.Rows.{types_at}

-- The set that region r's slot holds.
abbrev pub ShowsOwnSet : Graph → List ℕ → ℕ → DeferredEdgeBundleSet → Type 0
ShowsOwnSet g w r d = ShowsSet g w (word w set_starts r) (word w set_lengths r) d

pub data ShowsRegion (g : Graph) (w : List ℕ) (r : ℕ) : StructurizeRegionState → Type 0 where
  is_not_begun : region_kind w r ≡ kind_not_begun → ShowsRegion g w r not_begun
  is_in_progress : region_kind w r ≡ kind_in_progress → ShowsRegion g w r in_progress
  is_ready : {b : ℕ} {ks : Nodes} {d : DeferredEdgeBundleSet} → region_kind w r ≡ kind_ready → word w backedges r ≡ b
      → ShowsChildren g w (word w children r) ks → ShowsOwnSet g w r d → ShowsRegion g w r (ready b ks d)
  is_claimed : region_kind w r ≡ kind_claimed → ShowsRegion g w r claimed

-- Of n regions each has a slot; the spare one is as of a region 32. Of a region, and of 32, `omega arith` proves it.
pub record HasSlot (n a : ℕ) : Type 0 where
  pub below : a < slot_count
  pub of_region : n ≤ a → a ≡ spare_slot

-- Each slot is one region's, or the spare one.
pub record Slots (n : ℕ) (w : List ℕ) : Type 0 where
  pub slot_number : ℕ → ℕ
  pub starts : (a : ℕ) → HasSlot n a → word w set_starts a ≡ slot_size * slot_number a
  pub below : (a : ℕ) → HasSlot n a → slot_number a < slot_count
  pub own : (a b : ℕ) → HasSlot n a → HasSlot n b → slot_number a ≡ slot_number b → a ≡ b

-- How many values a Return has, and their types.
pub record ShowsReturned (g : Graph) (w : List ℕ) : Type 0 where
  pub size : word w head returned_at ≡ length (return_types g)
  pub types : (k : ℕ) → k < length (return_types g) → word w head (types_at + k) ≡ get_or (return_types g) k 0

-- The words of the rewrites' entries name values.
pub record NamedRewrites (w : List ℕ) : Type 0 where
  pub below : (r k : ℕ) → r < most_regions → k < 4 → (rewrite_kind w r ≡ entry_none → ⊥) → rewrite_value w r k < names_nothing

pub record ShowsState (g : Graph) (w : List ℕ) (s : NestState) : Type 0 where
  pub stands : Stands w g
  pub tables : ShowsTables w s
  pub named : NamedRewrites w
  pub size : length s.region_states ≡ length g.regions
  pub regions : (r : ℕ) → r < length g.regions → ShowsRegion g w r (get_or s.region_states r not_begun)
  pub slots : Slots (length g.regions) w
  pub returned : ShowsReturned g w

-- A region under way, by its number: its children so far, and its set.
pub record ShowsBody (g : Graph) (w : List ℕ) (r : ℕ) (x : Body) : Type 0 where
  pub nodes : ShowsChildren g w (word w children r) x.children
  pub set : ShowsOwnSet g w r x.deferred_edges

-- A claimed region, by its number. Its inputs stand elsewhere.
pub record ShowsClaimed (g : Graph) (w : List ℕ) (c : ClaimedRegion) : Type 0 where
  pub in_graph : c.origin < length g.regions
  pub kind : region_kind w c.origin ≡ kind_claimed
  pub body : word w bodies c.origin ≡ c.structured_body
  pub body_below : c.structured_body < most_regions
  pub nodes : ShowsChildren g w (word w children c.origin) c.children
  pub set : ShowsOwnSet g w c.origin c.deferred_edges
  pub size : length c.structured_body_inputs ≡ length (region g c.origin).inputs

-- ---- The cases of the select under way in region r: a claimed region; nothing; the edge of its own; what is left of region r's set.
-- Beyond a claimed region's inputs the words have what the definition takes there.
pub data ShowsCase (g : Graph) (w : List ℕ) (r j : ℕ) : MaybeClaimedRegion → Type 0 where
  shows_ok : {c : ClaimedRegion} → case_kind w j ≡ case_claimed → case_origin w j ≡ c.origin → c.origin < length g.regions
      → case_body w j ≡ c.structured_body → c.structured_body < most_regions
      → ShowsChildren g w (case_children w j) c.children
      → case_set_start w j ≡ word w set_starts c.origin
      → length c.structured_body_inputs ≡ length (region g c.origin).inputs
      → ((k : ℕ) → k < 4 → Names (case_input w j k) (get_or c.structured_body_inputs k (undef 0)))
      → ShowsCase g w r j (ok c)
  shows_nothing : case_kind w j ≡ case_nothing → case_set_length w j ≡ 0 → ShowsCase g w r j (err [])
  shows_edge : {d : DeferredEdgeBundleSet} → case_kind w j ≡ case_own_edge → case_set_start w j ≡ own_edges_from + j
      → case_set_length w j ≡ 1 → ShowsCase g w r j (err d)
  shows_others : {d : DeferredEdgeBundleSet} → case_kind w j ≡ case_others → case_set_start w j ≡ word w set_starts r
      → ShowsCase g w r j (err d)

abbrev pub no_case : MaybeClaimedRegion
no_case = err []

-- Their sets lie apart, and apart from the spare slot.
pub record ShowsCases (g : Graph) (w : List ℕ) (r : ℕ) (cs : List MaybeClaimedRegion) : Type 0 where
  pub size : case_total w ≡ length cs
  pub few : length cs ≤ 8
  pub each : (j : ℕ) → j < length cs → ShowsCase g w r j (get_or cs j no_case)
  pub sets : (j : ℕ) → j < length cs
      → ShowsSet g w (case_set_start w j) (case_set_length w j) (deferred_of (get_or cs j no_case))
  pub apart : (i j p q : ℕ) → i < j → j < length cs → p < case_set_length w i → q < case_set_length w j
      → case_set_start w i + p ≡ case_set_start w j + q → ⊥
  pub not_spare : (j p q : ℕ) → j < length cs → p < case_set_length w j → q < slot_size
      → case_set_start w j + p ≡ word w set_starts spare_slot + q → ⊥
