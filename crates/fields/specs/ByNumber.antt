-- What numbers name in a graph: a block, an instruction, an edge; and whether an item of a list stands earlier in it too.
use Rattle.std.specs.Prelude.{◌≡◌, Bool, ◌&&◌, List, [], ◌∷◌, ℕ, zero, suc, ◌*◌, ◌≤◌, length, get_or, take, ltb}
use Rattle.meaning.specs.Graph.{Graph, Value, Instr, Edge, region, edges_of, no_edge, no_value}
use Rattle.meaning.specs.Lists.{is_in, total}
use Rattle.format.specs.References.{no_instr, values_of}
use Rattle.record.specs.Stands.{OfRecord}
use Rattle.fields.specs.ItemsAndPlaces.{value_item}

abbrev pub block_of : Graph → ℕ → ℕ → List Instr
block_of g r b = get_or (region g r).blocks b []

abbrev pub instr_of : Graph → ℕ → ℕ → ℕ → Instr
instr_of g r b i = get_or (block_of g r b) i no_instr

-- The blocks of the regions before r.
abbrev pub blocks_before : Graph → ℕ → ℕ
blocks_before g r = total (λ z. length z.blocks) (take r g.regions)

-- How many they are; each region has no more than a word can say.
pub record BlocksBefore (w : List ℕ) (r a : ℕ) : Type 0 where
  pub is : OfRecord w (λ g. a ≡ blocks_before g r)
  pub within : a ≤ 65535 * r

-- How many instructions stand before block b of a region.
abbrev pub instructions_before : List (List Instr) → ℕ → ℕ
instructions_before bs b = total (λ (x : List Instr). length x) (take b bs)

-- The values that the terminator of region r has.
abbrev pub end_values : Graph → ℕ → List Value
end_values g r = values_of (region g r).terminator

abbrev pub edge_of : Graph → ℕ → ℕ → Edge
edge_of g r j = get_or (edges_of (region g r).terminator) j no_edge

-- The list of values at place p: how many there are, and each.
pub record ValuesAt (w : List ℕ) (p : ℕ) (vs : List Value) : Type 0 where
  pub count : get_or w p 0 ≡ length vs
  pub item : (k : ℕ) → value_item w p k ≡ get_or vs k no_value

-- The first k items, the last first.
unfoldable pub before : List ℕ → ℕ → List ℕ
before xs zero = []
before xs (suc k) = get_or xs k 0 ∷ before xs k

-- Whether item k stands earlier too; what is beyond the list does not.
unfoldable pub stands_before : List ℕ → ℕ → Bool
unfolding before
stands_before xs k = ltb k (length xs) && is_in (get_or xs k 0) (before xs k)
