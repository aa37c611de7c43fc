-- Nesting, as the Structurizer of src/cfg.rs has it, by its names (document 01, "Nesting steps", "Values").
use Rattle.std.specs.Prelude.{List, [], ◌∷◌, ◌++◌, map, ℕ, suc, zero, ◌^◌, ◌+◌, Bool, true, false, ◌||◌, ◌&&◌, not, length, get_or, set, take, replicate, ltb, eqb}
use Rattle.std.proofs.Math.Option.{Option, none, some}
use Rattle.meaning.specs.Lists.{any, all, filter, empty, is_some, total, times_in, numbers_from, is_in, pick}
use Rattle.meaning.specs.Graph.{Value, SelectionKind, output, const, input, instr, bool, undef, held, same_value, bool_cond, number, Instr}
use Rattle.meaning.specs.Graph.{Region, Graph, region, edges_of, targets_of, Edge, ControlInst, unreachable, return, exit_invocation}
use Rattle.meaning.specs.Graph.{branch, select_branch, no_value, same_values}
use Rattle.meaning.specs.Runs.{Nodes, ⟨⟩, ◌▸◌, block, select, Cases, ∅, case, loop, exit, OutputDecl, SelectNode, CaseRegion, LoopNode}
use Rattle.meaning.specs.Runs.{Node}
use Rattle.format.specs.References.{return_types}
use Rattle.format.specs.Store.{Answer, accepted, refused}
use Rattle.format.specs.Refusals.{too_many, never}

-- ---- Deferred edges: what a region could not claim, each with the condition under which it is taken.
-- A number of edges. It counts edges only and is never an index.
abbrev pub IncomingEdgeCount : Type 0
IncomingEdgeCount = ℕ

infixr 30 ◌&◌
mutual
  -- The Rust's LazyCond. `merge` has the select's node, kind and scrutinee, and the condition in each case.
  pub data LazyCond : Type 0 where
    undef_cond false_cond true_cond : LazyCond
    merge : ℕ → SelectionKind → Value → LazyConds → LazyCond

  pub data LazyConds : Type 0 where
    no_conds : LazyConds
    ◌&◌ : LazyCond → LazyConds → LazyConds

pub data DeferredTarget : Type 0 where
  to_region : ℕ → DeferredTarget
  to_return : DeferredTarget

pub record DeferredEdgeBundle : Type 0 where
  pub target : DeferredTarget
  pub accumulated_count : IncomingEdgeCount
  pub target_inputs : List Value
  pub condition : LazyCond

abbrev pub edge_bundle : DeferredTarget → IncomingEdgeCount → List Value → LazyCond → DeferredEdgeBundle
edge_bundle x n vs c = record { target = x; accumulated_count = n; target_inputs = vs; condition = c }

-- In the order of the Rust's map. None is Unreachable, one is Always (its condition is dropped), more are a Choice.
abbrev pub DeferredEdgeBundleSet : Type 0
DeferredEdgeBundleSet = List DeferredEdgeBundle

-- ---- The state of nesting, the Rust's Structurizer, and the steps that change it or refuse.
-- Its tables only gain at their end, and a region's children never change. `not_begun` is a region that nothing has observed yet.
pub data StructurizeRegionState : Type 0 where
  not_begun in_progress claimed : StructurizeRegionState
  ready : IncomingEdgeCount → Nodes → DeferredEdgeBundleSet → StructurizeRegionState  -- back edge count, children, deferred edges

-- The Rust's Result<u32, Value> of a loop header's input.
pub data InputRewrite : Type 0 where
  renumber_to : ℕ → InputRewrite  -- the body keeps it, under this number
  replace_by : Value → InputRewrite  -- it is the same in every turn: what it is outside of the loop

pub data RegionInputRewrites : Type 0 where
  replace_with : List Value → RegionInputRewrites
  renumber_or_replace_with : List InputRewrite → RegionInputRewrites

-- One entry of the Rust's region_input_rewrites.
pub record RewriteEntry : Type 0 where
  pub region : ℕ
  pub rewrites : RegionInputRewrites

-- An output of a select node: its type, and its value in each case. Its place in the table is its number.
pub record NodeOutput : Type 0 where
  pub node : ℕ
  pub type : ℕ
  pub values : List Value

-- The three counts are totals of all that was ever defined, given regions and blocks included.
pub record NestState : Type 0 where
  pub region_states : List StructurizeRegionState
  pub region_input_rewrites : List RewriteEntry
  pub node_outputs : List NodeOutput
  pub region_count : ℕ
  pub node_count : ℕ
  pub merge_count : ℕ
  pub attempts : ℕ
  pub twice : Bool

-- What a step answers: a value and the next state, or a refusal with document 01's number and word.
pub data StepAnswer (A : Type 0) : Type 0 where
  done : A → NestState → StepAnswer A
  turned_away : ℕ → ℕ → StepAnswer A

abbrev pub Step : Type 0 → Type 0
Step A = NestState → StepAnswer A

abbrev pub give : {A : Type 0} → A → Step A
give a s = done a s

abbrev pub turn_away : {A : Type 0} → ℕ → ℕ → Step A
turn_away refusal word s = turned_away refusal word

abbrev pub follow : {A B : Type 0} → StepAnswer A → (A → Step B) → StepAnswer B
follow (done a s) k = k a s
follow (turned_away refusal word) k = turned_away refusal word

infixl 20 ◌>>=◌ ◌>>◌
abbrev pub ◌>>=◌ : {A B : Type 0} → Step A → (A → Step B) → Step B
◌>>=◌ x k s = follow (x s) k

abbrev pub ◌>>◌ : {A B : Type 0} → Step A → Step B → Step B
◌>>◌ x y s = follow (x s) (λ a. y)

-- ---- Changes of the state, and the definitions that a limit stops (refusal 9).
abbrev pub Counts : Type 0
Counts = record { regions : ℕ; nodes : ℕ; merges : ℕ; attempts : ℕ }

abbrev pub counts_of : NestState → Counts
counts_of s = record { regions = s.region_count; nodes = s.node_count; merges = s.merge_count; attempts = s.attempts }

abbrev pub nest_state : List StructurizeRegionState → List RewriteEntry → List NodeOutput → Counts → Bool → NestState
nest_state states rewrites outputs counts met =
    record {
      region_states = states;
      region_input_rewrites = rewrites;
      node_outputs = outputs;
      region_count = counts.regions;
      node_count = counts.nodes;
      merge_count = counts.merges;
      attempts = counts.attempts;
      twice = met;
    }

abbrev pub with_tables : List StructurizeRegionState → List RewriteEntry → List NodeOutput → NestState → NestState
with_tables states rewrites outputs s = nest_state states rewrites outputs (counts_of s) s.twice

abbrev pub with_counts : (Counts → Counts) → NestState → NestState
with_counts f s = nest_state s.region_states s.region_input_rewrites s.node_outputs (f (counts_of s)) s.twice

abbrev pub with_twice : Bool → NestState → NestState
with_twice x s = nest_state s.region_states s.region_input_rewrites s.node_outputs (counts_of s) (s.twice || x)

abbrev pub add_region : NestState → NestState
add_region s = with_counts (λ c. record { regions = suc c.regions; nodes = c.nodes; merges = c.merges; attempts = c.attempts }) s

abbrev pub add_node : NestState → NestState
add_node s = with_counts (λ c. record { regions = c.regions; nodes = suc c.nodes; merges = c.merges; attempts = c.attempts }) s

abbrev pub add_merge : NestState → NestState
add_merge s = with_counts (λ c. record { regions = c.regions; nodes = c.nodes; merges = suc c.merges; attempts = c.attempts }) s

abbrev pub add_attempt : NestState → NestState
add_attempt s = with_counts (λ c. record { regions = c.regions; nodes = c.nodes; merges = c.merges; attempts = suc c.attempts }) s

-- Document 01's limits: regions, nodes, lazy condition records, node outputs.
abbrev pub most_regions : ℕ
most_regions = 128

abbrev pub most_nodes : ℕ
most_nodes = 512

abbrev pub most_merges : ℕ
most_merges = 512

abbrev pub most_outputs : ℕ
most_outputs = 512

-- A definition where n are defined already, with its limit: the first beyond is refused.
abbrev pub define : {A : Type 0} → ℕ → ℕ → A → NestState → StepAnswer A
define n limit a s = elim (ltb n limit) [ true ↦ done a s | false ↦ turned_away too_many 0 ]

unfoldable pub define_region : Step ℕ
define_region s = define s.region_count most_regions s.region_count (add_region s)

unfoldable pub define_node : Step ℕ
define_node s = define s.node_count most_nodes s.node_count (add_node s)

-- A lazy condition record, the Rust's LazyCondMerge.
unfoldable pub define_merge : Step Unit
define_merge s = define s.merge_count most_merges tt (add_merge s)

-- An output of a node, of this type, with its value in each case.
unfoldable pub define_output : ℕ → ℕ → List Value → Step Value
define_output n type vs s =
    let more = s.node_outputs ++ (record { node = n; type = type; values = vs } ∷ []) in
    define (length s.node_outputs) most_outputs (output (length s.node_outputs))
    (with_tables s.region_states s.region_input_rewrites more s)

abbrev pub get_state : ℕ → Step StructurizeRegionState
get_state r s = done (get_or s.region_states r not_begun) s

abbrev pub set_state : ℕ → StructurizeRegionState → Step Unit
set_state r x s = done tt (with_tables (set s.region_states r x) s.region_input_rewrites s.node_outputs s)

-- Document 01's attempt: one call of try_claim_edge_bundle.
abbrev pub count_attempt : Step Unit
count_attempt s = done tt (add_attempt s)

abbrev pub insert_rewrites : ℕ → RegionInputRewrites → Step Unit
insert_rewrites r x s =
    done tt (with_tables s.region_states (s.region_input_rewrites ++ (record { region = r; rewrites = x } ∷ [])) s.node_outputs s)

-- ---- Look-ups, the Rust's RegionInputRewrites::rewrite_all, with document 01's mark; and the note `twice`.
abbrev pub rewrites_of : List RewriteEntry → ℕ → Option RegionInputRewrites
rewrites_of [] r = none
rewrites_of (e ∷ es) r = pick (eqb r e.region) (some e.rewrites) (rewrites_of es r)

-- More than the log is long, and no chain is longer: none passes a region twice (`chains_end`).
abbrev pub chain_fuel : List RewriteEntry → ℕ
chain_fuel es = 2 ^ length es

-- What a look_up answers; and document 01's "twice": a marked value was met whose second look_up would change it. `plain` has no such note.
pub record LookUp (A : Type 0) : Type 0 where
  pub value : A
  pub twice : Bool

abbrev pub plain : {A : Type 0} → A → LookUp A
plain a = record { value = a; twice = false }

-- Input k of region r, by the entry of r; `go` follows a replaced one on. A renumbered one is marked.
abbrev pub look_up_input : (Value → LookUp Value) → ℕ → ℕ → Option RegionInputRewrites → LookUp Value
look_up_input go r k none = plain (input r k)
look_up_input go r k (some (replace_with vs)) = go (get_or vs k (undef 0))
look_up_input go r k (some (renumber_or_replace_with xs)) =
    elim (get_or xs k (renumber_to k)) [ replace_by v ↦ go v | renumber_to i ↦ plain (held r i) ]

-- Whether the entry of a marked value's region would change it again: it does not renumber k to k.
abbrev pub changes_again : ℕ → Option RegionInputRewrites → Bool
changes_again k none = false
changes_again k (some (replace_with vs)) = true
changes_again k (some (renumber_or_replace_with xs)) =
    elim (get_or xs k (renumber_to k)) [ replace_by v ↦ true | renumber_to i ↦ not (eqb i k) ]

-- An input is looked up until its region has no entry, or it is marked; a marked one stays.
unfoldable pub look_up_chain : ℕ → List RewriteEntry → Value → LookUp Value
look_up_chain zero es v = plain v
look_up_chain (suc fuel) es (input r k) = look_up_input (λ v. look_up_chain fuel es v) r k (rewrites_of es r)
look_up_chain (suc fuel) es (held r k) = record { value = held r k; twice = changes_again k (rewrites_of es r) }
look_up_chain (suc fuel) es (const i) = plain (const i)
look_up_chain (suc fuel) es (instr r k) = plain (instr r k)
look_up_chain (suc fuel) es (output o) = plain (output o)
look_up_chain (suc fuel) es (bool b) = plain (bool b)
look_up_chain (suc fuel) es (undef ty) = plain (undef ty)
look_up_chain (suc fuel) es no_value = plain no_value

unfoldable pub look_up : List RewriteEntry → Value → LookUp Value
look_up es v = look_up_chain (chain_fuel es) es v

-- What is put together, part by part, from parts looked up; and a list of which each is looked up. No note is lost.
infixl 30 ◌⊛◌
abbrev pub ◌⊛◌ : {A B : Type 0} → LookUp (A → B) → LookUp A → LookUp B
◌⊛◌ f a = record { value = f.value a.value; twice = f.twice || a.twice }

abbrev pub look_up_each : {A B : Type 0} → (A → LookUp B) → List A → LookUp (List B)
look_up_each f xs = record { value = map (λ x. (f x).value) xs; twice = any (λ x. (f x).twice) xs }

-- The mark is nesting's own. The last look_up takes it off: a marked input is the body input of its loop, under its new number.
abbrev pub unmarked : Value → Value
unmarked (held r k) = input r k
unmarked (const i) = const i
unmarked (input r k) = input r k
unmarked (instr r k) = instr r k
unmarked (output o) = output o
unmarked (bool b) = bool b
unmarked (undef ty) = undef ty
unmarked no_value = no_value

abbrev pub look_up_last : List RewriteEntry → Value → LookUp Value
look_up_last es v = plain unmarked ⊛ look_up es v

-- The step that looks up takes the note, and changes no table.
abbrev pub note : {A : Type 0} → LookUp A → Step A
note x s = done x.value (with_twice x.twice s)

unfoldable pub rewrite_values : List Value → Step (List Value)
rewrite_values vs s = note (look_up_each (look_up s.region_input_rewrites) vs) s

-- A boolean [true, false] is the scrutinee itself; anything else is a new output of the select, of type boolean.
unfoldable mutual
  pub materialize_lazy_cond : LazyCond → Step Value
  materialize_lazy_cond true_cond = give (bool true)
  materialize_lazy_cond false_cond = give (bool false)
  materialize_lazy_cond undef_cond = give (undef 1)
  materialize_lazy_cond (merge n kind v cs) = do
    vs ← materialize_lazy_conds cs
    pick (elim kind [ bool_cond ↦ same_values vs (bool true ∷ bool false ∷ []) | number ↦ false ]) (give v) (define_output n 1 vs)

  pub materialize_lazy_conds : LazyConds → Step (List Value)
  materialize_lazy_conds no_conds = give []
  materialize_lazy_conds (c & cs) = materialize_lazy_cond c >>= λ v. materialize_lazy_conds cs >>= λ vs. give (v ∷ vs)

-- ---- Sets of deferred edge bundles: find by target, and split one out.
abbrev pub same_target : DeferredTarget → DeferredTarget → Bool
same_target (to_region a) (to_region b) = eqb a b
same_target (to_region a) to_return = false
same_target to_return (to_region b) = false
same_target to_return to_return = true

-- The Rust's Always: a set of one, whose condition is dropped.
abbrev pub condition_in : DeferredEdgeBundleSet → DeferredEdgeBundle → LazyCond
condition_in d e = pick (eqb (length d) 1) true_cond e.condition

abbrev pub get_edge_bundle_by_target : DeferredTarget → DeferredEdgeBundleSet → Option DeferredEdgeBundle
get_edge_bundle_by_target x [] = none
get_edge_bundle_by_target x (e ∷ es) = pick (same_target x e.target) (some e) (get_edge_bundle_by_target x es)

abbrev pub count_to : ℕ → DeferredEdgeBundleSet → IncomingEdgeCount
count_to r d = elim (get_edge_bundle_by_target (to_region r) d) [ none ↦ 0 | some e ↦ e.accumulated_count ]

-- The bundles behind the one that is split out: by swap, the last takes its place.
abbrev pub fill_gap : DeferredEdgeBundleSet → DeferredEdgeBundleSet
fill_gap [] = []
fill_gap (x ∷ xs) = get_or (x ∷ xs) (length xs) x ∷ take (length xs) (x ∷ xs)

-- The Rust's split_out_target: what is left of the set.
abbrev pub split_out_target : DeferredTarget → DeferredEdgeBundleSet → DeferredEdgeBundleSet
split_out_target x [] = []
split_out_target x (e ∷ es) = pick (same_target x e.target) (fill_gap es) (e ∷ split_out_target x es)

-- ---- Claimed regions, and how one that stands alone is appended to its parent.
-- `origin` is the region of the graph that was claimed; `structured_body` is the same, or the wrapper of its loop.
pub record ClaimedRegion : Type 0 where
  pub origin : ℕ
  pub structured_body : ℕ
  pub structured_body_inputs : List Value
  pub children : Nodes
  pub deferred_edges : DeferredEdgeBundleSet

abbrev pub claimed_as : ℕ → ℕ → List Value → Nodes → DeferredEdgeBundleSet → ClaimedRegion
claimed_as r body vs ks d = record { origin = r; structured_body = body; structured_body_inputs = vs; children = ks; deferred_edges = d }

-- The Rust's Result<ClaimedRegion, DeferredEdgeBundleSet>: a case of a select, or the target of a branch.
pub data MaybeClaimedRegion : Type 0 where
  ok : ClaimedRegion → MaybeClaimedRegion
  err : DeferredEdgeBundleSet → MaybeClaimedRegion

-- The Rust's Result<Value, &LazyCond>.
pub data Scrutinee : Type 0 where
  value : Value → Scrutinee
  lazy : LazyCond → Scrutinee

-- A region under way: its children so far, and the edges that they defer.
pub record Body : Type 0 where
  pub children : Nodes
  pub deferred_edges : DeferredEdgeBundleSet

abbrev pub region_body : Nodes → DeferredEdgeBundleSet → Body
region_body ks d = record { children = ks; deferred_edges = d }

abbrev pub deferred_of : MaybeClaimedRegion → DeferredEdgeBundleSet
deferred_of (ok c) = c.deferred_edges
deferred_of (err d) = d

abbrev pub join : Nodes → Nodes → Nodes
join ⟨⟩ b = b
join (n ▸ a) b = n ▸ join a b

abbrev pub has_children : Nodes → Bool
has_children ⟨⟩ = false
has_children (n ▸ ns) = true

unfoldable pub append_maybe_claimed_region : Nodes → MaybeClaimedRegion → Step Body
append_maybe_claimed_region parent (err d) = give (region_body parent d)
append_maybe_claimed_region parent (ok c) =
    insert_rewrites c.structured_body (replace_with c.structured_body_inputs)
    >> give (region_body (join parent c.children) c.deferred_edges)

-- The convergent cases, those not Unreachable; and all cases with these taken out, an Unreachable one in the place of each.
abbrev pub convergent_cases : List MaybeClaimedRegion → List MaybeClaimedRegion
convergent_cases cs = filter (λ c. not (empty (deferred_of c))) cs

abbrev pub without_convergent : List MaybeClaimedRegion → List MaybeClaimedRegion
without_convergent cs = map (λ c. pick (empty (deferred_of c)) c (err [])) cs

-- ---- A region's blocks as nodes: nodes are numbered blocks first, in region order.
abbrev pub block_count : List Region → ℕ
block_count rs = total (λ r. length r.blocks) rs

abbrev pub blocks_from : ℕ → ℕ → ℕ → List (List Instr) → Nodes  -- first node, region, first instruction
blocks_from n r k [] = ⟨⟩
blocks_from n r k (b ∷ bs) = block n r k b ▸ blocks_from (suc n) r (k + length b) bs

abbrev pub blocks_of : Graph → ℕ → Nodes
blocks_of g r = blocks_from (block_count (take r g.regions)) r 0 (region g r).blocks

-- ---- What a select is to hand on, before anything is defined: for each input of a target one value for all cases, or a new output.
-- The full set of deferred targets, in order of first standing.
pub record DeferredTargetSummary : Type 0 where
  pub target : DeferredTarget
  pub input_count : ℕ
  pub total_edge_count : IncomingEdgeCount

abbrev pub summarize_bundle : DeferredEdgeBundle → List DeferredTargetSummary → List DeferredTargetSummary
summarize_bundle e [] = record { target = e.target; input_count = length e.target_inputs; total_edge_count = e.accumulated_count } ∷ []
summarize_bundle e (w ∷ ws) =
    pick (same_target e.target w.target)
    (record { target = w.target; input_count = w.input_count; total_edge_count = w.total_edge_count + e.accumulated_count } ∷ ws)
    (w ∷ summarize_bundle e ws)

abbrev pub summarize_set : DeferredEdgeBundleSet → List DeferredTargetSummary → List DeferredTargetSummary
summarize_set [] ws = ws
summarize_set (e ∷ es) ws = summarize_set es (summarize_bundle e ws)

abbrev pub deferred_targets : List MaybeClaimedRegion → List DeferredTargetSummary → List DeferredTargetSummary
deferred_targets [] ws = ws
deferred_targets (c ∷ cs) ws = deferred_targets cs (summarize_set (deferred_of c) ws)

-- What one case passes to a target, and under which condition: Undef if the case ends, False if it goes elsewhere.
pub record PerCaseDeferred : Type 0 where
  pub inputs : Option (List Value)
  pub condition : LazyCond

abbrev pub per_case_of : DeferredEdgeBundleSet → Option DeferredEdgeBundle → PerCaseDeferred
per_case_of d none = record { inputs = none; condition = false_cond }
per_case_of d (some e) = record { inputs = some e.target_inputs; condition = condition_in d e }

abbrev pub per_case_deferred : DeferredTarget → DeferredEdgeBundleSet → PerCaseDeferred
per_case_deferred x [] = record { inputs = none; condition = undef_cond }
per_case_deferred x (e ∷ es) = per_case_of (e ∷ es) (get_edge_bundle_by_target x (e ∷ es))

-- A case's value as one that is valid in the select's parent, if it can be.
abbrev pub in_parent : MaybeClaimedRegion → Value → Option Value
in_parent (err d) v = some v
in_parent (ok c) (const i) = some (const i)
in_parent (ok c) (bool b) = some (bool b)
in_parent (ok c) (undef ty) = some (undef ty)
in_parent (ok c) no_value = none
in_parent (ok c) (input r k) = pick (eqb r c.structured_body) (some (get_or c.structured_body_inputs k (undef 0))) none
in_parent (ok c) (held r k) = none
in_parent (ok c) (instr r k) = none
in_parent (ok c) (output o) = none

-- What the cases that reach a target pass as its input k, each as valid in the select's parent, if it can be.
abbrev pub passed_inputs : ℕ → List MaybeClaimedRegion → List PerCaseDeferred → List (Option Value)
passed_inputs k [] ps = []
passed_inputs k (c ∷ cs) [] = []
passed_inputs k (c ∷ cs) (p ∷ ps) =
    elim p.inputs [ none ↦ passed_inputs k cs ps | some vs ↦ in_parent c (get_or vs k (undef 0)) ∷ passed_inputs k cs ps ]

-- The Rust's unique_target_input_value: the same value in all of them.
abbrev pub unique_input : List (Option Value) → Option Value
unique_input [] = none
unique_input (none ∷ os) = none
unique_input (some v ∷ os) = pick (all (λ o. elim o [ none ↦ false | some w ↦ same_value w v ]) os) (some v) none

-- An input of a deferred target: shared by all cases, or merged, an output of this type with a value for each case.
pub data PlannedInput : Type 0 where
  shared : Value → PlannedInput
  merged : ℕ → List Value → PlannedInput

-- A deferred edge to be; `condition` is none if True, else the condition in each case.
pub record PlannedBundle : Type 0 where
  pub target : DeferredTarget
  pub total_edge_count : IncomingEdgeCount
  pub inputs : List PlannedInput
  pub condition : Option LazyConds

abbrev pub value_in_case : ℕ → ℕ → PerCaseDeferred → Value
value_in_case k ty p = elim p.inputs [ none ↦ undef ty | some vs ↦ get_or vs k (undef 0) ]

abbrev pub plan_input : ℕ → ℕ → List PerCaseDeferred → Option Value → PlannedInput
plan_input k ty ps u = elim u [ some v ↦ shared v | none ↦ merged ty (map (value_in_case k ty) ps) ]

-- Document 01: a condition is True when every case is True or Undef.
abbrev pub all_true : List PerCaseDeferred → Bool
all_true ps = all (λ p. elim p.condition [ true_cond ↦ true | undef_cond ↦ true | false_cond ↦ false | merge n k v cs ↦ false ]) ps

abbrev pub conditions_of : List PerCaseDeferred → LazyConds
conditions_of [] = no_conds
conditions_of (p ∷ ps) = p.condition & conditions_of ps

module _ (g : Graph) where
  abbrev pub target_type : DeferredTarget → ℕ → ℕ  -- the type of input k of a target; all Return regions agree in types
  target_type (to_region r) k = get_or (region g r).inputs k 0
  target_type to_return k = get_or (return_types g) k 0

  -- how many inputs are left, which comes next
  abbrev pub plan_inputs : ℕ → ℕ → DeferredTarget → List MaybeClaimedRegion → List PerCaseDeferred → List PlannedInput
  plan_inputs zero k x cs ps = []
  plan_inputs (suc n) k x cs ps = plan_input k (target_type x k) ps (unique_input (passed_inputs k cs ps)) ∷ plan_inputs n (suc k) x cs ps

  abbrev pub plan_bundle : List MaybeClaimedRegion → DeferredTargetSummary → PlannedBundle
  plan_bundle cs w =
      let ps = map (λ c. per_case_deferred w.target (deferred_of c)) cs in
      let inputs = plan_inputs w.input_count 0 w.target cs ps in
      let condition = pick (all_true ps) none (some (conditions_of ps)) in
      record { target = w.target; total_edge_count = w.total_edge_count; inputs = inputs; condition = condition }

  abbrev pub plan_bundles : List MaybeClaimedRegion → List PlannedBundle
  plan_bundles cs = map (plan_bundle cs) (deferred_targets cs [])

-- Whether the select has to be defined: for a merged input, for a condition, or for a case's children.
abbrev pub any_needs_select : List PlannedBundle → Bool
any_needs_select ps = any (λ p. any (λ i. elim i [ shared v ↦ false | merged ty vs ↦ true ]) p.inputs || is_some p.condition) ps

abbrev pub any_non_empty_case : List MaybeClaimedRegion → Bool
any_non_empty_case cs = any (λ c. elim c [ err d ↦ false | ok x ↦ has_children x.children ]) cs

-- ---- The Rust's structurize_select_into: plan, define the select if it is needed, emit what it defers, replace inputs.
-- The values of the cases, each looked up. `cond` gives the bundle's condition.
abbrev pub look_up_bundle : (Value → LookUp Value) → (DeferredEdgeBundle → LazyCond) → DeferredEdgeBundle → LookUp DeferredEdgeBundle
look_up_bundle ρ cond e = plain (edge_bundle e.target e.accumulated_count) ⊛ look_up_each ρ e.target_inputs ⊛ plain (cond e)

abbrev pub look_up_case : (Value → LookUp Value) → MaybeClaimedRegion → LookUp MaybeClaimedRegion
look_up_case ρ (err d) = plain err ⊛ look_up_each (look_up_bundle ρ (λ e. e.condition)) d
look_up_case ρ (ok c) =
    let front = plain (claimed_as c.origin c.structured_body) ⊛ look_up_each ρ c.structured_body_inputs ⊛ plain c.children in
    plain ok ⊛ (front ⊛ look_up_each (look_up_bundle ρ (λ e. e.condition)) c.deferred_edges)

unfoldable pub rewrite_cases : List MaybeClaimedRegion → Step (List MaybeClaimedRegion)
rewrite_cases cs s = note (look_up_each (look_up_case (look_up s.region_input_rewrites)) cs) s

-- A case and a select as they are made: their outputs are added by the last rewriting.
abbrev pub new_case : ℕ → Nodes → Cases → Cases
new_case r ks cs = case (record { region = r; outputs = [] }) ks cs

abbrev pub new_select : ℕ → SelectionKind → Value → Cases → Node
new_select n kind v cs = select (record { number = n; kind = kind; scrutinee = v; outputs = [] }) cs

-- The select's cases: a claimed region with its children, or a new region.
unfoldable pub case_regions : List MaybeClaimedRegion → Step Cases
case_regions [] = give ∅
case_regions (err d ∷ cs) = define_region >>= λ r. case_regions cs >>= λ rest. give (new_case r ⟨⟩ rest)
case_regions (ok c ∷ cs) = case_regions cs >>= λ rest. give (new_case c.structured_body c.children rest)

abbrev pub scrutinee_value : Scrutinee → Step Value
scrutinee_value (value v) = give v
scrutinee_value (lazy c) = materialize_lazy_cond c

pub record DefinedSelect : Type 0 where
  pub node : ℕ
  pub kind : SelectionKind
  pub scrutinee : Value
  pub children : Nodes

-- The Rust's order of definitions: new case regions, what the scrutinee adds, the node.
unfoldable pub define_select : SelectionKind → Scrutinee → List MaybeClaimedRegion → Step DefinedSelect
define_select kind scrutinee cases = do
  cs ← case_regions cases
  v ← scrutinee_value scrutinee
  n ← define_node
  give (record { node = n; kind = kind; scrutinee = v; children = new_select n kind v cs ▸ ⟨⟩ })

-- Outputs and conditions of the select, in the order of its deferred targets.
unfoldable pub emit_inputs : DefinedSelect → List PlannedInput → Step (List Value)
emit_inputs n [] = give []
emit_inputs n (shared v ∷ is) = emit_inputs n is >>= λ vs. give (v ∷ vs)
emit_inputs n (merged ty vs ∷ is) = define_output n.node ty vs >>= λ w. emit_inputs n is >>= λ ws. give (w ∷ ws)

abbrev pub emit_condition : DefinedSelect → Option LazyConds → Step LazyCond
emit_condition n none = give true_cond
emit_condition n (some cs) = define_merge >> give (merge n.node n.kind n.scrutinee cs)

unfoldable pub emit : DefinedSelect → List PlannedBundle → Step DeferredEdgeBundleSet
emit n [] = give []
emit n (p ∷ ps) = do
  ins ← emit_inputs n p.inputs
  c ← emit_condition n p.condition
  rest ← emit n ps
  give (edge_bundle p.target p.total_edge_count ins c ∷ rest)

-- Where no select is needed every input is shared, and every condition true.
abbrev pub shared_bundle : PlannedBundle → DeferredEdgeBundle
shared_bundle p =
    edge_bundle p.target p.total_edge_count (map (λ i. elim i [ shared v ↦ v | merged ty vs ↦ undef 0 ]) p.inputs) true_cond

unfoldable pub select_if : Bool → SelectionKind → Scrutinee → List MaybeClaimedRegion → List PlannedBundle → Step Body
select_if false kind scrutinee cases ps = give (region_body ⟨⟩ (map shared_bundle ps))
select_if true kind scrutinee cases ps = do
  n ← define_select kind scrutinee cases
  d ← emit n ps
  give (region_body n.children d)

-- Only as the very last step the claimed cases' inputs are replaced.
unfoldable pub replace_inputs : List MaybeClaimedRegion → Step Unit
replace_inputs [] = give tt
replace_inputs (err d ∷ cs) = replace_inputs cs
replace_inputs (ok c ∷ cs) = insert_rewrites c.structured_body (replace_with c.structured_body_inputs) >> replace_inputs cs

module _ (g : Graph) where
  -- With no convergent case set aside.
  unfoldable pub structurize_select : Nodes → SelectionKind → Scrutinee → List MaybeClaimedRegion → Step Body
  structurize_select parent kind scrutinee cases = do
    cs ← rewrite_cases cases
    x ← select_if (any_non_empty_case cases || any_needs_select (plan_bundles g cs)) kind scrutinee cases (plan_bundles g cs)
    replace_inputs cs
    give (region_body (join parent x.children) x.deferred_edges)

  -- The sole convergent case goes after the select; its deferred edges come back as they were.
  abbrev pub structurize_select_by : Nodes → SelectionKind → Scrutinee → List MaybeClaimedRegion → List MaybeClaimedRegion → Step Body
  structurize_select_by parent kind scrutinee cases [] = structurize_select parent kind scrutinee cases
  structurize_select_by parent kind scrutinee cases (c ∷ []) =
      structurize_select parent kind scrutinee (without_convergent cases) >>= λ x. append_maybe_claimed_region x.children c
  structurize_select_by parent kind scrutinee cases (c ∷ d ∷ ds) = structurize_select parent kind scrutinee cases

  abbrev pub structurize_select_into : Nodes → SelectionKind → Scrutinee → List MaybeClaimedRegion → Step Body
  structurize_select_into parent kind scrutinee cases = structurize_select_by parent kind scrutinee cases (convergent_cases cases)

-- ---- Reachable regions, and document 01's incoming counts.
module _ (g : Graph) where
  -- The loop exit targets of a region, the Rust's loop_header_to_exit_targets: the record's own exit list.
  unfoldable pub exit_targets : ℕ → List ℕ
  exit_targets r = (region g r).exits

  unfoldable pub visit : ℕ → List ℕ → List ℕ → List ℕ  -- fuel, regions to visit, regions visited
  visit zero todo seen = seen
  visit (suc fuel) [] seen = seen
  visit (suc fuel) (r ∷ todo) seen =
      elim (is_in r seen) [ true ↦ visit fuel todo seen | false ↦ visit fuel (targets_of g r ++ todo) (r ∷ seen) ]

  -- The regions that the entry reaches, each once. One visit for the entry and one for each edge.
  abbrev pub reachable : List ℕ
  reachable = visit (suc (total (λ r. length (edges_of r.terminator)) g.regions)) (g.entry ∷ []) []

  -- Of region a, where `live` are the reachable regions: 1 for the entry, each edge from them to a, each exit list of theirs that names a.
  abbrev pub incoming_edge_count : List ℕ → ℕ → IncomingEdgeCount
  incoming_edge_count live a = pick (eqb a g.entry) 1 0 + total (λ r. times_in a (targets_of g r) + times_in a (exit_targets r)) live

  -- The Rust's incoming_edge_counts_including_loop_exits, worked out once.
  unfoldable pub incoming_edge_counts : List IncomingEdgeCount
  incoming_edge_counts = let live = reachable in map (incoming_edge_count live) (numbers_from 0 g.regions)

-- ---- A claimed region with a back edge to itself becomes a loop in a wrapper region.
-- The header's inputs taken so far: how each is rewritten, and of those kept the initial inputs, types and body outputs.
pub record LoopInputs : Type 0 where
  pub rewrites : List InputRewrite
  pub initial_inputs : List Value
  pub types : List ℕ
  pub outputs : List Value

abbrev pub no_inputs : LoopInputs
no_inputs = record { rewrites = []; initial_inputs = []; types = []; outputs = [] }

abbrev pub keep_input : Value → ℕ → Value → LoopInputs → LoopInputs  -- the value from outside, its type, the value passed back
keep_input initial ty v x =
    record {
      rewrites = x.rewrites ++ (renumber_to (length x.initial_inputs) ∷ []);
      initial_inputs = x.initial_inputs ++ (initial ∷ []);
      types = x.types ++ (ty ∷ []);
      outputs = x.outputs ++ (v ∷ []);
    }

abbrev pub lift_input : Value → LoopInputs → LoopInputs
lift_input initial x =
    let lifted = x.rewrites ++ (replace_by initial ∷ []) in
    record { rewrites = lifted; initial_inputs = x.initial_inputs; types = x.types; outputs = x.outputs }

-- A claimed loop adds ONE to each deferred target in its exit list, once.
abbrev pub add_exit_edge : List ℕ → DeferredEdgeBundle → DeferredEdgeBundle
add_exit_edge xs e =
    let more : ℕ → IncomingEdgeCount = λ r. pick (is_in r xs) (suc e.accumulated_count) e.accumulated_count in
    elim e.target [ to_region r ↦ edge_bundle (to_region r) (more r) e.target_inputs e.condition | to_return ↦ e ]

-- Of header r: an input that is passed back unchanged is lifted out of the loop.
module _ (g : Graph) (r wrapper : ℕ) where
  abbrev pub take_input : ℕ → Value → LoopInputs → LoopInputs
  take_input k v x =
      let initial = input wrapper k in
      pick (same_value v (input r k)) (lift_input initial x) (keep_input initial (get_or (region g r).inputs k 0) v x)

  abbrev pub take_inputs : ℕ → List Value → LoopInputs → LoopInputs
  take_inputs k [] x = x
  take_inputs k (v ∷ vs) x = take_inputs (suc k) vs (take_input k v x)

module _ (g : Graph) where
  abbrev pub loop_node : ℕ → ℕ → LoopInputs → Value → LoopNode  -- number, header, its inputs taken, repeat value
  loop_node n r x v =
      let limit = (region g r).limit in
      record { number = n; initial_inputs = x.initial_inputs; body = r; types = x.types; limit = limit; outputs = x.outputs; repeat = v }

  -- The Rust's order of definitions: wrapper region, look_ups, repeat condition, node.
  -- body region, its children, the back edge, the repeat condition, the other deferred edges, the inputs from outside
  unfoldable pub structurize_loop : ℕ → Nodes → DeferredEdgeBundle → LazyCond → DeferredEdgeBundleSet → List Value
      → Step (Option ClaimedRegion)
  structurize_loop body children backedge repeat exits inputs = do
    wrapper ← define_region
    vs ← rewrite_values backedge.target_inputs
    let x = take_inputs g body wrapper 0 vs no_inputs
    insert_rewrites body (renumber_or_replace_with x.rewrites)
    v ← materialize_lazy_cond repeat
    n ← define_node
    let looped = loop (loop_node n body x v) children ▸ ⟨⟩
    give (some (claimed_as body wrapper inputs looped (map (add_exit_edge (exit_targets g body)) exits)))

-- ---- The Rust's try_claim_edge_bundle and structurize_region, which call each other.
-- target, accumulated count, inputs; none is the Rust's Err, the bundle handed back as it was
abbrev pub Claim : Type 0
Claim = ℕ → IncomingEdgeCount → List Value → Step (Option ClaimedRegion)

-- What split_out_matching hands out: the bundle, its claimed region, and the others in order.
pub record SplitOut : Type 0 where
  pub bundle : DeferredEdgeBundle
  pub claimed_region : ClaimedRegion
  pub others : DeferredEdgeBundleSet

-- The back edge is looked for only where the back edge count is not 0.
abbrev pub backedge_of : ℕ → IncomingEdgeCount → DeferredEdgeBundleSet → Option DeferredEdgeBundle
backedge_of r zero d = none
backedge_of r (suc b) d = get_edge_bundle_by_target (to_region r) d

abbrev pub defer_edge : Edge → MaybeClaimedRegion
defer_edge e = err (edge_bundle (to_region e.target) 1 e.inputs true_cond ∷ [])

-- A failed claim of a Ready region that is Unreachable and childless defers nothing.
abbrev pub unclaimed_edge : Edge → StructurizeRegionState → MaybeClaimedRegion
unclaimed_edge e not_begun = defer_edge e
unclaimed_edge e in_progress = defer_edge e
unclaimed_edge e claimed = defer_edge e
unclaimed_edge e (ready b children d) = pick (empty d && not (has_children children)) (err []) (defer_edge e)

abbrev pub edge_case : Edge → Option ClaimedRegion → Step MaybeClaimedRegion
edge_case e (some c) = give (ok c)
edge_case e none = get_state e.target >>= λ x. give (unclaimed_edge e x)

-- bundle, the others, the rest of the scan
abbrev pub split_out_or : DeferredEdgeBundle → DeferredEdgeBundleSet → Step (Option SplitOut) → Option ClaimedRegion
    → Step (Option SplitOut)
split_out_or e others more none = more
split_out_or e others more (some c) = give (some (record { bundle = e; claimed_region = c; others = others }))

-- A region is structurized when it is first observed.
abbrev pub begin : StructurizeRegionState → Step Unit → Step Unit
begin x go = elim x [ not_begun ↦ go | in_progress ↦ give tt | claimed ↦ give tt | ready b children d ↦ give tt ]

module _ (g : Graph) where
  abbrev pub claim_body : ℕ → List Value → Nodes → DeferredEdgeBundleSet → Option DeferredEdgeBundle → Step (Option ClaimedRegion)
  claim_body r inputs children d none = give (some (claimed_as r r inputs children d))
  claim_body r inputs children d (some e) = structurize_loop g r children e (condition_in d e) (split_out_target (to_region r) d) inputs

  -- target, accumulated count, inputs, its incoming count, its state. Not begun never comes; where it refuses otherwise the Rust stops, and
  -- that is never met (`refused_nine`).
  abbrev pub claim_by_state : ℕ → IncomingEdgeCount → List Value → IncomingEdgeCount → StructurizeRegionState → Step (Option ClaimedRegion)
  claim_by_state r n inputs incoming not_begun = turn_away never r
  claim_by_state r n inputs incoming claimed = turn_away never r
  claim_by_state r n inputs incoming in_progress = elim (eqb incoming n) [ false ↦ give none | true ↦ turn_away never r ]
  claim_by_state r n inputs incoming (ready b children d) =
      elim (eqb incoming (n + b)) [ false ↦ give none | true ↦ set_state r claimed >> claim_body r inputs children d (backedge_of r b d) ]

  -- What a terminator makes of its targets, each claimed or deferred: children, and deferred edges.
  abbrev pub by_control_inst : Nodes → ControlInst → List MaybeClaimedRegion → Step Body
  by_control_inst parent unreachable cs = give (region_body parent [])
  by_control_inst parent (return vs) cs = give (region_body parent (edge_bundle to_return 0 vs true_cond ∷ []))
  by_control_inst parent (exit_invocation op vs) cs = define_node >>= λ n. give (region_body (join parent (exit n op vs ▸ ⟨⟩)) [])
  by_control_inst parent (branch e) [] = give (region_body parent [])
  by_control_inst parent (branch e) (c ∷ cs) = append_maybe_claimed_region parent c
  by_control_inst parent (select_branch kind v es) cs = structurize_select_into g parent kind (value v) cs

  -- A turn of the Rust's loop over deferred edges; `go` is what follows.
  abbrev pub resolve_by : (Body → Step Body) → Body → Option SplitOut → Step Body
  resolve_by go x none = give x
  resolve_by go x (some y) =
      structurize_select_into g x.children bool_cond (lazy (condition_in x.deferred_edges y.bundle))
      (ok y.claimed_region ∷ err y.others ∷ []) >>= go

  -- Structurizing a region, over a way to claim.
  module _ (claim : Claim) where
    unfoldable pub target_regions : List Edge → Step (List MaybeClaimedRegion)  -- the Rust's target_regions
    target_regions [] = give []
    target_regions (e ∷ es) = do
      o ← claim e.target 1 e.inputs
      c ← edge_case e o
      cs ← target_regions es
      give (c ∷ cs)

    -- A scan that stops at the first claim and hands it out. `before`: the bundles already passed.
    unfoldable pub split_out_matching : DeferredEdgeBundleSet → DeferredEdgeBundleSet → Step (Option SplitOut)
    split_out_matching before [] = give none
    split_out_matching before (e ∷ es) =
        let more = split_out_matching (before ++ (e ∷ [])) es in
        elim e.target [
          | to_return ↦ more
          | to_region r ↦ claim r e.accumulated_count e.target_inputs >>= split_out_or e (before ++ es) more
        ]

    -- Until no deferred edge can be claimed. Each turn but the last claims a region, so the fuel is enough.
    unfoldable pub resolve_deferred : ℕ → Body → Step Body
    resolve_deferred zero x = give x
    resolve_deferred (suc fuel) x = split_out_matching [] x.deferred_edges >>= resolve_by (λ y. resolve_deferred fuel y) x

    -- The Rust's structurize_region: a region becomes Ready, with its children and what they defer.
    unfoldable pub structurize_region : ℕ → Step Unit
    structurize_region r = do
      set_state r in_progress
      cs ← target_regions (edges_of (region g r).terminator)
      x ← by_control_inst (blocks_of g r) (region g r).terminator cs
      y ← resolve_deferred (length g.regions) x
      set_state r (ready (count_to r y.deferred_edges) y.children y.deferred_edges)

  -- `counts` are the incoming counts. Fuel is one more than the regions not begun, so refusal 0 is never met (`refused_nine`).
  unfoldable pub try_claim_edge_bundle : List IncomingEdgeCount → ℕ → Claim
  try_claim_edge_bundle counts zero r n inputs = turn_away never r
  try_claim_edge_bundle counts (suc fuel) r n inputs =
      count_attempt >> get_state r >>= λ x.
      begin x (structurize_region (λ r' n' inputs'. try_claim_edge_bundle counts fuel r' n' inputs') r)
      >> get_state r >>= claim_by_state r n inputs (get_or counts r 0)

-- ---- The last rewriting: outputs take their places, and every value is looked up once more.
-- The outputs of a node; the declarations count the table's entries from a number on.
abbrev pub output_decls : ℕ → ℕ → List NodeOutput → List OutputDecl
output_decls n k [] = []
output_decls n k (o ∷ os) =
    pick (eqb n o.node) (record { number = k; type = o.type } ∷ output_decls n (suc k) os) (output_decls n (suc k) os)

abbrev pub case_outputs : ℕ → ℕ → List NodeOutput → List Value  -- of node n in the case at place j
case_outputs n j os = map (λ o. get_or o.values j (undef 0)) (filter (λ o. eqb n o.node) os)

abbrev pub look_up_reads : (Value → LookUp Value) → Instr → LookUp Instr
look_up_reads ρ i =
    plain (λ vs. record { opcode = i.opcode; type = i.type; cost = i.cost; reads = vs }) ⊛ look_up_each ρ i.reads

abbrev pub with_values : LoopNode → List Value → List Value → Value → LoopNode  -- initial inputs, outputs, repeat value
with_values x vs us v =
    record { number = x.number; initial_inputs = vs; body = x.body; types = x.types; limit = x.limit; outputs = us; repeat = v }

-- ρ is the look_up, os all outputs that were defined.
module _ (ρ : Value → LookUp Value) (os : List NodeOutput) where
  abbrev pub look_up_select : SelectNode → LookUp SelectNode
  look_up_select x =
      let outputs = output_decls x.number 0 os in
      plain (λ v. record { number = x.number; kind = x.kind; scrutinee = v; outputs = outputs }) ⊛ ρ x.scrutinee

  abbrev pub look_up_case_region : CaseRegion → ℕ → ℕ → LookUp CaseRegion  -- of node n, at place j
  look_up_case_region c n j = plain (λ vs. record { region = c.region; outputs = vs }) ⊛ look_up_each ρ (case_outputs n j os)

  abbrev pub look_up_loop : LoopNode → LookUp LoopNode
  look_up_loop x = plain (with_values x) ⊛ look_up_each ρ x.initial_inputs ⊛ look_up_each ρ x.outputs ⊛ ρ x.repeat

  unfoldable mutual
    pub look_up_node : Node → LookUp Node
    look_up_node (block n r k is) = plain (block n r k) ⊛ look_up_each (look_up_reads ρ) is
    look_up_node (select x cs) = plain select ⊛ look_up_select x ⊛ look_up_cases cs x.number 0
    look_up_node (loop x body) = plain loop ⊛ look_up_loop x ⊛ look_up_nodes body
    look_up_node (exit n op vs) = plain (exit n op) ⊛ look_up_each ρ vs

    pub look_up_nodes : Nodes → LookUp Nodes
    look_up_nodes ⟨⟩ = plain ⟨⟩
    look_up_nodes (x ▸ xs) = plain ◌▸◌ ⊛ look_up_node x ⊛ look_up_nodes xs

    pub look_up_cases : Cases → ℕ → ℕ → LookUp Cases  -- node, place of the first of these cases
    look_up_cases ∅ n j = plain ∅
    look_up_cases (case c body cs) n j = plain case ⊛ look_up_case_region c n j ⊛ look_up_nodes body ⊛ look_up_cases cs n (suc j)

-- ---- What nesting answers: one of document 01's four outcomes, in its order, with the regions that it gives, or a refusal.
pub data Outcome : Type 0 where
  untouched whole closed leftover : Outcome

-- A region of the answer. `inputs` are types. Rewritten, a deferred set of one has the condition true.
pub record Piece : Type 0 where
  pub region : ℕ
  pub inputs : List ℕ
  pub children : Nodes
  pub outputs : List Value
  pub deferred : DeferredEdgeBundleSet

-- `entry` has outputs if whole, deferred edges if leftover, no children if untouched.
pub record Nested : Type 0 where
  pub outcome : Outcome
  pub attempts : ℕ
  pub twice : Bool
  pub entry : Piece
  pub unclaimed : List Piece  -- the unclaimed Ready regions of a leftover, ascending
  pub output_nodes : List ℕ  -- the node of `output o` at place o

-- ---- The entry is claimed, and what comes of it is the answer.
abbrev pub initial_state : Graph → NestState
initial_state g =
    let counts : Counts = record { regions = length g.regions; nodes = block_count g.regions; merges = 0; attempts = 0 } in
    nest_state (replicate (length g.regions) not_begun) [] [] counts false

-- Whole if the deferred set is Always Return, closed if it is Unreachable.
abbrev pub outcome_of : DeferredEdgeBundleSet → Outcome
outcome_of [] = closed
outcome_of (e ∷ es) = elim e.target [ to_region r ↦ leftover | to_return ↦ pick (empty es) whole leftover ]

module _ (g : Graph) where
  abbrev pub piece : ℕ → Nodes → List Value → DeferredEdgeBundleSet → Piece  -- region, children, outputs, deferred edges
  piece r children outputs d = record { region = r; inputs = (region g r).inputs; children = children; outputs = outputs; deferred = d }

  -- The Ready regions that no one claimed, ascending.
  abbrev pub unclaimed_from : ℕ → List StructurizeRegionState → List Piece
  unclaimed_from r [] = []
  unclaimed_from r (x ∷ xs) =
      elim x [ not_begun ↦ [] | in_progress ↦ [] | claimed ↦ [] | ready b children d ↦ piece r children [] d ∷ [] ]
      ++ unclaimed_from (suc r) xs

module _ (g : Graph) (s : NestState) where
  -- The last rewriting of a piece, by the tables at the end; it takes the marks off.
  unfoldable pub look_up_piece : Piece → LookUp Piece
  look_up_piece p =
      let ρ = look_up_last s.region_input_rewrites in
      let given = look_up_each (look_up_bundle ρ (condition_in p.deferred)) p.deferred in
      plain (piece g p.region) ⊛ look_up_nodes ρ s.node_outputs p.children ⊛ look_up_each ρ p.outputs ⊛ given

  abbrev pub conclude_with : Outcome → Piece → List Piece → Nested  -- outcome, entry, unclaimed regions
  conclude_with outcome entry unclaimed =
      let x = look_up_piece entry in
      let xs = look_up_each look_up_piece unclaimed in
      record {
        outcome = outcome;
        attempts = s.attempts;
        twice = s.twice || (x.twice || xs.twice);
        entry = x.value;
        unclaimed = xs.value;
        output_nodes = map (λ o. o.node) s.node_outputs;
      }

  -- A whole form returns the values of its one deferred edge; a leftover also gives the Ready regions that no one claimed.
  abbrev pub conclude_by : Nodes → DeferredEdgeBundleSet → Outcome → Nested
  conclude_by children d untouched = conclude_with untouched (piece g g.entry ⟨⟩ [] []) []
  conclude_by children d whole = conclude_with whole (piece g g.entry children (get_or (map (λ e. e.target_inputs) d) 0 []) []) []
  conclude_by children d closed = conclude_with closed (piece g g.entry children [] []) []
  conclude_by children d leftover = conclude_with leftover (piece g g.entry children [] d) (unclaimed_from g 0 s.region_states)

-- The entry is always claimed, for its incoming count is 1: refusal 0 is never met (`refused_nine`).
unfoldable pub conclude : Graph → StepAnswer (Option ClaimedRegion) → Answer Nested
conclude g (turned_away n w) = refused n w
conclude g (done none s) = refused never 0
conclude g (done (some c) s) = accepted (conclude_by g s c.children c.deferred_edges (outcome_of c.deferred_edges))

-- An untouched record has an entry count other than 1: nothing is structurized.
unfoldable pub structurize_func_by : Graph → List IncomingEdgeCount → Answer Nested
structurize_func_by g counts =
    elim (eqb (get_or counts g.entry 0) 1) [
      | false ↦ accepted (conclude_by g (initial_state g) ⟨⟩ [] untouched)
      | true ↦ conclude g (try_claim_edge_bundle g counts (suc (length g.regions)) g.entry 1 [] (initial_state g))
    ]

-- The Rust's structurize_func, with the incoming counts of the graph.
unfoldable pub structurize_func : Graph → Answer Nested
structurize_func g = structurize_func_by g (incoming_edge_counts g)
