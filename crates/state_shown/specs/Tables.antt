-- What the words show of a state of nesting: its rewrites, outputs, conditions and totals. Each part speaks of one section's words, or of
-- one word of the head; a condition of its records, of the cells of their selects and of how many there are. So a store elsewhere leaves
-- it as it is.
use Rattle.std.specs.Prelude.{◌≡◌, false, ℕ, suc, ◌+◌, ◌≤◌, ◌<◌, length, get_or}
use mathlib.Core.List.{List, [], map, Memᴰ}
use Rattle.std.proofs.Math.Option.{Option, none, some}
use Rattle.meaning.specs.Graph.{Value, SelectionKind, bool_cond, number, undef, held}
use Rattle.nesting.specs.Nesting.{LazyCond, undef_cond, false_cond, true_cond, merge, LazyConds, no_conds, ◌&◌, InputRewrite, renumber_to}
use Rattle.nesting.specs.Nesting.{replace_by, RegionInputRewrites, replace_with, renumber_or_replace_with, RewriteEntry, NodeOutput}
use Rattle.nesting.specs.Nesting.{NestState, StepAnswer, done, turned_away, rewrites_of, most_regions, most_nodes, most_merges}
use Rattle.nesting.specs.Nesting.{most_outputs}
use Rattle.std.specs.Prelude.{Ok}
use Rattle.state_words.specs.Totals.{Defined, Full}
use Rattle.state_words.specs.Sections.{section, word, head, rewrites, outputs, used}
use Rattle.state_nodes.specs.NodeTables.{entry_kind}
use Rattle.state_words.specs.Values.{is_held}
use Rattle.state_shown.specs.Values.{value}
use Rattle.meaning.specs.Lists.{bit}
use Rattle.format.specs.Refusals.{too_many}
use Rattle.state_words.specs.Rows.{attempts_at, cells_at, condition_false, condition_true, condition_undef, entry_none, entry_renumber}
use Rattle.state_words.specs.Rows.{entry_replace, merge_node, merge_part, merge_scrutinee, merge_select, merge_shape, merges_at, bool_shape}
use Rattle.state_words.specs.Rows.{merges_from}
use Rattle.state_words.specs.Rows.{nodes_at, output_node_at, output_type_at, output_values_at, outputs_at, regions_at, rewrite_value_at}
use Rattle.state_words.specs.Rows.{twice_at}

-- ---- Rewrites: five words for a region.
-- The word at a loop header's input: a marked one is the new number of an input that stays.
pub data ShowsInput (r x : ℕ) : InputRewrite → Type 0 where
  renumbered : {i : ℕ} → value x ≡ held r i → ShowsInput r x (renumber_to i)
  replaced : {v : Value} → value x ≡ v → is_held x ≡ false → ShowsInput r x (replace_by v)

-- Beyond a list's end the words have what the definition takes there.
pub data ShowsEntry (l : List ℕ) (r : ℕ) : Option RegionInputRewrites → Type 0 where
  no_entry : entry_kind l r ≡ entry_none → ShowsEntry l r none
  replaces : {vs : List Value} → entry_kind l r ≡ entry_replace
      → ((k : ℕ) → k < 4 → value (get_or l (rewrite_value_at r k) 0) ≡ get_or vs k (undef 0))
      → ShowsEntry l r (some (replace_with vs))
  renumbers : {xs : List InputRewrite} → entry_kind l r ≡ entry_renumber
      → ((k : ℕ) → k < 4 → ShowsInput r (get_or l (rewrite_value_at r k) 0) (get_or xs k (renumber_to k)))
      → ShowsEntry l r (some (renumber_or_replace_with xs))

-- The kind and the four words of an entry to be.
pub data EntryWords (r kind : ℕ) (ws : List ℕ) : RegionInputRewrites → Type 0 where
  replace_words : {vs : List Value} → kind ≡ entry_replace → ((k : ℕ) → k < 4 → value (get_or ws k 0) ≡ get_or vs k (undef 0))
      → EntryWords r kind ws (replace_with vs)
  renumber_words : {xs : List InputRewrite} → kind ≡ entry_renumber
      → ((k : ℕ) → k < 4 → ShowsInput r (get_or ws k 0) (get_or xs k (renumber_to k)))
      → EntryWords r kind ws (renumber_or_replace_with xs)

pub record ShowsRewrites (l : List ℕ) (es : List RewriteEntry) : Type 0 where
  pub entry : (r : ℕ) → r < most_regions → ShowsEntry l r (rewrites_of es r)
  pub logged : (r : ℕ) → Memᴰ r (map (λ e. e.region) es) → r < most_regions

-- ---- Outputs: ten words each.
-- Of eight words in a row, the first stand for these values, and the others for what the definition takes beyond them.
pub record ShowsValues (ws : List ℕ) (i : ℕ) (vs : List Value) : Type 0 where
  pub few : length vs ≤ 8
  pub each : (j : ℕ) → j < 8 → value (get_or ws (i + j) 0) ≡ get_or vs j (undef 0)

pub record ShowsOutput (l : List ℕ) (o : ℕ) (x : NodeOutput) : Type 0 where
  pub node : get_or l (output_node_at o) 0 ≡ x.node
  pub type : get_or l (output_type_at o) 0 ≡ x.type
  pub values : ShowsValues l (output_values_at o) x.values

abbrev pub no_output : NodeOutput
no_output = record { node = 0; type = 0; values = [] }

abbrev pub ShowsOutputs : List ℕ → List NodeOutput → Type 0
ShowsOutputs l os = (o : ℕ) → o < length os → ShowsOutput l o (get_or os o no_output)

-- ---- Conditions: nine words for a record, which names the cell of its select; its parts are earlier ones.
pub data ShowsShape (shape n : ℕ) : SelectionKind → Type 0 where
  shape_bool : shape ≡ bool_shape → n ≡ 2 → ShowsShape shape n bool_cond
  shape_number : 1 ≤ shape → shape ≤ 8 → n ≡ shape → ShowsShape shape n number

abbrev pub cond_count : LazyConds → ℕ
cond_count no_conds = 0
cond_count (t & ts) = suc (cond_count ts)

mutual
  pub data ShowsCond (w : List ℕ) : ℕ → LazyCond → Type 0 where
    shows_true : {c : ℕ} → c ≡ condition_true → ShowsCond w c true_cond
    shows_false : {c : ℕ} → c ≡ condition_false → ShowsCond w c false_cond
    shows_undef : {c : ℕ} → c ≡ condition_undef → ShowsCond w c undef_cond
    shows_merge : {c n : ℕ} {kind : SelectionKind} {v : Value} {ts : LazyConds} → merges_from ≤ c
        → merge_select w c < word w head cells_at
        → merge_node w c ≡ n → ShowsShape (merge_shape w c) (cond_count ts) kind → value (merge_scrutinee w c) ≡ v → ShowsConds w c 0 ts
        → ShowsCond w c (merge n kind v ts)

  -- The parts of record c from place j on.
  pub data ShowsConds (w : List ℕ) : ℕ → ℕ → LazyConds → Type 0 where
    no_parts : {c j : ℕ} → ShowsConds w c j no_conds
    part_and : {c j p : ℕ} {t : LazyCond} {ts : LazyConds} → merge_part w c j ≡ p → p < c → ShowsCond w p t
        → ShowsConds w c (suc j) ts
        → ShowsConds w c j (t & ts)

-- A condition that was made, by its number.
pub record ShowsCondition (w : List ℕ) (c : ℕ) (t : LazyCond) : Type 0 where
  pub tree : ShowsCond w c t
  pub made : c < merges_from + word w head merges_at

-- Words in a row, from place j on, are conditions that were made.
pub data ShowsParts (w ps : List ℕ) : ℕ → LazyConds → Type 0 where
  none_left : {j : ℕ} → ShowsParts w ps j no_conds
  one_and : {j : ℕ} {t : LazyCond} {ts : LazyConds} → ShowsCondition w (get_or ps j 0) t → ShowsParts w ps (suc j) ts
      → ShowsParts w ps j (t & ts)

-- ---- All tables, and the totals of the head, each within its limit.
pub record ShowsTables (w : List ℕ) (s : NestState) : Type 0 where
  pub size : used ≤ length w
  pub region_total : word w head regions_at ≡ s.region_count
  pub node_total : word w head nodes_at ≡ s.node_count
  pub merge_total : word w head merges_at ≡ s.merge_count
  pub output_total : word w head outputs_at ≡ length s.node_outputs
  pub attempts : word w head attempts_at ≡ s.attempts
  pub twice : word w head twice_at ≡ bit s.twice
  pub few_regions : s.region_count ≤ most_regions
  pub few_nodes : s.node_count ≤ most_nodes
  pub few_merges : s.merge_count ≤ most_merges
  pub few_outputs : length s.node_outputs ≤ most_outputs
  pub rewritten : ShowsRewrites (section w rewrites) s.region_input_rewrites
  pub outputs_shown : ShowsOutputs (section w outputs) s.node_outputs

-- What a step of the code answers, and its words, show what the definition's step gives: a number that shows its value, or refusal 9.
pub data ShowsDefined {A : Type 0} (R : ℕ → A → Type 0) (w : List ℕ) : Defined → StepAnswer A → Type 0 where
  shows_done : {x : ℕ} {a : A} {s : NestState} → R x a → ShowsTables w s → ShowsDefined R w (Ok x) (done a s)
  shows_full : ShowsDefined R w Full (turned_away too_many 0)

-- Taken apart by what the code answered.
pub record Done {A : Type 0} (R : ℕ → A → Type 0) (w : List ℕ) (x : ℕ) (b : StepAnswer A) : Type 0 where
  pub value : A
  pub state : NestState
  pub is : b ≡ done value state
  pub shows : R x value
  pub tables : ShowsTables w state
