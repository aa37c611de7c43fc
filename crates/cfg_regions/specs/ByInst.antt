-- What a terminator makes of its targets, as the words alone have it.
use Rattle.std.specs.Prelude.{◌≡◌, List, ℕ, eqb, length, get_or}
use Rattle.meaning.specs.Graph.{Graph, region, edges_of, no_value}
use Rattle.meaning.specs.Lists.{pick}
use Rattle.fields.specs.ByNumber.{end_values}
use Rattle.fields.specs.Shape.{value_is, terminator_is}
use Rattle.fields.specs.declared.shape.Value.{Value}
use Rattle.fields.specs.declared.shape.Terminator.TheVariants.{Unreachable, Return, ExitInvocation, Branch, SelectBool, SelectNumber}
use Rattle.std.specs.Prelude.{Ok}
use Rattle.state_words.specs.Totals.{Made, Done, Full}
use Rattle.state_words.specs.Sections.{word, stored, kinds, backedges, children, set_starts, set_lengths}
use Rattle.state_nodes.specs.NodeTables.{Adds}
use Rattle.state_words.specs.Totals.{Defines}
use Rattle.state_sets.specs.SetTables.{bundle_at}
use Rattle.state_regions.specs.RegionTables.{case_row}
use Rattle.state_words.specs.Values.{value_word}
use Rattle.cfg_bundles.specs.EdgesAndCases.{condition_in, return_deferred, cases_filled, split_filled, Appends}
use Rattle.cfg_select_nodes.specs.declared.define.Scrutinee.TheVariants as scrutinee
use Rattle.cfg_selects.specs.Into.{StructurizesInto}
use Rattle.cfg_regions.specs.ByState.{backedge_at}
use Rattle.state_nodes.specs.NodeTables.{Blocks, Exit}
use Rattle.nesting.specs.Nesting.{most_nodes}
use Rattle.state_words.specs.Rows.{bundle_count, kind_ready, no_bundle_word, nodes_at}

pub data AddsBlocks (g : Graph) (w : List ℕ) (r : ℕ) (w' : List ℕ) : Type 0 where
  no_blocks : length (region g r).blocks ≡ 0 → w' ≡ stored w children r 0 → AddsBlocks g w r w'
  some_blocks : {w₁ : List ℕ} {h : ℕ} → (length (region g r).blocks ≡ 0 → ⊥) → Adds w w₁ (Blocks r) h → w' ≡ stored w₁ children r h
      → AddsBlocks g w r w'

pub data AddsExit (w : List ℕ) (r : ℕ) (w' : List ℕ) : Made → Type 0 where
  exit_full : Defines nodes_at most_nodes w w' Full → AddsExit w r w' Full
  exit_added : {w₁ w₂ : List ℕ} {node h : ℕ} → Defines nodes_at most_nodes w w₁ (Ok node)
      → Adds w₁ w₂ (Exit (word w₁ children r) node r) h → w' ≡ stored w₂ children r h → AddsExit w r w' Done

pub data Branches (g : Graph) (w : List ℕ) (r : ℕ) (w' : List ℕ) : Made → Type 0 where
  branches : Appends (cases_filled g w r) w' r (case_row (cases_filled g w r) 0) 0 → Branches g w r w' Done

pub data Selects (g : Graph) (w : List ℕ) (r shape : ℕ) (w' : List ℕ) (a : Made) : Type 0 where
  selects : (v : Value) → value_is v ≡ get_or (end_values g r) 0 no_value
      → StructurizesInto g r shape (scrutinee.Value (value_word v)) (cases_filled g w r) w' a → Selects g w r shape w' a

abbrev pub SelectsNumber : Graph → List ℕ → ℕ → List ℕ → Made → Type 0
SelectsNumber g w r w' a = Selects g w r (length (edges_of (region g r).terminator)) w' a

pub data ByTerminator (g : Graph) (w : List ℕ) (r : ℕ) (w' : List ℕ) : Made → Type 0 where
  at_unreachable : terminator_is Unreachable (region g r).terminator ≡ (region g r).terminator → w' ≡ w → ByTerminator g w r w' Done
  at_return : terminator_is Return (region g r).terminator ≡ (region g r).terminator → w' ≡ return_deferred g w r
      → ByTerminator g w r w' Done
  at_exit : {op : ℕ} {a : Made} → terminator_is (ExitInvocation op) (region g r).terminator ≡ (region g r).terminator → AddsExit w r w' a
      → ByTerminator g w r w' a
  at_branch : {a : Made} → terminator_is Branch (region g r).terminator ≡ (region g r).terminator → Branches g w r w' a
      → ByTerminator g w r w' a
  at_bool : {a : Made} → terminator_is SelectBool (region g r).terminator ≡ (region g r).terminator → Selects g w r 0 w' a
      → ByTerminator g w r w' a
  at_number : {a : Made} → terminator_is SelectNumber (region g r).terminator ≡ (region g r).terminator → SelectsNumber g w r w' a
      → ByTerminator g w r w' a

pub data ByControlInst (g : Graph) (w : List ℕ) (r : ℕ) (w' : List ℕ) (a : Made) : Type 0 where
  by_inst : {w₁ w₂ : List ℕ} → AddsBlocks g w r w₁ → w₂ ≡ stored w₁ set_lengths r 0 → ByTerminator g w₂ r w' a → ByControlInst g w r w' a

-- Bundle i of region r's own set, and the condition under which it is taken.
abbrev pub own_bundle : List ℕ → ℕ → ℕ → ℕ
own_bundle w r i = bundle_at (word w set_starts r) i

abbrev pub own_condition : List ℕ → ℕ → ℕ → ℕ
own_condition w r i = condition_in w (own_bundle w r i) (word w set_lengths r)

pub data ResolvesBy (g : Graph) (w : List ℕ) (r i : ℕ) (w' : List ℕ) (a : Made) : Type 0 where
  resolves : StructurizesInto g r 0 (scrutinee.Lazy (own_condition w r i)) (split_filled g w r i) w' a → ResolvesBy g w r i w' a

unfoldable pub backedges_deferred : List ℕ → ℕ → ℕ
backedges_deferred w r = pick (eqb (backedge_at w r) no_bundle_word) 0 (bundle_count w (backedge_at w r))

abbrev pub made_ready : List ℕ → ℕ → List ℕ
made_ready w r = stored (stored w backedges r (backedges_deferred w r)) kinds r kind_ready
