-- For the proofs of inst.rt: what a function read and stored on one of its paths is the step that ByInst names for it. The record is shown
-- to stand on where a later part of the same function reads it again.
use Rattle.std.specs.Prelude.{◌≡◌, List, ℕ, get_or}
use Rattle.std.proofs.Common.{sym, subst, ◌∙◌, arith, eq-eqb, ne_eqb}
use Rattle.meaning.specs.Graph.{Graph, no_value, ControlInst}
use Rattle.record.specs.Stands.{Stands}
use Rattle.fields.specs.ByNumber.{end_values}
use Rattle.fields.specs.Shape.{value_is, terminator_is}
use Rattle.fields.specs.declared.shape.Value.{Value}
use Rattle.fields.specs.declared.shape.Terminator.{Terminator}
use Rattle.state_regions.specs.declared.cases.Case.{Case}
use Rattle.std.specs.Prelude.{Ok}
use Rattle.state_words.specs.Totals.{Defined, Made, Done, Full}
use Rattle.state_words.specs.Sections.{word, stored, children, set_lengths}
use Rattle.state_nodes.specs.NodeTables.{Adds}
use Rattle.state_words.specs.Totals.{Defines}
use Rattle.state_regions.specs.RegionTables.{case_row}
use Rattle.state_words.specs.Values.{value_word}
use Rattle.cfg_bundles.specs.EdgesAndCases.{condition_in, cases_filled, split_filled, Appends}
use Rattle.state_shown.specs.Front.{SameKinds}
use Rattle.state_shown.specs.laws.FrontKept.{stands_kept, kinds_stored, kinds_then, adds_kinds}
use Rattle.cfg_regions.specs.laws.Leaves.{cases_kinds, split_kinds}
use Rattle.cfg_select_nodes.specs.declared.define.Scrutinee.TheVariants as scrutinee
use Rattle.cfg_selects.specs.Into.{StructurizesInto}
use Rattle.cfg_regions.specs.ByState.{backedge_at}
use Rattle.state_nodes.specs.NodeTables.{Exit}
use Rattle.nesting.specs.Nesting.{most_nodes}
use Rattle.cfg_regions.specs.ByInst.{AddsBlocks, no_blocks, some_blocks, AddsExit, exit_full, exit_added, Branches, branches, Selects}
use Rattle.cfg_regions.specs.ByInst.{selects, ByTerminator, ByControlInst, by_inst, ResolvesBy, resolves, own_bundle}
use Rattle.cfg_regions.specs.ByInst.{backedges_deferred}
use Rattle.state_words.specs.Rows.{bundle_count, no_bundle_word}

-- ---- The functions, path by path.
pub blocks_kinds : {g : Graph} {w w' : List ℕ} {r : ℕ} → AddsBlocks g w r w' → SameKinds w w'
blocks_kinds {w} {r} (no_blocks z e) = rw e (kinds_stored w children (omega arith) r 0)
blocks_kinds {r} (some_blocks {w₁} {h} d x e) = rw e (kinds_then (adds_kinds x) (kinds_stored w₁ children (omega arith) r h))

pub exit_none : {w w' : List ℕ} {r : ℕ} {a : Defined} → Defines 1 most_nodes w w' a → a ≡ Full → AddsExit w r w' Full
exit_none d e = exit_full (rw e at d)

pub exit_some : {w w₁ w₂ w' : List ℕ} {r node h before : ℕ} {a : Defined} → Defines 1 most_nodes w w₁ a → a ≡ Ok node
    → before ≡ word w₁ children r → Adds w₁ w₂ (Exit before node r) h → w' ≡ stored w₂ children r h → AddsExit w r w' Done
exit_some d e b x s = exit_added (rw e at d) (rw b at x) s

module _ (g : Graph) (w : List ℕ) (r : ℕ) {w₁ : List ℕ} (st : Stands w g) (filled : w₁ ≡ cases_filled g w r) where
  stands_filled : Stands w₁ g
  stands_filled = rw filled (stands_kept (cases_kinds g w r) st)

  pub branch_path : {x : Case} → x ≡ case_row w₁ 0 → {w₂ : List ℕ} → Appends w₁ w₂ r x 0 → Branches g w r w₂ Done
  branch_path e y = branches (rw (e, filled) at y)

  pub select_path : (shape : ℕ) (v : Value) → (Stands w₁ g → value_is v ≡ get_or (end_values g r) 0 no_value) → {x : ℕ} → x ≡ value_word v
      → {w₂ : List ℕ} {a : Made} → (Stands w₁ g → StructurizesInto g r shape (scrutinee.Value x) w₁ w₂ a) → Selects g w r shape w₂ a
  select_path shape v p e y = selects v (p stands_filled) (rw (e, filled) at (y stands_filled))

module _ {g : Graph} {w w₁ w₂ : List ℕ} {r : ℕ} (st : Stands w g) (blocks : Stands w g → AddsBlocks g w r w₁)
    (emptied : w₂ ≡ stored w₁ set_lengths r 0) where
  pub inst_path : {w₃ : List ℕ} {a : Made} → (Stands w₂ g → ByTerminator g w₂ r w₃ a) → ByControlInst g w r w₃ a
  inst_path y =
      let on : Stands w₂ g = rw emptied (stands_kept (kinds_then (blocks_kinds (blocks st))
      (kinds_stored w₁ set_lengths (omega arith) r 0)) st) in
      by_inst (blocks st) emptied (y on)

module _ (g : Graph) (w : List ℕ) (r i : ℕ) {n p c : ℕ} {w₁ : List ℕ} (st : Stands w g) (of_length : n ≡ word w set_lengths r)
    (at : p ≡ own_bundle w r i) (under : c ≡ condition_in w p n) (filled : Stands w g → w₁ ≡ split_filled g w r i) where
  pub resolve_path : {w₂ : List ℕ} {a : Made} → (Stands w₁ g → StructurizesInto g r 0 (scrutinee.Lazy c) w₁ w₂ a) → ResolvesBy g w r i w₂ a
  resolve_path y =
      let on : Stands w₁ g = rw (filled st) (stands_kept (split_kinds g w r i) st) in
      resolves (rw (under, at, of_length, filled st) at (y on))

module _ (w : List ℕ) (r p : ℕ) (found : p ≡ backedge_at w r) where
  pub deferred_none : p ≡ no_bundle_word → 0 ≡ backedges_deferred w r
  unfolding backedges_deferred
  deferred_none e = rw (eq-eqb (backedge_at w r) no_bundle_word (sym found ∙ e))

  pub deferred_some : (p ≡ no_bundle_word → ⊥) → (n : ℕ) → n ≡ bundle_count w p → n ≡ backedges_deferred w r
  unfolding backedges_deferred
  deferred_some d n e = e ∙ rw (ne_eqb (backedge_at w r) no_bundle_word (λ z. d (found ∙ z)), found)

-- The terminator's kind, as it was told.
pub told_kind : {x : ControlInst} (k : Terminator) → terminator_is k x ≡ x → {k' : Terminator} → k ≡ k' → terminator_is k' x ≡ x
told_kind {x} k h e = subst (λ z. terminator_is z x ≡ x) e h
