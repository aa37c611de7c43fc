-- A select and what follows it, as the words and the graph have them.
use Rattle.std.specs.Prelude.{◌≡◌, Bool, true, false, ◌||◌, List, ℕ, ◌≤◌, ◌<◌}
use Rattle.meaning.specs.Graph.{Graph}
use Rattle.std.specs.Prelude.{Ok}
use Rattle.state_regions.specs.declared.cases.CaseKind.TheVariants.{NothingDeferred}
use Rattle.state_words.specs.Totals.{Made, Done, Full}
use Rattle.state_words.specs.Sections.{word, stored, stored_all, set_lengths, cases}
use Rattle.state_regions.specs.RegionTables.{case_total, case_row, case_words}
use Rattle.state_sets.specs.SetTables.{swapped}
use Rattle.cfg_bundles.specs.EdgesAndCases.{unclaimed_case, Appends}
use Rattle.cfg_merging.specs.Rewriting.{rewrite_cases}
use Rattle.cfg_merging.specs.Targets.{deferred_targets}
use Rattle.cfg_planning.specs.Planning.{plan_bundles}
use Rattle.cfg_select_nodes.specs.declared.define.Scrutinee.{Scrutinee}
use Rattle.cfg_select_nodes.specs.Cases.{convergent_case, any_non_empty_case, all_replaced}
use Rattle.cfg_select_nodes.specs.Selects.{SelectDefined}
use Rattle.cfg_emits.specs.Emits.{Emits}
use Rattle.state_words.specs.Rows.{case_row_at, spare_slot}

pub data SelectIf (g : Graph) (needed : Bool) (r shape : ℕ) (x : Scrutinee) (l l' : List ℕ) : Made → Type 0 where
  not_needed : needed ≡ false → l' ≡ l → SelectIf g needed r shape x l l' Done
  select_refused : needed ≡ true → SelectDefined r shape x l l' Full → SelectIf g needed r shape x l l' Full
  select_made : {l₁ : List ℕ} {h : ℕ} {a : Made} → needed ≡ true → SelectDefined r shape x l l₁ (Ok h) → Emits g h l₁ l' a
      → SelectIf g needed r shape x l l' a

-- ---- With no convergent case set aside.
-- The words when all cases are rewritten and their deferred targets stand in the spare slot.
abbrev pub with_targets : Graph → List ℕ → List ℕ
with_targets g l = deferred_targets (rewrite_cases g l)

-- With what is planned for them.
abbrev pub with_plan : Graph → List ℕ → List ℕ
with_plan g l = (plan_bundles g (with_targets g l)).words

abbrev pub needs_select : Graph → List ℕ → Bool
needs_select g l = any_non_empty_case l || (plan_bundles g (with_targets g l)).needed

pub data StructurizesSelect (g : Graph) (r shape : ℕ) (x : Scrutinee) (l l' : List ℕ) : Made → Type 0 where
  not_structurized : SelectIf g (needs_select g l) r shape x (with_plan g l) l' Full → StructurizesSelect g r shape x l l' Full
  structurized : {l₁ : List ℕ} → SelectIf g (needs_select g l) r shape x (with_plan g l) l₁ Done → l' ≡ all_replaced l₁ (case_total l₁) 0
      → StructurizesSelect g r shape x l l' Done

-- The spare slot's set becomes region r's.
abbrev pub spare_taken : List ℕ → ℕ → List ℕ
spare_taken l r = stored (swapped l r spare_slot) set_lengths r (word l set_lengths spare_slot)

-- Case j is set aside: it is Unreachable.
abbrev pub set_aside : List ℕ → ℕ → List ℕ
set_aside l j = stored_all l cases (case_row_at j) (case_words (unclaimed_case NothingDeferred 0 0))

pub data StructurizesInto (g : Graph) (r shape : ℕ) (x : Scrutinee) (l l' : List ℕ) : Made → Type 0 where
  one_follows : {l₁ : List ℕ} → convergent_case l < 8 → StructurizesSelect g r shape x (set_aside l (convergent_case l)) l₁ Done
      → Appends l₁ l' r (case_row l (convergent_case l)) (convergent_case l) → StructurizesInto g r shape x l l' Done
  one_refused : convergent_case l < 8 → StructurizesSelect g r shape x (set_aside l (convergent_case l)) l' Full
      → StructurizesInto g r shape x l l' Full
  all_together : {l₁ : List ℕ} → 8 ≤ convergent_case l → StructurizesSelect g r shape x l l₁ Done → l' ≡ spare_taken l₁ r
      → StructurizesInto g r shape x l l' Done
  all_refused : 8 ≤ convergent_case l → StructurizesSelect g r shape x l l' Full → StructurizesInto g r shape x l l' Full
