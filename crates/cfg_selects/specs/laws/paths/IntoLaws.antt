-- For the proofs of into.rt: the steps of structurize_select and what follows it, by how far they came; each may find its table full.
use Rattle.std.specs.Prelude.{◌≡◌, refl, Bool, true, false, ◌||◌, List, ℕ, ◌≤◌, ◌<◌}
use Rattle.std.proofs.Common.{ap, ◌∙◌, arith}
use Rattle.record.specs.Stands.{OfRecord}
use Rattle.std.specs.Prelude.{Ok}
use Rattle.state_regions.specs.declared.cases.CaseKind.TheVariants.{NothingDeferred}
use Rattle.state_words.specs.Totals.{Defined, Made, Done, Full}
use Rattle.state_regions.specs.declared.cases.Case.{Case}
use Rattle.state_words.specs.Sections.{word, stored, stored_all, set_lengths, cases}
use Rattle.state_regions.specs.RegionTables.{case_total, case_row, case_words}
use Rattle.state_sets.specs.SetTables.{swapped}
use Rattle.state_shown.specs.laws.FrontKept.{stands_kept, kinds_run}
use Rattle.cfg_bundles.specs.EdgesAndCases.{unclaimed_case, Appends}
use Rattle.cfg_merging.specs.Rewriting.{rewrite_cases}
use Rattle.cfg_merging.specs.Targets.{deferred_targets}
use Rattle.cfg_planning.specs.Planning.{planned, plan_bundles}
use Rattle.cfg_select_nodes.specs.declared.define.Scrutinee.{Scrutinee}
use Rattle.cfg_select_nodes.specs.Cases.{convergent_case, any_non_empty_case, all_replaced}
use Rattle.cfg_select_nodes.specs.Selects.{SelectDefined}
use Rattle.cfg_emits.specs.Emits.{Emits}
use Rattle.cfg_selects.specs.laws.paths.Fronts.{front_cases, front_targets, front_plans, front_select}
use Rattle.cfg_selects.specs.Into.{SelectIf, not_needed, select_refused, select_made, with_targets, with_plan, needs_select}
use Rattle.cfg_selects.specs.Into.{StructurizesSelect, not_structurized, structurized, spare_taken, set_aside, StructurizesInto}
use Rattle.cfg_selects.specs.Into.{one_follows, one_refused, all_together, all_refused}
use Rattle.state_words.specs.Rows.{case_row_at, spare_slot}

-- ---- The functions, path by path.
module _ (needed : Bool) (r shape : ℕ) (x : Scrutinee) (l : List ℕ) where
  pub if_not : needed ≡ false → OfRecord l (λ g. SelectIf g needed r shape x l l Done)
  if_not e g s = not_needed e refl

  module _ (is : needed ≡ true) {l₁ : List ℕ} {a : Defined} (made : SelectDefined r shape x l l₁ a) where
    pub if_full : a ≡ Full → OfRecord l (λ g. SelectIf g needed r shape x l l₁ Full)
    if_full e g s = select_refused is (rw e at made)

    pub if_made : {h : ℕ} → a ≡ Ok h → {l' : List ℕ} {b : Made} → OfRecord l₁ (λ g. Emits g h l₁ l' b)
        → OfRecord l (λ g. SelectIf g needed r shape x l l' b)
    if_made e y g s = select_made is (rw e at made) (y g (stands_kept (front_select made) s))

module _ (r shape : ℕ) (x : Scrutinee) (l : List ℕ) {some merged needed : Bool} {l₁ l₂ l₃ l₄ : List ℕ} {a : Made}
    (of_cases : some ≡ any_non_empty_case l) (rewritten : OfRecord l (λ g. l₁ ≡ rewrite_cases g l)) (targets : l₂ ≡ deferred_targets l₁)
    (plan : OfRecord l₂ (λ g. planned l₃ merged ≡ plan_bundles g l₂)) (both : needed ≡ (some || merged))
    (made : OfRecord l₃ (λ g. SelectIf g needed r shape x l₃ l₄ a)) where
  step_by_step : OfRecord l (λ g. SelectIf g (needs_select g l) r shape x (with_plan g l) l₄ a)
  step_by_step g s =
      let first = rewritten g s in
      let s₁ = stands_kept (front_cases g l) s in
      let s₂ = stands_kept (front_targets (rewrite_cases g l)) s₁ in
      let second : l₂ ≡ with_targets g l = targets ∙ rw first in
      let p : planned l₃ merged ≡ plan_bundles g (with_targets g l) = rw second at (plan g (rw second s₂)) in
      let s₃ = stands_kept (front_plans g (with_targets g l)) s₂ in
      let third : l₃ ≡ with_plan g l = ap (λ y. y.words) p in
      let fourth : merged ≡ (plan_bundles g (with_targets g l)).needed = ap (λ y. y.needed) p in
      let need : needed ≡ needs_select g l = both ∙ rw (of_cases, fourth) in
      rw (third, need) at (made g (rw third s₃))

  pub select_none : a ≡ Full → OfRecord l (λ g. StructurizesSelect g r shape x l l₄ Full)
  select_none e g s = not_structurized (rw e at (step_by_step g s))

  pub select_all : a ≡ Done → {l' : List ℕ} → l' ≡ all_replaced l₄ (case_total l₄) 0
      → OfRecord l (λ g. StructurizesSelect g r shape x l l' Done)
  select_all e p g s = structurized (rw e at (step_by_step g s)) p

pub spare_by : (l : List ℕ) (r : ℕ) {n : ℕ} {l₁ l₂ : List ℕ} → n ≡ word l set_lengths spare_slot → l₁ ≡ swapped l r spare_slot
    → l₂ ≡ stored l₁ set_lengths r n → l₂ ≡ spare_taken l r
spare_by l r a b c = c ∙ rw (b, a)

module _ (r shape : ℕ) (x : Scrutinee) (l : List ℕ) {j : ℕ} (found : j ≡ convergent_case l) where
  module _ (one : j < 8) {y z : Case} {l₁ l₂ : List ℕ} {a : Made} (row : y ≡ case_row l j) (none : z ≡ unclaimed_case NothingDeferred 0 0)
      (aside : l₁ ≡ stored_all l cases (case_row_at j) (case_words z))
      (made : OfRecord l₁ (λ g. StructurizesSelect g r shape x l₁ l₂ a)) where
    below : convergent_case l < 8
    below = rw found at one

    alone : OfRecord l (λ g. StructurizesSelect g r shape x (set_aside l (convergent_case l)) l₂ a)
    alone g s =
        let e : l₁ ≡ set_aside l (convergent_case l) = aside ∙ rw (none, found) in
        rw e at (made g (rw e (stands_kept (kinds_run l cases (omega arith) (case_row_at (convergent_case l))
        (case_words (unclaimed_case NothingDeferred 0 0))) s)))

    pub into_refused : a ≡ Full → OfRecord l (λ g. StructurizesInto g r shape x l l₂ Full)
    into_refused e g s = one_refused below (rw e at (alone g s))

    pub into_one : a ≡ Done → {l' : List ℕ} → Appends l₂ l' r y j → OfRecord l (λ g. StructurizesInto g r shape x l l' Done)
    into_one e w g s = one_follows below (rw e at (alone g s)) (rw (row, found) at w)

  module _ (more : 8 ≤ j) {l₁ : List ℕ} {a : Made} (made : OfRecord l (λ g. StructurizesSelect g r shape x l l₁ a)) where
    pub into_none : a ≡ Full → OfRecord l (λ g. StructurizesInto g r shape x l l₁ Full)
    into_none e g s = all_refused (rw found at more) (rw e at (made g s))

    pub into_all : a ≡ Done → {l' : List ℕ} → l' ≡ spare_taken l₁ r → OfRecord l (λ g. StructurizesInto g r shape x l l' Done)
    into_all e p g s = all_together (rw found at more) (rw e at (made g s)) p
