-- The record stands in front of all that a select stores.
use Rattle.std.specs.Prelude.{Bool, true, false, List, [], ◌∷◌, ℕ, ◌+◌, eqb}
use Rattle.std.proofs.Common.{arith}
use Rattle.meaning.specs.Lists.{pick}
use Rattle.meaning.specs.Graph.{Graph}
use Rattle.state_words.specs.Totals.{Defined, Made}
use Rattle.state_words.specs.Sections.{word, stored, stored_all, children, set_starts, set_lengths, cases, bundles}
use Rattle.state_words.specs.Totals.{edges_word}
use Rattle.state_regions.specs.RegionTables.{case_total}
use Rattle.state_sets.specs.SetTables.{bundle_at, find_by}
use Rattle.state_shown.specs.Front.{SameKinds}
use Rattle.state_shown.specs.laws.FrontKept.{kinds_same, kinds_stored, kinds_run, kinds_then, defines_kinds, adds_kinds}
use Rattle.cfg_lookups.specs.Materialized.{Merges, the_scrutinee, new_output, no_output, Materializes, made_true, made_false, made_undef}
use Rattle.cfg_lookups.specs.Materialized.{made_merge, full_part, PartsMade, no_part, part_more}
use Rattle.cfg_merging.specs.Turns.{front_turned}
use Rattle.cfg_merging.specs.Rewriting.{rewrite_case, rewrite_cases}
use Rattle.cfg_merging.specs.laws.paths.RewritingLaws.{front_case}
use Rattle.cfg_merging.specs.Targets.{longer, row_added, edges_added, summarize_bundle, summarize_set, summarize_case, deferred_targets}
use Rattle.cfg_planning.specs.Planning.{planned, plan_at, plan_bundles}
use Rattle.cfg_planning.specs.laws.paths.PlanningLaws.{front_plan}
use Rattle.cfg_select_nodes.specs.declared.define.Scrutinee.{Scrutinee}
use Rattle.cfg_select_nodes.specs.laws.paths.TurnsLaws.{front_turns}
use Rattle.cfg_select_nodes.specs.Cases.{GetsRegion, has_region, new_region, no_region}
use Rattle.cfg_select_nodes.specs.Selects.{ScrutineeMade, given_value, made_value, CaseCells, cells_over, cell_more, SelectAdded}
use Rattle.cfg_select_nodes.specs.Selects.{select_added}
use Rattle.cfg_select_nodes.specs.Selects.{SelectDefined, regions_full, scrutinee_full, node_full, select_defined}
use Rattle.cfg_emits.specs.laws.paths.EmitsLaws.{front_output}
use Rattle.state_words.specs.Rows.{bundle_count, bundle_count_at, bundle_row_at, bundle_target, case_body_at, case_set_length}
use Rattle.state_words.specs.Rows.{case_set_start, no_bundle_word}
use Rattle.state_words.specs.Rows.{spare_slot}

-- ---- Cases rewritten, their targets, and what is planned for them.
pub front_cases : (g : Graph) (l : List ℕ) → SameKinds l (rewrite_cases g l)
unfolding rewrite_cases
front_cases g l = front_turned (λ m. m) (λ m j. rewrite_case g m j) (λ m j. front_case g m j) (case_total l) l 0

front_summary : (l : List ℕ) (p : ℕ) → SameKinds l (summarize_bundle l p)
unfolding summarize_bundle
front_summary l p = go (eqb q no_bundle_word)
  where
    n : ℕ
    n = word l set_lengths spare_slot

    q : ℕ
    q = find_by l (word l set_starts spare_slot) (bundle_target l p) n 0

    go : (b : Bool) → SameKinds l (pick b (row_added l p (word l set_starts spare_slot) n) (edges_added l p q))
    go true =
        let xs = bundle_target l p ∷ bundle_count l p ∷ 1 ∷ [] in
        let at = bundle_row_at (bundle_at (word l set_starts spare_slot) n) in
        kinds_then (kinds_run l bundles (omega arith) at xs) (kinds_stored (stored_all l bundles at xs) set_lengths (omega arith) spare_slot
        (longer n 1))
    go false = kinds_stored l bundles (omega arith) (bundle_count_at q) (edges_word (bundle_count l q + bundle_count l p))

front_summaries : (l : List ℕ) (j : ℕ) → SameKinds l (summarize_case l j)
unfolding summarize_set
front_summaries l j =
    front_turned (λ m. m) (λ m i. summarize_bundle m (bundle_at (case_set_start l j) i))
    (λ m i. front_summary m (bundle_at (case_set_start l j) i)) (case_set_length l j) l 0

pub front_targets : (l : List ℕ) → SameKinds l (deferred_targets l)
unfolding deferred_targets
front_targets l =
    let m = stored l set_lengths spare_slot 0 in
    kinds_then (kinds_stored l set_lengths (omega arith) spare_slot 0)
    (front_turned (λ m. m) summarize_case front_summaries (case_total m) m 0)

pub front_plans : (g : Graph) (l : List ℕ) → SameKinds l (plan_bundles g l).words
unfolding plan_bundles
front_plans g l =
    let start = word l set_starts spare_slot in
    front_turned (λ x. x.words) (plan_at start g) (front_plan start g) (word l set_lengths spare_slot) (planned l false) 0

-- ---- The select.
front_region : {j : ℕ} {l l' : List ℕ} {a : Made} → GetsRegion j l l' a → SameKinds l l'
front_region {l} (has_region k e) = rw e (kinds_same l)
front_region {j} (new_region {r} {l₁} d x e) = rw e (kinds_then (defines_kinds x) (kinds_stored l₁ cases (omega arith) (case_body_at j) r))
front_region (no_region d x) = defines_kinds x

front_merges : {l l' vs : List ℕ} {c : ℕ} {a : Defined} → Merges l c vs l' a → SameKinds l l'
front_merges {l} (the_scrutinee e p q) = rw q (kinds_same l)
front_merges (new_output e x p) = front_output x
front_merges (no_output e x) = front_output x

mutual
  pub front_made : {l l' : List ℕ} {c : ℕ} {a : Defined} → Materializes l c l' a → SameKinds l l'
  front_made (made_true {l} e p) = rw p (kinds_same l)
  front_made (made_false {l} e p) = rw p (kinds_same l)
  front_made (made_undef {l} d f h x p) = rw p (kinds_same l)
  front_made (made_merge h ps m) = kinds_then (front_parts ps) (front_merges m)
  front_made (full_part h i ps e m) = kinds_then (front_parts ps) (front_made m)

  front_parts : {l l' vs : List ℕ} {c j : ℕ} → PartsMade l c j l' vs → SameKinds l l'
  front_parts (no_part {l} e p q) = rw p (kinds_same l)
  front_parts (part_more ps h e m i q) = kinds_then (front_parts ps) (front_made m)

front_scrutinee : {l l' : List ℕ} {x : Scrutinee} {a : Defined} → ScrutineeMade l x l' a → SameKinds l l'
front_scrutinee {l} (given_value e) = rw e (kinds_same l)
front_scrutinee (made_value m) = front_made m

front_cells : {n h h' : ℕ} {l l' : List ℕ} → CaseCells n h l l' h' → SameKinds l l'
front_cells {l} (cells_over n e p) = rw e (kinds_same l)
front_cells (cell_more n x y) = kinds_then (adds_kinds x) (front_cells y)

front_added : {r node shape v h : ℕ} {l l' : List ℕ} → SelectAdded r node shape v l l' h → SameKinds l l'
front_added {r} {h} (select_added {l₂} x b y e) =
    rw e (kinds_then (front_cells x) (kinds_then (adds_kinds y) (kinds_stored l₂ children (omega arith) r h)))

pub front_select : {r shape : ℕ} {x : Scrutinee} {l l' : List ℕ} {a : Defined} → SelectDefined r shape x l l' a → SameKinds l l'
front_select (regions_full t) = front_turns GetsRegion (λ j m m' b y. front_region y) t
front_select (scrutinee_full t v) = kinds_then (front_turns GetsRegion (λ j m m' b y. front_region y) t) (front_scrutinee v)
front_select (node_full t v n) =
    kinds_then (front_turns GetsRegion (λ j m m' b y. front_region y) t) (kinds_then (front_scrutinee v) (defines_kinds n))
front_select (select_defined t v n s) =
    kinds_then (front_turns GetsRegion (λ j m m' b y. front_region y) t)
    (kinds_then (front_scrutinee v) (kinds_then (defines_kinds n) (front_added s)))
