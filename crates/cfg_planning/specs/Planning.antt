-- What the cases pass to a target, and what of it is the same in all, as the words and the graph have it.
use Rattle.std.specs.Prelude.{Bool, true, false, List, ℕ, zero, suc, ◌-◌, get_or, set, replicate, ltb, eqb}
use Rattle.meaning.specs.Lists.{pick}
use Rattle.meaning.specs.Graph.{Graph}
use Rattle.state_words.specs.Sections.{word, stored, set_starts, set_lengths, bundles}
use Rattle.state_words.specs.Values.{is_input, input_region, input_index, output_from}
use Rattle.state_sets.specs.SetTables.{input_word, input_stored, find_by, bundle_at}
use Rattle.state_regions.specs.RegionTables.{case_total}
use Rattle.cfg_merging.specs.Turns.{turned}
use Rattle.cfg_bundles.specs.EdgesAndCases.{input_count, condition_in}
use Rattle.state_words.specs.Rows.{bundle_condition_at, bundle_target, case_body, case_claimed, case_input, case_kind, case_set_length}
use Rattle.state_words.specs.Rows.{case_set_start, condition_false, condition_true, condition_undef, no_bundle_word, spare_slot}

-- The bundle of case j to target t.
abbrev pub place_of : List ℕ → ℕ → ℕ → ℕ
place_of l t j = find_by l (case_set_start l j) t (case_set_length l j) 0

unfoldable pub per_case_deferred : List ℕ → ℕ → List ℕ
per_case_deferred l t = turned (λ ps j. set ps j (place_of l t j)) (replicate 8 0) (case_total l) 0

unfoldable pub per_case_condition : List ℕ → ℕ → ℕ → ℕ
per_case_condition l j p =
    let n = case_set_length l j in
    pick (eqb n 0) condition_undef (pick (eqb p no_bundle_word) condition_false (condition_in l p n))

-- An input that is still to be merged; while cases are gone through, one that none of them passed.
abbrev pub to_merge : ℕ
to_merge = 65535

-- A condition that is still to be defined.
abbrev pub to_define : ℕ
to_define = 0

unfoldable pub in_parent : List ℕ → ℕ → ℕ → ℕ
in_parent l j v =
    let of_body = pick (eqb (input_region v) (case_body l j)) (case_input l j (input_index v)) to_merge in
    pick (eqb (case_kind l j) case_claimed) (pick (ltb v output_from) v (pick (is_input v) of_body to_merge)) v

-- What case j passes as input k, where its bundle is p.
abbrev pub passed_by : List ℕ → ℕ → ℕ → ℕ → ℕ
passed_by l k p j = in_parent l j (input_word l p k)

-- What the cases so far pass, with one more: to be merged where they differ.
unfoldable pub with_passed : ℕ → ℕ → ℕ
with_passed found v = pick (eqb found to_merge) v (pick (eqb found v) v to_merge)

-- The cases from j on, n of them; `found` is what those before pass.
unfoldable pub unique_from : List ℕ → List ℕ → ℕ → ℕ → ℕ → ℕ → ℕ
unique_from l ps k zero j found = found
unique_from l ps k (suc n) j found =
    let p = get_or ps j 0 in
    let more = with_passed found (passed_by l k p j) in
    pick (eqb p no_bundle_word) (unique_from l ps k n (suc j) found) (pick (eqb more to_merge) to_merge (unique_from l ps k n (suc j) more))

abbrev pub unique_input : List ℕ → List ℕ → ℕ → ℕ
unique_input l ps k = unique_from l ps k (case_total l) 0 to_merge

unfoldable pub is_true : ℕ → Bool
is_true c = pick (eqb c condition_true) true (eqb c condition_undef)

unfoldable pub all_from : List ℕ → List ℕ → ℕ → ℕ → Bool
all_from l ps zero j = true
all_from l ps (suc n) j = pick (is_true (per_case_condition l j (get_or ps j 0))) (all_from l ps n (suc j)) false

abbrev pub all_true : List ℕ → List ℕ → Bool
all_true l ps = all_from l ps (case_total l) 0

-- The words, and whether something is still to be made.
pub record Planned : Type 0 where
  pub words : List ℕ
  pub needed : Bool

abbrev pub planned : List ℕ → Bool → Planned
planned l b = record { words = l; needed = b }

unfoldable pub plan_input : List ℕ → ℕ → List ℕ → ℕ → Planned
plan_input l q ps k = let v = unique_input l ps k in planned (input_stored l q k v) (eqb v to_merge)

-- A step more, whose need adds to what was needed before.
abbrev pub also : (List ℕ → ℕ → Planned) → Planned → ℕ → Planned
also f x i = let y = f x.words i in planned y.words (pick y.needed true x.needed)

unfoldable pub plan_inputs : Graph → List ℕ → ℕ → List ℕ → Planned
plan_inputs g l q ps = turned (also (λ m k. plan_input m q ps k)) (planned l false) (input_count g l (bundle_target l q)) 0

unfoldable pub plan_bundle : Graph → List ℕ → ℕ → Planned
plan_bundle g l q =
    let ps = per_case_deferred l (bundle_target l q) in
    let x = plan_inputs g l q ps in
    pick (all_true x.words ps) x (planned (stored x.words bundles (bundle_condition_at q) 0) true)

-- Bundle i of those from `start` on.
abbrev pub plan_at : ℕ → Graph → Planned → ℕ → Planned
plan_at start g = also (λ m i. plan_bundle g m (bundle_at start i))

unfoldable pub plan_bundles : Graph → List ℕ → Planned
plan_bundles g l = turned (plan_at (word l set_starts spare_slot) g) (planned l false) (word l set_lengths spare_slot) 0
