-- The values of the cases looked up, as the words and the graph have it.
use Rattle.std.specs.Prelude.{List, ℕ, ◌-◌, length, eqb}
use Rattle.meaning.specs.Lists.{pick}
use Rattle.meaning.specs.Graph.{Graph, region}
use Rattle.state_words.specs.Sections.{stored, head, cases}
use Rattle.state_sets.specs.SetTables.{input_word, input_stored, bundle_at}
use Rattle.state_regions.specs.RegionTables.{case_total}
use Rattle.cfg_lookups.specs.LookUps.{look_up}
use Rattle.cfg_merging.specs.Turns.{turned}
use Rattle.cfg_bundles.specs.EdgesAndCases.{input_count}
use Rattle.state_words.specs.Rows.{bundle_target, case_claimed, case_input, case_input_at, case_kind, case_origin, case_set_length}
use Rattle.state_words.specs.Rows.{case_set_start, twice_at}

-- The words with the note of a look_up taken.
unfoldable pub noted : List ℕ → ℕ → List ℕ
noted l v = pick (look_up l v).twice (stored l head twice_at 1) l

unfoldable pub rewrite_input : List ℕ → ℕ → ℕ → List ℕ
rewrite_input l p k = input_stored (noted l (input_word l p k)) p k (look_up l (input_word l p k)).value

unfoldable pub rewrite_case_input : List ℕ → ℕ → ℕ → List ℕ
rewrite_case_input l j k =
    let v = case_input l j k in
    stored (noted l v) cases (case_input_at j k) (look_up l v).value

unfoldable pub rewrite_bundle : Graph → List ℕ → ℕ → List ℕ
rewrite_bundle g l p = turned (λ m k. rewrite_input m p k) l (input_count g l (bundle_target l p)) 0

unfoldable pub rewrite_set : Graph → List ℕ → ℕ → ℕ → List ℕ
rewrite_set g l start n = turned (λ m i. rewrite_bundle g m (bundle_at start i)) l n 0

unfoldable pub rewrite_inputs : Graph → List ℕ → ℕ → List ℕ
rewrite_inputs g l j = turned (λ m k. rewrite_case_input m j k) l (length (region g (case_origin l j)).inputs) 0

unfoldable pub rewrite_given : Graph → List ℕ → ℕ → List ℕ
rewrite_given g l j = pick (eqb (case_kind l j) case_claimed) (rewrite_inputs g l j) l

unfoldable pub rewrite_case : Graph → List ℕ → ℕ → List ℕ
rewrite_case g l j =
    let m = rewrite_given g l j in
    rewrite_set g m (case_set_start m j) (case_set_length m j)

unfoldable pub rewrite_cases : Graph → List ℕ → List ℕ
rewrite_cases g l = turned (λ m j. rewrite_case g m j) l (case_total l) 0
