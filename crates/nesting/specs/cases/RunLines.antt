-- Both runs of a graph, or of a store's record, as text: what a run vector states.
use Rattle.std.specs.Prelude.{◌≡◌, true, List, [], ◌++◌, ℕ}
use Rattle.std.proofs.Common.{ap, ◌∙◌}
use Rattle.std.proofs.Math.Option.{none, some}
use Rattle.meaning.specs.Graph.{Graph}
use Rattle.meaning.specs.Runs.{Given}
use Rattle.meaning.specs.Text.{Text, ascii}
use Rattle.meaning.specs.cases.RunText.{graph_says, form_says}
use Rattle.format.specs.Store.{Answer, accepted, refused}
use Rattle.format.specs.Accept.{accept}
use Rattle.nesting.specs.Nesting.{Outcome, untouched, whole, closed, leftover, Nested, structurize_func}
use Rattle.nesting.specs.cases.Computes.{nesting_computes}
use Rattle.format.specs.stores.Quick.{quick_accept, same_accept}
use Rattle.meaning.specs.facts.Elements.{same_numbers, numbers_same}

-- A whole form is run with the entry's outputs, a closed one without; the others have no run.
abbrev pub outcome_says : ℕ → Graph → Given → Nested → Outcome → Text
outcome_says n g x y untouched = ascii "nested none\n"
outcome_says n g x y whole = form_says n g x y.entry.children (some y.entry.outputs)
outcome_says n g x y closed = form_says n g x y.entry.children none
outcome_says n g x y leftover = ascii "nested none\n"

abbrev pub nested_says : ℕ → Graph → Given → Answer Nested → Text
nested_says n g x (accepted y) = outcome_says n g x y y.outcome
nested_says n g x (refused n' w) = ascii "nested none\n"

-- Within budgets: regions of the graph's run, turns for each loop of the nested one.
unfoldable pub graph_lines : ℕ → ℕ → Graph → Given → Text
unfolding nesting_computes graph_says form_says
graph_lines n m g x = graph_says n g x ++ nested_says m g x (structurize_func g)

-- A refused store has no runs.
abbrev pub lines_after : Answer Graph → Given → Text
lines_after (refused n w) x = []
lines_after (accepted g) x = graph_lines 256 256 g x

unfoldable pub run_lines : List ℕ → Given → Text
unfolding accept graph_lines
run_lines s x = lines_after (accept s) x

-- ---- by the quick walk along the store
unfoldable pub quick_run_lines : List ℕ → Given → Text
unfolding quick_accept graph_lines
quick_run_lines s x = lines_after (quick_accept s) x

same_run_lines : (s : List ℕ) (x : Given) → run_lines s x ≡ quick_run_lines s x
unfolding run_lines quick_run_lines
same_run_lines s x = ap (λ a. lines_after a x) (same_accept s)

pub runs_by_test : (s : List ℕ) (x : Given) (t : Text) → same_numbers (quick_run_lines s x) t ≡ true → run_lines s x ≡ t
runs_by_test s x t e = same_run_lines s x ∙ numbers_same (quick_run_lines s x) t e
