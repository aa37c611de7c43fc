-- The runs of the crate meaning once more, now of the forms that nesting gives; and those of A and B.
use Rattle.std.specs.Prelude.{◌≡◌, refl, List, [], ◌∷◌, ◌++◌, map, ℕ}
use Prim.Native.String.{String}
use Rattle.meaning.specs.Graph.{Graph}
use Rattle.meaning.specs.Runs.{Given}
use Rattle.meaning.specs.Text.{Text, ascii}
use Rattle.meaning.specs.cases.RunText.{given_words}
use Rattle.meaning.specs.cases.RunCases.{RunCase, run_cases}
use Rattle.nesting.specs.cases.RunLines.{graph_lines}
use Rattle.nesting.specs.cases.CaseGraphs.{A, B}

pub record NestedRunCase : Type 0 where
  pub graph : Graph
  pub given : Given
  pub regions : ℕ
  pub turns : ℕ
  pub lines : Text

abbrev of_run_case : RunCase → NestedRunCase
of_run_case c = record { graph = c.of.graph; given = c.given; regions = c.regions; turns = c.turns; lines = c.lines }

-- graph, given, regions, turns, the two lines
abbrev runs : Graph → Given → ℕ → ℕ → String → String → NestedRunCase
runs g x n m a b = record { graph = g; given = x; regions = n; turns = m; lines = ascii a ++ ascii "\n" ++ ascii b ++ ascii "\n" }

-- A at both places of its test, B for five turns.
abbrev pub nested_run_cases : List NestedRunCase
nested_run_cases =
    runs A (given_words (100 ∷ 101 ∷ []) [] 0 0 0 5) 3 0
    "graph returned 100 0.0/7/-;1.0/8/-"
    "nested returned 100 0.0/7/-;1.0/8/- cost 10 over 0"
    ∷ runs A (given_words (100 ∷ 101 ∷ []) [] 0 0 0 0) 3 0
    "graph returned 101 0.0/7/-;2.0/9/-"
    "nested returned 101 0.0/7/-;2.0/9/- cost 11 over 0"
    ∷ runs B (given_words (7 ∷ []) [] 0 0 4294967295 4) 7 5
    "graph returned - 1.0/5/-;1.0/5/-;1.0/5/-;1.0/5/-;1.0/5/-"
    "nested returned - 1.0/5/-;1.0/5/-;1.0/5/-;1.0/5/-;1.0/5/- cost 50 over 0"
    ∷ map of_run_case run_cases

abbrev pub nested_case_says : NestedRunCase → Text
nested_case_says c = graph_lines c.regions c.turns c.graph c.given

-- For each case both runs are what it states.
pub nested_runs_computed : map nested_case_says nested_run_cases ≡ map (λ c. c.lines) nested_run_cases
unfolding graph_lines
nested_runs_computed = refl
