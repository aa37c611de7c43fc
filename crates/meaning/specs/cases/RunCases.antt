-- Runs that the checker computes: of small graphs and of their forms, with words and a rule, and both as text.
use Rattle.std.specs.Prelude.{◌≡◌, refl, List, [], ◌∷◌, ◌++◌, map, ℕ}
use Prim.Native.String.{String}
use Rattle.meaning.specs.Runs.{Given}
use Rattle.meaning.specs.Text.{Text, ascii}
use Rattle.meaning.specs.cases.RunText.{given_words, graph_says, form_says}
use Rattle.meaning.specs.cases.RunForms.{Formed, reads_all, by_number, by_word, leaves, swaps, ends_by_exit, until_exit, goes_on}
use Rattle.meaning.specs.cases.RunForms.{mark_tested, mark_tested_closed, mark_repeated, merges, two_loops, counts, entered_twice}
use Rattle.meaning.specs.cases.RunForms.{second_returned}

-- Within so many regions and turns.
pub record RunCase : Type 0 where
  pub of : Formed
  pub given : Given
  pub regions : ℕ
  pub turns : ℕ
  pub lines : Text

abbrev run_case : Formed → Given → ℕ → ℕ → String → String → RunCase
run_case f x n m a b =
    record { of = f; given = x; regions = n; turns = m; lines = ascii a ++ ascii "\n" ++ ascii b ++ ascii "\n" }

abbrev pub run_cases : List RunCase
run_cases =
    run_case reads_all (given_words (4294967290 ∷ []) (70000 ∷ []) 1000003 65536 100000 7) 1 0
    "graph returned 3339751347,70000,u,4294967290 0.0/3/4294967290,70000,u;0.1/4/587908816,1,0;0.2/5/-"
    "nested returned 3339751347,70000,u,4294967290 0.0/3/4294967290,70000,u;0.1/4/587908816,1,0;0.2/5/- cost 6 over 0"
    ∷ run_case second_returned (given_words [] (70000 ∷ 70001 ∷ []) 0 1 0 1) 2 0
    "graph returned 70001 1.0/3/70001;1.1/4/70002;1.2/5/70003;1.3/6/70004"
    "nested returned 70001 1.0/3/70001;1.1/4/70002;1.2/5/70003;1.3/6/70004 cost 10 over 0"
    ∷ run_case by_number (given_words (70000 ∷ 70001 ∷ 70002 ∷ []) (0 ∷ []) 0 0 0 0) 2 0
    "graph returned 70000 -"
    "nested returned 70000 - cost 5 over 0"
    ∷ run_case by_number (given_words (70000 ∷ 70001 ∷ 70002 ∷ []) (1 ∷ []) 0 0 0 0) 2 0
    "graph returned 70001 -"
    "nested returned 70001 - cost 5 over 0"
    ∷ run_case by_number (given_words (70000 ∷ 70001 ∷ 70002 ∷ []) (2 ∷ []) 0 0 0 0) 2 0
    "graph returned 70002 3.0/6/-"
    "nested returned 70002 3.0/6/- cost 9 over 0"
    ∷ run_case by_number (given_words (70000 ∷ 70001 ∷ 70002 ∷ []) (3 ∷ []) 0 0 0 0) 2 0
    "graph returned 70002 3.0/6/-"
    "nested returned 70002 3.0/6/- cost 9 over 0"
    ∷ run_case by_number (given_words (70000 ∷ 70001 ∷ 70002 ∷ []) (4294967297 ∷ []) 0 0 0 0) 2 0
    "graph returned 70001 -"
    "nested returned 70001 - cost 5 over 0"
    ∷ run_case by_number (given_words (70000 ∷ 70001 ∷ 4294967303 ∷ []) (4294967295 ∷ []) 0 0 0 0) 2 0
    "graph returned 7 3.0/6/-"
    "nested returned 7 3.0/6/- cost 9 over 0"
    ∷ run_case by_number (given_words (70000 ∷ 70001 ∷ 70002 ∷ []) (1 ∷ []) 0 0 0 0) 1 0
    "graph none"
    "nested returned 70001 - cost 5 over 0"
    ∷ run_case by_word (given_words [] (0 ∷ []) 0 0 0 0) 2 0
    "graph returned 0 -"
    "nested returned 0 - cost 5 over 0"
    ∷ run_case by_word (given_words [] (70000 ∷ []) 0 0 0 0) 2 0
    "graph returned 1 -"
    "nested returned 1 - cost 5 over 0"
    ∷ run_case by_word (given_words [] (65536 ∷ []) 0 0 0 0) 2 0
    "graph returned 1 -"
    "nested returned 1 - cost 5 over 0"
    ∷ run_case by_word (given_words [] (4294967296 ∷ []) 0 0 0 0) 2 0
    "graph returned 0 -"
    "nested returned 0 - cost 5 over 0"
    ∷ run_case leaves (given_words [] [] 0 0 0 0) 2 0
    "graph returned - 0.0/7/-"
    "nested returned - 0.0/7/- cost 6 over 0"
    ∷ run_case leaves (given_words [] [] 1 0 1 4294967287) 5 2
    "graph exited 9 2 0.0/7/-;1.0/8/-;3.0/6/-;1.0/8/-"
    "nested exited 9 2 0.0/7/-;1.0/8/-;3.0/6/-;1.0/8/- cost 29 over 0"
    ∷ run_case leaves (given_words [] [] 1 0 2 4294967286) 4 1
    "graph returned - 0.0/7/-;1.0/8/-;3.0/6/-"
    "nested returned - 0.0/7/-;1.0/8/-;3.0/6/- cost 22 over 0"
    ∷ run_case swaps (given_words (70001 ∷ 70002 ∷ []) [] 0 0 4294967295 2) 5 3
    "graph returned 70001,70002 1.0/5/70001,70002;1.0/5/70002,70001;1.0/5/70001,70002;2.0/6/70001,70002"
    "nested returned 70001,70002 1.0/5/70001,70002;1.0/5/70002,70001;1.0/5/70001,70002;2.0/6/70001,70002 cost 31 over 0"
    ∷ run_case swaps (given_words (70001 ∷ 70002 ∷ []) [] 0 0 4294967295 3) 6 4
    "graph returned 70002,70001 1.0/5/70001,70002;1.0/5/70002,70001;1.0/5/70001,70002;1.0/5/70002,70001;2.0/6/70002,70001"
    "nested returned 70002,70001 1.0/5/70001,70002;1.0/5/70002,70001;1.0/5/70001,70002;1.0/5/70002,70001;2.0/6/70002,70001 cost 41 over 1"
    ∷ run_case swaps (given_words (4294967290 ∷ 12 ∷ []) [] 0 1 0 0) 4 2
    "graph returned 12,4294967290 1.0/5/4294967290,12;1.0/5/12,4294967290;2.0/6/12,4294967290"
    "nested returned 12,4294967290 1.0/5/4294967290,12;1.0/5/12,4294967290;2.0/6/12,4294967290 cost 21 over 0"
    ∷ run_case ends_by_exit (given_words (4294967295 ∷ []) (1 ∷ []) 0 0 0 0) 2 0
    "graph exited 9 4294967295 1.0/8/4294967295"
    "nested exited 9 4294967295 1.0/8/4294967295 cost 5 over 0"
    ∷ run_case ends_by_exit (given_words (4294967295 ∷ []) (0 ∷ []) 0 0 0 0) 2 0
    "graph none"
    "nested none"
    ∷ run_case until_exit (given_words [] [] 0 0 4294967295 2) 5 3
    "graph exited 9 0,1 1.0/8/-;1.0/8/-;1.0/8/-"
    "nested exited 9 0,1 1.0/8/-;1.0/8/-;1.0/8/- cost 19 over 0"
    ∷ run_case until_exit (given_words [] [] 0 0 4294967295 3) 6 4
    "graph exited 9 0,1 1.0/8/-;1.0/8/-;1.0/8/-;1.0/8/-"
    "nested exited 9 0,1 1.0/8/-;1.0/8/-;1.0/8/-;1.0/8/- cost 26 over 1"
    ∷ run_case goes_on (given_words [] (1 ∷ []) 0 0 0 0) 2 0
    "graph none"
    "nested returned 1 1.0/8/-;2.0/9/- cost 9 over 0"
    ∷ run_case goes_on (given_words [] (0 ∷ []) 0 0 0 0) 2 0
    "graph returned 1 2.0/9/-"
    "nested returned 1 2.0/9/- cost 6 over 0"
    ∷ run_case mark_tested (given_words [] [] 0 0 0 0) 9 9
    "graph none"
    "nested none"
    ∷ run_case mark_tested_closed (given_words [] [] 0 0 0 0) 9 9
    "graph none"
    "nested none"
    ∷ run_case mark_repeated (given_words (0 ∷ []) [] 0 1 1 5) 9 9
    "graph none"
    "nested none"
    ∷ run_case mark_repeated (given_words (0 ∷ []) [] 0 1 1 0) 5 3
    "graph returned - 1.0/5/0;1.0/5/0;1.0/5/1"
    "nested returned - 1.0/5/0;1.0/5/0;1.0/5/1 cost 30 over 0"
    ∷ run_case merges (given_words (70000 ∷ []) (1 ∷ []) 0 1 0 3) 3 0
    "graph returned 70003,70003 1.0/7/70000"
    "nested returned 70003,70003 1.0/7/70000 cost 5 over 0"
    ∷ run_case merges (given_words (70000 ∷ []) (0 ∷ []) 0 1 0 3) 3 0
    "graph returned 3,70000 2.0/8/-"
    "nested returned 3,70000 2.0/8/- cost 6 over 0"
    ∷ run_case two_loops (given_words [] [] 1 0 4294967295 4294967292) 5 2
    "graph returned - 1.0/5/-;1.0/5/-;2.0/6/-"
    "nested returned - 1.0/5/-;1.0/5/-;2.0/6/- cost 28 over 1"
    ∷ run_case counts (given_words [] [] 0 0 4294967295 2) 5 3
    "graph returned - 1.0/5/-;1.0/5/-;1.0/5/-"
    "nested returned - 1.0/5/-;1.0/5/-;1.0/5/- cost 30 over 0"
    ∷ run_case counts (given_words [] [] 0 0 4294967295 2) 4 3
    "graph none"
    "nested returned - 1.0/5/-;1.0/5/-;1.0/5/- cost 30 over 0"
    ∷ run_case counts (given_words [] [] 0 0 4294967295 2) 5 2
    "graph returned - 1.0/5/-;1.0/5/-;1.0/5/-"
    "nested none"
    ∷ run_case counts (given_words [] [] 0 0 4294967295 3) 6 4
    "graph returned - 1.0/5/-;1.0/5/-;1.0/5/-;1.0/5/-"
    "nested returned - 1.0/5/-;1.0/5/-;1.0/5/-;1.0/5/- cost 40 over 1"
    ∷ run_case entered_twice (given_words (3 ∷ []) [] 0 1 0 4294967295) 12 3
    "graph returned - 2.0/0/3;2.0/0/2;2.0/0/1;2.0/0/3;2.0/0/2;2.0/0/1"
    "nested returned - 2.0/0/3;2.0/0/2;2.0/0/1;2.0/0/3;2.0/0/2;2.0/0/1 cost 22 over 0"
    ∷ run_case entered_twice (given_words (3 ∷ []) [] 0 1 0 4294967295) 12 2
    "graph returned - 2.0/0/3;2.0/0/2;2.0/0/1;2.0/0/3;2.0/0/2;2.0/0/1"
    "nested none"
    ∷ run_case entered_twice (given_words (4 ∷ []) [] 0 1 0 4294967295) 14 4
    "graph returned - 2.0/0/4;2.0/0/3;2.0/0/2;2.0/0/1;2.0/0/4;2.0/0/3;2.0/0/2;2.0/0/1"
    "nested returned - 2.0/0/4;2.0/0/3;2.0/0/2;2.0/0/1;2.0/0/4;2.0/0/3;2.0/0/2;2.0/0/1 cost 28 over 1"
    ∷ []

-- For each case both runs are what it states.
abbrev pub run_case_says : RunCase → Text
run_case_says c =
    graph_says c.regions c.of.graph c.given
    ++ form_says c.turns c.of.graph c.given c.of.children c.of.outputs

pub runs_computed : map run_case_says run_cases ≡ map (λ c. c.lines) run_cases
unfolding graph_says form_says
runs_computed = refl
