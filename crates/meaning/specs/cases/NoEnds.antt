-- Each way in which a nested run comes to no end, computed.
use Rattle.std.specs.Prelude.{◌≡◌, refl, true, false, [], ◌∷◌}
use Rattle.std.proofs.Math.Option.{none, some}
use Rattle.meaning.specs.Graph.{Value, bool, undef, bool_cond, unreachable, Graph}
use Rattle.meaning.specs.Runs.{Nodes, ⟨⟩, ◌▸◌, loop, select, ∅, Given, returned, entry_words, put_inputs, turns_used_up, tested_mark}
use Rattle.meaning.specs.Runs.{ran_off, no_case, turns, run_nodes, ends_as, without_end, nested_run}

abbrev g : Graph
g = record {
  entry = 0;
  test_cost = 2;
  constants = [];
  regions = record { inputs = []; blocks = []; limit = 1; terminator = unreachable; exits = [] } ∷ [];
}

abbrev x : Given
x = record { constants = λ i. 0; entry_inputs = λ k. 0; rule = λ op reads before. 0 }

-- an empty body, with this repeat value
abbrev looping : Value → Nodes
looping v = loop (record { number = 0; initial_inputs = []; body = 1; types = []; limit = 1; outputs = []; repeat = v }) ⟨⟩ ▸ ⟨⟩

pub loop_goes_on : nested_run g x (looping (bool true)) (some []) 3 ≡ without_end turns_used_up
unfolding nested_run entry_words put_inputs run_nodes turns
loop_goes_on = refl

pub once : nested_run g x (looping (bool false)) (some []) 3
    ≡ ends_as (record { end = returned []; events = []; cost = 2; over_limit = false })
unfolding nested_run entry_words put_inputs run_nodes turns
once = refl

pub undefined_test : nested_run g x (looping (undef 1)) (some []) 3 ≡ without_end tested_mark
unfolding nested_run entry_words put_inputs run_nodes turns
undefined_test = refl

pub off_closed : nested_run g x (looping (bool false)) none 3 ≡ without_end ran_off
unfolding nested_run entry_words put_inputs run_nodes turns
off_closed = refl

pub caseless : nested_run g x (select (record { number = 0; kind = bool_cond; scrutinee = bool true; outputs = [] }) ∅ ▸ ⟨⟩) none 3
    ≡ without_end no_case
unfolding nested_run entry_words put_inputs run_nodes
caseless = refl
