-- Before a run only constants and booleans are words, and a region of the graph's run sees no other region's; computed.
use Rattle.std.specs.Prelude.{◌≡◌, refl, false, List, [], ◌∷◌}
use Rattle.std.proofs.Math.Option.{some}
use Rattle.meaning.specs.Graph.{Value, input, instr, output, held, no_value, return, branch, Graph}
use Rattle.meaning.specs.Runs.{⟨⟩, Given, Event, mark, returned, entry_words, put_inputs, put, do_instr, do_block, do_blocks}
use Rattle.meaning.specs.Runs.{run_from, graph_run, run_nodes, ends_as, nested_run}

-- What no run has given a word to. No accepted record has the last three.
abbrev nothing_yet : List Value
nothing_yet = input 1 0 ∷ instr 0 0 ∷ output 0 ∷ held 1 0 ∷ no_value ∷ []

-- Region 0 has an instruction, whose output region 1 returns with the others.
abbrev g : Graph
g = record {
  entry = 0;
  test_cost = 2;
  constants = [];
  regions =
      record {
        inputs = [];
        blocks = (record { opcode = 5; type = 2; cost = 1; reads = [] } ∷ []) ∷ [];
        limit = 1;
        terminator = branch (record { target = 1; inputs = [] });
        exits = [];
      }
      ∷ record { inputs = []; blocks = []; limit = 1; terminator = return nothing_yet; exits = [] }
      ∷ [];
}

abbrev x : Given
x = record { constants = λ i. 0; entry_inputs = λ k. 0; rule = λ op reads before. 0 }

abbrev event : Event
event = record { region = 0; index = 0; opcode = 5; reads = [] }

pub own_alone : graph_run g x 2
    ≡ some (record { end = returned (mark ∷ mark ∷ mark ∷ mark ∷ mark ∷ []); events = event ∷ [] })
unfolding graph_run run_from entry_words put_inputs put do_blocks do_block do_instr
own_alone = refl

pub no_words : nested_run g x ⟨⟩ (some nothing_yet) 0
    ≡ ends_as (record { end = returned (mark ∷ mark ∷ mark ∷ mark ∷ mark ∷ []); events = []; cost = 0; over_limit = false })
unfolding nested_run entry_words put_inputs run_nodes
no_words = refl
