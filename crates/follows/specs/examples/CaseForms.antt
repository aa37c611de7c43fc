-- Cases A and B of document 01: each is accepted, and nests to this form.
use Rattle.std.specs.Prelude.{◌≡◌, refl, true, false, [], ◌∷◌}
use Rattle.meaning.specs.Graph.{Value, const, instr, output, bool, bool_cond}
use Rattle.meaning.specs.Runs.{Nodes, block, select, loop, ⟨⟩, ◌▸◌, ∅, case}
use Rattle.format.specs.Store.{accepted}
use Rattle.format.specs.Accept.{accept}
use Rattle.format.specs.laws.AcceptValid.{accept_valid}
use Rattle.format.specs.Valid.{Valid}
use Rattle.nesting.specs.cases.Computes.{nesting_computes}
use Rattle.nesting.specs.Nesting.{new_select, new_case, whole, Nested, structurize_func}
use Rattle.format.specs.stores.Pack.{store_of_graph}
use Rattle.nesting.specs.cases.CaseGraphs.{op, A, B}

-- ---- A
pub A_accepted : accept (store_of_graph A) ≡ accepted A
unfolding accept store_of_graph
A_accepted = refl

pub A_valid : Valid A
A_valid = accept_valid (store_of_graph A) A A_accepted

abbrev pub A_form : Nodes
A_form =
    block 0 0 0 (op 7 1 5 ∷ [])
    ▸ select (record { number = 3; kind = bool_cond; scrutinee = instr 0 0; outputs = record { number = 0; type = 2 } ∷ [] })
    (case (record { region = 1; outputs = const 0 ∷ [] }) (block 1 1 0 (op 8 0 3 ∷ []) ▸ ⟨⟩)
    (case (record { region = 2; outputs = const 1 ∷ [] }) (block 2 2 0 (op 9 0 4 ∷ []) ▸ ⟨⟩) ∅))
    ▸ ⟨⟩

abbrev pub A_nested : Nested
A_nested = record {
  outcome = whole;
  attempts = 8;
  twice = false;
  entry = record { region = 0; inputs = []; children = A_form; outputs = output 0 ∷ []; deferred = [] };
  unclaimed = [];
  output_nodes = 3 ∷ [];
}

pub A_nests : structurize_func A ≡ accepted A_nested
unfolding nesting_computes
A_nests = refl

-- ---- B
pub B_accepted : accept (store_of_graph B) ≡ accepted B
unfolding accept store_of_graph
B_accepted = refl

pub B_valid : Valid B
B_valid = accept_valid (store_of_graph B) B B_accepted

-- its loop, with a repeat value
abbrev pub B_loop : Value → Nodes
B_loop repeat =
    loop (record {
      number = 2;
      initial_inputs = bool true ∷ [];
      body = 1;
      types = 1 ∷ [];
      limit = 10;
      outputs = instr 1 0 ∷ [];
      repeat = repeat;
    })
    (block 0 1 0 (op 5 1 6 ∷ []) ▸ new_select 1 bool_cond (instr 1 0) (new_case 3 ⟨⟩ (new_case 4 ⟨⟩ ∅)) ▸ ⟨⟩)
    ▸ ⟨⟩

abbrev pub B_nested : Nested
B_nested = record {
  outcome = whole;
  attempts = 7;
  twice = false;
  entry = record { region = 0; inputs = []; children = B_loop (instr 1 0); outputs = []; deferred = [] };
  unclaimed = [];
  output_nodes = [];
}

pub B_nests : structurize_func B ≡ accepted B_nested
unfolding nesting_computes
B_nests = refl
