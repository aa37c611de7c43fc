-- Small graphs with their nested forms, both by hand: what runs are computed of.
use Rattle.std.specs.Prelude.{true, false, List, [], ◌∷◌, ℕ}
use Rattle.std.proofs.Math.Option.{Option, none, some}
use Rattle.meaning.specs.Graph.{Value, const, input, instr, output, bool, undef, Instr, SelectionKind, bool_cond, number, Graph}
use Rattle.meaning.specs.Graph.{Region, Edge, ControlInst, unreachable, return, exit_invocation, branch, select_branch}
use Rattle.meaning.specs.Runs.{OutputDecl, Node, block, select, loop, exit, Nodes, ⟨⟩, ◌▸◌, Cases, ∅, case}

-- ---- in few words
abbrev op : ℕ → ℕ → ℕ → List Value → Instr  -- opcode, type, cost, reads
op o t c vs = record { opcode = o; type = t; cost = c; reads = vs }

abbrev to : ℕ → List Value → Edge
to r vs = record { target = r; inputs = vs }

-- inputs, blocks, turn limit, terminator, exit list
abbrev at : List ℕ → List (List Instr) → ℕ → ControlInst → List ℕ → Region
at ts bs limit c xs = record { inputs = ts; blocks = bs; limit = limit; terminator = c; exits = xs }

-- Without inputs and exits, of turn limit 1.
abbrev plain : List (List Instr) → ControlInst → Region
plain bs c = at [] bs 1 c []

abbrev one : {A : Type 0} → A → List A
one a = a ∷ []

-- entry, test cost, constants' types, regions
abbrev graph_from : ℕ → ℕ → List ℕ → List Region → Graph
graph_from r c ts rs = record { entry = r; test_cost = c; constants = ts; regions = rs }

-- The entry is region 0.
abbrev graph : ℕ → List ℕ → List Region → Graph
graph c ts rs = graph_from 0 c ts rs

abbrev body_input : ℕ → ℕ → Value
body_input r k = input r k

abbrev block_node : ℕ → ℕ → ℕ → List Instr → Node
block_node n r k is = block n r k is

abbrev output_of : ℕ → ℕ → OutputDecl
output_of o t = record { number = o; type = t }

abbrev select_node : ℕ → SelectionKind → Value → List OutputDecl → Cases → Node
select_node n kind v os cs = select (record { number = n; kind = kind; scrutinee = v; outputs = os }) cs

abbrev case_of : ℕ → Nodes → List Value → Cases → Cases
case_of r ks vs cs = case (record { region = r; outputs = vs }) ks cs

-- node, first inputs, body region, its inputs' types, turn limit, children, outputs, repeat value
abbrev loop_node : ℕ → List Value → ℕ → List ℕ → ℕ → Nodes → List Value → Value → Node
loop_node n vs r ts limit ks us v =
    loop (record { number = n; initial_inputs = vs; body = r; types = ts; limit = limit; outputs = us; repeat = v }) ks

-- A case without children and outputs.
abbrev empty_case : ℕ → Cases → Cases
empty_case r cs = case_of r ⟨⟩ [] cs

abbrev exit_node : ℕ → ℕ → List Value → Node
exit_node n o vs = exit n o vs

-- A graph with its nested form: children, and the entry's outputs, none of a closed form.
pub record Formed : Type 0 where
  pub graph : Graph
  pub children : Nodes
  pub outputs : Option (List Value)

abbrev formed : Graph → Nodes → Option (List Value) → Formed
formed g ks outs = record { graph = g; children = ks; outputs = outs }

-- ---- graphs and forms
-- Reads of every kind, in two blocks; a mark and a word of 32 bits are returned.
abbrev pub reads_all : Formed
reads_all =
    formed (
    graph 3 (2 ∷ []) (
    at (2 ∷ []) (one (op 3 2 1 (const 0 ∷ input 0 0 ∷ undef 2 ∷ []))
    ∷ (op 4 2 2 (instr 0 0 ∷ bool true ∷ bool false ∷ []) ∷ op 5 0 3 [] ∷ [])
    ∷ []) 1
    (return (instr 0 1 ∷ input 0 0 ∷ undef 2 ∷ const 0 ∷ [])) []
    ∷ []
    )
    ) (
    block_node 0 0 0 (one (op 3 2 1 (const 0 ∷ input 0 0 ∷ undef 2 ∷ [])))
    ▸ block_node 1 0 1 (op 4 2 2 (instr 0 0 ∷ bool true ∷ bool false ∷ []) ∷ op 5 0 3 [] ∷ []) ▸ ⟨⟩
    ) (some (instr 0 1 ∷ input 0 0 ∷ undef 2 ∷ const 0 ∷ []))

-- The entry is region 1, with two inputs, of which the second is read and returned, and with three blocks, the first of two instructions.
abbrev pub second_returned : Formed
second_returned =
    formed (
    graph_from 1 2 [] (
    at (2 ∷ []) [] 1 (return (input 0 0 ∷ [])) []
    ∷ at (2 ∷ 2 ∷ []) ((op 3 2 1 (input 1 1 ∷ []) ∷ op 4 2 2 (instr 1 0 ∷ []) ∷ [])
    ∷ one (op 5 2 3 (instr 1 1 ∷ []))
    ∷ one (op 6 0 4 (instr 1 2 ∷ []))
    ∷ []) 1
    (branch (to 0 (input 1 1 ∷ []))) []
    ∷ []
    )
    ) (
    block_node 0 1 0 (op 3 2 1 (input 1 1 ∷ []) ∷ op 4 2 2 (instr 1 0 ∷ []) ∷ [])
    ▸ block_node 1 1 2 (one (op 5 2 3 (instr 1 1 ∷ [])))
    ▸ block_node 2 1 3 (one (op 6 0 4 (instr 1 2 ∷ []))) ▸ ⟨⟩
    ) (some (input 1 1 ∷ []))

-- A number test of three places, each of which returns a constant of its own.
abbrev pub by_number : Formed
by_number =
    formed (
    graph 5 (2 ∷ 2 ∷ 2 ∷ []) (
    at (2 ∷ []) [] 1 (select_branch number (input 0 0) (to 1 [] ∷ to 2 [] ∷ to 3 [] ∷ [])) []
    ∷ plain [] (return (const 0 ∷ []))
    ∷ plain [] (return (const 1 ∷ []))
    ∷ plain (one (one (op 6 0 4 []))) (return (const 2 ∷ []))
    ∷ []
    )
    ) (
    select_node 1 number (input 0 0) (output_of 0 2 ∷ [])
    (case_of 1 ⟨⟩ (const 0 ∷ [])
    (case_of 2 ⟨⟩ (const 1 ∷ [])
    (case_of 3 (block_node 0 3 0 (one (op 6 0 4 [])) ▸ ⟨⟩) (const 2 ∷ []) ∅))) ▸ ⟨⟩
    ) (some (output 0 ∷ []))

-- A boolean test of a word.
abbrev pub by_word : Formed
by_word =
    formed (
    graph 5 [] (
    at (1 ∷ []) [] 1 (select_branch bool_cond (input 0 0) (to 1 [] ∷ to 2 [] ∷ [])) []
    ∷ plain [] (return (bool true ∷ []))
    ∷ plain [] (return (bool false ∷ []))
    ∷ []
    )
    ) (
    select_node 0 bool_cond (input 0 0) (output_of 0 1 ∷ []) (case_of 1 ⟨⟩ (bool true ∷ []) (case_of 2 ⟨⟩ (bool false ∷ []) ∅)) ▸ ⟨⟩
    ) (some (output 0 ∷ []))

abbrev leaves_body_1 : Nodes
leaves_body_1 =
    block_node 1 1 0 (one (op 8 1 6 []))
    ▸ select_node 5 bool_cond (instr 1 0) [] (case_of 2 (exit_node 3 9 (instr 1 0 ∷ []) ▸ ⟨⟩) [] (empty_case 7 ∅))
    ▸ block_node 2 3 0 (one (op 6 1 7 []))
    ▸ select_node 4 bool_cond (instr 3 0) [] (empty_case 5 (empty_case 6 ∅)) ▸ ⟨⟩

-- An exit inside a loop inside a select: the loop is left by the exit, or by its test.
abbrev pub leaves : Formed
leaves =
    formed (
    graph 1 [] (
    plain (one (one (op 7 1 5 []))) (select_branch bool_cond (instr 0 0) (to 1 [] ∷ to 4 [] ∷ []))
    ∷ at [] (one (one (op 8 1 6 []))) 4 (select_branch bool_cond (instr 1 0) (to 2 (instr 1 0 ∷ []) ∷ to 3 [] ∷ [])) (4 ∷ [])
    ∷ at (1 ∷ []) [] 1 (exit_invocation 9 (input 2 0 ∷ [])) []
    ∷ plain (one (one (op 6 1 7 []))) (select_branch bool_cond (instr 3 0) (to 1 [] ∷ to 4 [] ∷ []))
    ∷ plain [] (return [])
    ∷ []
    )
    ) (
    block_node 0 0 0 (one (op 7 1 5 []))
    ▸ select_node 7 bool_cond (instr 0 0) [] (case_of 8 (loop_node 6 [] 1 [] 4 leaves_body_1 [] (instr 3 0) ▸ ⟨⟩) [] (empty_case 9 ∅)) ▸ ⟨⟩
    ) (some [])

abbrev swaps_body_1 : Nodes
swaps_body_1 =
    block_node 0 1 0 (one (op 5 1 6 (body_input 1 0 ∷ body_input 1 1 ∷ [])))
    ▸ select_node 2 bool_cond (instr 1 0) [] (empty_case 3 (empty_case 4 ∅)) ▸ ⟨⟩

-- A loop of limit 3 whose two inputs are swapped each turn, and read after it.
abbrev pub swaps : Formed
swaps =
    formed (
    graph 2 (2 ∷ 2 ∷ []) (
    plain [] (branch (to 1 (const 0 ∷ const 1 ∷ [])))
    ∷ at (2 ∷ 2 ∷ []) (one (one (op 5 1 6 (input 1 0 ∷ input 1 1 ∷ [])))) 3
    (select_branch bool_cond (instr 1 0) (to 1 (input 1 1 ∷ input 1 0 ∷ []) ∷ to 2 (input 1 0 ∷ input 1 1 ∷ []) ∷ [])) (2 ∷ [])
    ∷ at (2 ∷ 2 ∷ []) (one (one (op 6 0 1 (input 2 0 ∷ input 2 1 ∷ [])))) 1 (return (input 2 0 ∷ input 2 1 ∷ [])) []
    ∷ []
    )
    ) (
    loop_node 3 (const 0 ∷ const 1 ∷ []) 1 (2 ∷ 2 ∷ []) 3 swaps_body_1 (body_input 1 1 ∷ body_input 1 0 ∷ []) (instr 1 0)
    ▸ block_node 1 2 0 (one (op 6 0 1 (body_input 1 0 ∷ body_input 1 1 ∷ []))) ▸ ⟨⟩
    ) (some (body_input 1 0 ∷ body_input 1 1 ∷ []))

-- A closed form: it ends by exit, or runs off its end.
abbrev pub ends_by_exit : Formed
ends_by_exit =
    formed (
    graph 2 (2 ∷ []) (
    at (1 ∷ []) [] 1 (select_branch bool_cond (input 0 0) (to 1 [] ∷ to 2 [] ∷ [])) []
    ∷ plain (one (one (op 8 0 3 (const 0 ∷ [])))) (exit_invocation 9 (const 0 ∷ []))
    ∷ plain [] unreachable
    ∷ []
    )
    ) (
    select_node 2 bool_cond (input 0 0) []
    (case_of 1 (block_node 0 1 0 (one (op 8 0 3 (const 0 ∷ []))) ▸ exit_node 1 9 (const 0 ∷ []) ▸ ⟨⟩) []
    (empty_case 2 ∅)) ▸ ⟨⟩
    ) none

-- Unreachable is no end of the graph's run; the nested run goes on behind the select.
abbrev pub goes_on : Formed
goes_on =
    formed (
    graph 2 [] (
    at (1 ∷ []) [] 1 (select_branch bool_cond (input 0 0) (to 1 [] ∷ to 2 [] ∷ [])) []
    ∷ plain (one (one (op 8 0 3 []))) unreachable
    ∷ plain (one (one (op 9 0 4 []))) (return (bool true ∷ []))
    ∷ []
    )
    ) (
    select_node 2 bool_cond (input 0 0) [] (case_of 1 (block_node 0 1 0 (one (op 8 0 3 [])) ▸ ⟨⟩) [] (empty_case 3 ∅))
    ▸ block_node 1 2 0 (one (op 9 0 4 [])) ▸ ⟨⟩
    ) (some (bool true ∷ []))

-- A boolean test of a mark, in a whole form.
abbrev pub mark_tested : Formed
mark_tested =
    formed (
    graph 2 [] (
    plain [] (branch (to 1 (undef 1 ∷ [])))
    ∷ at (1 ∷ []) [] 1 (select_branch bool_cond (input 1 0) (to 2 [] ∷ to 3 [] ∷ [])) []
    ∷ plain (one (one (op 8 0 3 []))) (return (bool true ∷ []))
    ∷ plain (one (one (op 9 0 4 []))) (return (bool false ∷ []))
    ∷ []
    )
    ) (
    select_node 2 bool_cond (undef 1) (output_of 0 1 ∷ [])
    (case_of 2 (block_node 0 2 0 (one (op 8 0 3 [])) ▸ ⟨⟩) (bool true ∷ [])
    (case_of 3 (block_node 1 3 0 (one (op 9 0 4 [])) ▸ ⟨⟩) (bool false ∷ []) ∅)) ▸ ⟨⟩
    ) (some (output 0 ∷ []))

-- A number test of a mark, in a closed form.
abbrev pub mark_tested_closed : Formed
mark_tested_closed =
    formed (
    graph 2 [] (
    plain [] (select_branch number (undef 7) (to 1 [] ∷ to 2 [] ∷ []))
    ∷ plain [] (exit_invocation 1 [])
    ∷ plain [] (exit_invocation 2 [])
    ∷ []
    )
    ) (
    select_node 2 number (undef 7) [] (case_of 1 (exit_node 0 1 [] ▸ ⟨⟩) [] (case_of 2 (exit_node 1 2 [] ▸ ⟨⟩) [] ∅)) ▸ ⟨⟩
    ) none

abbrev mark_repeated_body_1 : Nodes
mark_repeated_body_1 =
    block_node 0 1 0 (one (op 5 2 6 (body_input 1 0 ∷ [])))
    ▸ select_node 2 number (body_input 1 0) (output_of 0 1 ∷ [])
    (case_of 4 ⟨⟩ (bool true ∷ [])
    (case_of 5 ⟨⟩ (bool false ∷ [])
    (case_of 3 (block_node 1 3 0 (one (op 8 0 3 [])) ▸ ⟨⟩) (undef 1 ∷ []) ∅))) ▸ ⟨⟩

-- A loop whose repeat value is undefined after a turn to Unreachable.
abbrev pub mark_repeated : Formed
mark_repeated =
    formed (
    graph 2 (2 ∷ []) (
    plain [] (branch (to 1 (const 0 ∷ [])))
    ∷ at (2 ∷ []) (one (one (op 5 2 6 (input 1 0 ∷ [])))) 3
    (select_branch number (input 1 0) (to 1 (instr 1 0 ∷ []) ∷ to 2 [] ∷ to 3 [] ∷ [])) (2 ∷ [])
    ∷ plain [] (return [])
    ∷ plain (one (one (op 8 0 3 []))) unreachable
    ∷ []
    )
    ) (
    loop_node 3 (const 0 ∷ []) 1 (2 ∷ []) 3 mark_repeated_body_1 (instr 1 0 ∷ []) (output 0) ▸ ⟨⟩
    ) (some [])

abbrev counts_body_1 : Nodes
counts_body_1 =
    block_node 0 1 0 (one (op 5 1 6 []))
    ▸ select_node 1 bool_cond (instr 1 0) [] (empty_case 3 (empty_case 4 ∅)) ▸ ⟨⟩

-- A loop that is entered once.
abbrev pub counts : Formed
counts =
    formed (
    graph 2 [] (
    plain [] (branch (to 1 []))
    ∷ at [] (one (one (op 5 1 6 []))) 3 (select_branch bool_cond (instr 1 0) (to 1 [] ∷ to 2 [] ∷ [])) (2 ∷ [])
    ∷ plain [] (return [])
    ∷ []
    )
    ) (
    loop_node 2 [] 1 [] 3 counts_body_1 [] (instr 1 0) ▸ ⟨⟩
    ) (some [])

abbrev entered_twice_body_2 : Nodes
entered_twice_body_2 =
    block_node 0 2 0 (one (op 0 1 1 (body_input 2 0 ∷ [])))
    ▸ select_node 2 bool_cond (instr 2 0) [] (empty_case 7 (empty_case 8 ∅)) ▸ ⟨⟩

abbrev entered_twice_body_1 : Nodes
entered_twice_body_1 =
    loop_node 3 (const 0 ∷ []) 2 (1 ∷ []) 3 entered_twice_body_2 (instr 2 0 ∷ []) (instr 2 0)
    ▸ select_node 1 bool_cond (body_input 1 0) [] (empty_case 5 (empty_case 6 ∅)) ▸ ⟨⟩

-- A loop in a loop of two turns: each time it is entered its turns are counted anew.
abbrev pub entered_twice : Formed
entered_twice =
    formed (
    graph 1 (1 ∷ []) (
    plain [] (branch (to 1 (bool true ∷ [])))
    ∷ at (1 ∷ []) [] 2 (branch (to 2 (input 1 0 ∷ const 0 ∷ []))) (4 ∷ [])
    ∷ at (1 ∷ 1 ∷ []) (one (one (op 0 1 1 (input 2 1 ∷ [])))) 3
    (select_branch bool_cond (instr 2 0) (to 2 (input 2 0 ∷ instr 2 0 ∷ []) ∷ to 3 (input 2 0 ∷ []) ∷ [])) (3 ∷ [])
    ∷ at (1 ∷ []) [] 1 (select_branch bool_cond (input 3 0) (to 1 (bool false ∷ []) ∷ to 4 [] ∷ [])) []
    ∷ plain [] (return [])
    ∷ []
    )
    ) (
    loop_node 4 (bool true ∷ []) 1 (1 ∷ []) 2 entered_twice_body_1 (bool false ∷ []) (body_input 1 0) ▸ ⟨⟩
    ) (some [])

abbrev until_exit_body_1 : Nodes
until_exit_body_1 =
    block_node 0 1 0 (one (op 8 1 3 []))
    ▸ select_node 2 bool_cond (instr 1 0) [] (empty_case 3 (case_of 2 (exit_node 1 9 (instr 1 0 ∷ bool true ∷ []) ▸ ⟨⟩) [] ∅)) ▸ ⟨⟩

-- A closed form with a loop of limit 3 that only an exit leaves.
abbrev pub until_exit : Formed
until_exit =
    formed (
    graph 2 [] (
    plain [] (branch (to 1 []))
    ∷ at [] (one (one (op 8 1 3 []))) 3 (select_branch bool_cond (instr 1 0) (to 1 [] ∷ to 2 (instr 1 0 ∷ []) ∷ [])) []
    ∷ at (1 ∷ []) [] 1 (exit_invocation 9 (input 2 0 ∷ bool true ∷ [])) []
    ∷ []
    )
    ) (
    loop_node 3 [] 1 [] 3 until_exit_body_1 [] (bool true) ▸ ⟨⟩
    ) none

-- A select with two outputs, which its cases work out.
abbrev pub merges : Formed
merges =
    formed (
    graph 2 (2 ∷ []) (
    at (1 ∷ []) [] 1 (select_branch bool_cond (input 0 0) (to 1 [] ∷ to 2 [] ∷ [])) []
    ∷ plain (one (one (op 7 2 3 (const 0 ∷ [])))) (branch (to 3 (instr 1 0 ∷ instr 1 0 ∷ [])))
    ∷ plain (one (one (op 8 2 4 []))) (branch (to 3 (const 0 ∷ instr 2 0 ∷ [])))
    ∷ at (2 ∷ 2 ∷ []) [] 1 (return (input 3 1 ∷ input 3 0 ∷ [])) []
    ∷ []
    )
    ) (
    select_node 2 bool_cond (input 0 0) (output_of 0 2 ∷ output_of 1 2 ∷ [])
    (case_of 1 (block_node 0 1 0 (one (op 7 2 3 (const 0 ∷ []))) ▸ ⟨⟩) (instr 1 0 ∷ instr 1 0 ∷ [])
    (case_of 2 (block_node 1 2 0 (one (op 8 2 4 [])) ▸ ⟨⟩) (const 0 ∷ instr 2 0 ∷ []) ∅)) ▸ ⟨⟩
    ) (some (output 1 ∷ output 0 ∷ []))

abbrev two_loops_body_1 : Nodes
two_loops_body_1 =
    block_node 0 1 0 (one (op 5 1 6 []))
    ▸ select_node 3 bool_cond (instr 1 0) [] (empty_case 6 (empty_case 7 ∅)) ▸ ⟨⟩

abbrev two_loops_body_2 : Nodes
two_loops_body_2 =
    block_node 1 2 0 (one (op 6 1 4 []))
    ▸ select_node 2 bool_cond (instr 2 0) [] (empty_case 4 (empty_case 5 ∅)) ▸ ⟨⟩

-- A loop of limit 1, and behind it one of limit 5.
abbrev pub two_loops : Formed
two_loops =
    formed (
    graph 2 [] (
    plain [] (branch (to 1 []))
    ∷ at [] (one (one (op 5 1 6 []))) 1 (select_branch bool_cond (instr 1 0) (to 1 [] ∷ to 2 [] ∷ [])) (2 ∷ [])
    ∷ at [] (one (one (op 6 1 4 []))) 5 (select_branch bool_cond (instr 2 0) (to 2 [] ∷ to 3 [] ∷ [])) (3 ∷ [])
    ∷ plain [] (return [])
    ∷ []
    )
    ) (
    loop_node 4 [] 1 [] 1 two_loops_body_1 [] (instr 1 0)
    ▸ loop_node 5 [] 2 [] 5 two_loops_body_2 [] (instr 2 0) ▸ ⟨⟩
    ) (some [])
