-- The graphs of document 01's proved cases, and of a few small ones beside them that each turn on one step of nesting.
use Rattle.std.specs.Prelude.{true, List, [], ◌∷◌, ℕ, zero, suc}
use Rattle.meaning.specs.Graph.{Value, const, input, instr, bool, Instr, bool_cond, number, Edge, ControlInst, return, exit_invocation}
use Rattle.meaning.specs.Graph.{branch, select_branch, Region, Graph}

-- opcode, type, cost; no reads
abbrev pub op : ℕ → ℕ → ℕ → Instr
op o t c = record { opcode = o; type = t; cost = c; reads = [] }

abbrev pub to : ℕ → List Value → Edge
to r vs = record { target = r; inputs = vs }

-- A region without inputs or exits, of turn limit 1.
abbrev pub plain_region : List (List Instr) → ControlInst → Region
plain_region bs c = record { inputs = []; blocks = bs; limit = 1; terminator = c; exits = [] }

-- A header: inputs, its one instruction, turn limit, terminator, exit list.
abbrev pub header : List ℕ → Instr → ℕ → ControlInst → List ℕ → Region
header ts i n c xs = record { inputs = ts; blocks = ((i ∷ []) ∷ []); limit = n; terminator = c; exits = xs }

abbrev pub one_block : Instr → List (List Instr)
one_block i = (i ∷ []) ∷ []

-- test cost, constants' types, regions; the entry is region 0
abbrev pub graph : ℕ → List ℕ → List Region → Graph
graph c ts rs = record { entry = 0; test_cost = c; constants = ts; regions = rs }

-- ---- document 01's cases
abbrev pub A : Graph
A = graph 2 (2 ∷ 2 ∷ []) (
    plain_region (one_block (op 7 1 5)) (select_branch bool_cond (instr 0 0) (to 1 [] ∷ to 2 [] ∷ []))
    ∷ plain_region (one_block (op 8 0 3)) (branch (to 3 (const 0 ∷ [])))
    ∷ plain_region (one_block (op 9 0 4)) (branch (to 3 (const 1 ∷ [])))
    ∷ record { inputs = (2 ∷ []); blocks = []; limit = 1; terminator = return (input 3 0 ∷ []); exits = [] }
    ∷ []
    )

abbrev pub B : Graph
B = graph 2 (2 ∷ []) (
    plain_region [] (branch (to 1 (const 0 ∷ bool true ∷ [])))
    ∷ header (2 ∷ 1 ∷ []) (op 5 1 6) 10 (select_branch bool_cond (instr 1 0) (to 1 (input 1 0 ∷ instr 1 0 ∷ []) ∷ to 2 [] ∷ [])) (2 ∷ [])
    ∷ plain_region [] (return [])
    ∷ []
    )

-- One region with a terminator.
abbrev pub one_region : ControlInst → Graph
one_region c = graph 0 [] (plain_region [] c ∷ [])

abbrev pub both_the_same : Graph
both_the_same = graph 0 [] (
    plain_region [] (select_branch bool_cond (bool true) (to 1 [] ∷ to 1 [] ∷ []))
    ∷ plain_region [] (return [])
    ∷ []
    )

-- n Return regions, and the edges to them from a number on
abbrev pub returns : ℕ → List Region
returns zero = []
returns (suc n) = plain_region [] (return []) ∷ returns n

abbrev pub edges_in_turn : ℕ → ℕ → List Edge
edges_in_turn k zero = []
edges_in_turn k (suc n) = to k [] ∷ edges_in_turn (suc k) n

-- A number test with n targets.
abbrev pub many_targets : ℕ → Graph
many_targets n = graph 0 (2 ∷ []) (plain_region [] (select_branch number (const 0) (edges_in_turn 1 n)) ∷ returns n)

-- n regions that branch from one to the next, the last numbered k, and a Return region
abbrev pub chain : ℕ → ℕ → List Region
chain k zero = plain_region [] (return []) ∷ []
chain k (suc n) = plain_region [] (branch (to (suc k) [])) ∷ chain (suc k) n

abbrev pub regions : ℕ → Graph
regions zero = graph 0 [] []
regions (suc n) = graph 0 [] (chain 0 n)

-- ---- ours
-- An exit list without a back edge adds nothing to what is deferred.
abbrev pub no_loop : Graph
no_loop = graph 0 [] (
    record { inputs = []; blocks = []; limit = 1; terminator = branch (to 1 []); exits = (1 ∷ []) }
    ∷ plain_region [] (return [])
    ∷ []
    )

-- The one convergent case goes after the select.
abbrev pub one_goes_on : Graph
one_goes_on = graph 1 [] (
    plain_region [] (select_branch bool_cond (bool true) (to 1 [] ∷ to 2 [] ∷ []))
    ∷ plain_region (one_block (op 7 0 3)) (return [])
    ∷ plain_region [] (exit_invocation 9 [])
    ∷ []
    )

-- The outer loop repeats where the inner one does not: [false, true] is an output of the select.
abbrev pub loop_in_loop : Graph
loop_in_loop = graph 2 [] (
    plain_region [] (branch (to 1 []))
    ∷ record { inputs = []; blocks = []; limit = 3; terminator = branch (to 2 []); exits = [] }
    ∷ header [] (op 5 1 4) 10 (select_branch bool_cond (instr 2 0) (to 1 [] ∷ to 2 [] ∷ [])) (1 ∷ [])
    ∷ []
    )

-- Three deferred edges, the back edge first: the last one takes its place.
abbrev pub two_exits : Graph
two_exits = graph 2 [] (
    plain_region [] (branch (to 1 []))
    ∷ header [] (op 7 1 5) 2 (select_branch bool_cond (instr 1 0) (to 2 [] ∷ to 3 [] ∷ [])) (3 ∷ 4 ∷ [])
    ∷ plain_region (one_block (op 8 1 3)) (select_branch bool_cond (instr 2 0) (to 1 [] ∷ to 4 [] ∷ []))
    ∷ plain_region [] (return [])
    ∷ plain_region [] (branch (to 3 []))
    ∷ []
    )

-- An input of the inner header is renumbered, and met again in the outer loop: twice.
abbrev pub renumbered : Graph
renumbered = graph 2 (1 ∷ []) (
    record { inputs = (1 ∷ []); blocks = []; limit = 1; terminator = branch (to 1 (input 0 0 ∷ const 0 ∷ [])); exits = [] }
    ∷ record { inputs = (1 ∷ 1 ∷ []); blocks = []; limit = 5; terminator = branch (to 2 (input 1 0 ∷ const 0 ∷ [])); exits = [] }
    ∷ header (1 ∷ 1 ∷ []) (record { opcode = 7; type = 1; cost = 3; reads = (input 2 0 ∷ []) }) 4
    (select_branch bool_cond (instr 2 0) (to 2 (input 2 0 ∷ instr 2 0 ∷ []) ∷ to 1 (input 2 0 ∷ input 2 1 ∷ []) ∷ [])) []
    ∷ []
    )

-- Two regions that lead to each other, both entered from outside.
abbrev pub crossing : Graph
crossing = graph 0 [] (
    plain_region (one_block (op 7 1 1)) (select_branch bool_cond (instr 0 0) (to 1 [] ∷ to 2 [] ∷ []))
    ∷ plain_region (one_block (op 8 1 2)) (select_branch bool_cond (instr 1 0) (to 2 [] ∷ to 3 [] ∷ []))
    ∷ plain_region [] (branch (to 1 []))
    ∷ plain_region [] (return [])
    ∷ []
    )

-- A loop of 65,535 turns, each of cost 131,070.
abbrev pub dear : Graph
dear = graph 65535 [] (
    plain_region [] (branch (to 1 []))
    ∷ header [] (op 7 1 65535) 65535 (select_branch bool_cond (instr 1 0) (to 1 [] ∷ to 2 [] ∷ [])) (2 ∷ [])
    ∷ plain_region [] (return [])
    ∷ []
    )
