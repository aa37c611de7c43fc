-- Each statement at case A or B, and what a wrong nester would give there that it rules out; the checker computes the runs.
use Rattle.std.specs.Prelude.{◌≡◌, refl, Bool, true, false, List, [], ◌∷◌, ℕ, suc, ◌+◌, ◌≤◌, length, ltb}
use Rattle.std.proofs.Common.{ap, arith}
use Rattle.std.proofs.Math.Option.{Option, none, some}
use Rattle.meaning.specs.Graph.{Value, const, input, instr, output, unreachable, bool, bool_cond, Graph}
use Rattle.meaning.specs.Runs.{Nodes, block, select, loop, ⟨⟩, ◌▸◌, ∅, case, word, Event, returned, Given, put, put_inputs, entry_words}
use Rattle.meaning.specs.Runs.{do_instr, do_block, do_blocks, Ended, graph_run, run_from, NestedEnded, NestedRun, ends_as, without_end}
use Rattle.meaning.specs.Runs.{put_outputs, turns, run_nodes, nested_run}
use Rattle.format.specs.Store.{accepted}
use Rattle.format.specs.Accept.{accept}
use Rattle.meaning.specs.facts.Tests.{clash}
use Rattle.nesting.specs.cases.Computes.{nesting_computes}
use Rattle.nesting.specs.Nesting.{Nested, structurize_func, visit, reachable}
use Rattle.nesting.specs.Sheet.{figure, Sheet, sheet_of, answer}
use Rattle.format.specs.stores.Pack.{store_of_graph}
use Rattle.nesting.specs.cases.CaseGraphs.{op, A, B}
use Rattle.follows.specs.Statements.{is_whole, Followed, most_attempts, FewAttempts, SoundSheet, Refusal, by_store, by_limit, by_lent}
use Rattle.follows.specs.Statements.{by_figure}
use Rattle.follows.specs.simulation.Follows.{follows}
use Rattle.follows.specs.cost.Bounded.{bounded}
use Rattle.follows.proofs.counting.Attempts.{attempts}
use Rattle.follows.proofs.sound.Sound.{sound}
use Rattle.follows.specs.examples.CaseForms.{A_accepted, A_valid, A_form, A_nested, A_nests, B_accepted, B_valid, B_loop, B_nested}
use Rattle.follows.specs.examples.CaseForms.{B_nests}
use Rattle.meaning.specs.Lists.{Within, bit}

abbrev event : ℕ → ℕ → ℕ → Event
event r k op = record { region = r; index = k; opcode = op; reads = [] }

-- ---- 1, at A: every instruction answers 1, so the first case is taken, and constant 0 is returned.
abbrev ones : Given
ones = record { constants = λ i. i; entry_inputs = λ k. 0; rule = λ op reads h. 1 }

abbrev A_ended : Ended
A_ended = record { end = returned (word 0 ∷ []); events = event 1 0 8 ∷ event 0 0 7 ∷ [] }

A_run : graph_run A ones 10 ≡ some A_ended
unfolding graph_run run_from entry_words put put_inputs do_instr do_block do_blocks
A_run = refl

A_followed : Followed A ones A_form (some (output 0 ∷ [])) A_ended
A_followed = follows A A_valid A_nested A_nests (some (output 0 ∷ [])) (is_whole refl) ones 10 A_ended A_run

-- One run shows what all show: a form that does other things with some budget follows with none.
record SameRun (w : NestedEnded) (e : Ended) : Type 0 where
  end : w.end ≡ e.end
  events : w.events ≡ e.events

same_run : {g : Graph} {x : Given} {ks : Nodes} {outs : Option (List Value)} {e : Ended} (b : ℕ) (w : NestedEnded)
    → nested_run g x ks outs b ≡ ends_as w → Followed g x ks outs e → SameRun w e
same_run b w h f =
    let same : w ≡ f.run = f.only b w h in
    let one = f.end in
    let two = f.events in
    record { end = cc; events = cc }

-- A nester that crosses the two cases: constant 1 is returned, after opcode 9.
abbrev A_crossed : Nodes
A_crossed =
    block 0 0 0 (op 7 1 5 ∷ [])
    ▸ select (record { number = 3; kind = bool_cond; scrutinee = instr 0 0; outputs = record { number = 0; type = 2 } ∷ [] })
    (case (record { region = 2; outputs = const 1 ∷ [] }) (block 2 2 0 (op 9 0 4 ∷ []) ▸ ⟨⟩)
    (case (record { region = 1; outputs = const 0 ∷ [] }) (block 1 1 0 (op 8 0 3 ∷ []) ▸ ⟨⟩) ∅))
    ▸ ⟨⟩

A_crossed_run : nested_run A ones A_crossed (some (output 0 ∷ [])) 1
    ≡ ends_as (record { end = returned (word 1 ∷ []); events = event 2 0 9 ∷ event 0 0 7 ∷ []; cost = 11; over_limit = false })
unfolding nested_run entry_words put put_inputs put_outputs run_nodes do_instr do_block
A_crossed_run = refl

A_crossed_wrong : Followed A ones A_crossed (some (output 0 ∷ [])) A_ended → ⊥
A_crossed_wrong f = let y = same_run 1 _ A_crossed_run f in let e = y.end in clash (cc)

-- ---- 1, at B: the first four turns answer 1, the fifth 0.
abbrev five : Given
five = record { constants = λ i. i; entry_inputs = λ k. 0; rule = λ op reads h. bit (ltb (length h) 4) }

abbrev B_ended : Ended
B_ended = record { end = returned []; events = event 1 0 5 ∷ event 1 0 5 ∷ event 1 0 5 ∷ event 1 0 5 ∷ event 1 0 5 ∷ [] }

B_run : graph_run B five 10 ≡ some B_ended
unfolding graph_run run_from entry_words put put_inputs do_instr do_block do_blocks
B_run = refl

B_followed : Followed B five (B_loop (instr 1 0)) (some []) B_ended
B_followed = follows B B_valid B_nested B_nests (some []) (is_whole refl) five 10 B_ended B_run

-- A nester that lets the loop test another value than its header's: one turn.
B_once_run : nested_run B five (B_loop (bool false)) (some []) 1
    ≡ ends_as (record { end = returned []; events = event 1 0 5 ∷ []; cost = 10; over_limit = false })
unfolding nested_run entry_words put put_inputs put_outputs run_nodes turns do_instr do_block
B_once_run = refl

B_once_wrong : Followed B five (B_loop (bool false)) (some []) B_ended → ⊥
B_once_wrong f = let y = same_run 1 _ B_once_run f in let e = y.events in clash (cc)

-- ---- 1, of the form as printed: one name is one variable. Here the entry is the body of its own loop, so `i0.0` after the loop is the
-- input of the second turn, constant 0. A run that kept the loop's inputs apart would return the entry's word for the same sheet.
abbrev own_body : Graph
own_body = record {
  entry = 0;
  test_cost = 0;
  constants = 2 ∷ [];
  regions = record { inputs = 2 ∷ []; blocks = []; limit = 2; terminator = unreachable; exits = [] } ∷ [];
}

abbrev own_loop : Nodes
own_loop =
    loop (record {
      number = 1;
      initial_inputs = input 0 0 ∷ [];
      body = 0;
      types = 2 ∷ [];
      limit = 2;
      outputs = const 0 ∷ [];
      repeat = instr 0 0;
    }) (block 0 0 0 (op 5 1 6 ∷ []) ▸ ⟨⟩)
    ▸ ⟨⟩

abbrev twice_around : Given
twice_around = record { constants = λ i. 9; entry_inputs = λ k. 7; rule = λ op reads h. bit (ltb (length h) 1) }

own_loop_run : nested_run own_body twice_around own_loop (some (input 0 0 ∷ [])) 2
    ≡ ends_as (record { end = returned (word 9 ∷ []); events = event 0 0 5 ∷ event 0 0 5 ∷ []; cost = 12; over_limit = false })
unfolding nested_run entry_words put put_inputs put_outputs run_nodes turns do_instr do_block
own_loop_run = refl

-- ---- 2, at A: every instruction answers 0, so the second case is taken, the dearer one.
abbrev zeros : Given
zeros = record { constants = λ i. i; entry_inputs = λ k. 0; rule = λ op reads h. 0 }

abbrev A_dear : NestedEnded
A_dear = record { end = returned (word 1 ∷ []); events = event 2 0 9 ∷ event 0 0 7 ∷ []; cost = 11; over_limit = false }

A_dear_run : nested_run A zeros A_form (some (output 0 ∷ [])) 1 ≡ ends_as A_dear
unfolding nested_run entry_words put put_inputs put_outputs run_nodes do_instr do_block
A_dear_run = refl

A_bounded : 11 ≤ figure 2 A_form
A_bounded = bounded A zeros A_form (some (output 0 ∷ [])) 1 A_dear A_dear_run refl

A_figure : figure 2 A_form ≡ 11
unfolding figure
A_figure = refl

-- A nester whose figure takes a select's first case for it: 5, 2 and 3 are less than what this run costs.
A_first_case_wrong : A_dear.cost ≤ 5 + 2 + 3 → ⊥
A_first_case_wrong h = omega arith

-- At B ten turns cost the whole figure; an eleventh passes the limit and the figure, and the run says so.
abbrev turning : ℕ → Given
turning n = record { constants = λ i. i; entry_inputs = λ k. 0; rule = λ op reads h. bit (ltb (suc (length h)) n) }

abbrev cost_of : NestedRun → Option (ℕ × Bool)
cost_of (without_end x) = none
cost_of (ends_as e) = some (e.cost, e.over_limit)

B_ten : cost_of (nested_run B (turning 10) (B_loop (instr 1 0)) (some []) 20) ≡ some (100, false)
unfolding nested_run entry_words put put_inputs put_outputs run_nodes turns do_instr do_block
B_ten = refl

B_eleven : cost_of (nested_run B (turning 11) (B_loop (instr 1 0)) (some []) 20) ≡ some (110, true)
unfolding nested_run entry_words put put_inputs put_outputs run_nodes turns do_instr do_block
B_eleven = refl

B_figure : figure 2 (B_loop (instr 1 0)) ≡ 100
unfolding figure
B_figure = refl

-- ---- 3, at A: four regions and four edges, so at most 1 + 4 + 4 × 7.
A_most : most_attempts A (reachable A) ≡ 33
unfolding visit
A_most = refl

A_attempts : FewAttempts A 8
A_attempts = attempts A A_valid A_nested A_nests

-- A nester that tries each target again whenever a claim is made: one attempt more than the bound is no longer few.
A_more_wrong : FewAttempts A 34 → ⊥
A_more_wrong h = omega (arith, A_most, h.few)

-- ---- 4, at A: the sheet of its store.
A_answer : answer (store_of_graph A) 16384 ≡ accepted (sheet_of A A_nested)
unfolding nesting_computes answer store_of_graph
A_answer = refl

A_sound : SoundSheet (store_of_graph A) (sheet_of A A_nested)
A_sound = sound (store_of_graph A) 16384 (sheet_of A A_nested) A_answer

-- A store has one sound sheet at most.
one_sheet : {store : List ℕ} {g : Graph} {n : Nested} {s : Sheet} → accept store ≡ accepted g → structurize_func g ≡ accepted n
    → SoundSheet store s → s ≡ sheet_of g n
one_sheet {g = g} {n = n} a b h =
    let same_graph : h.graph ≡ g = let c = h.accepts in cc in
    let same_nest : h.nest ≡ n = let c = h.nests in cc in
    let c = h.shows in cc

-- A nester that gives each store the sheet of A.
A_for_B_wrong : SoundSheet (store_of_graph B) (sheet_of A A_nested) → ⊥
unfolding sheet_of
A_for_B_wrong h = let z : ◌≡◌ {A = ℕ} 8 7 = ap (λ s. s.attempts) (one_sheet B_accepted B_nests h) in omega arith

-- A nester that invents a figure.
A_invented_wrong : (s : Sheet) → s.figure ≡ 10 → SoundSheet (store_of_graph A) s → ⊥
unfolding sheet_of figure
A_invented_wrong s e h = let z : s.figure ≡ 11 = ap (λ s. s.figure) (one_sheet A_accepted A_nests h) in omega arith

-- ---- 5: a refusal is numbered 1 to 11, so not 0.
numbered : {n w : ℕ} → Refusal n w → Within 1 11 n
numbered (by_store h l) = (h.0, omega (arith, h.1))
numbered by_limit = (omega arith, omega arith)
numbered by_lent = (omega arith, omega arith)
numbered by_figure = (omega arith, omega arith)

-- A nester that stops where the Rust does, and one whose fuel runs out.
nought_wrong : (w : ℕ) → Refusal 0 w → ⊥
nought_wrong w h = omega (arith, (numbered h).0)
