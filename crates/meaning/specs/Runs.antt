-- The nested form, the graph's run and the nested run (document 01, "What comes out").
use Rattle.std.specs.Prelude.{List, [], ◌∷◌, map, ℕ, zero, suc, pred, ◌+◌, ◌%◌, Bool, false, ◌||◌, length, get_or, ltb, leb}
use Rattle.std.proofs.Math.Option.{Option, none, some}
use Rattle.meaning.specs.Lists.{numbers_from, pick, bit}
use Rattle.meaning.specs.Graph.{Value, Instr, SelectionKind, const, input, instr, output, bool, undef, held, same_value, bool_cond}
use Rattle.meaning.specs.Graph.{number, Graph, region, Edge, no_edge, ControlInst, unreachable, return, exit_invocation, branch}
use Rattle.meaning.specs.Graph.{select_branch, no_value}

-- ---- the nested form: sequences, selects and loops
-- An output of a select: its number in order of definition, and its type.
pub record OutputDecl : Type 0 where
  pub number : ℕ
  pub type : ℕ

pub record SelectNode : Type 0 where
  pub number : ℕ
  pub kind : SelectionKind
  pub scrutinee : Value
  pub outputs : List OutputDecl

-- A case of a select: its region, and what it gives for the select's outputs.
pub record CaseRegion : Type 0 where
  pub region : ℕ
  pub outputs : List Value

-- A loop: `body` is its body's region, `types` are those of the body inputs, `limit` is the header's turn limit; `outputs` are the body's.
pub record LoopNode : Type 0 where
  pub number : ℕ
  pub initial_inputs : List Value
  pub body : ℕ
  pub types : List ℕ
  pub limit : ℕ
  pub outputs : List Value
  pub repeat : Value

infixr 40 ◌▸◌
mutual
  pub data Node : Type 0 where
    block : ℕ → ℕ → ℕ → List Instr → Node  -- number, region, index of the first instruction, the instructions
    select : SelectNode → Cases → Node
    loop : LoopNode → Nodes → Node  -- with the body's children
    exit : ℕ → ℕ → List Value → Node  -- number, opcode, values

  -- The children of a region, in order.
  pub data Nodes : Type 0 where
    ⟨⟩ : Nodes
    ◌▸◌ : Node → Nodes → Nodes

  pub data Cases : Type 0 where
    ∅ : Cases
    case : CaseRegion → Nodes → Cases → Cases  -- with its children, and the other cases

-- ---- what both runs share: words, environments, events, ends, and a block carried out
-- A 32-bit word, or what an undefined value reads as: the mark, which is no word.
pub data Word : Type 0 where
  word : ℕ → Word
  mark : Word

-- Numbers from outside are taken modulo 2^32. So any function to numbers will do for a rule, and every rule to 32-bit words is one.
abbrev pub word32 : ℕ → Word
word32 n = word (n % 4294967296)

-- What each value is at some moment of a run.
abbrev pub Env : Type 0
Env = Value → Word

unfoldable pub put : Value → Word → Env → Env
put v w σ u = pick (same_value u v) w (σ u)

-- v k, v (k + 1), .. become the words: a region's inputs, all at once.
unfoldable pub put_inputs : (ℕ → Value) → ℕ → List Word → Env → Env
put_inputs v k [] σ = σ
put_inputs v k (w ∷ ws) σ = put_inputs v (suc k) ws (put (v k) w σ)

-- An instruction carried out; `index` counts from 0 in its region.
pub record Event : Type 0 where
  pub region : ℕ
  pub index : ℕ
  pub opcode : ℕ
  pub reads : List Word

-- How a run ends: by Return with its values, or by ExitInvocation with its opcode and values.
pub data End : Type 0 where
  returned : List Word → End
  exited : ℕ → List Word → End

-- An instruction's answer from its opcode, its reads, and the instructions carried out before it, the latest first.
abbrev pub Rule : Type 0
Rule = ℕ → List Word → List Event → ℕ

-- What a run is given: a word for each constant and for each entry input, by number, and the rule.
pub record Given : Type 0 where
  pub constants : ℕ → ℕ
  pub entry_inputs : ℕ → ℕ
  pub rule : Rule

-- The constants; true is 1, false 0; nothing else is a word before the run.
abbrev pub base_env : Given → Env
base_env x (const i) = word32 (x.constants i)
base_env x (bool b) = word (bit b)
base_env x (undef t) = mark
base_env x no_value = mark
base_env x (input r k) = mark
base_env x (instr r k) = mark
base_env x (output o) = mark
base_env x (held r k) = mark

unfoldable pub entry_words : Graph → Given → List Word
entry_words g x = map (λ k. word32 (x.entry_inputs k)) (numbers_from 0 (region g g.entry).inputs)

-- Where a run stands. The latest event is first; `over_limit` is whether some loop began more turns than its turn limit.
pub record RunState : Type 0 where
  pub env : Env
  pub events : List Event
  pub cost : ℕ
  pub over_limit : Bool

-- On entering a region with its inputs' words. It uses only constants, its own inputs and its own instructions' outputs: no more is kept.
abbrev pub enter : Env → ℕ → List Word → List Event → RunState
enter base r ws h = record { env = put_inputs (λ k. input r k) 0 ws base; events = h; cost = 0; over_limit = false }

-- The place that a test takes: a boolean 0 when true (any word but 0), else 1; a number the place it equals, else the last of n.
abbrev pub place_taken : SelectionKind → ℕ → ℕ → ℕ
place_taken bool_cond zero n = 1
place_taken bool_cond (suc w) n = 0
place_taken number w n = pick (ltb w n) w (pred n)

module _ (rule : Rule) where
  unfoldable pub do_instr : ℕ → ℕ → Instr → RunState → RunState
  do_instr r k i s =
      let reads = map s.env i.reads in
      let event : Event = record { region = r; index = k; opcode = i.opcode; reads = reads } in
      let env = put (instr r k) (word32 (rule i.opcode reads s.events)) s.env in
      record { env = env; events = event ∷ s.events; cost = s.cost + i.cost; over_limit = s.over_limit }

  unfoldable pub do_block : ℕ → ℕ → List Instr → RunState → RunState
  do_block r k [] s = s
  do_block r k (i ∷ is) s = do_block r (suc k) is (do_instr r k i s)

  unfoldable pub do_blocks : ℕ → ℕ → List (List Instr) → RunState → RunState
  do_blocks r k [] s = s
  do_blocks r k (b ∷ bs) s = do_blocks r (k + length b) bs (do_block r k b s)

-- ---- the graph's run, within a number of regions
-- What a run of the graph shows: its end and its events, the latest first.
pub record Ended : Type 0 where
  pub end : End
  pub events : List Event

-- How the run goes on from a region with its inputs' words and the events so far.
abbrev pub GoesOn : Type 0
GoesOn = ℕ → List Word → List Event → Option Ended

-- The edge that a test takes; a tested mark is no end.
abbrev pub edge_taken : SelectionKind → Word → List Edge → Option Edge
edge_taken k mark es = none
edge_taken k (word w) es = some (get_or es (place_taken k w (length es)) no_edge)

abbrev pub along : GoesOn → Env → List Event → Option Edge → Option Ended
along go σ h none = none
along go σ h (some e) = go e.target (map σ e.inputs) h

-- The target's inputs are all read before any is given. Unreachable is no end.
abbrev pub by_terminator : GoesOn → Env → List Event → ControlInst → Option Ended
by_terminator go σ h unreachable = none
by_terminator go σ h (return vs) = some (record { end = returned (map σ vs); events = h })
by_terminator go σ h (exit_invocation op vs) = some (record { end = exited op (map σ vs); events = h })
by_terminator go σ h (branch e) = along go σ h (some e)
by_terminator go σ h (select_branch k v es) = along go σ h (edge_taken k (σ v) es)

module _ (rule : Rule) (g : Graph) (base : Env) where
  unfoldable pub run_from : ℕ → GoesOn
  run_from zero r ws h = none
  run_from (suc n) r ws h =
      let s = do_blocks rule r 0 (region g r).blocks (enter base r ws h) in
      by_terminator (λ t vs h'. run_from n t vs h') s.env s.events (region g r).terminator

-- The graph's run from the entry, within a number of regions. That it ends means: for some number this is not none.
unfoldable pub graph_run : Graph → Given → ℕ → Option Ended
graph_run g x n = run_from x.rule g (base_env x) n g.entry (entry_words g x) []

-- ---- the nested run, within a number of turns for each loop
-- What is no end of a nested run. `turns_used_up` alone is the budget's doing.
pub data NoEnd : Type 0 where
  turns_used_up : NoEnd  -- a loop went on beyond the turns that the run is given
  tested_mark : NoEnd  -- a mark was tested
  ran_off : NoEnd  -- the run came through a closed form
  no_case : NoEnd  -- a select has no case at the place taken

-- A run of nodes comes through, or is ended by an exit, or comes to no end.
pub data Ran : Type 0 where
  through : RunState → Ran
  ended : End → RunState → Ran
  no_end : NoEnd → Ran

abbrev pub and_then : Ran → (RunState → Ran) → Ran
and_then (through s) k = k s
and_then (ended e s) k = ended e s
and_then (no_end x) k = no_end x

-- A test goes on with the word tested.
abbrev pub tested : Word → (ℕ → Ran) → Ran
tested mark k = no_end tested_mark
tested (word w) k = k w

abbrev pub pay : ℕ → RunState → RunState
pay c s = record { env = s.env; events = s.events; cost = s.cost + c; over_limit = s.over_limit }

abbrev pub note_over : Bool → RunState → RunState
note_over b s = record { env = s.env; events = s.events; cost = s.cost; over_limit = s.over_limit || b }

-- Values copied, all at once: each is read before any is given, and `given` says to what. A copy costs nothing.
abbrev pub copied : (List Word → Env → Env) → List Value → RunState → RunState
copied given vs s = record { env = given (map s.env vs) s.env; events = s.events; cost = s.cost; over_limit = s.over_limit }

-- The body inputs of a loop become the values, all at once.
abbrev pub assign_inputs : ℕ → List Value → RunState → RunState
assign_inputs r vs s = copied (put_inputs (λ k. input r k) 0) vs s

-- After its last turn a loop copies the body's outputs to nowhere, a place for a cost (today none): later uses see that turn's inputs.
abbrev pub leave_loop : List Value → RunState → RunState
leave_loop vs s = copied (λ ws σ. σ) vs s

-- After a turn's test, with the body's outputs: any word but 0 is once more.
abbrev pub once_more : (RunState → Ran) → List Value → ℕ → RunState → Ran
once_more again vs zero s = through (leave_loop vs s)
once_more again vs (suc w) s = again s

unfoldable pub put_outputs : List OutputDecl → List Word → Env → Env
put_outputs [] ws σ = σ
put_outputs (o ∷ os) [] σ = σ
put_outputs (o ∷ os) (w ∷ ws) σ = put_outputs os ws (put (output o.number) w σ)

-- The outputs of a select become those of the case taken, all at once.
abbrev pub assign_outputs : List OutputDecl → List Value → RunState → RunState
assign_outputs os vs s = copied (put_outputs os) vs s

abbrev pub case_count : Cases → ℕ
case_count ∅ = 0
case_count (case c ks cs) = suc (case_count cs)

module _ (rule : Rule) (test_cost : ℕ) where
  -- A loop's turns: the turns left, the turns made, the loop, how its body runs.
  -- The test at a turn's end costs; the body inputs change only if it is true.
  unfoldable pub turns : ℕ → ℕ → LoopNode → (RunState → Ran) → RunState → Ran
  turns zero made x run s = no_end turns_used_up
  turns (suc n) made x run s =
      and_then (run (note_over (leb x.limit made) s)) λ s'. tested (s'.env x.repeat) λ w.
      once_more (λ s''. turns n (suc made) x run (assign_inputs x.body x.outputs s'')) x.outputs w (pay test_cost s')

  unfoldable mutual
    -- A select tests its scrutinee and runs one case; a loop runs its turns; an exit ends the run.
    pub run_node : ℕ → Node → RunState → Ran
    run_node n (block b r k is) s = through (do_block rule r k is s)
    run_node n (select x cs) s =
        tested (s.env x.scrutinee) λ w. run_case n cs (place_taken x.kind w (case_count cs)) x.outputs (pay test_cost s)
    run_node n (loop x ks) s = turns n 0 x (λ s'. run_nodes n ks s') (assign_inputs x.body x.initial_inputs s)
    run_node n (exit b op vs) s = ended (exited op (map s.env vs)) s

    pub run_nodes : ℕ → Nodes → RunState → Ran
    run_nodes n ⟨⟩ s = through s
    run_nodes n (k ▸ ks) s = and_then (run_node n k s) λ s'. run_nodes n ks s'

    -- The case at a place; its outputs become the select's.
    pub run_case : ℕ → Cases → ℕ → List OutputDecl → RunState → Ran
    run_case n ∅ j os s = no_end no_case
    run_case n (case c ks cs) zero os s = and_then (run_nodes n ks s) λ s'. through (assign_outputs os c.outputs s')
    run_case n (case c ks cs) (suc j) os s = run_case n cs j os s

-- What a nested run shows: its end, its events, the latest first, its cost, and whether some loop passed its turn limit.
pub record NestedEnded : Type 0 where
  pub end : End
  pub events : List Event
  pub cost : ℕ
  pub over_limit : Bool

abbrev pub ended_at : End → RunState → NestedEnded
ended_at e s = record { end = e; events = s.events; cost = s.cost; over_limit = s.over_limit }

pub data NestedRun : Type 0 where
  ends_as : NestedEnded → NestedRun
  without_end : NoEnd → NestedRun

-- After the last child a whole form returns the entry's outputs; running off a closed form is no end.
abbrev pub after_last : Option (List Value) → Ran → NestedRun
after_last outs (no_end x) = without_end x
after_last outs (ended e s) = ends_as (ended_at e s)
after_last none (through s) = without_end ran_off
after_last (some vs) (through s) = ends_as (ended_at (returned (map s.env vs)) s)

abbrev pub start : Graph → Given → RunState
start g x = enter (base_env x) g.entry (entry_words g x) []

-- The nested run of a form's children with the entry's outputs (none for a closed form), within a number of turns for each loop.
unfoldable pub nested_run : Graph → Given → Nodes → Option (List Value) → ℕ → NestedRun
nested_run g x ks outs n = after_last outs (run_nodes x.rule g.test_cost n ks (start g x))
