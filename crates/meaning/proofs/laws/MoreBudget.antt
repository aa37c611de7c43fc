-- More budget never changes a run that ended; of a nested run it changes nothing but used-up turns.
use Rattle.std.specs.Prelude.{◌≡◌, List, []}
use Rattle.std.proofs.Common.{sym, arith, le_of_suc-le-suc, not-suc-le-zero}
use Rattle.std.proofs.Math.Option.{Option, none, some}
use Prim.Native.Nat.{ℕ, zero, suc, ◌+◌, ◌≤◌}
use Rattle.meaning.specs.Graph.{Value, Edge, ControlInst, unreachable, return, exit_invocation, branch, select_branch, Graph, region}
use Rattle.meaning.specs.Runs.{OutputDecl, LoopNode, Node, block, select, loop, exit, Nodes, ⟨⟩, ◌▸◌, Cases, ∅, case, Word, word}
use Rattle.meaning.specs.Runs.{mark, Env, Event, Rule, Given, RunState, base_env, entry_words, place_taken, Ended, GoesOn, edge_taken}
use Rattle.meaning.specs.Runs.{along, by_terminator, run_from, graph_run, Ran, through, ended, no_end, turns_used_up, NestedEnded}
use Rattle.meaning.specs.Runs.{NestedRun, ends_as, without_end, and_then, tested, once_more, pay, case_count, turns, run_node}
use Rattle.meaning.specs.Runs.{run_nodes, run_case, after_last, start, nested_run}
use Rattle.meaning.specs.facts.Tests.{clash}

-- The first came to nothing (to `gone`), or the second is the same.
data StaysAs {A : Type 0} (gone : A) : A → A → Type 0 where
  nothing : {y : A} → StaysAs gone gone y
  same : {x : A} → StaysAs gone x x

-- ---- the graph's run
came : {x y : Option Ended} {r : Ended} → StaysAs none x y → x ≡ some r → y ≡ some r
came nothing e = cc
came same e = e

abbrev AllStay : GoesOn → GoesOn → Type 0
AllStay go go' = (r : ℕ) (ws : List Word) (h : List Event) → StaysAs none (go r ws h) (go' r ws h)

along_stays : {go go' : GoesOn} (σ : Env) (h : List Event) (e : Option Edge) → AllStay go go'
    → StaysAs none (along go σ h e) (along go' σ h e)
along_stays σ h none s = nothing
along_stays σ h (some e) s = s _ _ _

by_terminator_stays : {go go' : GoesOn} (σ : Env) (h : List Event) (c : ControlInst) → AllStay go go'
    → StaysAs none (by_terminator go σ h c) (by_terminator go' σ h c)
by_terminator_stays σ h unreachable s = nothing
by_terminator_stays σ h (return vs) s = same
by_terminator_stays σ h (exit_invocation op vs) s = same
by_terminator_stays σ h (branch e) s = s _ _ _
by_terminator_stays σ h (select_branch k v es) s = along_stays σ h (edge_taken k (σ v) es) s

run_from_stays : (rule : Rule) (g : Graph) (base : Env) (m n : ℕ) → m ≤ n → AllStay (run_from rule g base m) (run_from rule g base n)
unfolding run_from
run_from_stays rule g base zero n l r ws h = nothing
run_from_stays rule g base (suc m) zero l r ws h = absurd (not-suc-le-zero l)
run_from_stays rule g base (suc m) (suc n) l r ws h =
    by_terminator_stays _ _ (region g r).terminator (run_from_stays rule g base m n (le_of_suc-le-suc l))

pub graph_run_stays : (g : Graph) (x : Given) (m n : ℕ) (r : Ended) → m ≤ n → graph_run g x m ≡ some r → graph_run g x n ≡ some r
unfolding graph_run
graph_run_stays g x m n r l = came (run_from_stays x.rule g (base_env x) m n l g.entry (entry_words g x) [])

-- ---- the nested run
-- How two ways to run agree wherever the first comes to something.
abbrev StepsStay : (RunState → Ran) → (RunState → Ran) → Type 0
StepsStay f f' = (s : RunState) → StaysAs (no_end turns_used_up) (f s) (f' s)

and_then_stays : {x y : Ran} {f f' : RunState → Ran} → StaysAs (no_end turns_used_up) x y → StepsStay f f'
    → StaysAs (no_end turns_used_up) (and_then x f) (and_then y f')
and_then_stays nothing t = nothing
and_then_stays (same {x = through s}) t = t s
and_then_stays (same {x = ended e s}) t = same
and_then_stays (same {x = no_end x}) t = same

tested_stays : (w : Word) {f f' : ℕ → Ran} → ((n : ℕ) → StaysAs (no_end turns_used_up) (f n) (f' n))
    → StaysAs (no_end turns_used_up) (tested w f) (tested w f')
tested_stays mark t = same
tested_stays (word n) t = t n

once_more_stays : (vs : List Value) (w : ℕ) (s : RunState) {f f' : RunState → Ran} → StepsStay f f'
    → StaysAs (no_end turns_used_up) (once_more f vs w s) (once_more f' vs w s)
once_more_stays vs zero s t = same
once_more_stays vs (suc w) s t = t s

module _ (rule : Rule) (test_cost : ℕ) where
  turns_stay : (m n made : ℕ) (x : LoopNode) (f f' : RunState → Ran) → m ≤ n → StepsStay f f'
      → StepsStay (turns rule test_cost m made x f) (turns rule test_cost n made x f')
  unfolding turns
  turns_stay zero n made x f f' l t s = nothing
  turns_stay (suc m) zero made x f f' l t s = absurd (not-suc-le-zero l)
  turns_stay (suc m) (suc n) made x f f' l t s =
      and_then_stays (t _) λ s'. tested_stays (s'.env x.repeat) λ w. once_more_stays x.outputs w (pay test_cost s') λ s''.
      turns_stay m n (suc made) x f f' (le_of_suc-le-suc l) t _

  module _ (m n : ℕ) (l : m ≤ n) where
    mutual
      unfolding run_nodes

      node_stays : (k : Node) → StepsStay (run_node rule test_cost m k) (run_node rule test_cost n k)
      node_stays (block b r k is) s = same
      node_stays (select x cs) s =
          tested_stays (s.env x.scrutinee) λ w. case_stays cs (place_taken x.kind w (case_count cs)) x.outputs (pay test_cost s)
      node_stays (loop x ks) s = turns_stay m n 0 x _ _ l (λ s'. nodes_stay ks s') _
      node_stays (exit b op vs) s = same

      nodes_stay : (ks : Nodes) → StepsStay (run_nodes rule test_cost m ks) (run_nodes rule test_cost n ks)
      nodes_stay ⟨⟩ s = same
      nodes_stay (k ▸ ks) s = and_then_stays (node_stays k s) λ s'. nodes_stay ks s'

      case_stays : (cs : Cases) (j : ℕ) (os : List OutputDecl)
          → StepsStay (run_case rule test_cost m cs j os) (run_case rule test_cost n cs j os)
      case_stays ∅ j os s = same
      case_stays (case c ks cs) zero os s = and_then_stays (nodes_stay ks s) λ s'. same
      case_stays (case c ks cs) (suc j) os s = case_stays cs j os s

after_last_stays : {x y : Ran} (outs : Option (List Value)) → StaysAs (no_end turns_used_up) x y
    → StaysAs (without_end turns_used_up) (after_last outs x) (after_last outs y)
after_last_stays outs nothing = nothing
after_last_stays outs same = same

came_to : {x y r : NestedRun} → StaysAs (without_end turns_used_up) x y → (r ≡ without_end turns_used_up → ⊥) → x ≡ r → y ≡ r
came_to nothing n e = absurd (n (sym e))
came_to same n e = e

-- Whatever a nested run comes to but used-up turns, it comes to with more budget.
pub nested_run_stays : (g : Graph) (x : Given) (ks : Nodes) (outs : Option (List Value)) (m n : ℕ) (r : NestedRun) → m ≤ n
    → (r ≡ without_end turns_used_up → ⊥) → nested_run g x ks outs m ≡ r → nested_run g x ks outs n ≡ r
unfolding nested_run
nested_run_stays g x ks outs m n r l = came_to (after_last_stays outs (nodes_stay x.rule g.test_cost m n l ks (start g x)))

-- Two budgets with which a nested run ends: it ends the same.
pub nested_run_one : (g : Graph) (x : Given) (ks : Nodes) (outs : Option (List Value)) (m n : ℕ) (r u : NestedEnded)
    → nested_run g x ks outs m ≡ ends_as r → nested_run g x ks outs n ≡ ends_as u → r ≡ u
nested_run_one g x ks outs m n r u p q =
    let one = nested_run_stays g x ks outs m (m + n) (ends_as r) (omega arith) (λ c. clash (cc)) p in
    let two = nested_run_stays g x ks outs n (m + n) (ends_as u) (omega arith) (λ c. clash (cc)) q in
    cc
