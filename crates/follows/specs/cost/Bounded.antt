-- A nested run in which no loop passed its turn limit costs at most the figure.
use Rattle.std.specs.Prelude.{◌≡◌, Bool, true, false, ◌||◌, leb}
use Rattle.std.proofs.Math.Path.{refl}
use Rattle.std.proofs.Common.{sym, ◌∙◌, arith, leb-false}
use Rattle.std.proofs.Math.Bool.{or-true, or-false}
use mathlib.Core.List.{List, [], ◌∷◌}
use Rattle.std.proofs.Math.Option.{Option, none, some}
use Prim.Native.Nat.{ℕ, zero, suc, ◌+◌, ◌-◌, ◌*◌, ◌≤◌, ◌<◌}
use Rattle.meaning.specs.Graph.{Value, Instr}
use Rattle.meaning.specs.Runs.{LoopNode, OutputDecl, Node, block, select, loop, exit, Nodes, ⟨⟩, ◌▸◌, Cases, ∅, case, Word, word, mark}
use Rattle.meaning.specs.Runs.{Rule, RunState, place_taken, do_instr, do_block, Ran, through, ended, no_end, and_then, tested, once_more}
use Rattle.meaning.specs.Runs.{pay, note_over, assign_inputs, leave_loop, assign_outputs, case_count, turns, run_node, run_nodes, run_case}
use Rattle.meaning.specs.Runs.{ends_as, after_last, start, nested_run}
use Rattle.meaning.specs.facts.Tests.{clash}
use Rattle.meaning.specs.Lists.{total}
use Rattle.nesting.specs.Sheet.{node_figure, figure}
use Rattle.nesting.specs.laws.DearestCase.{case_at, dearest_case}
use Rattle.follows.specs.Statements.{Bounded}

-- From s to t at a cost of at most n, if no loop had passed its limit by t. What passed a limit stays so.
record CostsAtMost (n : ℕ) (s t : RunState) : Type 0 where
  within : t.over_limit ≡ false → (s.over_limit ≡ false) × (t.cost ≤ s.cost + n)

-- The same of wherever a run comes to.
abbrev ComesTo : ℕ → RunState → Ran → Type 0
ComesTo n s (through t) = CostsAtMost n s t
ComesTo n s (ended e t) = CostsAtMost n s t
ComesTo n s (no_end why) = Unit

record Costs (n : ℕ) (s : RunState) (x : Ran) : Type 0 where
  costs : ComesTo n s x

-- ---- one step after another
both : {n m : ℕ} {s t u : RunState} (k : ℕ) → n + m ≤ k → CostsAtMost n s t → CostsAtMost m t u → CostsAtMost k s u
both k l a b = record { within = λ e. let y = b.within e in let x = a.within y.0 in (x.0, omega arith) }

costs_after : {n m : ℕ} {s t : RunState} (k : ℕ) → n + m ≤ k → CostsAtMost n s t → (x : Ran) → Costs m t x → Costs k s x
costs_after k l a (through u) b = record { costs = both k l a b.costs }
costs_after k l a (ended e u) b = record { costs = both k l a b.costs }
costs_after k l a (no_end why) b = record { costs = tt }

and_then_costs : {n m : ℕ} {s : RunState} (k : ℕ) → n + m ≤ k → (x : Ran) (f : RunState → Ran) → Costs n s x
    → ((t : RunState) → Costs m t (f t))
    → Costs k s (and_then x f)
and_then_costs k l (through t) f a b = costs_after k l a.costs (f t) (b t)
and_then_costs k l (ended e t) f a b = record { costs = record { within = λ h. let x = a.costs.within h in (x.0, omega arith) } }
and_then_costs k l (no_end why) f a b = record { costs = tt }

tested_costs : {n : ℕ} {s : RunState} (w : Word) (f : ℕ → Ran) → ((m : ℕ) → Costs n s (f m)) → Costs n s (tested w f)
tested_costs (word m) f a = a m
tested_costs mark f a = record { costs = tt }

-- ---- single steps
pay_costs : (c : ℕ) (s : RunState) → CostsAtMost c s (pay c s)
pay_costs c s = record { within = λ e. (e, omega arith) }

inputs_cost_nothing : (r : ℕ) (vs : List Value) (s : RunState) → CostsAtMost 0 s (assign_inputs r vs s)
inputs_cost_nothing r vs s = record { within = λ e. (e, omega arith) }

leaving_costs_nothing : (n : ℕ) (vs : List Value) (s : RunState) → CostsAtMost n s (leave_loop vs s)
leaving_costs_nothing n vs s = record { within = λ e. (e, omega arith) }

outputs_cost_nothing : (os : List OutputDecl) (vs : List Value) (s : RunState) → CostsAtMost 0 s (assign_outputs os vs s)
outputs_cost_nothing os vs s = record { within = λ e. (e, omega arith) }

stands : (n : ℕ) (s : RunState) → CostsAtMost n s s
stands n s = record { within = λ e. (e, omega arith) }

within_limit : (s : RunState) → CostsAtMost 0 s (note_over false s)
within_limit s = record { within = λ e. (sym (or-false s.over_limit) ∙ e, omega arith) }

-- A run that begins over a limit owes nothing.
never_within : (b : Bool) {P : Type 0} → (b || true) ≡ false → P
never_within b h = let z = or-true b in absurd (clash (cc))

over_limit : (n : ℕ) (s : RunState) (x : Ran) {m : ℕ} → Costs m (note_over true s) x → Costs n s x
over_limit n s (through t) a = record { costs = record { within = λ e. never_within s.over_limit (a.costs.within e).0 } }
over_limit n s (ended x t) a = record { costs = record { within = λ e. never_within s.over_limit (a.costs.within e).0 } }
over_limit n s (no_end why) a = record { costs = tt }

module _ (rule : Rule) (test_cost : ℕ) where
  block_costs : (r k : ℕ) (is : List Instr) (s : RunState) → CostsAtMost (total (λ i. i.cost) is) s (do_block rule r k is s)
  unfolding do_block do_instr
  block_costs r k [] s = stands 0 s
  block_costs r k (i ∷ is) s =
      let first : CostsAtMost i.cost s (do_instr rule r k i s) = record { within = λ e. (e, omega arith) } in
      both (total (λ i. i.cost) (i ∷ is)) (omega arith) first (block_costs r (suc k) is (do_instr rule r k i s))

  -- ---- the turns of a loop whose body costs at most n
  once_more_costs : (m : ℕ) (f : RunState → Ran) (vs : List Value) → ((t : RunState) → Costs m t (f t)) → (w : ℕ) (s : RunState)
      → Costs (test_cost + m) s (once_more f vs w (pay test_cost s))
  once_more_costs m f vs later zero s = record { costs = both _ (omega arith) (pay_costs test_cost s) (leaving_costs_nothing m vs _) }
  once_more_costs m f vs later (suc w) s = costs_after _ (omega arith) (pay_costs test_cost s) _ (later _)

  module _ (x : LoopNode) (run : RunState → Ran) (n : ℕ) (body_costs : (s : RunState) → Costs n s (run s)) where
    -- what the turns that are left may cost
    abbrev left : ℕ → ℕ
    left made = (x.limit - made) * (n + test_cost)

    one_less : (made : ℕ) → made < x.limit → n + (test_cost + left (suc made)) ≤ left made
    one_less made l = let e : x.limit - made ≡ suc (x.limit - suc made) = omega arith in rw e (omega arith)

    -- one turn, and f after it
    turn_costs : (made : ℕ) (s : RunState) (f : RunState → Ran) → ((t : RunState) → Costs (test_cost + left (suc made)) t (f t))
        → (o : Bool) → leb x.limit made ≡ o → Costs (left made) s (and_then (run (note_over o s)) f)
    turn_costs made s f later true e =
        over_limit _ s _ (and_then_costs (n + (test_cost + left (suc made))) (omega arith) (run (note_over true s)) f (body_costs _) later)
    turn_costs made s f later false e =
        costs_after {m = left made} _ (omega arith) (within_limit s) _
        (and_then_costs (left made) (one_less made (leb-false x.limit made e)) (run (note_over false s)) f (body_costs _) later)

    turns_cost : (b made : ℕ) (s : RunState) → Costs (left made) s (turns rule test_cost b made x run s)
    unfolding turns
    turns_cost zero made s = record { costs = tt }
    turns_cost (suc b) made s =
        turn_costs made s _
        (λ t. tested_costs (t.env x.repeat) _ λ w. once_more_costs (left (suc made)) _ x.outputs
        (λ u. costs_after {n = 0} _ (omega arith) (inputs_cost_nothing x.body x.outputs u) _ (turns_cost b (suc made) _)) w t)
        (leb x.limit made) refl

  mutual
    unfolding run_nodes figure

    node_costs : (k : Node) (b : ℕ) (s : RunState) → Costs (node_figure test_cost k) s (run_node rule test_cost b k s)
    node_costs (block n r k is) b s = record { costs = block_costs r k is s }
    node_costs (select x cs) b s =
        tested_costs (s.env x.scrutinee) _ λ w.
        let j = place_taken x.kind w (case_count cs) in
        costs_after _ (omega (arith, dearest_case test_cost cs j)) (pay_costs test_cost s) _
        (case_costs cs b j x.outputs (pay test_cost s))
    node_costs (loop x ks) b s =
        let e : x.limit - 0 ≡ x.limit = omega arith in
        costs_after {n = 0} _ (rw e (omega arith)) (inputs_cost_nothing x.body x.initial_inputs s) _
        (turns_cost x (λ t. run_nodes rule test_cost b ks t) (figure test_cost ks) (λ t. nodes_cost ks b t) b 0 _)
    node_costs (exit n op vs) b s = record { costs = stands 0 s }

    nodes_cost : (ks : Nodes) (b : ℕ) (s : RunState) → Costs (figure test_cost ks) s (run_nodes rule test_cost b ks s)
    nodes_cost ⟨⟩ b s = record { costs = stands 0 s }
    nodes_cost (k ▸ ks) b s = and_then_costs _ (omega arith) (run_node rule test_cost b k s) _ (node_costs k b s) (λ t. nodes_cost ks b t)

    -- the case at place j costs at most its own figure
    case_costs : (cs : Cases) (b j : ℕ) (os : List OutputDecl) (s : RunState)
        → Costs (figure test_cost (case_at cs j)) s (run_case rule test_cost b cs j os s)
    case_costs ∅ b j os s = record { costs = tt }
    case_costs (case c ks cs) b zero os s =
        and_then_costs {m = 0} _ (omega arith) (run_nodes rule test_cost b ks s) _ (nodes_cost ks b s)
        (λ t. record { costs = outputs_cost_nothing os c.outputs t })
    case_costs (case c ks cs) b (suc j) os s = case_costs cs b j os s

-- Statement 2.
pub bounded : Bounded
unfolding nested_run
bounded g x ks outs b e =
    go outs (run_nodes x.rule g.test_cost b ks (start g x)) (nodes_cost x.rule g.test_cost ks b (start g x))
  where
    most : ℕ
    most = figure g.test_cost ks

    go : (outs : Option (List Value)) (y : Ran) → Costs most (start g x) y → after_last outs y ≡ ends_as e → e.over_limit ≡ false
        → e.cost ≤ most
    go outs (no_end why) c p h = absurd (clash (cc))
    go outs (ended z t) c p h = let o : t.over_limit ≡ false = cc in let q : t.cost ≡ e.cost = cc in omega (arith, (c.costs.within o).1)
    go none (through t) c p h = absurd (clash (cc))
    go (some vs) (through t) c p h = let o : t.over_limit ≡ false = cc in let q : t.cost ≡ e.cost = cc in
        omega (arith, (c.costs.within o).1)
