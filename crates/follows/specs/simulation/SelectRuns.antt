-- The run of a defined select follows the graph's run.
use Rattle.std.specs.Prelude.{Bool, false, List, map, ◌⊎◌, ◌≡◌, get_or, length}
use Rattle.std.proofs.Common.{inl, inr, ◌∙◌, subst, sym}
use Rattle.std.proofs.Math.Option.{Option, none, some}
use Rattle.std.proofs.Math.Path.{ap, refl}
use Prim.Native.Nat.{◌+◌, suc, zero, ℕ}
use native.Mathlib.Omega.{arith}
use Rattle.meaning.specs.Runs.{Cases, Nodes, ◌▸◌, case, ∅, ⟨⟩, Ran, and_then, case_count, ended, no_end, pay, run_case, run_nodes, through}
use Rattle.meaning.specs.Runs.{End, Event, Rule, RunState, place_taken, word}
use Rattle.meaning.specs.Graph.{SelectionKind, Value, bool, bool_cond, undef}
use Rattle.nesting.specs.Nesting.{new_select, MaybeClaimedRegion, deferred_of, DeferredEdgeBundle, DeferredEdgeBundleSet, case_outputs}
use Rattle.nesting.specs.Nesting.{output_decls, DeferredTargetSummary, in_parent, plan_bundle, DefinedSelect, NodeOutput, look_up_nodes}
use Rattle.nesting.specs.Nesting.{look_up_cases}
use Rattle.nesting.specs.lookups.Rewriting.{rewrite_cases_of, rewrite_nodes}
use Rattle.meaning.specs.facts.Elements.{In, nth}
use Rattle.follows.specs.simulation.Key.{is_node, key, key_constant, owns_nodes}
use Rattle.follows.specs.simulation.World.{World, runs}
use Rattle.follows.specs.simulation.Tables.{Resolver, Respects, Tables}
use Rattle.follows.specs.simulation.Frame.{frame, outputs_kept}
use Rattle.follows.specs.simulation.Conditions.{Truthy}
use Rattle.follows.specs.simulation.Leads.{Based, Goes, Tracks, based_after, then_on}
use Rattle.follows.specs.simulation.Bundles.{DistinctBundles}
use Rattle.follows.specs.simulation.Planned.{EmitsAll}
use Rattle.follows.specs.simulation.SelectGoes.{Took, output_after, outputs_set, select_goes}
use Rattle.meaning.specs.Lists.{pick}

abbrev pub children_at : Cases → ℕ → Option Nodes
children_at ∅ j = none
children_at (case c ks cs) zero = some ks
children_at (case c ks cs) (suc j) = children_at cs j

module _ (ρ : Resolver) (os : List NodeOutput) where
  pub count_form : (cs : Cases) (n j : ℕ) → case_count (rewrite_cases_of ρ os cs n j) ≡ case_count cs
  unfolding look_up_cases
  count_form ∅ n j = refl
  count_form (case c ks cs) n j = ap suc (count_form cs n (suc j))

  pub case_run : (rule : Rule) (test b : ℕ) (cs : Cases) (n i j : ℕ) (ks : Nodes) (s : RunState) → children_at cs j ≡ some ks
      → run_case rule test b (rewrite_cases_of ρ os cs n i) j (output_decls n 0 os) s
      ≡ and_then (run_nodes rule test b (rewrite_nodes ρ os ks) s)
      (λ s'. through (outputs_set ρ os n (i + j) s'))
  unfolding look_up_cases run_case
  case_run rule test b ∅ n i j ks s p = cc
  case_run rule test b (case c ks' cs) n i zero ks s p = let e : ks' ≡ ks = cc in let z : i + 0 ≡ i = omega arith in rw (e, z)
  case_run rule test b (case c ks' cs) n i (suc j) ks s p = let z : i + suc j ≡ suc i + j = omega arith in
      rw z (case_run rule test b cs n (suc i) j ks s p)

-- The run of a select is its test and the case taken, whose outputs become the select's.
module _ (W : World) where
  pub select_runs : (ρ : Resolver) (os : List NodeOutput) (b n : ℕ) (kind : SelectionKind) (sc : Value) (ccs : Cases) (j w : ℕ)
      (ksj : Nodes) (st : RunState)
      → children_at ccs j ≡ some ksj → st.env (ρ sc) ≡ word w → place_taken kind w (case_count ccs) ≡ j
      → runs W b (rewrite_nodes ρ os (new_select n kind sc ccs ▸ ⟨⟩)) st
      ≡ and_then (runs W b (rewrite_nodes ρ os ksj) (pay W.g.test_cost st))
      (λ s'. through (outputs_set ρ os n j s'))
  unfolding run_nodes look_up_nodes
  select_runs ρ os b n kind sc ccs j w ksj st kj tests takes =
      let z : 0 + j ≡ j = omega arith in
      rw (
        then_on _,
        tests,
        count_form ρ os ccs n 0,
        takes,
        case_run ρ os W.rule W.g.test_cost b ccs n 0 j ksj
            (pay W.g.test_cost st) kj,
        z,
      )

module _ (W : World)
    (ρ : Resolver) (os : List NodeOutput) (T : Tables) (res : Respects ρ os T) (n : DefinedSelect) (ccs : Cases)
    (cs : List MaybeClaimedRegion) (j : ℕ)
    (cj : MaybeClaimedRegion) (ksj : Nodes)
    (at_j : nth cs j ≡ some cj) (children_j : children_at ccs j ≡ some ksj) (dist : DistinctBundles (deferred_of cj))
    (b k : ℕ) (s : RunState) (bs : Based W s) (w : ℕ) (tests : s.env (ρ n.scrutinee) ≡ word w)
    (takes : place_taken n.kind w (case_count ccs) ≡ j)
    (e : End) (h : List Event) (inside : Tracks W ρ os k (deferred_of cj) e h (runs W b (rewrite_nodes ρ os ksj) (pay W.g.test_cost s)))
    -- the scrutinee is none of the select's own, nor of the case's
    (scrut_apart : owns_nodes ksj (key os (ρ n.scrutinee)) ≡ false) (scrut_out : is_node n.node (key os (ρ n.scrutinee)) ≡ false)
    -- what is shared means the same outside of the case, and is none of the select's own
    (shares : (y : DeferredEdgeBundle) → In y (deferred_of cj) → (i : ℕ) (v : Value)
    → in_parent cj (get_or y.target_inputs i (undef 0)) ≡ some v
    → (ρ v ≡ ρ (get_or y.target_inputs i (undef 0))) × (is_node n.node (key os (ρ v)) ≡ false))
    (ws : List DeferredTargetSummary)
    (wants : (y : DeferredEdgeBundle) → In y (deferred_of cj) → (x : DeferredTargetSummary) × In x ws × (x.target ≡ y.target)
    × (x.input_count ≡ length y.target_inputs))
    (d : DeferredEdgeBundleSet) (emits : EmitsAll os n (map (plan_bundle W.g cs) ws) d) where
  at_bool : (s' : RunState) → Based W s' → (x : Bool) → s'.env (ρ (bool x)) ≡ word (pick x 1 0)
  at_bool s' bs' x = ap s'.env (res.on_bool x) ∙ bs'.based (bool x) refl ∙ W.on_bool x

  goes_after : (s₁ : RunState) → runs W b (rewrite_nodes ρ os ksj) (pay W.g.test_cost s) ≡ through s₁
      → Goes W ρ os k (deferred_of cj) e h s₁
      → Goes W ρ os k d e h (outputs_set ρ os n.node j s₁)
  goes_after s₁ p goes =
      let s₂ : RunState = outputs_set ρ os n.node j s₁ in
      let vs : List Value = map ρ (case_outputs n.node j os) in
      let out_kept : (u : Value) → is_node n.node (key os u) ≡ false → s₂.env u ≡ s₁.env u =
      λ u c. outputs_kept n.node os u c vs s₁ in
      let bs₁ : Based W s₁ = based_after W ρ os ksj b (pay W.g.test_cost s) s₁ p (record { based = bs.based }) in
      let bs₂ : Based W s₂ = record { based = λ v c. out_kept v (rw (key_constant os v c)) ∙ bs₁.based v c } in
      let scrutinee_kept : s₂.env (ρ n.scrutinee) ≡ word w =
      out_kept (ρ n.scrutinee) scrut_out ∙ frame W.rule W.g.test_cost ρ os (ρ n.scrutinee) ksj b
      (pay W.g.test_cost s) s₁ p scrut_apart ∙ tests in
      let x = wants goes.entry goes.chosen.member in
      select_goes W ρ os n cs j cj at_j s₁ s₂ refl res.on_output (at_bool s₁ bs₁) (at_bool s₂ bs₂)
      (λ ty. ap s₁.env (res.on_undef ty) ∙ bs₁.based (undef ty) refl ∙ W.on_undef ty)
      (output_after ρ os n.node j s₁) (taken s₂ scrutinee_kept) k e h goes dist
      (λ i v q. let y = shares goes.entry goes.chosen.member i v q in out_kept (ρ v) y.1 ∙ ap s₁.env y.0)
      ws x.0 x.1 x.2 x.3 d emits
    where
      taken : (s₂ : RunState) → s₂.env (ρ n.scrutinee) ≡ word w → Took n.kind j (s₂.env (ρ n.scrutinee))
      taken s₂ p q = go w p (rw q at takes)
        where
          go : (x : ℕ) → s₂.env (ρ n.scrutinee) ≡ word x → place_taken bool_cond x (case_count ccs) ≡ j
              → ((j ≡ 0) × Truthy (s₂.env (ρ n.scrutinee))) ⊎ ((j ≡ 1) × (s₂.env (ρ n.scrutinee) ≡ word 0))
          go zero r l = inr (sym l, r)
          go (suc x) r l = inl (sym l, record { less = x; is = r })

  pub select_follows : Tracks W ρ os k d e h (runs W b (rewrite_nodes ρ os (new_select n.node n.kind n.scrutinee ccs ▸ ⟨⟩)) s)
  select_follows = subst (λ R. Tracks W ρ os k d e h R)
      (sym (select_runs W ρ os b n.node n.kind n.scrutinee ccs j w ksj s children_j tests takes))
      (go (runs W b (rewrite_nodes ρ os ksj) (pay W.g.test_cost s)) refl inside)
    where
      go : (R : Ran) → runs W b (rewrite_nodes ρ os ksj) (pay W.g.test_cost s) ≡ R → Tracks W ρ os k (deferred_of cj) e h R
          → Tracks W ρ os k d e h (and_then R (λ s'. through (outputs_set ρ os n.node j s')))
      go (through s₁) p fl = record { leads_to = goes_after s₁ p fl.leads_to }
      go (ended e' s₁) p fl = record { leads_to = fl.leads_to }
      go (no_end why) p fl = record { leads_to = fl.leads_to }
