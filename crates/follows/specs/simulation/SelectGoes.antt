-- After its case j, a select comes to one of the bundles that it emits, and their inputs read as the case's.
use Rattle.std.specs.Prelude.{Bool, List, [], ◌∷◌, map, ◌⊎◌, ◌≡◌, ◌+◌, suc, zero, ℕ, drop, get_or, length}
use Rattle.std.proofs.Math.Bool.{false, true}
use Rattle.std.proofs.Common.{inl, inr, ◌∙◌, arith, drop_of_length-le, drop-cons, subst}
use Rattle.std.proofs.Math.Option.{Option, none, some}
use Rattle.std.proofs.Math.Path.{ap, refl, sym}
use Rattle.meaning.specs.Graph.{SelectionKind, Value, bool, bool_cond, output, undef}
use Rattle.meaning.specs.Runs.{assign_outputs, End, Event, RunState, Word, mark, word}
use Rattle.meaning.specs.facts.Tests.{clash}
use Rattle.nesting.specs.Nesting.{get_edge_bundle_by_target, same_target, MaybeClaimedRegion, deferred_of, DeferredEdgeBundle}
use Rattle.nesting.specs.Nesting.{DeferredEdgeBundleSet, DeferredTarget, LazyCond, LazyConds, false_cond, merge, true_cond, undef_cond}
use Rattle.nesting.specs.Nesting.{case_outputs, output_decls, DeferredTargetSummary, all_true, conditions_of, in_parent, merged}
use Rattle.nesting.specs.Nesting.{per_case_deferred, per_case_of, plan_bundle, plan_input, plan_inputs, target_type, unique_input}
use Rattle.nesting.specs.Nesting.{value_in_case, DefinedSelect, NodeOutput}
use Rattle.meaning.specs.facts.Elements.{In, nth}
use Rattle.nesting.specs.steps.TargetsAndCases.{per_cases}
use Rattle.follows.specs.simulation.Key.{OutputAt}
use Rattle.follows.specs.simulation.World.{World}
use Rattle.follows.specs.simulation.Tables.{Resolver}
use Rattle.follows.specs.simulation.Frame.{output_read}
use Rattle.follows.specs.simulation.Conditions.{Mat, Truthy, condition_at, mats_at}
use Rattle.follows.specs.simulation.Leads.{Chosen, Goes, OnwardTo, onward_reads, read}
use Rattle.follows.specs.simulation.Bundles.{DistinctBundles, find_in, found_in, is_always, two_apart}
use Rattle.follows.specs.simulation.Planned.{EmitsInputs, EmitsAll, EmitsBundle, EmitsOne, condition_from, emits_from, emits_in}
use Rattle.follows.specs.simulation.Planned.{is_true_or_undef, passed, per_cases_at, per_cases_condition, per_cases_true}
use Rattle.follows.specs.simulation.Planned.{unique_at}
use Rattle.meaning.specs.Lists.{pick}

-- the state after the outputs of node n became those of case j
module _ (ρ : Resolver) (os : List NodeOutput) (n j : ℕ) (s : RunState) where
  abbrev pub outputs_set : RunState
  outputs_set = assign_outputs (output_decls n 0 os) (map ρ (case_outputs n j os)) s

  pub output_after : (k : ℕ) (o : NodeOutput) → OutputAt n os k o → outputs_set.env (output k) ≡ s.env (ρ (get_or o.values j (undef 0)))
  output_after k o p = output_read ρ os n j s k o p

-- ---- merged conditions
-- a boolean test of the word takes place j
abbrev pub Took : SelectionKind → ℕ → Word → Type 0
Took kind j w = kind ≡ bool_cond → ((j ≡ 0) × Truthy w) ⊎ ((j ≡ 1) × (w ≡ word 0))

-- j is the place that the test took; s the state at the case's end, s' after the select
module _ (ρ : Resolver) (os : List NodeOutput) (n j : ℕ) (kind : SelectionKind) (sc : Value) (s s' : RunState)
    (on_output : (k : ℕ) → ρ (output k) ≡ output k)
    (on_Bool : (b : Bool) → s.env (ρ (bool b)) ≡ word (pick b 1 0))
    (reads : (k : ℕ) (o : NodeOutput) → OutputAt n os k o → s'.env (output k) ≡ s.env (ρ (get_or o.values j (undef 0))))
    (taken : Took kind j (s'.env (ρ sc)))
    (cs : LazyConds) (c : LazyCond) (here : condition_at cs j ≡ some c) where
  pub merged_true : ((v : Value) → Mat c os v → Truthy (s.env (ρ v))) → (v : Value) → Mat (merge n kind sc cs) os v
      → Truthy (s'.env (ρ v))
  unfolding Mat
  merged_true holds v (inl (b, e, ms)) = go (taken b)
    where
      go : ((j ≡ 0) × Truthy (s'.env (ρ sc))) ⊎ ((j ≡ 1) × (s'.env (ρ sc) ≡ word 0)) → Truthy (s'.env (ρ v))
      go (inl (z, tr)) = rw e tr
      go (inr (o, fa)) =
          let mt : Mat c os (bool false) = rw o at (mats_at cs os (bool true ∷ bool false ∷ []) j c ms here) in
          let tr = holds (bool false) mt in
          absurd (let z : word 0 ≡ word (suc tr.less) = sym (on_Bool false) ∙ tr.is in clash (cc))
  merged_true holds v (inr (k, o, e, at_k, ms)) =
      let tr = holds (get_or o.values j (undef 0)) (mats_at cs os o.values j c ms here) in
      record { less = tr.less; is = ap (λ x. s'.env (ρ x)) e ∙ ap s'.env (on_output k) ∙ reads k o at_k ∙ tr.is }

  pub merged_false : ((v : Value) → Mat c os v → s.env (ρ v) ≡ word 0) → (v : Value) → Mat (merge n kind sc cs) os v
      → s'.env (ρ v) ≡ word 0
  unfolding Mat
  merged_false fails v (inl (b, e, ms)) = go (taken b)
    where
      go : ((j ≡ 0) × Truthy (s'.env (ρ sc))) ⊎ ((j ≡ 1) × (s'.env (ρ sc) ≡ word 0)) → s'.env (ρ v) ≡ word 0
      go (inr (o, fa)) = rw e fa
      go (inl (z, tr)) =
          let mt : Mat c os (bool true) = rw z at (mats_at cs os (bool true ∷ bool false ∷ []) j c ms here) in
          let z : word 1 ≡ word 0 = sym (on_Bool true) ∙ fails (bool true) mt in cc
  merged_false fails v (inr (k, o, e, at_k, ms)) =
      ap (λ x. s'.env (ρ x)) e ∙ ap s'.env (on_output k) ∙ reads k o at_k
      ∙ fails (get_or o.values j (undef 0)) (mats_at cs os o.values j c ms here)

-- ---- the chosen case's part
pub per_case_is : (x : DeferredTarget) (d : DeferredEdgeBundleSet) (y : DeferredEdgeBundle) → In y d
    → per_case_deferred x d ≡ per_case_of d (get_edge_bundle_by_target x d)
per_case_is x [] y i = absurd i
per_case_is x (e ∷ es) y i = refl

module _ (ρ : Resolver) (os : List NodeOutput) (s : RunState)
    (on_Bool : (b : Bool) → s.env (ρ (bool b)) ≡ word (pick b 1 0)) (on_undef : (ty : ℕ) → s.env (ρ (undef ty)) ≡ mark)
    (d : DeferredEdgeBundleSet) (dist : DistinctBundles d) (y : DeferredEdgeBundle) (c : Chosen ρ os s d y) where
  pub per_case_mine : per_case_deferred y.target d ≡ per_case_of d (some y)
  per_case_mine = per_case_is y.target d y c.member ∙ ap (per_case_of d) (find_in d dist y c.member)

  per_case_true : (v : Value) → Mat (per_case_deferred y.target d).condition os v → Truthy (s.env (ρ v))
  unfolding Mat
  per_case_true v mat = go (is_always d) (rw per_case_mine at mat)
    where
      go : (o : Bool) → Mat (pick o true_cond y.condition) os v → Truthy (s.env (ρ v))
      go false mt = c.holds v mt
      go true mt = record { less = 0; is = ap (λ z. s.env (ρ z)) mt ∙ on_Bool true }

  per_case_false : (x : DeferredTarget) → same_target x y.target ≡ false → (v : Value) → Mat (per_case_deferred x d).condition os v
      → s.env (ρ v) ≡ word 0
  unfolding Mat
  per_case_false x ne v mat = go (get_edge_bundle_by_target x d) refl (rw (per_case_is x d y c.member) at mat)
    where
      go : (o : Option DeferredEdgeBundle) → get_edge_bundle_by_target x d ≡ o → Mat (per_case_of d o).condition os v
          → s.env (ρ v) ≡ word 0
      go none p mt = ap (λ z. s.env (ρ z)) mt ∙ on_Bool false
      go (some z) p mt =
          let in_d = found_in x d z p in
          let ne' : same_target z.target y.target ≡ false = rw in_d.1 at ne in
          c.others z in_d.0 ne' v (rw (two_apart d z y in_d.0 c.member ne') at mt)

-- ---- after case j
module _ (W : World) (ρ : Resolver) (os : List NodeOutput) (n : DefinedSelect) (cs : List MaybeClaimedRegion) (j : ℕ)
    (cj : MaybeClaimedRegion) (at_j : nth cs j ≡ some cj)
    (s s' : RunState) (past : s'.events ≡ s.events)
    (on_output : (k : ℕ) → ρ (output k) ≡ output k)
    (on_Bool : (b : Bool) → s.env (ρ (bool b)) ≡ word (pick b 1 0)) (on_bool' : (b : Bool) → s'.env (ρ (bool b)) ≡ word (pick b 1 0))
    (on_undef : (ty : ℕ) → s.env (ρ (undef ty)) ≡ mark)
    (reads : (k : ℕ) (o : NodeOutput) → OutputAt n.node os k o → s'.env (output k) ≡ s.env (ρ (get_or o.values j (undef 0))))
    (taken : Took n.kind j (s'.env (ρ n.scrutinee)))
    (b : ℕ) (e : End) (h : List Event) (goes : Goes W ρ os b (deferred_of cj) e h s) (dist : DistinctBundles (deferred_of cj))
    (shares : (k : ℕ) (w : Value) → in_parent cj (get_or goes.entry.target_inputs k (undef 0)) ≡ some w → s'.env (ρ w) ≡ s.env
    (ρ (get_or goes.entry.target_inputs k (undef 0)))) where
  abbrev y : DeferredEdgeBundle
  y = goes.entry

  abbrev ys : List Value
  ys = y.target_inputs

  mine : (per_case_deferred y.target (deferred_of cj)).inputs ≡ some ys
  mine = ap (λ p. p.inputs) (per_case_mine ρ os s on_Bool on_undef (deferred_of cj) dist y goes.chosen)

  one_input : (k ty : ℕ) (v : Value) → EmitsOne os n (plan_input k ty (per_cases y.target cs) (unique_input (passed k y.target cs))) v
      → s'.env (ρ v) ≡ s.env (ρ (get_or ys k (undef 0)))
  one_input k ty v em = go (unique_input (passed k y.target cs)) refl em
    where
      out_of : EmitsOne os n (merged ty (map (value_in_case k ty) (per_cases y.target cs))) v
          → s'.env (ρ v) ≡ s.env (ρ (get_or ys k (undef 0)))
      out_of (i, o, is_out, at_i, vals) =
          ap (λ z. s'.env (ρ z)) is_out ∙ ap s'.env (on_output i) ∙ reads i o at_i
          ∙ ap (λ z. s.env (ρ z))
          (ap (λ l. get_or l j (undef 0)) vals ∙ per_cases_at k ty y.target cs j cj at_j ∙ rw (mine, value_in_case))

      go : (a : Option Value) → unique_input (passed k y.target cs) ≡ a → EmitsOne os n (plan_input k ty (per_cases y.target cs) a) v
          → s'.env (ρ v) ≡ s.env (ρ (get_or ys k (undef 0)))
      go none p x = out_of x
      go (some w) p x = rw x (shares k w (unique_at k y.target cj ys mine cs j w at_j p))

  all_inputs : (a k : ℕ) (vs : List Value) → k + a ≡ length ys
      → EmitsInputs os n (plan_inputs W.g a k y.target cs (per_cases y.target cs)) vs
      → read ρ s' vs ≡ read ρ s (drop k ys)
  all_inputs zero k vs len em = rw (em, drop_of_length-le ys {i = k} (omega arith))
  all_inputs (suc a) k vs len em =
      let one = one_input k (target_type W.g y.target k) em.0 em.3 in
      let rest = all_inputs a (suc k) em.1 (omega arith) em.4 in
      rw (em.2, drop-cons ys k (undef 0) (omega arith)) (cc)

  module _ (ws : List DeferredTargetSummary) (w : DeferredTargetSummary) (w_in : In w ws) (w_target : w.target ≡ y.target)
      (w_arity : w.input_count ≡ length ys)
      (d : DeferredEdgeBundleSet) (emits : EmitsAll os n (map (plan_bundle W.g cs) ws) d) where
    abbrev conds : DeferredTarget → LazyConds
    conds x = conditions_of (per_cases x cs)

    all_false : (x : DeferredTarget) → same_target x y.target ≡ false → all_true (per_cases x cs) ≡ true → ⊥
    unfolding Mat
    all_false x ne p = go (per_case_deferred x (deferred_of cj)).condition refl (per_cases_true x cs j cj at_j p)
      where
        false_at : (v : Value) → Mat (per_case_deferred x (deferred_of cj)).condition os v → s.env (ρ v) ≡ word 0
        false_at = per_case_false ρ os s on_Bool on_undef (deferred_of cj) dist y goes.chosen x ne

        go : (c : LazyCond) → (per_case_deferred x (deferred_of cj)).condition ≡ c → is_true_or_undef c ≡ true → ⊥
        go true_cond q i = let z : word 1 ≡ word 0 = sym (on_Bool true) ∙ false_at (bool true) (rw q refl) in clash (cc)
        go undef_cond q i = let z : mark ≡ word 0 = sym (on_undef 1) ∙ false_at (undef 1) (rw q refl) in clash (cc)
        go false_cond q i = clash (cc)
        go (merge a kd sc cds) q i = clash (cc)

    pub select_goes : Goes W ρ os b d e h s'
    unfolding Mat
    select_goes =
        let found = emits_in W.g os n cs ws d emits w w_in in
        let z : DeferredEdgeBundle = found.0 in
        let em = found.2 in
        record {
          entry = z;
          chosen = record { member = found.1; holds = holds z em; others = others z em };
          onward = goes_on z em;
        }
      where
        goes_on : (z : DeferredEdgeBundle) → EmitsBundle os n (plan_bundle W.g cs w) z
            → OnwardTo W ρ s' b e h z.target z.target_inputs
        goes_on z em =
            rw (em.target, w_target) (onward_reads W ρ s s' past b e h y.target ys z.target_inputs
            (all_inputs w.input_count 0 z.target_inputs (omega arith) (rw w_target at em.inputs)) goes.onward)

        holds : (z : DeferredEdgeBundle) → EmitsBundle os n (plan_bundle W.g cs w) z → (v : Value) → Mat z.condition os v
            → Truthy (s'.env (ρ v))
        holds z em v mat = go (all_true (per_cases w.target cs)) (subst (λ c. Mat c os v) em.condition mat)
          where
            go : (o : Bool) → Mat (condition_from n (pick o none (some (conds w.target)))) os v → Truthy (s'.env (ρ v))
            go true mt = record { less = 0; is = ap (λ x. s'.env (ρ x)) mt ∙ on_bool' true }
            go false mt =
                merged_true ρ os n.node j n.kind n.scrutinee s s' on_output on_Bool reads taken (conds y.target)
                (per_case_deferred y.target (deferred_of cj)).condition (per_cases_condition y.target cs j cj at_j)
                (per_case_true ρ os s on_Bool on_undef (deferred_of cj) dist y goes.chosen) v (subst (λ t. Mat (condition_from n (some (conds t))) os v) w_target mt)

        others : (z : DeferredEdgeBundle) → EmitsBundle os n (plan_bundle W.g cs w) z → (z' : DeferredEdgeBundle) → In z' d
            → same_target z'.target z.target ≡ false → (v : Value) → Mat z'.condition os v → s'.env (ρ v) ≡ word 0
        others z em z' i ne v mat =
            let from = emits_from W.g os n cs ws d emits z' i in
            let ne' : same_target from.0.target y.target ≡ false = rw (from.2.target, em.target, w_target) at ne in
            go from.0.target ne' (all_true (per_cases from.0.target cs)) refl (subst (λ c. Mat c os v) from.2.condition mat)
          where
            go : (x : DeferredTarget) → same_target x y.target ≡ false → (o : Bool) → all_true (per_cases x cs) ≡ o
                → Mat (condition_from n (pick o none (some (conds x)))) os v → s'.env (ρ v) ≡ word 0
            go x ne'' true p mt = absurd (all_false x ne'' p)
            go x ne'' false p mt =
                merged_false ρ os n.node j n.kind n.scrutinee s s' on_output on_Bool reads taken (conds x)
                (per_case_deferred x (deferred_of cj)).condition
                (per_cases_condition x cs j cj at_j)
                (per_case_false ρ os s on_Bool on_undef (deferred_of cj) dist y goes.chosen x ne'') v mt
