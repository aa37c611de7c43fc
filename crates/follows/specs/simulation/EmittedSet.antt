-- The deferred edges that a select emits are in scope; where no select is needed, they are as if one had emitted them.
use Rattle.std.specs.Prelude.{Bool, true, ◌||◌, false, List, [], ◌∷◌, map, ◌≡◌, refl, ◌+◌, ◌≤◌, suc, zero, ℕ, get_or, length}
use Rattle.std.proofs.Common.{inl, inr, ◌∙◌, ap, sym, arith}
use Rattle.std.proofs.Math.Option.{Option, none, some}
use Rattle.meaning.specs.Runs.{Nodes, ⟨⟩}
use Rattle.meaning.specs.Graph.{Graph, Value, number, output, undef}
use Rattle.meaning.specs.facts.Tests.{clash, or_left, or_right}
use Rattle.meaning.specs.Lists.{is_some, any}
use Rattle.nesting.specs.Nesting.{get_edge_bundle_by_target, MaybeClaimedRegion, deferred_of, DeferredEdgeBundle, DeferredEdgeBundleSet}
use Rattle.nesting.specs.Nesting.{DeferredTarget, LazyConds, merge, true_cond, DeferredTargetSummary, PlannedBundle, PlannedInput}
use Rattle.nesting.specs.Nesting.{any_needs_select, in_parent, merged, per_case_deferred, per_case_of, plan_bundle, plan_input, plan_inputs}
use Rattle.nesting.specs.Nesting.{shared, target_type, unique_input, value_in_case, DefinedSelect, shared_bundle, NodeOutput}
use Rattle.meaning.specs.facts.Elements.{In, Extends}
use Rattle.nesting.specs.steps.TargetsAndCases.{per_cases}
use Rattle.follows.specs.simulation.Key.{OutputAt}
use Rattle.follows.specs.simulation.World.{World, ar}
use Rattle.follows.specs.simulation.Tables.{Tables}
use Rattle.follows.specs.simulation.Bundles.{DistinctBundles, found_in}
use Rattle.follows.specs.simulation.Planned.{EmitsInputs, EmitsAll, EmitsBundle, EmitsOne, condition_from, emits_from, passed}
use Rattle.follows.specs.simulation.Planned.{unique_from}
use Rattle.follows.specs.simulation.Defined.{emits_stay}
use Rattle.follows.specs.simulation.Scope.{AllScoped, CondOk, EntryOk, Scoped, SetOk, scoped_const}
use Rattle.follows.specs.simulation.Targets.{DistinctTargets, FitAll}

per_case_from : (x : DeferredTarget) (d : DeferredEdgeBundleSet) (vs : List Value) → (per_case_deferred x d).inputs ≡ some vs
    → (y : DeferredEdgeBundle) × In y d × (y.target_inputs ≡ vs)
per_case_from x [] vs p = absurd (clash (cc))
per_case_from x (e ∷ es) vs p = go (get_edge_bundle_by_target x (e ∷ es)) refl p
  where
    go : (o : Option DeferredEdgeBundle) → get_edge_bundle_by_target x (e ∷ es) ≡ o → (per_case_of (e ∷ es) o).inputs ≡ some vs
        → (y : DeferredEdgeBundle) × In y (e ∷ es) × (y.target_inputs ≡ vs)
    go none q h = absurd (clash (cc))
    go (some y) q h = (y, (found_in x (e ∷ es) y q).0, cc)

pub emits_all_stay : (n : DefinedSelect) (ps : List PlannedBundle) (a b : List NodeOutput) → Extends a b → (d : DeferredEdgeBundleSet)
    → EmitsAll a n ps d → EmitsAll b n ps d
emits_all_stay n [] a b p d h = h
emits_all_stay n (x ∷ ps) a b p d (z, d', e, em, h) = (
  z,
  d',
  e,
  record {
    target = em.target;
    inputs = emits_stay n x.inputs a b p z.target_inputs em.inputs;
    condition =
        em.condition;
  },
  emits_all_stay n ps a b p d' h,
)

-- ---- where no select is needed
-- a node without outputs
above : List NodeOutput → ℕ
above [] = 0
above (o ∷ os) = suc (o.node + above os)

none_above : (os : List NodeOutput) (n : ℕ) → above os ≤ n → (k : ℕ) (o : NodeOutput) → OutputAt n os k o → ⊥
unfolding above
none_above [] n le k o at_k = let p = at_k.there in clash (cc)
none_above (x ∷ os) n le zero o at_k = let e : x ≡ o = let p = at_k.there in cc in let q : x.node ≡ n =
    ap (λ y. y.node) e ∙ at_k.node in omega arith
none_above (x ∷ os) n le (suc k) o at_k = none_above os n (omega arith) k o (record { there = at_k.there; node = at_k.node })

pub no_select : List NodeOutput → DefinedSelect
no_select os = record { node = above os; kind = number; scrutinee = undef 0; children = ⟨⟩ }

pub no_select_number : (os : List NodeOutput) → (no_select os).kind ≡ number
unfolding no_select
no_select_number os = refl

pub no_select_outputs : (os : List NodeOutput) (k : ℕ) (o : NodeOutput) → OutputAt (no_select os).node os k o → ⊥
unfolding no_select
no_select_outputs os k o at_k = none_above os (above os) (omega arith) k o at_k

abbrev is_merged : PlannedInput → Bool
is_merged i = elim i [ shared v ↦ false | merged ty vs ↦ true ]

shared_emits : (os : List NodeOutput) (n : DefinedSelect) (is : List PlannedInput) → any is_merged is ≡ false
    → EmitsInputs os n is (map (λ i. elim i [ shared v ↦ v | merged ty vs ↦ undef 0 ]) is)
shared_emits os n [] h = refl
shared_emits os n (shared v ∷ is) h = (v, _, refl, refl, shared_emits os n is h)
shared_emits os n (merged ty vs ∷ is) h = absurd (clash (cc))

pub shared_all : (os : List NodeOutput) (n : DefinedSelect) (ps : List PlannedBundle) → any_needs_select ps ≡ false
    → EmitsAll os n ps (map shared_bundle ps)
shared_all os n [] h = refl
shared_all os n (p ∷ ps) h =
    let x = or_left (any is_merged p.inputs || is_some p.condition) (any_needs_select ps) h in (
      shared_bundle p,
      map shared_bundle ps,
      refl,
      record {
        target = refl;
        inputs = shared_emits os n p.inputs (or_left _ _ x);
        condition =
            sym (is_t p.condition (or_right (any is_merged p.inputs) _ x));
      },
      shared_all os n ps (or_right (any is_merged p.inputs || is_some p.condition) _ h),
    )
  where
    is_t : (o : Option LazyConds) → is_some o ≡ false → condition_from n o ≡ true_cond
    is_t none q = refl
    is_t (some cs) q = absurd (clash (cc))

pub shared_no_condition : (g : Graph) (cs : List MaybeClaimedRegion) (ws : List DeferredTargetSummary)
    → any_needs_select (map (plan_bundle g cs) ws) ≡ false
    → (w : DeferredTargetSummary) → In w ws → (cds : LazyConds) → (plan_bundle g cs w).condition ≡ some cds → ⊥
shared_no_condition g cs [] h w i cds p = i
shared_no_condition g cs (x ∷ ws) h w (inl e) cds p =
    let y = or_left (any is_merged (plan_bundle g cs x).inputs || is_some (plan_bundle g cs x).condition) _ h in
    let q : (plan_bundle g cs x).condition ≡ some cds = rw e at p in
    let z : is_some (some cds) ≡ false = rw q at (or_right (any is_merged (plan_bundle g cs x).inputs) _ y) in clash (cc)
shared_no_condition g cs (x ∷ ws) h w (inr i) cds p =
    shared_no_condition g cs ws
    (or_right (any is_merged (plan_bundle g cs x).inputs || is_some (plan_bundle g cs x).condition) _ h) w i cds p

module _ (W : World) where
  -- what can be seen outside of a case is in scope
  module _ (T : Tables) (r : ℕ) (ks : Nodes) (cs : List MaybeClaimedRegion)
      (shares : (c : MaybeClaimedRegion) → In c cs → (y : DeferredEdgeBundle) → In y (deferred_of c) → (i : ℕ) (v : Value) → in_parent c
      (get_or y.target_inputs i (undef 0)) ≡ some v → Scoped T r (ar W r) ks v)
      (n : DefinedSelect)
      (outs : (k : ℕ) (o : NodeOutput) → OutputAt n.node T.outputs k o → Scoped T r (ar W r) ks (output k)) where
    one_scoped : (k ty : ℕ) (x : DeferredTarget) (v : Value)
        → EmitsOne T.outputs n (plan_input k ty (per_cases x cs) (unique_input (passed k x cs))) v
        → Scoped T r (ar W r) ks v
    one_scoped k ty x v em = go (unique_input (passed k x cs)) refl em
      where
        is_out : EmitsOne T.outputs n (merged ty (map (value_in_case k ty) (per_cases x cs))) v → Scoped T r (ar W r) ks v
        is_out (i, o, e, at_i, vals) = rw e (outs i o at_i)

        go : (a : Option Value) → unique_input (passed k x cs) ≡ a → EmitsOne T.outputs n (plan_input k ty (per_cases x cs) a) v
            → Scoped T r (ar W r) ks v
        go none p e = is_out e
        go (some w) p e =
            let y = unique_from k x cs w p in
            let z = per_case_from x (deferred_of y.0) y.2.0 y.2.1 in
            rw e (shares y.0 y.1 z.0 z.1 k w (rw z.2 y.2.2))

    inputs_scoped : (x : DeferredTarget) (a k : ℕ) (vs : List Value)
        → EmitsInputs T.outputs n (plan_inputs W.g a k x cs (per_cases x cs)) vs
        → AllScoped T r (ar W r) ks vs × (length vs ≡ a)
    inputs_scoped x zero k vs em = ((λ i. rw em (scoped_const (undef 0) refl)), rw em)
    inputs_scoped x (suc a) k vs (v, ws, e, one, rest) =
        let y = inputs_scoped x a (suc k) ws rest in
        ((λ i. rw e (at i y.0)), rw e (ap suc y.1))
      where
        at : (i : ℕ) → AllScoped T r (ar W r) ks ws → Scoped T r (ar W r) ks (get_or (v ∷ ws) i (undef 0))
        at zero h = one_scoped k (target_type W.g x k) x v one
        at (suc i) h = h i

    emitted_distinct : (ws : List DeferredTargetSummary) (d : DeferredEdgeBundleSet)
        → EmitsAll T.outputs n (map (plan_bundle W.g cs) ws) d → DistinctTargets ws → DistinctBundles d
    emitted_distinct [] d h dw = rw h tt
    emitted_distinct (w ∷ ws) d (z, d', e, em, h) (dw, dws) =
        rw e (
          (λ y i. let f = emits_from W.g T.outputs n cs ws d' h y i in rw (f.2.target, em.target) (dw f.0 f.1)),
          emitted_distinct ws d' h dws,
        )

    pub set_emitted : (ws : List DeferredTargetSummary) (d : DeferredEdgeBundleSet)
        → EmitsAll T.outputs n (map (plan_bundle W.g cs) ws) d → FitAll W ws → DistinctTargets ws
        → ((w : DeferredTargetSummary) → In w ws → (cds : LazyConds) → (plan_bundle W.g cs w).condition ≡ some cds
        → CondOk T r (ar W r) ks (merge n.node n.kind n.scrutinee cds))
        → SetOk W T r (ar W r) ks d
    set_emitted ws d em fits dist conds =
        record { distinct = emitted_distinct ws d em dist; entries = λ e i. entry e (emits_from W.g T.outputs n cs ws d em e i) }
      where
        entry : (e : DeferredEdgeBundle) → (w : DeferredTargetSummary) × In w ws × EmitsBundle T.outputs n (plan_bundle W.g cs w) e
            → EntryOk W T r (ar W r) ks e
        entry e (w, i, x) =
            let y = inputs_scoped w.target w.input_count 0 e.target_inputs x.inputs in
            record {
              fits = rw (x.target, y.1) (fits w i);
              inputs = y.0;
              condition =
                  rw x.condition (cond (plan_bundle W.g cs w).condition refl);
            }
          where
            cond : (o : Option LazyConds) → (plan_bundle W.g cs w).condition ≡ o → CondOk T r (ar W r) ks (condition_from n o)
            cond none p = record { is = tt }
            cond (some cds) p = conds w i cds p
