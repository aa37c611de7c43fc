-- What is planned for a deferred target, case by case, and what then stands for the plan once it is emitted.
use Rattle.std.specs.Prelude.{Bool, false, true, List, [], ◌∷◌, map, ◌⊎◌, ◌≡◌, refl, suc, zero, ℕ, get_or}
use Rattle.std.proofs.Common.{inl, inr, ◌∙◌, ap, sym}
use Rattle.std.proofs.Math.Option.{Option, none, some}
use Rattle.meaning.specs.Graph.{Graph, Value, output, same_value, undef}
use Rattle.meaning.specs.Lists.{all, pick}
use Rattle.meaning.specs.facts.Tests.{clash, and_both}
use Rattle.nesting.specs.Nesting.{MaybeClaimedRegion, deferred_of, DeferredEdgeBundle, DeferredEdgeBundleSet, DeferredTarget, LazyCond}
use Rattle.nesting.specs.Nesting.{LazyConds, false_cond, merge, true_cond, undef_cond, DeferredTargetSummary}
use Rattle.nesting.specs.Nesting.{PlannedBundle, PlannedInput, all_true, conditions_of, in_parent, merged, per_case_deferred, plan_bundle}
use Rattle.nesting.specs.Nesting.{shared, passed_inputs, unique_input, value_in_case, DefinedSelect, NodeOutput}
use Rattle.meaning.specs.facts.Elements.{In, nth}
use Rattle.nesting.specs.steps.TargetsAndCases.{per_cases}
use Rattle.follows.specs.simulation.Key.{OutputAt}
use Rattle.follows.specs.simulation.Conditions.{condition_at}
use Rattle.follows.specs.simulation.Values.{same_value→eq}

-- ---- one target in all cases
pub per_cases_condition : (x : DeferredTarget) (cs : List MaybeClaimedRegion) (j : ℕ) (cj : MaybeClaimedRegion) → nth cs j ≡ some cj
    → condition_at (conditions_of (per_cases x cs)) j ≡ some (per_case_deferred x (deferred_of cj)).condition
per_cases_condition x [] j cj p = cc
per_cases_condition x (c ∷ cs) zero cj p = let e : c ≡ cj = cc in rw e
per_cases_condition x (c ∷ cs) (suc j) cj p = per_cases_condition x cs j cj p

-- document 01: a condition is True when every case is True or Undef
abbrev pub is_true_or_undef : LazyCond → Bool
is_true_or_undef c = elim c [ true_cond ↦ true | undef_cond ↦ true | false_cond ↦ false | merge n k v cs ↦ false ]

pub per_cases_true : (x : DeferredTarget) (cs : List MaybeClaimedRegion) (j : ℕ) (cj : MaybeClaimedRegion) → nth cs j ≡ some cj
    → all_true (per_cases x cs) ≡ true
    → is_true_or_undef (per_case_deferred x (deferred_of cj)).condition ≡ true
per_cases_true x [] j cj p h = cc
per_cases_true x (c ∷ cs) zero cj p h = let e : c ≡ cj = cc in
    rw (← e) (and_both (is_true_or_undef (per_case_deferred x (deferred_of c)).condition) _ h).0
per_cases_true x (c ∷ cs) (suc j) cj p h =
    per_cases_true x cs j cj p (and_both (is_true_or_undef (per_case_deferred x (deferred_of c)).condition) _ h).1

pub per_cases_at : (k ty : ℕ) (x : DeferredTarget) (cs : List MaybeClaimedRegion) (j : ℕ) (cj : MaybeClaimedRegion) → nth cs j ≡ some cj
    → get_or (map (value_in_case k ty) (per_cases x cs)) j (undef 0) ≡ value_in_case k ty (per_case_deferred x (deferred_of cj))
per_cases_at k ty x [] j cj p = cc
per_cases_at k ty x (c ∷ cs) zero cj p = let e : c ≡ cj = cc in rw e
per_cases_at k ty x (c ∷ cs) (suc j) cj p = per_cases_at k ty x cs j cj p

-- ---- a value that all cases share
abbrev is_value : Value → Option Value → Bool
is_value v o = elim o [ none ↦ false | some w ↦ same_value w v ]

all_value : (v : Value) (os : List (Option Value)) → all (is_value v) os ≡ true → (o : Option Value) → In o os → o ≡ some v
all_value v [] h o i = absurd i
all_value v (none ∷ os) h o i = absurd (clash (cc))
all_value v (some w ∷ os) h o (inl p) = let e = same_value→eq w v (and_both (same_value w v) _ h).0 in p ∙ ap some e
all_value v (some w ∷ os) h o (inr i) = all_value v os (and_both (same_value w v) _ h).1 o i

-- what is the same in all cases is so in each, and is in one
pub unique_is : (os : List (Option Value)) (v : Value) → unique_input os ≡ some v
    → ((o : Option Value) → In o os → o ≡ some v) × In (some v) os
unique_is [] v h = absurd (clash (cc))
unique_is (none ∷ os) v h = absurd (clash (cc))
unique_is (some w ∷ os) v h = go (all (is_value w) os) refl h
  where
    go : (b : Bool) → all (is_value w) os ≡ b → pick b (some w) none ≡ some v
        → ((o : Option Value) → (o ≡ some w) ⊎ In o os → o ≡ some v) × ((some v ≡ some w) ⊎ In (some v) os)
    go false q p = absurd (clash (cc))
    go true q p = (each, inl (sym p))
      where
        each : (o : Option Value) → (o ≡ some w) ⊎ In o os → o ≡ some v
        each o (inl r) = r ∙ p
        each o (inr i) = all_value w os q o i ∙ p

module _ (k : ℕ) (x : DeferredTarget) where
  abbrev pub passed : List MaybeClaimedRegion → List (Option Value)
  passed cs = passed_inputs k cs (per_cases x cs)

  abbrev also : MaybeClaimedRegion → Option (List Value) → List (Option Value) → List (Option Value)
  also c i os = elim i [ none ↦ os | some vs ↦ in_parent c (get_or vs k (undef 0)) ∷ os ]

  passed_in : (cj : MaybeClaimedRegion) (vs : List Value) → (per_case_deferred x (deferred_of cj)).inputs ≡ some vs
      → (cs : List MaybeClaimedRegion) (j : ℕ) → nth cs j ≡ some cj → In (in_parent cj (get_or vs k (undef 0))) (passed cs)
  passed_in cj vs q [] j p = absurd (clash (cc))
  passed_in cj vs q (c ∷ cs) zero p =
      let e : cj ≡ c = cc in
      let q' : (per_case_deferred x (deferred_of c)).inputs ≡ some vs = rw (← e) q in
      rw (e, passed_inputs, q') (inl refl)
  passed_in cj vs q (c ∷ cs) (suc j) p = go (per_case_deferred x (deferred_of c)).inputs (passed_in cj vs q cs j p)
    where
      go : (i : Option (List Value)) → In (in_parent cj (get_or vs k (undef 0))) (passed cs)
          → In (in_parent cj (get_or vs k (undef 0))) (also c i (passed cs))
      go none ih = ih
      go (some ws) ih = inr ih

  pub unique_at : (cj : MaybeClaimedRegion) (vs : List Value) → (per_case_deferred x (deferred_of cj)).inputs ≡ some vs
      → (cs : List MaybeClaimedRegion) (j : ℕ) (v : Value) → nth cs j ≡ some cj → unique_input (passed cs) ≡ some v
      → in_parent cj (get_or vs k (undef 0)) ≡ some v
  unique_at cj vs q cs j v p h = (unique_is (passed cs) v h).0 _ (passed_in cj vs q cs j p)

  abbrev Passes : List MaybeClaimedRegion → Option Value → Type 0
  Passes cs o = (c : MaybeClaimedRegion) × In c cs
      × ((vs : List Value) × ((per_case_deferred x (deferred_of c)).inputs ≡ some vs) × (in_parent c (get_or vs k (undef 0)) ≡ o))

  passed_from : (cs : List MaybeClaimedRegion) (o : Option Value) → In o (passed cs) → Passes cs o
  passed_from [] o i = absurd i
  passed_from (c ∷ cs) o i = go (per_case_deferred x (deferred_of c)).inputs refl (λ h. passed_from cs o h) i
    where
      further : Passes cs o → Passes (c ∷ cs) o
      further y = (y.0, inr y.1, y.2)

      go : (l : Option (List Value)) → (per_case_deferred x (deferred_of c)).inputs ≡ l → (In o (passed cs) → Passes cs o)
          → In o (also c l (passed cs)) → Passes (c ∷ cs) o
      go none p ih h = further (ih h)
      go (some vs) p ih (inl q) = (c, inl refl, (vs, p, sym q))
      go (some vs) p ih (inr h) = further (ih h)

  pub unique_from : (cs : List MaybeClaimedRegion) (v : Value) → unique_input (passed cs) ≡ some v → Passes cs (some v)
  unique_from cs v h = passed_from cs (some v) (unique_is (passed cs) v h).1

-- ---- what is emitted for a plan, as the outputs stand
abbrev pub EmitsOne : List NodeOutput → DefinedSelect → PlannedInput → Value → Type 0
EmitsOne os n (shared v) w = w ≡ v
EmitsOne os n (merged ty vs) w = (k : ℕ) × (o : NodeOutput) × (w ≡ output k) × (OutputAt n.node os k o) × (o.values ≡ vs)

abbrev pub EmitsInputs : List NodeOutput → DefinedSelect → List PlannedInput → List Value → Type 0
EmitsInputs os n [] vs = vs ≡ []
EmitsInputs os n (i ∷ is) vs = (v : Value) × (ws : List Value) × (vs ≡ v ∷ ws) × EmitsOne os n i v × EmitsInputs os n is ws

abbrev pub condition_from : DefinedSelect → Option LazyConds → LazyCond
condition_from n none = true_cond
condition_from n (some cs) = merge n.node n.kind n.scrutinee cs

pub record EmitsBundle (os : List NodeOutput) (n : DefinedSelect) (p : PlannedBundle) (z : DeferredEdgeBundle) : Type 0 where
  pub target : z.target ≡ p.target
  pub inputs : EmitsInputs os n p.inputs z.target_inputs
  pub condition : z.condition ≡ condition_from n p.condition

abbrev pub EmitsAll : List NodeOutput → DefinedSelect → List PlannedBundle → DeferredEdgeBundleSet → Type 0
EmitsAll os n [] d = d ≡ []
EmitsAll os n (p ∷ ps) d =
    (z : DeferredEdgeBundle) × (d' : DeferredEdgeBundleSet) × (d ≡ z ∷ d') × EmitsBundle os n p z × EmitsAll os n ps d'

module _ (g : Graph) (os : List NodeOutput) (n : DefinedSelect) (cs : List MaybeClaimedRegion) where
  pub emits_in : (ws : List DeferredTargetSummary) (d : DeferredEdgeBundleSet) → EmitsAll os n (map (plan_bundle g cs) ws) d
      → (w : DeferredTargetSummary) → In w ws
      → (z : DeferredEdgeBundle) × In z d × EmitsBundle os n (plan_bundle g cs w) z
  emits_in [] d h w i = absurd i
  emits_in (x ∷ ws) d h w (inl p) = (h.0, rw h.2 (inl refl), rw p h.3)
  emits_in (x ∷ ws) d h w (inr i) = let r = emits_in ws h.1 h.4 w i in (r.0, rw h.2 (inr r.1), r.2)

  pub emits_from : (ws : List DeferredTargetSummary) (d : DeferredEdgeBundleSet) → EmitsAll os n (map (plan_bundle g cs) ws) d
      → (z : DeferredEdgeBundle) → In z d
      → (w : DeferredTargetSummary) × In w ws × EmitsBundle os n (plan_bundle g cs w) z
  emits_from [] d h z i = absurd (rw h at i)
  emits_from (x ∷ ws) d h z i = go (λ k. emits_from ws h.1 h.4 z k) (rw h.2 at i)
    where
      go : (In z h.1 → (w : DeferredTargetSummary) × In w ws × EmitsBundle os n (plan_bundle g cs w) z) → (z ≡ h.0) ⊎ In z h.1
          → (w : DeferredTargetSummary) × In w (x ∷ ws) × EmitsBundle os n (plan_bundle g cs w) z
      go ih (inl p) = (x, inl refl, rw p h.3)
      go ih (inr k) = let r = ih k in (r.0, inr r.1, r.2)
