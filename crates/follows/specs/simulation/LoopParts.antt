-- A claimed loop's deferred edges, and its header's inputs: each is lifted out of the loop or kept under a number.
use Rattle.std.specs.Prelude.{Bool, false, true, List, [], ◌++◌, ◌∷◌, map, ◌≢◌, ◌≡◌, refl, ◌+◌, ◌<◌, suc, ℕ, eqb, get_or, length}
use Rattle.std.proofs.Common.{append-nil, ◌∙◌, ap, subst, sym, arith, length-append, eqb-true}
use Rattle.std.proofs.Math.ListN.{get_or-append}
use Rattle.std.proofs.lemmas.Bool.{eqb-false}
use Rattle.meaning.specs.Graph.{Graph, Value, input, region, same_value, undef}
use Rattle.meaning.specs.Lists.{is_in, pick}
use Rattle.nesting.specs.Nesting.{same_target, split_out_target, DeferredEdgeBundle, DeferredEdgeBundleSet, DeferredTarget, to_region}
use Rattle.nesting.specs.Nesting.{to_return, LoopInputs, add_exit_edge, keep_input, lift_input, no_inputs, take_input, take_inputs}
use Rattle.nesting.specs.Nesting.{InputRewrite, renumber_to, replace_by}
use Rattle.meaning.specs.facts.Elements.{In, from_map, in_map}
use Rattle.follows.specs.simulation.Bundles.{DistinctBundles, distinct_split_out, from_split_out, in_split_out}
use Rattle.follows.specs.simulation.Values.{same_value→eq}

-- ---- the edges that leave the loop
-- Counts change, and nothing else.
pub record SameButCount (e z : DeferredEdgeBundle) : Type 0 where
  pub target : z.target ≡ e.target
  pub inputs : z.target_inputs ≡ e.target_inputs
  pub condition : z.condition ≡ e.condition

same_bundle : (xs : List ℕ) (e : DeferredEdgeBundle) → SameButCount e (add_exit_edge xs e)
same_bundle xs e = go e.target refl
  where
    go : (x : DeferredTarget) → e.target ≡ x
        → SameButCount e (elim x [
          | to_region r ↦
              record {
                target = to_region r;
                accumulated_count = pick (is_in r xs) (suc e.accumulated_count) e.accumulated_count;
                target_inputs = e.target_inputs;
                condition = e.condition;
              }
          | to_return ↦ e
        ])
    go (to_region r) p = record { target = sym p; inputs = refl; condition = refl }
    go to_return p = record { target = refl; inputs = refl; condition = refl }

abbrev pub leaving : ℕ → List ℕ → DeferredEdgeBundleSet → DeferredEdgeBundleSet
leaving r xs d = map (add_exit_edge xs) (split_out_target (to_region r) d)

pub leaving_in : (r : ℕ) (xs : List ℕ) (d : DeferredEdgeBundleSet) (y : DeferredEdgeBundle) → In y d
    → same_target (to_region r) y.target ≡ false
    → (z : DeferredEdgeBundle) × In z (leaving r xs d) × SameButCount y z
leaving_in r xs d y i ne = (
  add_exit_edge xs y,
  in_map (add_exit_edge xs) (split_out_target (to_region r) d) y (in_split_out (to_region r) d y ne i),
  same_bundle xs y,
)

pub leaving_from : (r : ℕ) (xs : List ℕ) (d : DeferredEdgeBundleSet) (z : DeferredEdgeBundle) → In z (leaving r xs d)
    → (y : DeferredEdgeBundle) × In y d × SameButCount y z
leaving_from r xs d z i =
    let y = from_map (add_exit_edge xs) (split_out_target (to_region r) d) z i in
    (y.0, from_split_out (to_region r) d y.0 y.1, subst (λ q. SameButCount y.0 q) (sym y.2) (same_bundle xs y.0))

pub leaving_distinct : (r : ℕ) (xs : List ℕ) (d : DeferredEdgeBundleSet) → DistinctBundles d → DistinctBundles (leaving r xs d)
leaving_distinct r xs d h = go (split_out_target (to_region r) d) (distinct_split_out (to_region r) d h)
  where
    go : (l : DeferredEdgeBundleSet) → DistinctBundles l → DistinctBundles (map (add_exit_edge xs) l)
    go [] x = tt
    go (e ∷ l) (x, xs') = (
      (λ z i. let y = from_map (add_exit_edge xs) l z i in let b = same_bundle xs
          y.0 in let b' = same_bundle xs e in rw (y.2, b.target, b'.target) (x y.0 y.1)),
      go l xs',
    )

module _ (g : Graph) where
  -- ---- renumbering
  abbrev pub KeptOrLifted : ℕ → ℕ → List Value → LoopInputs → ℕ → InputRewrite → Type 0
  KeptOrLifted r w vs x k (replace_by v) = (v ≡ input w k) × (get_or vs k (undef 0) ≡ input r k)
  KeptOrLifted r w vs x k (renumber_to i) =
      (i < length x.initial_inputs) × (get_or x.initial_inputs i (undef 0) ≡ input w k) × (i < length x.outputs)
      × (get_or x.outputs i (undef 0) ≡ get_or vs k (undef 0))

  getD_last : {A : Type 0} (l : List A) (a d : A) → get_or (l ++ (a ∷ [])) (length l) d ≡ a
  getD_last [] a d = refl
  getD_last (x ∷ l) a d = getD_last l a d

  pub record Renumbered (r w : ℕ) (vs : List Value) (done : ℕ) (x : LoopInputs) : Type 0 where
    pub many : length x.rewrites ≡ done
    pub even : length x.initial_inputs ≡ length x.outputs
    pub good : (k : ℕ) → k < done → KeptOrLifted r w vs x k (get_or x.rewrites k (renumber_to k))

  good_more : (r w : ℕ) (vs : List Value) (x x' : LoopInputs) (a b : List Value) → x'.initial_inputs ≡ x.initial_inputs ++ a
      → x'.outputs ≡ x.outputs ++ b
      → (k : ℕ) (sl : InputRewrite) → KeptOrLifted r w vs x k sl → KeptOrLifted r w vs x' k sl
  good_more r w vs x x' a b p q k (replace_by v) h = h
  good_more r w vs x x' a b p q k (renumber_to i) (lt, e, lt', e') = (
    rw (p, length-append x.initial_inputs a) (omega arith),
    rw p (get_or-append x.initial_inputs a (undef 0) i lt ∙ e),
    rw (q, length-append x.outputs b) (omega arith),
    rw q (get_or-append x.outputs b (undef 0) i lt' ∙ e'),
  )

  one_more_input : (r w : ℕ) (all : List Value) (k : ℕ) (v : Value) (x : LoopInputs) → get_or all k (undef 0) ≡ v → Renumbered r w all k x
      → Renumbered r w all (suc k) (take_input g r w k v x)
  one_more_input r w all k v x at h = go (same_value v (input r k)) refl
    where
      ty : ℕ
      ty = get_or (region g r).inputs k 0

      rewrite_at : (sl : InputRewrite) (x' : LoopInputs) (a b : List Value) → x'.rewrites ≡ x.rewrites ++ (sl ∷ [])
          → x'.initial_inputs ≡ x.initial_inputs ++ a
          → x'.outputs ≡ x.outputs ++ b → KeptOrLifted r w all x' k sl
          → (i : ℕ) → i < suc k → KeptOrLifted r w all x' i (get_or x'.rewrites i (renumber_to i))
      rewrite_at sl x' a b p q q' here i lt = by (eqb i k) refl
        where
          by : (o : Bool) → eqb i k ≡ o → KeptOrLifted r w all x' i (get_or x'.rewrites i (renumber_to i))
          by true e =
              let i_k : i ≡ k = eqb-true i k e in
              let z : get_or (x.rewrites ++ (sl ∷ [])) k (renumber_to k) ≡ sl =
              ap (λ n. get_or (x.rewrites ++ (sl ∷ [])) n (renumber_to k)) (sym h.many) ∙ getD_last
              x.rewrites sl (renumber_to k) in
              rw i_k (subst (λ sl'. KeptOrLifted r w all x' k sl') (sym (ap (λ l. get_or l k (renumber_to k)) p ∙ z)) here)
          by false e =
              let lt' : i < k = let ne : i ≢ k = eqb-false i k e in omega arith in
              let z : get_or (x.rewrites ++ (sl ∷ [])) i (renumber_to i) ≡ get_or x.rewrites i (renumber_to i) =
              get_or-append x.rewrites (sl ∷ [])
              (renumber_to i) i (omega (arith, h.many)) in
              subst (λ sl'. KeptOrLifted r w all x' i sl') (sym (ap (λ l. get_or l i (renumber_to i)) p ∙ z))
              (good_more r w all x x' a b q q' i (get_or x.rewrites i (renumber_to i)) (h.good i lt'))

      len : (sl : InputRewrite) → length (x.rewrites ++ (sl ∷ [])) ≡ suc k
      len sl = length-append x.rewrites (sl ∷ []) ∙ omega (arith, h.many)

      nil : (l : List Value) → l ≡ l ++ []
      nil l = sym (append-nil l)

      go : (b : Bool) → same_value v (input r k) ≡ b → Renumbered r w all (suc k)
          (pick b (lift_input (input w k) x) (keep_input (input w k) ty v x))
      go true e = record {
        many = len (replace_by (input w k));
        even = h.even;
        good = rewrite_at (replace_by (input w k)) (lift_input (input w k) x) [] [] refl (nil x.initial_inputs) (nil x.outputs)
            (refl, at ∙ same_value→eq v (input r k) e);
      }
      go false e = record {
        many = len (renumber_to (length x.initial_inputs));
        even = length-append x.initial_inputs _ ∙ ap (λ n. n + 1) h.even ∙ sym (length-append x.outputs _);
        good = rewrite_at (renumber_to (length x.initial_inputs)) (keep_input (input w k) ty v x) (input w k ∷ [])
            (v ∷ []) refl refl refl (
              (let z : length (x.initial_inputs ++ (input w k ∷ [])) ≡ length x.initial_inputs + 1 =
                  length-append x.initial_inputs (input w k ∷ []) in omega (arith, z)),
              getD_last x.initial_inputs (input w k) (undef 0),
              (let z : length (x.outputs ++ (v ∷ [])) ≡ length x.outputs + 1 = length-append x.outputs (v ∷ []) in
                  omega (arith, z, h.even)),
              (ap (λ n. get_or (x.outputs ++ (v ∷ [])) n (undef 0)) h.even ∙ getD_last x.outputs v (undef 0) ∙ sym at),
            );
      }

  all_renumbered : (r w : ℕ) (all : List Value) (k : ℕ) (vs : List Value) (x : LoopInputs)
      → ((j : ℕ) → get_or all (k + j) (undef 0) ≡ get_or vs j (undef 0))
      → Renumbered r w all k x → Renumbered r w all (k + length vs) (take_inputs g r w k vs x)
  all_renumbered r w all k [] x at h = let z : k + 0 ≡ k = omega arith in rw z h
  all_renumbered r w all k (v ∷ vs) x at h =
      let z : k + suc (length vs) ≡ suc k + length vs = omega arith in
      let z₀ : k + 0 ≡ k = omega arith in
      let here : get_or all k (undef 0) ≡ v = ap (λ n. get_or all n (undef 0)) (sym z₀) ∙ at 0 in
      rw z (all_renumbered r w all (suc k) vs (take_input g r w k v x)
      (λ j. let y : suc k + j ≡ k + suc j = omega arith in rw y (at (suc j))) (one_more_input r w all k v x here h))

  pub inputs_renumbered : (r w : ℕ) (vs : List Value) → Renumbered r w vs (length vs) (take_inputs g r w 0 vs no_inputs)
  inputs_renumbered r w vs =
      let z : 0 + length vs ≡ length vs = omega arith in
      rw z at (all_renumbered r w vs 0 vs no_inputs (λ j. let y : 0 + j ≡ j = omega arith in rw y)
      (record { many = refl; even = refl; good = λ k lt. absurd (omega arith) }))
