-- Steps that define something: what they add to the tables, and what stands for what they were given.
use Rattle.std.specs.Prelude.{Bool, false, true, List, [], ◌∷◌, ◌≡◌, refl, ◌≤◌, suc, ℕ, ltb, length}
use Rattle.std.proofs.Common.{inl, inr, ◌∙◌, arith}
use Rattle.std.proofs.Math.Option.{Option, none, some}
use Rattle.meaning.specs.Graph.{SelectionKind, Value, bool, bool_cond, number, output, same_values}
use Rattle.nesting.proofs.steps.Keeps.{Steady, define_merge_keeps}
use Rattle.meaning.specs.facts.Tests.{clash}
use Rattle.nesting.specs.Nesting.{most_nodes, most_outputs, most_regions, define_merge, define_node, define_output, define_region}
use Rattle.nesting.specs.Nesting.{materialize_lazy_cond, materialize_lazy_conds, DeferredEdgeBundleSet, LazyCond, LazyConds, ◌&◌}
use Rattle.nesting.specs.Nesting.{false_cond, merge, true_cond, undef_cond, no_conds, PlannedBundle, PlannedInput, merged, shared}
use Rattle.nesting.specs.Nesting.{DefinedSelect, emit, emit_condition, emit_inputs, StepAnswer, NestState, NodeOutput, give}
use Rattle.nesting.specs.steps.RegionsLeft.{AnyRefusal}
use Rattle.nesting.specs.steps.Post.{Post, bind, map_post, when_room}
use Rattle.meaning.specs.facts.Elements.{nth_last, Extends, extends_refl, extends_then}
use Rattle.follows.specs.simulation.Key.{OutputAt}
use Rattle.follows.specs.simulation.Tables.{stays}
use Rattle.follows.specs.simulation.Conditions.{Mat, Mats, mat_stays, mats_stay}
use Rattle.follows.specs.simulation.Values.{same_values→eq}
use Rattle.follows.specs.simulation.Planned.{EmitsInputs, EmitsAll, condition_from}
use Rattle.meaning.specs.Lists.{pick}

-- What holds of a step that is done; a refusal holds of anything.
abbrev pub IfDone : {A : Type 0} → (A → NestState → Type 0) → StepAnswer A → Type 0
IfDone P x = Post AnyRefusal P x

-- ---- only the outputs grow
pub record Grew (s s' : NestState) : Type 0 where
  pub outputs : Extends s.node_outputs s'.node_outputs
  pub rewrites : s'.region_input_rewrites ≡ s.region_input_rewrites
  pub region_states : s'.region_states ≡ s.region_states
  pub regions : s.region_count ≤ s'.region_count
  pub node_count : s.node_count ≤ s'.node_count

pub grew_refl : (s : NestState) → Grew s s
grew_refl s = record {
  outputs = extends_refl s.node_outputs;
  rewrites = refl;
  region_states = refl;
  regions = omega arith;
  node_count =
      omega arith;
}

pub grew_then : {s s' s'' : NestState} → Grew s s' → Grew s' s'' → Grew s s''
grew_then p q = record {
  outputs = extends_then p.outputs q.outputs;
  rewrites = q.rewrites ∙ p.rewrites;
  region_states = q.region_states ∙ p.region_states;
  regions = omega (arith, p.regions, q.regions);
  node_count = omega (arith, p.node_count, q.node_count);
}

pub grew_steady : Steady Grew
grew_steady = record {
  same = grew_refl;
  follows = grew_then;
  region = λ s. record {
    outputs = extends_refl s.node_outputs;
    rewrites = refl;
    region_states = refl;
    regions =
        omega arith;
    node_count = omega arith;
  };
  node = λ s. record {
    outputs = extends_refl s.node_outputs;
    rewrites = refl;
    region_states = refl;
    regions = omega arith;
    node_count =
        omega arith;
  };
  merge = λ s. record {
    outputs = extends_refl s.node_outputs;
    rewrites = refl;
    region_states = refl;
    regions = omega arith;
    node_count =
        omega arith;
  };
  output = λ x s. record {
    outputs = record { more = x ∷ []; whole = refl };
    rewrites = refl;
    region_states = refl;
    regions =
        omega arith;
    node_count = omega arith;
  };
  twice = λ b s. record {
    outputs = extends_refl s.node_outputs;
    rewrites = refl;
    region_states = refl;
    regions =
        omega arith;
    node_count = omega arith;
  };
}

-- ---- a new output
pub record NewOutput (n ty : ℕ) (vs : List Value) (s : NestState) (v : Value) (s' : NestState) : Type 0 where
  pub place : ℕ
  pub at_place : OutputAt n s'.node_outputs place (record { node = n; type = ty; values = vs })
  pub is : v ≡ output place
  pub grew : Grew s s'

define_output_post : (n ty : ℕ) (vs : List Value) (s : NestState) → IfDone (NewOutput n ty vs s) (define_output n ty vs s)
unfolding define_output
define_output_post n ty vs s =
    let new : NodeOutput = record { node = n; type = ty; values = vs } in
    when_room tt (ltb (length s.node_outputs) most_outputs) _ _ (record {
      place = length s.node_outputs;
      at_place = record { there = nth_last s.node_outputs new; node = refl };
      is = refl;
      grew = grew_steady.output new s;
    })

-- ---- materializing
pub record Materialized (c : LazyCond) (s : NestState) (v : Value) (s' : NestState) : Type 0 where
  pub mat : Mat c s'.node_outputs v
  pub grew : Grew s s'

pub record Materializeds (cs : LazyConds) (s : NestState) (vs : List Value) (s' : NestState) : Type 0 where
  pub mats : Mats cs s'.node_outputs vs
  pub grew : Grew s s'

-- a boolean [true, false] is the scrutinee itself
abbrev is_scrutinee : SelectionKind → List Value → Bool
is_scrutinee kind vs = elim kind [ bool_cond ↦ same_values vs (bool true ∷ bool false ∷ []) | number ↦ false ]

scrutinee_is : (k : SelectionKind) (vs : List Value) → is_scrutinee k vs ≡ true → (k ≡ bool_cond) × (vs ≡ bool true ∷ bool false ∷ [])
scrutinee_is bool_cond vs h = (refl, same_values→eq vs (bool true ∷ bool false ∷ []) h)
scrutinee_is number vs h = absurd (clash (cc))

merge_post : (n : ℕ) (kind : SelectionKind) (sc : Value) (cs : LazyConds) (s : NestState) (vs : List Value) (s₁ : NestState)
    → Materializeds cs s vs s₁
    → IfDone (Materialized (merge n kind sc cs) s) (pick (is_scrutinee kind vs) (give sc) (define_output n 1 vs) s₁)
unfolding Mat
merge_post n kind sc cs s vs s₁ ms = go (is_scrutinee kind vs) refl
  where
    go : (b : Bool) → is_scrutinee kind vs ≡ b
        → IfDone (Materialized (merge n kind sc cs) s) (pick b (give sc) (define_output n 1 vs) s₁)
    go true q =
        let x = scrutinee_is kind vs q in
        record { post = record { mat = inl (x.0, refl, rw x.1 at ms.mats); grew = ms.grew } }
    go false q = map_post (define_output n 1 vs s₁) (define_output_post n 1 vs s₁) λ v s' o. record {
      mat = inr (
        o.place,
        record { node = n; type = 1; values = vs },
        o.is,
        o.at_place,
        mats_stay cs s₁.node_outputs s'.node_outputs o.grew.outputs vs ms.mats,
      );
      grew = grew_then ms.grew o.grew;
    }

mutual
  unfolding materialize_lazy_cond Mat

  pub materialize_post : (c : LazyCond) (s : NestState) → IfDone (Materialized c s) (materialize_lazy_cond c s)
  materialize_post true_cond s = record { post = record { mat = refl; grew = grew_refl s } }
  materialize_post false_cond s = record { post = record { mat = refl; grew = grew_refl s } }
  materialize_post undef_cond s = record { post = record { mat = refl; grew = grew_refl s } }
  materialize_post (merge n kind sc cs) s =
      bind (materialize_lazy_conds cs s) _ (materializes_post cs s) λ vs s₁ ms. merge_post n kind sc cs s vs s₁ ms

  pub materializes_post : (cs : LazyConds) (s : NestState) → IfDone (Materializeds cs s) (materialize_lazy_conds cs s)
  materializes_post no_conds s = record { post = record { mats = refl; grew = grew_refl s } }
  materializes_post (c & cs) s =
      bind (materialize_lazy_cond c s) _ (materialize_post c s) λ v s₁ h.
      bind (materialize_lazy_conds cs s₁) _ (materializes_post cs s₁) λ vs s₂ hs.
      record {
        post = record {
          mats = (v, vs, refl, mat_stays c s₁.node_outputs s₂.node_outputs hs.grew.outputs v h.mat, hs.mats);
          grew = grew_then h.grew hs.grew;
        };
      }

-- ---- emitting a plan's inputs
pub record Emitted (n : DefinedSelect) (is : List PlannedInput) (s : NestState) (vs : List Value) (s' : NestState) : Type 0 where
  pub emits : EmitsInputs s'.node_outputs n is vs
  pub grew : Grew s s'

pub emits_stay : (n : DefinedSelect) (is : List PlannedInput) (a b : List NodeOutput) → Extends a b → (vs : List Value)
    → EmitsInputs a n is vs
    → EmitsInputs b n is vs
emits_stay n [] a b p vs h = h
emits_stay n (shared v ∷ is) a b p vs (w, ws, e, one, rest) = (w, ws, e, one, emits_stay n is a b p ws rest)
emits_stay n (merged ty us ∷ is) a b p vs (w, ws, e, (k, o, x, at_k, y), rest) =
    (w, ws, e, (k, o, x, stays p at_k, y), emits_stay n is a b p ws rest)

pub emit_inputs_post : (n : DefinedSelect) (is : List PlannedInput) (s : NestState) → IfDone (Emitted n is s) (emit_inputs n is s)
unfolding emit_inputs
emit_inputs_post n [] s = record { post = record { emits = refl; grew = grew_refl s } }
emit_inputs_post n (shared v ∷ is) s =
    bind (emit_inputs n is s) _ (emit_inputs_post n is s) λ vs s₁ h.
    record { post = record { emits = (v, vs, refl, refl, h.emits); grew = h.grew } }
emit_inputs_post n (merged ty us ∷ is) s =
    bind (define_output n.node ty us s) _ (define_output_post n.node ty us s) λ v s₁ o.
    bind (emit_inputs n is s₁) _ (emit_inputs_post n is s₁) λ vs s₂ h.
    record {
      post = record {
        emits = (
          v,
          vs,
          refl,
          (o.place, record { node = n.node; type = ty; values = us }, o.is, stays h.grew.outputs o.at_place, refl),
          h.emits,
        );
        grew = grew_then o.grew h.grew;
      };
    }

-- ---- emitting the plans
pub record EmittedAll (n : DefinedSelect) (ps : List PlannedBundle) (s : NestState) (d : DeferredEdgeBundleSet)
    (s' : NestState) : Type 0 where
  pub emits : EmitsAll s'.node_outputs n ps d
  pub grew : Grew s s'

emit_condition_post : (n : DefinedSelect) (o : Option LazyConds) (s : NestState)
    → IfDone (λ c s'. (c ≡ condition_from n o) × Grew s s') (emit_condition n o s)
emit_condition_post n none s = record { post = (refl, grew_refl s) }
emit_condition_post n (some cs) s =
    bind (define_merge s) _ (define_merge_keeps grew_steady AnyRefusal tt s) λ x s₁ h. record { post = (refl, h) }

pub emit_post : (n : DefinedSelect) (ps : List PlannedBundle) (s : NestState) → IfDone (EmittedAll n ps s) (emit n ps s)
unfolding emit
emit_post n [] s = record { post = record { emits = refl; grew = grew_refl s } }
emit_post n (p ∷ ps) s =
    bind (emit_inputs n p.inputs s) _ (emit_inputs_post n p.inputs s) λ vs s₁ h.
    bind (emit_condition n p.condition s₁) _ (emit_condition_post n p.condition s₁) λ c s₂ hc.
    bind (emit n ps s₂) _ (emit_post n ps s₂) λ d s₃ hd.
    record {
      post = record {
        emits = (
          record { target = p.target; accumulated_count = p.total_edge_count; target_inputs = vs; condition = c },
          d,
          refl,
          record {
            target = refl;
            inputs =
                emits_stay n p.inputs _ _ (extends_then hc.1.outputs hd.grew.outputs) vs h.emits;
            condition = hc.0;
          },
          hd.emits,
        );
        grew = grew_then h.grew (grew_then hc.1 hd.grew);
      };
    }

-- ---- regions and nodes
pub define_region_post : (s : NestState) → IfDone (λ w s'. (w ≡ s.region_count) × (s'.region_count ≡ suc w) × Grew s s') (define_region s)
unfolding define_region
define_region_post s = when_room tt (ltb s.region_count most_regions) _ _ (refl, refl, grew_steady.region s)

pub define_node_post : (s : NestState) → IfDone (λ n s'. (n ≡ s.node_count) × (s'.node_count ≡ suc n) × Grew s s') (define_node s)
unfolding define_node
define_node_post s = when_room tt (ltb s.node_count most_nodes) _ _ (refl, refl, grew_steady.node s)
