-- Steps that keep every value named, as long as no more than M outputs are defined when they are done: definitions, conditions, selects.
use Rattle.std.specs.Prelude.{Bool, true, false, List, [], ◌∷◌, ℕ, ◌≤◌, ltb, length}
use native.Mathlib.Omega.{arith}
use Rattle.std.proofs.Math.ListN.{length-append}
use Rattle.meaning.specs.Lists.{pick}
use Rattle.meaning.specs.facts.Elements.{all_append}
use Rattle.meaning.specs.Graph.{Value, bool, undef, same_values, bool_cond, number}
use Rattle.nesting.specs.Nesting.{most_merges, most_nodes, most_outputs, most_regions, LazyCond, undef_cond, false_cond, true_cond}
use Rattle.nesting.specs.Nesting.{merge, LazyConds, no_conds, ◌&◌, NodeOutput, NestState, Step, give, ◌>>=◌, ◌>>◌, define_region}
use Rattle.nesting.specs.Nesting.{define_node, define_merge, define_output, insert_rewrites, RegionInputRewrites}
use Rattle.nesting.specs.Nesting.{materialize_lazy_cond, materialize_lazy_conds}
use Rattle.nesting.specs.AnswerValues.{Named, AllNamed, CondNamed, CondsNamed}
use Rattle.nesting.specs.steps.Post.{Post, bind, map_post, when_room}
use Rattle.nesting.specs.steps.RegionsLeft.{AnyRefusal}
use Rattle.nesting.proofs.named.NamedLookUps.{RewritesNamed, GoodLookUp}

abbrev pub outputs_made : NestState → ℕ
outputs_made s = length s.node_outputs

module _ (M : ℕ) where
  -- From what P says, G of the answer.
  pub record NamedKept {A : Type 0} (P : Type 0) (G : A → Type 0) (s : NestState) (a : A) (s' : NestState) : Type 0 where
    pub more : outputs_made s ≤ outputs_made s'
    pub good : outputs_made s' ≤ M → P → GoodLookUp M s → GoodLookUp M s' × G a

  abbrev pub KeepsNamed : {A : Type 0} → Type 0 → (A → Type 0) → Step A → Type 0
  KeepsNamed P G x = (s : NestState) → Post AnyRefusal (λ a s'. NamedKept P G s a s') (x s)

  pub then_keeps : {A B : Type 0} {P : Type 0} {G : A → Type 0} {H : B → Type 0} (x : Step A) (k : A → Step B)
      → KeepsNamed P G x → ((a : A) → KeepsNamed (P × G a) H (k a)) → KeepsNamed P H (x >>= k)
  then_keeps {P = P} {G = G} {H = H} x k p q s =
      bind (x s) k (p s) λ a s₁ l. map_post (k a s₁) (q a s₁) λ b s₂ m. record {
        more = let l₁ = l.more in let m₁ = m.more in omega arith;
        good = λ room pre h.
            let first = l.good (let m₁ = m.more in omega arith) pre h in
            m.good room (pre, first.1) first.0;
      }

  pub next_keeps : {A B : Type 0} {P : Type 0} {G : A → Type 0} {H : B → Type 0} (x : Step A) (y : Step B)
      → KeepsNamed P G x → KeepsNamed P H y → KeepsNamed P H (x >> y)
  next_keeps x y p q s =
      bind (x s) (λ a. y) (p s) λ a s₁ l. map_post (y s₁) (q s₁) λ b s₂ m. record {
        more = let l₁ = l.more in let m₁ = m.more in omega arith;
        good = λ room pre h.
            let first = l.good (let m₁ = m.more in omega arith) pre h in
            m.good room pre first.0;
      }

  -- Less may be needed, and more is known.
  pub needs : {A : Type 0} {P P' : Type 0} {G G' : A → Type 0} (x : Step A) → (P → P') → (P → (a : A) → G' a → G a) → KeepsNamed P' G' x
      → KeepsNamed P G x
  needs x f into p s = map_post (x s) (p s) λ a s₁ l. record {
    more = l.more;
    good = λ room pre h. let z = l.good room (f pre) h in (z.0, into pre a z.1);
  }

  pub from : {A : Type 0} {P P' : Type 0} {G : A → Type 0} (x : Step A) → (P → P') → KeepsNamed P' G x → KeepsNamed P G x
  from x f p = needs x f (λ pre a h. h) p

  pub give_keeps : {A : Type 0} {P : Type 0} {G : A → Type 0} (a : A) → (P → G a) → KeepsNamed P G (give a)
  give_keeps a f s = record { post = record { more = omega arith; good = λ room pre h. (h, f pre) } }

  pub pick_keeps : {A : Type 0} {P : Type 0} {G : A → Type 0} (b : Bool) (x y : Step A) → KeepsNamed P G x → KeepsNamed P G y
      → KeepsNamed P G (pick b x y)
  pick_keeps true x y p q = p
  pick_keeps false x y p q = q

  -- ---- definitions
  pub define_region_named : {P : Type 0} → KeepsNamed P (λ r. Unit) define_region
  unfolding define_region
  define_region_named s =
      when_room tt (ltb s.region_count most_regions) _ _
      (record { more = omega arith; good = λ room pre h. (record { states = h.states; log = h.log; outputs = h.outputs }, tt) })

  pub define_node_named : {P : Type 0} → KeepsNamed P (λ n. Unit) define_node
  unfolding define_node
  define_node_named s =
      when_room tt (ltb s.node_count most_nodes) _ _
      (record { more = omega arith; good = λ room pre h. (record { states = h.states; log = h.log; outputs = h.outputs }, tt) })

  pub define_merge_named : {P : Type 0} → KeepsNamed P (λ n. Unit) define_merge
  unfolding define_merge
  define_merge_named s =
      when_room tt (ltb s.merge_count most_merges) _ _
      (record { more = omega arith; good = λ room pre h. (record { states = h.states; log = h.log; outputs = h.outputs }, tt) })

  pub define_output_named : (n ty : ℕ) (vs : List Value) → KeepsNamed (AllNamed M vs) (Named M) (define_output n ty vs)
  unfolding define_output
  define_output_named n ty vs s =
      let x : NodeOutput = record { node = n; type = ty; values = vs } in
      let long = length-append s.node_outputs (x ∷ []) in
      when_room tt (ltb (length s.node_outputs) most_outputs) _ _ (record {
        more = omega arith;
        good = λ room pre h. (
          record {
            states = h.states;
            log = h.log;
            outputs =
                all_append _ s.node_outputs (x ∷ []) h.outputs (pre, tt);
          },
          omega arith,
        );
      })

  pub insert_rewrites_named : (r : ℕ) (x : RegionInputRewrites) → KeepsNamed (RewritesNamed M x) (λ u. Unit) (insert_rewrites r x)
  insert_rewrites_named r x s = record {
    post = record {
      more = omega arith;
      good = λ room pre h. (
        record {
          states = h.states;
          log = all_append _ s.region_input_rewrites _ h.log (pre, tt);
          outputs =
              h.outputs;
        },
        tt,
      );
    };
  }

  mutual
    unfolding materialize_lazy_cond CondNamed

    pub materialize_named : (c : LazyCond) → KeepsNamed (CondNamed M c) (Named M) (materialize_lazy_cond c)
    materialize_named true_cond = give_keeps (bool true) (λ h. tt)
    materialize_named false_cond = give_keeps (bool false) (λ h. tt)
    materialize_named undef_cond = give_keeps (undef 1) (λ h. tt)
    materialize_named (merge n kind v cs) =
        then_keeps (materialize_lazy_conds cs) _ (from _ (λ h. h.1) (materializes_named cs)) λ vs.
        pick_keeps (elim kind [ bool_cond ↦ same_values vs (bool true ∷ bool false ∷ []) | number ↦ false ]) (give v) (define_output n 1 vs)
        (give_keeps v (λ h. h.0.0)) (from _ (λ h. h.1) (define_output_named n 1 vs))

    materializes_named : (cs : LazyConds) → KeepsNamed (CondsNamed M cs) (AllNamed M) (materialize_lazy_conds cs)
    materializes_named no_conds = give_keeps [] (λ h. tt)
    materializes_named (c & cs) =
        then_keeps (materialize_lazy_cond c) _ (from _ (λ h. h.0) (materialize_named c)) λ v.
        then_keeps (materialize_lazy_conds cs) _ (from _ (λ h. h.0.1) (materializes_named cs)) λ vs. give_keeps (v ∷ vs)
        (λ h. (h.0.1, h.1))
