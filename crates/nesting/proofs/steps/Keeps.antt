-- A relation of states that every change of a table or a count keeps is kept by select and loop, and they refuse with 9 alone.
use Rattle.std.specs.Prelude.{Bool, ◌||◌, ℕ, length, ltb}
use Rattle.std.proofs.Math.Bool.{true, false}
use mathlib.Core.List.{List, [], ◌∷◌, ◌++◌, map}
use Rattle.std.proofs.Math.Option.{Option, none, some}
use Rattle.meaning.specs.Graph.{Value, bool, undef, SelectionKind, bool_cond, number, ControlInst, unreachable, return, exit_invocation}
use Rattle.meaning.specs.Graph.{branch, select_branch, Graph, same_values}
use Rattle.meaning.specs.Runs.{loop, Nodes, ⟨⟩, ◌▸◌, Cases}
use Rattle.meaning.specs.Lists.{any, pick}
use Rattle.nesting.specs.Nesting.{exit_targets, most_merges, most_nodes, most_outputs, most_regions, LazyCond, undef_cond, false_cond}
use Rattle.nesting.specs.Nesting.{true_cond, merge, LazyConds, no_conds, ◌&◌, DeferredEdgeBundle, DeferredEdgeBundleSet}
use Rattle.nesting.specs.Nesting.{RegionInputRewrites, replace_with, renumber_or_replace_with, RewriteEntry, NodeOutput, NestState}
use Rattle.nesting.specs.Nesting.{Step, give, ◌>>=◌, ◌>>◌, with_tables, add_region, add_node, add_merge, with_twice, define_region}
use Rattle.nesting.specs.Nesting.{define_node, define_merge, define_output, insert_rewrites, look_up, look_up_case, look_up_each}
use Rattle.nesting.specs.Nesting.{rewrite_values, materialize_lazy_cond, materialize_lazy_conds, ClaimedRegion, MaybeClaimedRegion}
use Rattle.nesting.specs.Nesting.{ok, err, Scrutinee, value, lazy, join, append_maybe_claimed_region, convergent_cases}
use Rattle.nesting.specs.Nesting.{without_convergent, PlannedInput, shared, merged, PlannedBundle, plan_bundles, any_needs_select}
use Rattle.nesting.specs.Nesting.{any_non_empty_case, rewrite_cases, case_regions, scrutinee_value, DefinedSelect, define_select}
use Rattle.nesting.specs.Nesting.{emit_inputs, emit_condition, emit, select_if, replace_inputs, structurize_select}
use Rattle.nesting.specs.Nesting.{structurize_select_by, take_inputs, no_inputs, loop_node, add_exit_edge, structurize_loop}
use Rattle.nesting.specs.Nesting.{claim_body, by_control_inst}
use Rattle.nesting.specs.lookups.Rewriting.{meets}
use Rattle.nesting.specs.steps.Post.{Post, bind, map_post, when_room}

-- What structurize_loop answers, once its region, look-ups, condition and node are there.
abbrev pub loop_claimed : Graph → ℕ → Nodes → DeferredEdgeBundleSet → List Value → ℕ → List Value → Value → ℕ → ClaimedRegion
loop_claimed g body children exits inputs wrapper vs v n =
    let x = take_inputs g body wrapper 0 vs no_inputs in
    record {
      origin = body;
      structured_body = wrapper;
      structured_body_inputs = inputs;
      children = loop (loop_node g n body x v) children ▸ ⟨⟩;
      deferred_edges = map (add_exit_edge (exit_targets g body)) exits;
    }

pub record Steady (L : NestState → NestState → Type 0) : Type 0 where
  pub same : (s : NestState) → L s s
  pub follows : {s s' s'' : NestState} → L s s' → L s' s'' → L s s''
  pub region : (s : NestState) → L s (add_region s)
  pub node : (s : NestState) → L s (add_node s)
  pub merge : (s : NestState) → L s (add_merge s)
  pub output : (x : NodeOutput) (s : NestState) → L s
      (with_tables s.region_states s.region_input_rewrites (s.node_outputs ++ (x ∷ [])) s)
  pub twice : (b : Bool) (s : NestState) → L s (with_twice b s)

abbrev pub with_entry : RewriteEntry → NestState → NestState
with_entry x s = with_tables s.region_states (s.region_input_rewrites ++ (x ∷ [])) s.node_outputs s

-- and every entry of the log
abbrev pub KeepsLog : (NestState → NestState → Type 0) → Type 0
KeepsLog L = (x : RewriteEntry) (s : NestState) → L s (with_entry x s)

module _ {L : NestState → NestState → Type 0} (S : Steady L) (Q : ℕ → ℕ → Type 0) (q9 : Q 9 0) where
  abbrev pub Keeps : {A : Type 0} → Step A → Type 0
  Keeps x = (s : NestState) → Post Q (λ a s'. L s s') (x s)

  then_keeps : {A B : Type 0} (x : Step A) (k : A → Step B) → Keeps x → ((a : A) → Keeps (k a)) → Keeps (x >>= k)
  then_keeps x k p q s = bind (x s) k (p s) λ a s₁ l. map_post (k a s₁) (q a s₁) λ b s₂ l₂. S.follows l l₂

  next_keeps : {A B : Type 0} (x : Step A) (y : Step B) → Keeps x → Keeps y → Keeps (x >> y)
  next_keeps x y p q s = bind (x s) (λ a. y) (p s) λ a s₁ l. map_post (y s₁) (q s₁) λ b s₂ l₂. S.follows l l₂

  give_keeps : {A : Type 0} (a : A) → Keeps (give a)
  give_keeps a s = record { post = S.same s }

  pub define_region_keeps : Keeps define_region
  unfolding define_region
  define_region_keeps s = when_room q9 (ltb s.region_count most_regions) _ _ (S.region s)

  pub define_node_keeps : Keeps define_node
  unfolding define_node
  define_node_keeps s = when_room q9 (ltb s.node_count most_nodes) _ _ (S.node s)

  pub define_merge_keeps : Keeps define_merge
  unfolding define_merge
  define_merge_keeps s = when_room q9 (ltb s.merge_count most_merges) _ _ (S.merge s)

  define_output_keeps : (n type : ℕ) (vs : List Value) → Keeps (define_output n type vs)
  unfolding define_output
  define_output_keeps n type vs s =
      when_room q9 (ltb (length s.node_outputs) most_outputs) _ _ (S.output (record { node = n; type = type; values = vs }) s)

  pub rewrite_values_keeps : (vs : List Value) → Keeps (rewrite_values vs)
  unfolding rewrite_values
  rewrite_values_keeps vs s = record { post = S.twice (any (meets s.region_input_rewrites) vs) s }

  pick_keeps : {A : Type 0} (b : Bool) (x y : Step A) → Keeps x → Keeps y → Keeps (pick b x y)
  pick_keeps true x y p q = p
  pick_keeps false x y p q = q

  mutual
    unfolding materialize_lazy_cond

    pub materialize_keeps : (c : LazyCond) → Keeps (materialize_lazy_cond c)
    materialize_keeps true_cond = give_keeps (bool true)
    materialize_keeps false_cond = give_keeps (bool false)
    materialize_keeps undef_cond = give_keeps (undef 1)
    materialize_keeps (merge n kind v cs) =
        then_keeps (materialize_lazy_conds cs) _ (materializes_keep cs) λ vs.
        pick_keeps (elim kind [ bool_cond ↦ same_values vs (bool true ∷ bool false ∷ []) | number ↦ false ]) (give v) (define_output n 1 vs)
        (give_keeps v) (define_output_keeps n 1 vs)

    materializes_keep : (cs : LazyConds) → Keeps (materialize_lazy_conds cs)
    materializes_keep no_conds = give_keeps []
    materializes_keep (c & cs) =
        then_keeps (materialize_lazy_cond c) _ (materialize_keeps c) λ v.
        then_keeps (materialize_lazy_conds cs) _ (materializes_keep cs) λ vs. give_keeps (v ∷ vs)

  pub rewrite_cases_keeps : (cs : List MaybeClaimedRegion) → Keeps (rewrite_cases cs)
  unfolding rewrite_cases
  rewrite_cases_keeps cs s = record { post = S.twice (look_up_each (look_up_case (look_up s.region_input_rewrites)) cs).twice s }

  case_regions_keeps : (cs : List MaybeClaimedRegion) → Keeps (case_regions cs)
  unfolding case_regions
  case_regions_keeps [] = give_keeps Cases.∅
  case_regions_keeps (err d ∷ cs) =
      then_keeps define_region _ define_region_keeps λ r. then_keeps (case_regions cs) _ (case_regions_keeps cs) λ rest. give_keeps _
  case_regions_keeps (ok c ∷ cs) = then_keeps (case_regions cs) _ (case_regions_keeps cs) λ rest. give_keeps _

  scrutinee_keeps : (x : Scrutinee) → Keeps (scrutinee_value x)
  scrutinee_keeps (value v) = give_keeps v
  scrutinee_keeps (lazy c) = materialize_keeps c

  pub define_select_keeps : (kind : SelectionKind) (x : Scrutinee) (cs : List MaybeClaimedRegion) → Keeps (define_select kind x cs)
  unfolding define_select
  define_select_keeps kind x cs =
      then_keeps (case_regions cs) _ (case_regions_keeps cs) λ rest.
      then_keeps (scrutinee_value x) _ (scrutinee_keeps x) λ v.
      then_keeps define_node _ define_node_keeps λ n. give_keeps _

  pub emit_inputs_keeps : (n : DefinedSelect) (is : List PlannedInput) → Keeps (emit_inputs n is)
  unfolding emit_inputs
  emit_inputs_keeps n [] = give_keeps []
  emit_inputs_keeps n (shared v ∷ is) = then_keeps (emit_inputs n is) _ (emit_inputs_keeps n is) λ vs. give_keeps _
  emit_inputs_keeps n (merged ty vs ∷ is) =
      then_keeps (define_output n.node ty vs) _ (define_output_keeps n.node ty vs) λ w.
      then_keeps (emit_inputs n is) _ (emit_inputs_keeps n is) λ ws. give_keeps _

  pub emit_condition_keeps : (n : DefinedSelect) (o : Option LazyConds) → Keeps (emit_condition n o)
  emit_condition_keeps n none = give_keeps _
  emit_condition_keeps n (some cs) = next_keeps define_merge _ define_merge_keeps (give_keeps _)

  emit_keeps : (n : DefinedSelect) (ps : List PlannedBundle) → Keeps (emit n ps)
  unfolding emit
  emit_keeps n [] = give_keeps []
  emit_keeps n (p ∷ ps) =
      then_keeps (emit_inputs n p.inputs) _ (emit_inputs_keeps n p.inputs) λ ins.
      then_keeps (emit_condition n p.condition) _ (emit_condition_keeps n p.condition) λ c.
      then_keeps (emit n ps) _ (emit_keeps n ps) λ rest. give_keeps _

  pub select_if_keeps : (b : Bool) (kind : SelectionKind) (x : Scrutinee) (cs : List MaybeClaimedRegion) (ps : List PlannedBundle)
      → Keeps (select_if b kind x cs ps)
  unfolding select_if
  select_if_keeps false kind x cs ps = give_keeps _
  select_if_keeps true kind x cs ps =
      then_keeps (define_select kind x cs) _ (define_select_keeps kind x cs) λ n. then_keeps (emit n ps) _
      (emit_keeps n ps) λ d. give_keeps _

  -- ---- the steps that insert rewrites
  module _ (log : KeepsLog L) where
    pub insert_rewrites_keeps : (r : ℕ) (x : RegionInputRewrites) → Keeps (insert_rewrites r x)
    insert_rewrites_keeps r x s = record { post = log (record { region = r; rewrites = x }) s }

    pub append_keeps : (parent : Nodes) (c : MaybeClaimedRegion) → Keeps (append_maybe_claimed_region parent c)
    unfolding append_maybe_claimed_region
    append_keeps parent (err d) = give_keeps _
    append_keeps parent (ok c) =
        next_keeps (insert_rewrites c.structured_body (replace_with c.structured_body_inputs)) _ (insert_rewrites_keeps _ _)
        (give_keeps _)

    pub replace_inputs_keeps : (cs : List MaybeClaimedRegion) → Keeps (replace_inputs cs)
    unfolding replace_inputs
    replace_inputs_keeps [] = give_keeps tt
    replace_inputs_keeps (err d ∷ cs) = replace_inputs_keeps cs
    replace_inputs_keeps (ok c ∷ cs) =
        next_keeps (insert_rewrites c.structured_body (replace_with c.structured_body_inputs)) (replace_inputs cs)
        (insert_rewrites_keeps _ _) (replace_inputs_keeps cs)

    module _ (g : Graph) where
      structurize_select_keeps : (parent : Nodes) (kind : SelectionKind) (x : Scrutinee) (cases : List MaybeClaimedRegion)
          → Keeps (structurize_select g parent kind x cases)
      unfolding structurize_select
      structurize_select_keeps parent kind x cases =
          then_keeps (rewrite_cases cases) _ (rewrite_cases_keeps cases) λ cs.
          then_keeps (select_if (any_non_empty_case cases || any_needs_select (plan_bundles g cs)) kind x cases (plan_bundles g cs)) _
          (select_if_keeps (any_non_empty_case cases || any_needs_select (plan_bundles g cs)) kind x cases (plan_bundles g cs)) λ y.
          next_keeps (replace_inputs cs) _ (replace_inputs_keeps cs)
          (give_keeps (record { children = join parent y.children; deferred_edges = y.deferred_edges }))

      pub structurize_select_by_keeps : (parent : Nodes) (kind : SelectionKind) (x : Scrutinee) (cases cs : List MaybeClaimedRegion)
          → Keeps (structurize_select_by g parent kind x cases cs)
      structurize_select_by_keeps parent kind x cases [] = structurize_select_keeps parent kind x cases
      structurize_select_by_keeps parent kind x cases (c ∷ d ∷ ds) = structurize_select_keeps parent kind x cases
      structurize_select_by_keeps parent kind x cases (c ∷ []) =
          then_keeps (structurize_select g parent kind x (without_convergent cases)) _
          (structurize_select_keeps parent kind x (without_convergent cases)) λ y.
          append_keeps y.children c

      structurize_loop_keeps : (body : ℕ) (children : Nodes) (backedge : DeferredEdgeBundle) (repeat : LazyCond)
          (exits : DeferredEdgeBundleSet) (inputs : List Value)
          → Keeps (structurize_loop g body children backedge repeat exits inputs)
      unfolding structurize_loop
      structurize_loop_keeps body children backedge repeat exits inputs =
          then_keeps define_region _ define_region_keeps λ wrapper.
          then_keeps (rewrite_values backedge.target_inputs) _ (rewrite_values_keeps backedge.target_inputs) λ vs.
          next_keeps (insert_rewrites body (renumber_or_replace_with (take_inputs g body wrapper 0 vs no_inputs).rewrites)) _
          (insert_rewrites_keeps _ _)
          (then_keeps (materialize_lazy_cond repeat) _
          (materialize_keeps repeat) λ v. then_keeps define_node _ define_node_keeps λ n. give_keeps
          (some (loop_claimed g body children exits inputs wrapper vs v n)))

      pub claim_body_keeps : (r : ℕ) (inputs : List Value) (children : Nodes) (d : DeferredEdgeBundleSet) (o : Option DeferredEdgeBundle)
          → Keeps (claim_body g r inputs children d o)
      claim_body_keeps r inputs children d none = give_keeps _
      claim_body_keeps r inputs children d (some e) = structurize_loop_keeps r children e _ _ inputs

      pub by_control_inst_keeps : (parent : Nodes) (x : ControlInst) (cs : List MaybeClaimedRegion) → Keeps (by_control_inst g parent x cs)
      by_control_inst_keeps parent unreachable cs = give_keeps _
      by_control_inst_keeps parent (return vs) cs = give_keeps _
      by_control_inst_keeps parent (exit_invocation op vs) cs = then_keeps define_node _ define_node_keeps λ n. give_keeps _
      by_control_inst_keeps parent (branch e) [] = give_keeps _
      by_control_inst_keeps parent (branch e) (c ∷ cs) = append_keeps parent c
      by_control_inst_keeps parent (select_branch kind v es) cs = structurize_select_by_keeps parent kind (value v) cs (convergent_cases cs)
