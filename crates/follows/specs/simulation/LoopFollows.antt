-- A claimed loop: the wrapper's one child follows the graph's run from the header.
use Rattle.std.specs.Prelude.{Bool, true, List, [], ◌++◌, ◌∷◌, map, ◌⊎◌, ◌≡◌, leb, get_or, length}
use Rattle.std.proofs.Math.Bool.{false}
use Rattle.std.proofs.Common.{inl, inr, ◌∙◌, ap, subst, sym, arith}
use Rattle.std.proofs.Math.Path.{refl}
use Rattle.std.proofs.Math.Option.{none}
use Prim.Native.Nat.{◌<◌, ◌≤◌, suc, zero, ℕ}
use Rattle.std.proofs.lemmas.List.{length-map}
use Rattle.meaning.specs.Runs.{LoopNode, Nodes, ◌▸◌, loop, ⟨⟩, Ran, assign_inputs, leave_loop, ended, no_end, note_over, pay, run_nodes}
use Rattle.meaning.specs.Runs.{through, turns, End, Event, RunState, Word, mark, word}
use Rattle.meaning.specs.Graph.{Value, bool, input, undef}
use Rattle.meaning.specs.laws.LoopTurns.{inputs_at_once, last_turn, next_turn}
use Rattle.nesting.proofs.lookups.Contexts.{entry_at}
use Rattle.nesting.specs.Nesting.{same_target, DeferredEdgeBundle, DeferredEdgeBundleSet, to_region, rewrites_of, InputRewrite, NodeOutput}
use Rattle.nesting.specs.Nesting.{renumber_or_replace_with, renumber_to, replace_by, look_up_nodes}
use Rattle.nesting.specs.lookups.Rewriting.{rewrite_loop, rewrite_nodes}
use Rattle.meaning.specs.facts.Elements.{In, getD_map_in, Extends, extends_refl}
use Rattle.meaning.specs.facts.Tests.{eqb_self, or_left, or_right}
use Rattle.nesting.specs.steps.TargetsAndCases.{same_target_sym}
use Rattle.follows.specs.simulation.Key.{is_input_of, key, key_constant, of_input, owns_nodes}
use Rattle.follows.specs.simulation.World.{World, ar, from_region, runs}
use Rattle.follows.specs.simulation.Tables.{Gains, Resolver, Respects, Tables, entry_law, final_input, respects_back}
use Rattle.follows.specs.simulation.Frame.{inputs_kept}
use Rattle.follows.specs.simulation.Conditions.{Mat, Truthy}
use Rattle.follows.specs.simulation.Leads.{Based, Chosen, Goes, OnwardTo, Sim, Tracks, based_after, ends_with, none_run, onward_reads}
use Rattle.follows.specs.simulation.Leads.{read, then_on, tracks_less}

module _ (W : World) where
  -- how a header's input goes on, for the back edge's inputs `ins`, the wrapper q, and the loop's own lists
  abbrev pub HeaderInput : Resolver → ℕ → ℕ → List Value → List Value → List Value → ℕ → InputRewrite → Type 0
  HeaderInput ρ r q ins init outs k (replace_by v) = (v ≡ input q k) × (ρ (get_or ins k (undef 0)) ≡ ρ (input r k))
  HeaderInput ρ r q ins init outs k (renumber_to i) = (i < length init) × (get_or init i (undef 0) ≡ input q k) × (i < length outs)
      × (ρ (get_or outs i (undef 0)) ≡ ρ (get_or ins k (undef 0)))

  based_assign : (r : ℕ) (us : List Value) (s : RunState) → Based W s → Based W (assign_inputs r us s)
  based_assign r us s bs = record { based = λ v c. inputs_kept [] r v (rw (key_constant [] v c)) us s ∙ bs.based v c }

  -- the loop of header r
  module _ (looped : LoopNode) where
    abbrev r : ℕ
    r = looped.body

    abbrev init : List Value
    init = looped.initial_inputs

    abbrev outs : List Value
    outs = looped.outputs

    abbrev rep : Value
    rep = looped.repeat

    module _ (q : ℕ) (ks : Nodes) (d : DeferredEdgeBundleSet) (T : Tables) (x : DeferredEdgeBundle) (ss : List InputRewrite)
        (d' : DeferredEdgeBundleSet)
        (no_entry : rewrites_of T.rewrites r ≡ none)
        (body_sim : Sim W r r ks d T)
        (back : x.target ≡ to_region r)
        (only_back : (y : DeferredEdgeBundle) → In y d → same_target y.target (to_region r) ≡ true → y ≡ x)
        (x_in : In x d)
        (x_arity : length x.target_inputs ≡ ar W r)
        (header_inputs : (ρ : Resolver) (os : List NodeOutput) → Respects ρ os T → (k : ℕ) → k < ar W r
        → HeaderInput ρ r q x.target_inputs init outs k (get_or ss k (renumber_to k)))
        (repeats : (os' : List NodeOutput) → Extends T.outputs os'
        → Mat x.condition os' rep ⊎ ((rep ≡ bool true) × ((y : DeferredEdgeBundle) → In y d → y ≡ x)))
        (on_to : (y : DeferredEdgeBundle) → In y d → same_target y.target (to_region r) ≡ false
        → (z : DeferredEdgeBundle) × In z d' × (z.target ≡ y.target)
        × (z.target_inputs ≡ y.target_inputs) × (z.condition ≡ y.condition))
        (from : (z : DeferredEdgeBundle) → In z d'
        → (y : DeferredEdgeBundle) × In y d × (z.target ≡ y.target) × (z.condition ≡ y.condition))
        (Inputs_apart : owns_nodes ks (of_input r) ≡ false)
      where
        abbrev T' : Tables
        T' = record { rewrites = T.rewrites ++ (record { region = r; rewrites = renumber_or_replace_with ss } ∷ []); outputs = T.outputs }

        gains : Gains T T'
        gains = record { rewrites = record { more = _; whole = refl }; outputs = extends_refl T.outputs }

        abbrev ks' : Nodes
        ks' = loop looped ks ▸ ⟨⟩

        module _ (ρ : Resolver) (os' : List NodeOutput) (res : Respects ρ os' T')
            (b : ℕ) (e : End) (h : List Event)
            (outside : (k : ℕ) → k < ar W r → owns_nodes ks' (key os' (ρ (input q k))) ≡ false) where
          law : (k : ℕ) → ρ (input r k) ≡ final_input ρ r (get_or ss k (renumber_to k))
          law = entry_law res r _ (entry_at T.rewrites r _ no_entry)

          ok : (k : ℕ) → k < ar W r → HeaderInput ρ r q x.target_inputs init outs k (get_or ss k (renumber_to k))
          ok = header_inputs ρ os' (respects_back gains res)

          abbrev body : RunState → Ran
          body s = runs W b (rewrite_nodes ρ os' ks) s

          not_own_input : (k : ℕ) → k < ar W r → is_input_of r (key os' (ρ (input q k))) ≡ false
          unfolding owns_nodes
          not_own_input k lt = or_left _ _ (or_left _ _ (outside k lt))

          not_owned : (k : ℕ) → k < ar W r → owns_nodes ks (key os' (ρ (input q k))) ≡ false
          unfolding owns_nodes
          not_owned k lt = or_right (is_input_of r (key os' (ρ (input q k)))) _ (or_left _ _ (outside k lt))

          apart : (k : ℕ) → k < ar W r → owns_nodes ks (key os' (ρ (input r k))) ≡ false
          apart k lt = rw (law k) (go (get_or ss k (renumber_to k)) (ok k lt))
            where
              go : (sl : InputRewrite) → HeaderInput ρ r q x.target_inputs init outs k sl
                  → owns_nodes ks (key os' (final_input ρ r sl)) ≡ false
              go (replace_by v) o = rw o.0 (not_owned k lt)
              go (renumber_to i) o = Inputs_apart

          -- the inputs after an assignment of `us`, of which the kept ones are the words
          assigned : (us : List Value) (s : RunState) (ws : List Word)
              → ((k : ℕ) (v : Value) → k < ar W r → get_or ss k (renumber_to k) ≡ replace_by v → s.env (ρ (input q k)) ≡ get_or ws k mark)
              → ((k i : ℕ) → k < ar W r → get_or ss k (renumber_to k) ≡ renumber_to i
              → (i < length us) × (s.env (ρ (get_or us i (undef 0))) ≡ get_or ws k mark))
              → (k : ℕ) → k < ar W r → (assign_inputs r (map ρ us) s).env (ρ (input r k)) ≡ get_or ws k mark
          assigned us s ws on_same on_kept k lt = rw (law k) (go (get_or ss k (renumber_to k)) refl (ok k lt))
            where
              go : (sl : InputRewrite) → get_or ss k (renumber_to k) ≡ sl → HeaderInput ρ r q x.target_inputs init outs k sl
                  → (assign_inputs r (map ρ us) s).env (final_input ρ r sl) ≡ get_or ws k mark
              go (replace_by v) p o = rw o.0 (inputs_kept os' r (ρ (input q k)) (not_own_input k lt) (map ρ us) s ∙ on_same k v lt p)
              go (renumber_to i) p o =
                  let on_i = on_kept k i lt p in
                  let len : i < length (map ρ us) = rw (length-map us ρ) on_i.0 in
                  inputs_at_once r (map ρ us) s i len ∙ ap s.env (getD_map_in ρ us i (undef 0) (undef 0) on_i.0) ∙ on_i.1

          next : (s : RunState) (k : ℕ) → k < ar W r
              → (assign_inputs r (map ρ outs) s).env (ρ (input r k)) ≡ get_or (read ρ s x.target_inputs) k mark
          next s = assigned outs s (read ρ s x.target_inputs) on_same on_kept
            where
              at_ins : (k : ℕ) → k < ar W r → get_or (read ρ s x.target_inputs) k mark ≡ s.env (ρ (get_or x.target_inputs k (undef 0)))
              at_ins k lt = getD_map_in (λ v. s.env (ρ v)) x.target_inputs k (undef 0) mark (omega (arith, x_arity))

              on_same : (k : ℕ) (v : Value) → k < ar W r → get_or ss k (renumber_to k) ≡ replace_by v
                  → s.env (ρ (input q k)) ≡ get_or (read ρ s x.target_inputs) k mark
              on_same k v lt p =
                  let o : HeaderInput ρ r q x.target_inputs init outs k (replace_by v) = rw p at (ok k lt) in
                  let l : ρ (input r k) ≡ ρ v = rw p at (law k) in
                  sym (at_ins k lt ∙ ap s.env (o.1 ∙ l ∙ ap ρ o.0))

              on_kept : (k i : ℕ) → k < ar W r → get_or ss k (renumber_to k) ≡ renumber_to i
                  → (i < length outs) × (s.env (ρ (get_or outs i (undef 0))) ≡ get_or (read ρ s x.target_inputs) k mark)
              on_kept k i lt p =
                  let o : HeaderInput ρ r q x.target_inputs init outs k (renumber_to i) = rw p at (ok k lt) in
                  (o.2, ap s.env o.3 ∙ sym (at_ins k lt))

          first : (s : RunState) (ws : List Word) → ((k : ℕ) → k < length ws → s.env (ρ (input q k)) ≡ get_or ws k mark) → length ws ≡ ar W r
              → (k : ℕ) → k < ar W r → (assign_inputs r (map ρ init) s).env (ρ (input r k)) ≡ get_or ws k mark
          first s ws reads lw = assigned init s ws (λ k v lt p. reads k (omega (arith, lw))) on_kept
            where
              on_kept : (k i : ℕ) → k < ar W r → get_or ss k (renumber_to k) ≡ renumber_to i
                  → (i < length init) × (s.env (ρ (get_or init i (undef 0))) ≡ get_or ws k mark)
              on_kept k i lt p =
                  let o : HeaderInput ρ r q x.target_inputs init outs k (renumber_to i) = rw p at (ok k lt) in
                  (o.0, ap (λ v. s.env (ρ v)) o.1 ∙ reads k (omega (arith, lw)))

          again : (s : RunState) (y : DeferredEdgeBundle) → Based W s → Chosen ρ os' s d y → y ≡ x → Truthy (s.env (ρ rep))
          again s y bs c p = go (repeats os' res.outputs)
            where
              go : Mat x.condition os' rep ⊎ ((rep ≡ bool true) × ((y : DeferredEdgeBundle) → In y d → y ≡ x)) → Truthy (s.env (ρ rep))
              go (inl mat) = c.holds rep (rw p mat)
              go (inr only) =
                  record {
                    less = 0;
                    is = ap (λ v. s.env (ρ v)) only.0 ∙ ap s.env (res.on_bool true) ∙ bs.based (bool true) refl
                        ∙ W.on_bool true;
                  }

          stops : (s : RunState) (y : DeferredEdgeBundle) → Chosen ρ os' s d y → same_target y.target (to_region r) ≡ false
              → s.env (ρ rep) ≡ word 0
          stops s y c p = go (repeats os' res.outputs)
            where
              go : Mat x.condition os' rep ⊎ ((rep ≡ bool true) × ((y : DeferredEdgeBundle) → In y d → y ≡ x)) → s.env (ρ rep) ≡ word 0
              go (inl mat) = c.others x x_in (rw back (same_target_sym (to_region r) y.target ∙ p)) rep mat
              go (inr only) =
                  let tr : y.target ≡ to_region r = ap (λ z. z.target) (only.1 y c.member) ∙ back in
                  let z : true ≡ false = sym (eqb_self r) ∙ (rw tr at p) in cc

          leaves : (n : ℕ) (s : RunState) → (go : Goes W ρ os' n d e h s) → same_target go.entry.target (to_region r) ≡ false
              → Goes W ρ os' n d' e h (leave_loop (map ρ outs) (pay W.g.test_cost s))
          leaves n s go p =
              let z = on_to go.entry go.chosen.member p in
              record {
                entry = z.0;
                chosen = record {
                  member = z.1;
                  holds = λ v mat. go.chosen.holds v (rw z.4 at mat);
                  others = λ y y_in ne v mat. let w = from y y_in in
                      go.chosen.others w.0 w.1 (rw (z.2, w.2) at ne) v (rw w.3 at mat);
                };
                onward = rw (z.2, z.3) (onward_reads W ρ s (leave_loop (map ρ outs) (pay W.g.test_cost s)) refl n e h
                    go.entry.target go.entry.target_inputs
                    go.entry.target_inputs refl go.onward);
              }

          turns_follow : (c n made : ℕ) → n ≤ c → n ≤ b → (s : RunState) (ws : List Word) → Based W s → length ws ≡ ar W r
              → ((k : ℕ) → k < ar W r → s.env (ρ (input r k)) ≡ get_or ws k mark)
              → from_region W n r ws s.events ≡ ends_with e h
              → Tracks W ρ os' n d' e h (turns W.rule W.g.test_cost c made (rewrite_loop ρ os' looped) body s)
          unfolding turns
          turns_follow zero zero made le le' s ws bs lw reads gr = absurd (none_run W r ws s.events e h gr)
          turns_follow zero (suc n) made le le' s ws bs lw reads gr = absurd (omega arith)
          turns_follow (suc c) n made le le' s ws bs lw reads gr =
              after
              (λ n' lt s' ws' bs' lw' reads' gr'. turns_follow c n' (suc made) (omega arith) (omega arith) s' ws' bs' lw' reads' gr')
              (body s₁) refl
              (body_sim.leads ρ os' (respects_back gains res) b n le' s₁ ws (record { based = bs.based }) lw
              (record { reads = λ k lt. reads k (omega (arith, lw)); apart = λ k lt. apart k (omega (arith, lw)) }) e h gr)
            where
              s₁ : RunState
              s₁ = note_over (leb looped.limit made) s

              turning : Ran
              turning = turns W.rule W.g.test_cost (suc c) made (rewrite_loop ρ os' looped) body s

              IH : Type 0
              IH = (n' : ℕ) → n' < n → (s' : RunState) (ws' : List Word) → Based W s' → length ws' ≡ ar W r
                  → ((k : ℕ) → k < ar W r → s'.env (ρ (input r k)) ≡ get_or ws' k mark)
                  → from_region W n' r ws' s'.events ≡ ends_with e h
                  → Tracks W ρ os' n' d' e h (turns W.rule W.g.test_cost c (suc made) (rewrite_loop ρ os' looped) body s')

              turned : IH → (s' : RunState) → body s₁ ≡ through s' → Based W s' → (go : Goes W ρ os' n d e h s') → go.entry ≡ x
                  → Tracks W ρ os' n d' e h turning
              turned ih s' comes bs' go p =
                  let yes! = again s' go.entry bs' go.chosen p in
                  let on' : OnwardTo W ρ s' n e h (to_region r) x.target_inputs = rw back at (rw p at go.onward) in
                  let s'' : RunState = assign_inputs r (map ρ outs) (pay W.g.test_cost s') in
                  subst (λ R. Tracks W ρ os' n d' e h R)
                  (sym (next_turn W.rule W.g.test_cost c made (rewrite_loop ρ os' looped) body s s' comes yes!.less yes!.is))
                  (tracks_less W ρ os' on'.0 n (omega (arith, on'.1)) d' e h _
                  (ih on'.0 on'.1 s'' (read ρ s' x.target_inputs)
                  (based_assign r (map ρ outs) (pay W.g.test_cost s') (record { based = bs'.based }))
                  (length-map x.target_inputs (λ v. s'.env (ρ v)) ∙ on'.2) (next (pay W.g.test_cost s')) on'.3))

              came : IH → (s' : RunState) → body s₁ ≡ through s' → Based W s' → (go : Goes W ρ os' n d e h s')
                  → (o : Bool) → same_target go.entry.target (to_region r) ≡ o → Tracks W ρ os' n d' e h turning
              came ih s' comes bs' go true p = turned ih s' comes bs' go (only_back go.entry go.chosen.member p)
              came ih s' comes bs' go false p = subst (λ R. Tracks W ρ os' n d' e h R)
                  (sym (last_turn W.rule W.g.test_cost c made (rewrite_loop ρ os' looped) body s s' comes
                  (stops s' go.entry go.chosen p)))
                  (record { leads_to = leaves n s' go p })

              after : IH → (R : Ran) → body s₁ ≡ R → Tracks W ρ os' n d e h R → Tracks W ρ os' n d' e h turning
              after ih (through s') p fl =
                  came ih s' p (based_after W ρ os' ks b s₁ s' p (record { based = bs.based })) fl.leads_to _ refl
              after ih (ended e' s') p fl = rw p (record { leads_to = fl.leads_to })
              after ih (no_end why) p fl = rw p (record { leads_to = fl.leads_to })

        pub loop_sim : Sim W r q ks' d' T'
        unfolding run_nodes look_up_nodes
        loop_sim = record {
          leads = λ ρ os' res b n le s w bs lw gv e h gr.
              let outside : (k : ℕ) → k < ar W r → owns_nodes ks' (key os' (ρ (input q k))) ≡ false =
              λ k lt. gv.apart k (omega (arith, lw)) in
              rw (then_on _) (turns_follow ρ os' res b e h outside b n 0 le le (assign_inputs r (map ρ init) s) w
              (based_assign r (map ρ init) s bs) lw
              (first ρ os' res b e h outside s w gv.reads lw) gr);
        }
