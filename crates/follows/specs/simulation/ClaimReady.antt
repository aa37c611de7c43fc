-- A ready region is claimed: as it is, or as a loop in a wrapper.
use Rattle.std.specs.Prelude.{Bool, ◌||◌, List, [], ◌∷◌, map, ◌⊎◌, ◌≡◌, ◌+◌, ◌<◌, suc, zero, ℕ, eqb, leb, get_or, length}
use Rattle.std.proofs.Math.Bool.{false, or-false, or-true, true}
use Rattle.std.proofs.Math.Logic.{inl, inr}
use Rattle.std.proofs.Math.Option.{Option, none, some}
use Rattle.std.proofs.Common.{◌∙◌, ap, subst, sym, arith, eqb-true, leb-false, leb-true, ne_eqb}
use Rattle.std.proofs.Math.Path.{refl}
use Rattle.std.proofs.Math.ListN.{get_or-eq_default}
use Rattle.std.proofs.lemmas.List.{length-map}
use Rattle.std.proofs.lemmas.Bool.{eqb-false}
use Rattle.meaning.specs.Runs.{LoopNode, Nodes, ◌▸◌, loop, ⟨⟩}
use Rattle.meaning.specs.Graph.{Value, bool, input, undef}
use Rattle.meaning.specs.facts.Tests.{clash, eqb_self, false_if, or_either}
use Rattle.nesting.proofs.lookups.Contexts.{InContext, context_replaced, entry_at, open_else, own_in}
use Rattle.meaning.specs.Lists.{any, pick}
use Rattle.nesting.specs.Nesting.{loop_node, exit_targets, get_edge_bundle_by_target, same_target, split_out_target, ClaimedRegion}
use Rattle.nesting.specs.Nesting.{define_node, define_region, set_state, with_twice, backedge_of, claim_body, claim_by_state}
use Rattle.nesting.specs.Nesting.{materialize_lazy_cond, DeferredEdgeBundle, DeferredEdgeBundleSet, to_region, true_cond, LoopInputs}
use Rattle.nesting.specs.Nesting.{no_inputs, structurize_loop, take_inputs, rewrite_values, rewrites_of, StepAnswer, InputRewrite}
use Rattle.nesting.specs.Nesting.{NestState, NodeOutput, Step, ◌>>◌, claimed, give, ready, renumber_or_replace_with, renumber_to}
use Rattle.nesting.specs.Nesting.{replace_by}
use Rattle.nesting.specs.lookups.Rewriting.{meets, rewrite}
use Rattle.nesting.specs.steps.RegionsLeft.{state_of}
use Rattle.nesting.specs.steps.Post.{bind}
use Rattle.meaning.specs.facts.Elements.{In, Extends, extends_then}
use Rattle.nesting.specs.steps.TargetsAndCases.{same_target_sym, same_target_is}
use Rattle.follows.specs.simulation.Key.{Key, input_key, is_input_of, of_input, owns_nodes}
use Rattle.follows.specs.simulation.World.{Fits, World, ar, size}
use Rattle.follows.specs.simulation.Tables.{Resolver, Respects, Tables, entry_law, final_input, lookup_keeps, respects_back, tables}
use Rattle.follows.specs.simulation.Conditions.{Mat, mat_stays}
use Rattle.follows.specs.simulation.Leads.{Sim, leads_on}
use Rattle.follows.specs.simulation.Bundles.{DistinctBundles, find_in, found_in, is_always}
use Rattle.follows.specs.simulation.LoopFollows.{HeaderInput, loop_sim}
use Rattle.follows.specs.simulation.Defined.{Grew, IfDone, Materialized, define_node_post, define_region_post, grew_steady, grew_then}
use Rattle.follows.specs.simulation.Defined.{materialize_post}
use Rattle.follows.specs.simulation.Scope.{EntryOk, InScope, SetOk, OwnedWithin, context_stays, own_input, owned}
use Rattle.follows.specs.simulation.Invariant.{Free, Inv, LaterState, New, Owned, Rewritable, free⁺, idle, inv_grew, inv_rewrite}
use Rattle.follows.specs.simulation.Invariant.{later_grew, later_refl, later_rewrite, later_state_then, new, old, owned_same, owned⁺}
use Rattle.follows.specs.simulation.Invariant.{rewritable⁺, rewriting, unborn, waiting}
use Rattle.follows.specs.simulation.StateChanges.{changed, inv_busy, later_busy, new_was, not_r, not_rewritable, owned_was, still}
use Rattle.follows.specs.simulation.ClaimedRegions.{Holds, Since}
use Rattle.follows.specs.simulation.EnterCase.{getD_rewritten}
use Rattle.follows.specs.simulation.Append.{set_through}
use Rattle.follows.specs.simulation.LoopParts.{KeptOrLifted, Renumbered, SameButCount, leaving, leaving_distinct, leaving_from}
use Rattle.follows.specs.simulation.LoopParts.{leaving_in, inputs_renumbered}

loop_owns : (x : LoopNode) (ks : Nodes) (κ : Key) → owns_nodes (loop x ks ▸ ⟨⟩) κ ≡ true
    → (κ ≡ of_input x.body) ⊎ (owns_nodes ks κ ≡ true)
unfolding owns_nodes
loop_owns x ks κ o = go
    (or_either (is_input_of x.body κ) (owns_nodes ks κ) (sym (or-false (is_input_of x.body κ || owns_nodes ks κ)) ∙ o))
  where
    go : (is_input_of x.body κ ≡ true) ⊎ (owns_nodes ks κ ≡ true) → (κ ≡ of_input x.body) ⊎ (owns_nodes ks κ ≡ true)
    go (inl p) = inl (input_key x.body κ p)
    go (inr p) = inr p

loop_owns_inputs : (x : LoopNode) (ks : Nodes) → owns_nodes (loop x ks ▸ ⟨⟩) (of_input x.body) ≡ true
unfolding owns_nodes
loop_owns_inputs x ks = rw (eqb_self x.body)

loop_within : (x : LoopNode) (ks : Nodes) → OwnedWithin ks (loop x ks ▸ ⟨⟩)
unfolding owns_nodes
loop_within x ks = record { into = λ v p. rw (p, or-true (is_input_of x.body v)) }

-- a step that a branch gives, at a state
abbrev pub at_state : {A : Type 0} → Step A → NestState → StepAnswer A
at_state x s = x s

-- one entry only
alone : (d : DeferredEdgeBundleSet) → length d ≡ 1 → (x y : DeferredEdgeBundle) → In x d → In y d → y ≡ x
alone [] p x y i k = absurd i
alone (e ∷ []) p x y (inl q) (inl q') = q' ∙ sym q
alone (e ∷ []) p x y (inl q) (inr k) = absurd k
alone (e ∷ []) p x y (inr i) k = absurd i
alone (e ∷ e' ∷ d) p x y i k = absurd (omega arith)

module _ (W : World) where
  -- What a claim of region r with these inputs at s gives: a region that is held at s', and was none of the caller's.
  pub record ClaimGives (r : ℕ) (ins : List Value) (s s' : NestState) (c : ClaimedRegion) : Type 0 where
    pub holds : Holds W c s'
    pub since : Since W s c
    pub origin : c.origin ≡ r
    pub inputs : c.structured_body_inputs ≡ ins

  abbrev pub ClaimGot : ℕ → List Value → NestState → NestState → Option ClaimedRegion → Type 0
  ClaimGot r ins s s' none = Unit
  ClaimGot r ins s s' (some c) = ClaimGives r ins s s' c

  pub record ClaimDone (r : ℕ) (ins : List Value) (s : NestState) (o : Option ClaimedRegion) (s' : NestState) : Type 0 where
    pub inv : Inv W s'
    pub step : LaterState W s s'
    pub got : ClaimGot r ins s s' o

  module _ (s : NestState) (r b : ℕ) (ks : Nodes) (d : DeferredEdgeBundleSet) (h : Inv W s) (r_in : r < size W)
      (is_ready : state_of s r ≡ ready b ks d) where
    was : idle (state_of s r) ≡ true
    was = rw is_ready

    abbrev s₁ : NestState
    s₁ = changed W s r claimed h r_in

    inv₁ : Inv W s₁
    inv₁ = inv_busy W s r claimed h r_in was refl

    step₁ : LaterState W s s₁
    step₁ = later_busy W s r claimed h r_in was refl

    mine : (κ : Key) → owns_nodes ks κ ≡ true → Owned s κ
    mine κ o = record { region = r; back = b; children = ks; deferred_edges = d; is = is_ready; owns = o }

    not_rewritten : New s (of_input r)
    not_rewritten = h.unrewritten r (waiting r_in was)

    clear₁ : (κ : Key) → owns_nodes ks κ ≡ true → Free s₁ κ → ⊥
    clear₁ κ o (new n) = h.fresh κ (mine κ o) (new_was W s r claimed h r_in was refl κ n)
    clear₁ κ o (old x) =
        h.disjoint x.region r x.back b x.children ks x.deferred_edges d
        (still W s r claimed h r_in was refl x.region x.back x.children x.deferred_edges x.is) is_ready
        (not_r W s r claimed h r_in was refl x.region x.back x.children x.deferred_edges x.is) κ x.owns o

    not_owned₁ : Owned s₁ (of_input r) → ⊥
    not_owned₁ x = h.fresh (of_input r) (owned_was W s r claimed h r_in was refl (of_input r) x) not_rewritten

    inputs_apart : owns_nodes ks (of_input r) ≡ false
    inputs_apart = false_if (owns_nodes ks (of_input r)) (λ p. h.fresh (of_input r) (mine (of_input r) p) not_rewritten)

    -- ---- no loop
    abbrev plainly_claimed : List Value → ClaimedRegion
    plainly_claimed ins = record { origin = r; structured_body = r; structured_body_inputs = ins; children = ks; deferred_edges = d }

    pub plain_done : (ins : List Value) → ClaimDone r ins s (some (plainly_claimed ins)) s₁
    plain_done ins = record {
      inv = inv₁;
      step = step₁;
      got = record {
        holds = record {
          sim = h.sims r b ks d is_ready;
          set = h.sets r b ks d is_ready;
          clear = clear₁;
          closed = not_rewritable W s r claimed h r_in was refl;
          unrewritten = h.unrewritten r (waiting r_in was);
        };
        since = record { children = λ κ o. old (mine κ o); region = waiting r_in was };
        origin = refl;
        inputs = refl;
      };
    }

    -- ---- a loop
    module _ (ins : List Value) (e : DeferredEdgeBundle) (is_back : get_edge_bundle_by_target (to_region r) d ≡ some e) where
      back_in : In e d
      back_in = (found_in (to_region r) d e is_back).0

      back_target : e.target ≡ to_region r
      back_target = sym (found_in (to_region r) d e is_back).1

      dist : DistinctBundles d
      dist = (h.sets r b ks d is_ready).distinct

      only_back : (y : DeferredEdgeBundle) → In y d → same_target y.target (to_region r) ≡ true → y ≡ e
      only_back y i p =
          let q : y.target ≡ to_region r = same_target_is y.target (to_region r) p in
          let z : get_edge_bundle_by_target (to_region r) d ≡ some y =
          ap (λ x. get_edge_bundle_by_target x d) (sym q) ∙ find_in d dist y i in cc

      e_ok : EntryOk W (tables s) r (ar W r) ks e
      e_ok = (h.sets r b ks d is_ready).entries e back_in

      e_arity : length e.target_inputs ≡ ar W r
      e_arity = (subst (λ x. Fits W x (length e.target_inputs)) back_target e_ok.fits).1

      module _ (w : ℕ) (s₂ : NestState) (w_is : w ≡ s₁.region_count) (w_next : s₂.region_count ≡ suc w) (gr₂ : Grew s₁ s₂) where
        abbrev vs : List Value
        vs = map (rewrite s₂.region_input_rewrites) e.target_inputs

        abbrev x : LoopInputs
        x = take_inputs W.g r w 0 vs no_inputs

        abbrev s₃ : NestState
        s₃ = with_twice (any (meets s₂.region_input_rewrites) e.target_inputs) s₂

        gr₃ : Grew s₁ s₃
        gr₃ = grew_then gr₂ (grew_steady.twice _ s₂)

        inv₃ : Inv W s₃
        inv₃ = inv_grew W gr₃ inv₁

        step₃ : LaterState W s s₃
        step₃ = later_state_then W step₁ (later_grew W gr₃)

        r_w : r < w
        r_w = omega (arith, h.room, w_is)

        ne : eqb w r ≡ false
        ne = ne_eqb w r (λ p. omega (arith, r_w))

        w_open : Rewritable W s w
        w_open = unborn (omega (arith, w_is))

        closed₃ : Rewritable W s₃ w → ⊥
        closed₃ (unborn le) = omega (arith, w_next)
        closed₃ (waiting lt p) = omega (arith, h.room, w_is)

        r_closed₃ : Rewritable W s₃ r → ⊥
        r_closed₃ l = not_rewritable W s r claimed h r_in was refl ((later_grew W gr₃).rewritable r l)

        r_unrewritten₃ : rewrites_of s₃.region_input_rewrites r ≡ none
        r_unrewritten₃ = rw gr₂.rewrites (h.unrewritten r (waiting r_in was))

        w_unrewritten₃ : rewrites_of s₃.region_input_rewrites w ≡ none
        w_unrewritten₃ = rw gr₂.rewrites (h.unrewritten w w_open)

        rn : Renumbered W.g r w vs (length vs) x
        rn = inputs_renumbered W.g r w vs

        n_vs : length vs ≡ ar W r
        n_vs = length-map e.target_inputs (rewrite s₂.region_input_rewrites) ∙ e_arity

        abbrev s₄ : NestState
        s₄ = rewriting W r (renumber_or_replace_with x.rewrites) s₃

        lifted : (k : ℕ) (v : Value) → get_or x.rewrites k (renumber_to k) ≡ replace_by v → InContext s₃.region_input_rewrites w v
        lifted k v p = at (leb (suc k) (length vs)) refl
          where
            at : (o : Bool) → leb (suc k) (length vs) ≡ o → InContext s₃.region_input_rewrites w v
            at true q =
                let g : KeptOrLifted W.g r w vs x k (replace_by v) =
                subst (λ z. KeptOrLifted W.g r w vs x k z) p (rn.good k (leb-true (suc k) (length vs) q)) in
                rw g.0 (own_in w k)
            at false q =
                let z : get_or x.rewrites k (renumber_to k) ≡ renumber_to k =
                get_or-eq_default x.rewrites (renumber_to k) (let y = leb-false (suc k) (length vs) q in omega (arith, rn.many)) in
                absurd (let z' : renumber_to k ≡ replace_by v = sym z ∙ p in clash (cc))

        inv₄ : Inv W s₄
        inv₄ = inv_rewrite W s₃ r (renumber_or_replace_with x.rewrites) inv₃ r_unrewritten₃ r_closed₃ w w_unrewritten₃
            (eqb-false w r ne) lifted

        step₄ : LaterState W s s₄
        step₄ = later_rewrite W s₃ r (renumber_or_replace_with x.rewrites) step₃ (waiting r_in was)

        -- how a header's input goes on
        header_input : (os₅ : List NodeOutput) (ρ : Resolver) (os : List NodeOutput)
            → Respects ρ os (record { rewrites = s₃.region_input_rewrites; outputs = os₅ })
            → (k : ℕ) → k < ar W r → HeaderInput W ρ r w e.target_inputs x.initial_inputs x.outputs k
            (get_or x.rewrites k (renumber_to k))
        header_input os₅ ρ os res k lt = by (get_or x.rewrites k (renumber_to k)) (rn.good k (omega (arith, n_vs)))
          where
            look : ρ (get_or vs k (undef 0)) ≡ ρ (get_or e.target_inputs k (undef 0))
            look = ap ρ (getD_rewritten W s₂.region_input_rewrites e.target_inputs k)
                ∙ lookup_keeps res (get_or e.target_inputs k (undef 0))

            by : (sl : InputRewrite) → KeptOrLifted W.g r w vs x k sl
                → HeaderInput W ρ r w e.target_inputs x.initial_inputs x.outputs k sl
            by (replace_by v) (p, q) = (p, sym look ∙ ap ρ q)
            by (renumber_to i) (l, p, l', q) = (l, p, l', ap ρ q ∙ look)

        module _ (v : Value) (s₅ : NestState) (hm : Materialized (pick (is_always d) true_cond e.condition) s₄ v s₅) (n : ℕ)
            (s₆ : NestState) (gr₆ : Grew s₅ s₆) where
          abbrev exits : List ℕ
          exits = exit_targets W.g r

          abbrev node : LoopNode
          node = loop_node W.g n r x v

          abbrev looped : Nodes
          looped = loop node ks ▸ ⟨⟩

          gr₄₆ : Grew s₄ s₆
          gr₄₆ = grew_then hm.grew gr₆

          step₆ : LaterState W s s₆
          step₆ = later_state_then W step₄ (later_grew W gr₄₆)

          repeats : (os : List NodeOutput) → Extends s₅.node_outputs os
              → Mat e.condition os v ⊎ ((v ≡ bool true) × ((y : DeferredEdgeBundle) → In y d → y ≡ e))
          unfolding Mat
          repeats os pre = by (is_always d) refl hm.mat
            where
              by : (o : Bool) → is_always d ≡ o → Mat (pick o true_cond e.condition) s₅.node_outputs v
                  → Mat e.condition os v ⊎ ((v ≡ bool true) × ((y : DeferredEdgeBundle) → In y d → y ≡ e))
              by true p mt = inr (mt, λ y i. alone d (eqb-true (length d) 1 p) e y back_in i)
              by false p mt = inl (mat_stays e.condition s₅.node_outputs os pre v mt)

          abbrev T₅ : Tables
          T₅ = record { rewrites = s₃.region_input_rewrites; outputs = s₅.node_outputs }

          looped_sim : Sim W r w looped (leaving r exits d) (record { rewrites = s₄.region_input_rewrites; outputs = s₅.node_outputs })
          looped_sim = loop_sim W node w ks d T₅ e x.rewrites (leaving r exits d) r_unrewritten₃
              (leads_on W (record { rewrites = step₃.gains.rewrites; outputs = extends_then step₄.gains.outputs hm.grew.outputs })
              (h.sims r b ks d is_ready))
              back_target only_back back_in e_arity (header_input s₅.node_outputs) repeats
              (λ y i ne'. let z = leaving_in r exits d y i (same_target_sym (to_region r) y.target ∙ ne') in
              (z.0, z.1, z.2.target, z.2.inputs, z.2.condition))
              (λ z i. let y = leaving_from r exits d z i in (y.0, y.1, y.2.target, y.2.condition))
              inputs_apart

          through : (ρ : Resolver) (os : List NodeOutput) → Respects ρ os (tables s₆) → (k : ℕ) → k < ar W r
              → InScope ρ os w (ar W r) looped (ρ (input r k))
          through ρ os res k lt =
              let law : ρ (input r k) ≡ final_input ρ r (get_or x.rewrites k (renumber_to k)) = entry_law
              (respects_back (later_grew W gr₄₆).gains res) r _ (entry_at s₃.region_input_rewrites r _ r_unrewritten₃) k in
              rw law (by (get_or x.rewrites k (renumber_to k)) (rn.good k (omega (arith, n_vs))))
            where
              by : (sl : InputRewrite) → KeptOrLifted W.g r w vs x k sl → InScope ρ os w (ar W r) looped (final_input ρ r sl)
              by (replace_by u) (p, q) = own_input k lt (ap ρ p)
              by (renumber_to i) g = owned (loop_owns_inputs node ks)

          looped_set : SetOk W (tables s₆) w (ar W r) looped (leaving r exits d)
          looped_set =
              let all = set_through step₆.gains (loop_within node ks) through
              (λ u y. context_stays (later_grew W gr₄₆).gains.rewrites
              (context_replaced s₃.region_input_rewrites r w _ r_unrewritten₃ lifted (context_stays step₃.gains.rewrites y))) W d
              (h.sets r b ks d is_ready) in
              record {
                distinct = leaving_distinct r exits d dist;
                entries = λ z i. entry z (leaving_from r exits d z i) all;
              }
            where
              entry : (z : DeferredEdgeBundle) → (y : DeferredEdgeBundle) × In y d × SameButCount y z
                  → SetOk W (tables s₆) w (ar W r) looped d
                  → EntryOk W (tables s₆) w (ar W r) looped z
              entry z (y, i, bm) all =
                  let y_ok = all.entries y i in
                  record {
                    fits = rw (bm.target, bm.inputs) y_ok.fits;
                    inputs = λ k. rw bm.inputs (y_ok.inputs k);
                    condition =
                        rw bm.condition y_ok.condition;
                  }

          looped_clear : (κ : Key) → owns_nodes looped κ ≡ true → Free s₆ κ → ⊥
          looped_clear κ o wd = by (loop_owns node ks κ o)
            where
              wd₁ : Free s₁ κ
              wd₁ = (later_grew W gr₃).free κ (free⁺ W s₃ r (renumber_or_replace_with x.rewrites) κ ((later_grew W gr₄₆).free κ wd))

              not_free₆ : Free s₆ (of_input r) → ⊥
              not_free₆ (old y) =
                  not_owned₁ (owned_same W gr₃ (of_input r)
                  (owned⁺ W s₃ r (renumber_or_replace_with x.rewrites) (of_input r) (owned_same W gr₄₆ (of_input r) y)))
              not_free₆ (new m) =
                  let z = ap (λ l. rewrites_of l r) (sym gr₄₆.rewrites) ∙ m in
                  let y = entry_at s₃.region_input_rewrites r (renumber_or_replace_with x.rewrites) r_unrewritten₃ in
                  clash (cc)

              by : (κ ≡ of_input r) ⊎ (owns_nodes ks κ ≡ true) → ⊥
              by (inl p) = not_free₆ (subst (λ z. Free s₆ z) p wd)
              by (inr p) = clear₁ κ p wd₁

          w_unrewritten₆ : rewrites_of s₆.region_input_rewrites w ≡ none
          w_unrewritten₆ = rw gr₄₆.rewrites (open_else s₃.region_input_rewrites _ _ w w_unrewritten₃ (eqb-false _ _ ne))

          pub loop_done : ClaimDone r ins s
              (some (record {
                origin = r;
                structured_body = w;
                structured_body_inputs = ins;
                children = looped;
                deferred_edges =
                    leaving r exits d;
              })) s₆
          loop_done = record {
            inv = inv_grew W gr₄₆ inv₄;
            step = step₆;
            got = record {
              holds = record {
                sim = leads_on W (record { rewrites = (later_grew W gr₄₆).gains.rewrites; outputs = gr₆.outputs }) looped_sim;
                set = looped_set;
                clear = looped_clear;
                closed = λ l. closed₃ (rewritable⁺ W s₃ r (renumber_or_replace_with x.rewrites) w ((later_grew W gr₄₆).rewritable w l));
                unrewritten = w_unrewritten₆;
              };
              since = record { children = λ κ o. since κ (loop_owns node ks κ o); region = w_open };
              origin = refl;
              inputs = refl;
            };
          }
            where
              since : (κ : Key) → (κ ≡ of_input r) ⊎ (owns_nodes ks κ ≡ true) → Free s κ
              since κ (inl p) = rw p (new not_rewritten)
              since κ (inr p) = old (mine κ p)

      pub structurize_loop_post : IfDone (ClaimDone r ins s)
          (structurize_loop W.g r ks e (pick (is_always d) true_cond e.condition) (split_out_target (to_region r) d) ins s₁)
      unfolding structurize_loop rewrite_values
      structurize_loop_post =
          bind (define_region s₁) _ (define_region_post s₁) λ w s₂ hw.
          bind (materialize_lazy_cond (pick (is_always d) true_cond e.condition) (s₄ w s₂ hw.0 hw.1 hw.2)) _
          (materialize_post (pick (is_always d) true_cond e.condition) (s₄ w s₂ hw.0 hw.1 hw.2)) λ v s₅ hm.
          bind (define_node s₅) _ (define_node_post s₅) λ n s₆ hn.
          record { post = loop_done w s₂ hw.0 hw.1 hw.2 v s₅ hm n s₆ hn.2 }

    claim_body_post : (ins : List Value) (o : Option DeferredEdgeBundle)
        → ((e : DeferredEdgeBundle) → o ≡ some e → get_edge_bundle_by_target (to_region r) d ≡ some e)
        → IfDone (ClaimDone r ins s) (claim_body W.g r ins ks d o s₁)
    claim_body_post ins none f = record { post = plain_done ins }
    claim_body_post ins (some e) f = structurize_loop_post ins e (f e refl)

    pub claim_ready_post : (n inc : ℕ) (ins : List Value) → IfDone (ClaimDone r ins s) (claim_by_state W.g r n ins inc (ready b ks d) s)
    claim_ready_post n inc ins = go (eqb inc (n + b))
      where
        found : (i : ℕ) (e : DeferredEdgeBundle) → backedge_of r i d ≡ some e → get_edge_bundle_by_target (to_region r) d ≡ some e
        found zero e p = absurd (clash (cc))
        found (suc i) e p = p

        go : (o : Bool) → IfDone (ClaimDone r ins s)
            (at_state {A = Option ClaimedRegion}
            (elim o [ false ↦ give none | true ↦ set_state r claimed >> claim_body W.g r ins ks d (backedge_of r b d) ]) s)
        go false = record { post = record { inv = h; step = later_refl W s; got = tt } }
        go true = claim_body_post ins (backedge_of r b d) (found b)
