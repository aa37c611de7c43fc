-- What a select over cases does to the state: the values looked up, the select defined if it is needed, the inputs replaced.
use Rattle.std.specs.Prelude.{Bool, ◌||◌, ◌⊎◌, ◌≡◌, ◌≤◌, ℕ, get_or}
use Rattle.std.proofs.Math.Bool.{false, or-false, true}
use mathlib.Core.List.{List, [], ◌∷◌, map}
use Rattle.std.proofs.Math.Logic.{inl, inr}
use Rattle.std.proofs.Math.Option.{none, some}
use Rattle.std.proofs.Common.{◌∙◌, sym, arith}
use Rattle.std.proofs.Math.Path.{ap, refl, subst}
use Rattle.std.proofs.Math.Dec.{eqb}
use Rattle.std.proofs.lemmas.Bool.{eqb-false}
use Rattle.meaning.specs.Runs.{Cases, Nodes, ◌▸◌, ⟨⟩}
use Rattle.meaning.specs.Graph.{SelectionKind, Value, input, undef}
use Rattle.meaning.specs.facts.Tests.{clash, or_either, or_left, or_right}
use Rattle.nesting.specs.lookups.ChainEnds.{RewritesTo}
use Rattle.nesting.proofs.lookups.Contexts.{InContext, entry_at, open_else}
use Rattle.nesting.specs.Nesting.{new_select, look_up_each, look_up, look_up_case, Body, ClaimedRegion, MaybeClaimedRegion, Scrutinee, err}
use Rattle.nesting.specs.Nesting.{join, ok, with_twice, DeferredEdgeBundleSet, any_needs_select, any_non_empty_case, plan_bundles}
use Rattle.nesting.specs.Nesting.{rewrites_of, DefinedSelect, define_select, emit, replace_inputs, select_if, shared_bundle}
use Rattle.nesting.specs.Nesting.{structurize_select, NestState, NodeOutput, replace_with}
use Rattle.nesting.specs.lookups.Rewriting.{rewrite_claimed, rewrite_cases_is, rewrite, rewrite_case}
use Rattle.nesting.specs.steps.Post.{bind, map_post}
use Rattle.nesting.specs.steps.TargetsAndCases.{children_in}
use Rattle.follows.specs.simulation.ConvergentCase.{Apart}
use Rattle.meaning.specs.facts.Elements.{In, from_map, in_map}
use Rattle.follows.specs.simulation.Key.{Key, is_node, node_key, of_node, owns_cases, owns_join, owns_nodes}
use Rattle.follows.specs.simulation.World.{World, ar}
use Rattle.follows.specs.simulation.Tables.{Gains, Resolver, Respects, entry_law, entry_stays, gains_refl, gains_then, lookup_keeps}
use Rattle.follows.specs.simulation.Tables.{respects_back, tables}
use Rattle.follows.specs.simulation.Leads.{leads_on}
use Rattle.follows.specs.simulation.Planned.{EmitsAll}
use Rattle.follows.specs.simulation.Defined.{Grew, IfDone, emit_post, grew_steady, grew_then}
use Rattle.follows.specs.simulation.Scope.{AllScoped, OwnedWithin, scoped_later, scoped_rewritten, set_later, within_left}
use Rattle.follows.specs.simulation.Scope.{within_refl}
use Rattle.follows.specs.simulation.Invariant.{Free, LaterState, Rewritable, free⁺, inv_grew, inv_rewrite, later_grew, later_rewrite}
use Rattle.follows.specs.simulation.Invariant.{new}
use Rattle.follows.specs.simulation.Invariant.{old, owned_same, rewritable⁺, rewrite_gains, rewriting}
use Rattle.follows.specs.simulation.ClaimedRegions.{CasesOk, ClaimedOk, Doing, Holds, doing_on, doing_with}
use Rattle.follows.specs.simulation.EnterCase.{ScrutineeIs, getD_rewritten}
use Rattle.follows.specs.simulation.SelectDefined.{CasesFrom, DefinesSelect, cases_own, define_select_post, scrutinee_stays}

pub join_nil : (ks : Nodes) → join ks ⟨⟩ ≡ ks
join_nil ⟨⟩ = refl
join_nil (x ▸ ks) = ap (λ k. x ▸ k) (join_nil ks)

pub none_owned : (κ : Key) → owns_nodes ⟨⟩ κ ≡ true → ⊥
unfolding owns_nodes
none_owned κ o = clash (cc)

own_select : (κ : Key) (n : ℕ) (kind : SelectionKind) (sc : Value) (ccs : Cases) → owns_nodes (new_select n kind sc ccs ▸ ⟨⟩) κ ≡ true
    → (is_node n κ ≡ true) ⊎ (owns_cases ccs κ ≡ true)
unfolding owns_nodes
own_select κ n kind sc ccs o = or_either (is_node n κ) (owns_cases ccs κ) (sym (or-false (is_node n κ || owns_cases ccs κ)) ∙ o)

module _ (W : World) where
  -- A step that gives rewrites to what its caller held.
  pub record Moved (s s' : NestState) : Type 0 where
    pub gains : Gains (tables s) (tables s')
    pub free : (κ : Key) → Free s' κ → Free s κ
    pub rewritable : (q : ℕ) → Rewritable W s' q → Rewritable W s q

  pub later_moves : {s s' : NestState} → LaterState W s s' → Moved s s'
  later_moves p = record { gains = p.gains; free = p.free; rewritable = p.rewritable }

  pub moved_then : {s s' s'' : NestState} → Moved s s' → Moved s' s'' → Moved s s''
  moved_then p q = record {
    gains = gains_then p.gains q.gains;
    free = λ κ h. p.free κ (q.free κ h);
    rewritable =
        λ r h. p.rewritable r (q.rewritable r h);
  }

  pub holds_moved : {c : ClaimedRegion} {s s' : NestState} → Holds W c s → Moved s s'
      → rewrites_of s'.region_input_rewrites c.structured_body ≡ none → Holds W c s'
  holds_moved {c} h st un = record {
    sim = leads_on W st.gains h.sim;
    set = set_later W st.gains (within_refl c.children) h.set;
    clear = λ κ o w. h.clear κ o (st.free κ w);
    closed = λ l. h.closed (st.rewritable c.structured_body l);
    unrewritten = un;
  }

  -- ---- inputs replaced
  pub record ToRewrite (s₀ : NestState) (r : ℕ) (ks : Nodes) (s : NestState) (c : ClaimedRegion) : Type 0 where
    pub closed : Rewritable W s c.structured_body → ⊥
    pub unrewritten : rewrites_of s.region_input_rewrites c.structured_body ≡ none
    pub inputs : AllScoped (tables s) r (ar W r) ks c.structured_body_inputs
    pub other : eqb r c.structured_body ≡ false
    pub since : Rewritable W s₀ c.structured_body

  module _ (s₀ s : NestState) (r : ℕ) (ks : Nodes) (c : ClaimedRegion) (dg : Doing W s₀ r ks s) (tl : ToRewrite s₀ r ks s c) where
    abbrev s⁺ : NestState
    s⁺ = rewriting W c.structured_body (replace_with c.structured_body_inputs) s

    pub given : (k : ℕ) (v : Value) → RewritesTo (replace_with c.structured_body_inputs) k v → InContext s.region_input_rewrites r v
    given k v p = subst (λ z. InContext s.region_input_rewrites r z) p (tl.inputs k).context

    pub rewrite_moved : Moved s s⁺
    rewrite_moved = record {
      gains = rewrite_gains W s c.structured_body (replace_with c.structured_body_inputs);
      free = free⁺ W s c.structured_body (replace_with c.structured_body_inputs);
      rewritable = rewritable⁺ W s c.structured_body (replace_with c.structured_body_inputs);
    }

    pub rewrite_doing : Doing W s₀ r ks s⁺
    rewrite_doing = record {
      in_range = dg.in_range;
      inv = inv_rewrite W s c.structured_body (replace_with c.structured_body_inputs) dg.inv tl.unrewritten tl.closed r
          dg.unrewritten
          (eqb-false _ _ tl.other) given;
      step = later_rewrite W s c.structured_body (replace_with c.structured_body_inputs) dg.step tl.since;
      began = dg.began;
      busy = dg.busy;
      unrewritten = open_else s.region_input_rewrites _ _ r dg.unrewritten (eqb-false _ _ tl.other);
      since = dg.since;
      clear = λ κ o w. dg.clear κ o (rewrite_moved.free κ w);
    }

    pub rewrite_keeps : (q : ℕ) → eqb q c.structured_body ≡ false → rewrites_of s.region_input_rewrites q ≡ none
        → rewrites_of s⁺.region_input_rewrites q ≡ none
    rewrite_keeps q ne h = open_else s.region_input_rewrites _ _ q h (eqb-false _ _ ne)

    pub rewrite_on : (c' : ClaimedRegion) → eqb c'.structured_body c.structured_body ≡ false → ToRewrite s₀ r ks s c'
        → ToRewrite s₀ r ks s⁺ c'
    rewrite_on c' ne t = record {
      closed = λ l. t.closed (rewrite_moved.rewritable c'.structured_body l);
      unrewritten = rewrite_keeps c'.structured_body ne t.unrewritten;
      inputs = λ i. scoped_later rewrite_moved.gains (within_refl ks) (t.inputs i);
      other = t.other;
      since = t.since;
    }

  pub record Replaced (s₀ : NestState) (r : ℕ) (ks : Nodes) (cs : List MaybeClaimedRegion) (s s' : NestState) : Type 0 where
    pub doing : Doing W s₀ r ks s'
    pub given : (c : ClaimedRegion) → In (ok c) cs → rewrites_of s'.region_input_rewrites c.structured_body ≡ some
        (replace_with c.structured_body_inputs)
    pub outputs : s'.node_outputs ≡ s.node_outputs
    pub moves : Moved s s'
    pub keeps : (q : ℕ) → ((c : ClaimedRegion) → In (ok c) cs → eqb q c.structured_body ≡ false)
        → rewrites_of s.region_input_rewrites q ≡ none
        → rewrites_of s'.region_input_rewrites q ≡ none

  pub replace_inputs_post : (s₀ : NestState) (r : ℕ) (ks : Nodes) (cs : List MaybeClaimedRegion) (s : NestState) → Doing W s₀ r ks s
      → ((c : ClaimedRegion) → In (ok c) cs → ToRewrite s₀ r ks s c) → Apart cs
      → IfDone (λ u s'. Replaced s₀ r ks cs s s') (replace_inputs cs s)
  unfolding replace_inputs
  replace_inputs_post s₀ r ks [] s dg tl ap =
      record {
        post = record {
          doing = dg;
          given = λ c i. absurd i;
          outputs = refl;
          moves = record { gains = gains_refl (tables s); free = λ κ h. h; rewritable = λ q h. h };
          keeps = λ q n h. h;
        };
      }
  replace_inputs_post s₀ r ks (err d ∷ cs) s dg tl ap =
      map_post (replace_inputs cs s) (replace_inputs_post s₀ r ks cs s dg (λ c i. tl c (inr i)) ap) λ u s' h.
      record {
        doing = h.doing;
        given = λ c i. elim i [ inl p ↦ absurd (clash (cc)) | inr j ↦ h.given c j ];
        outputs = h.outputs;
        moves =
            h.moves;
        keeps = λ q n. h.keeps q (λ c i. n c (inr i));
      }
  replace_inputs_post s₀ r ks (ok c ∷ cs) s dg tl (ne, ap) =
      let mine = tl c (inl refl) in
      let s₁ : NestState = rewriting W c.structured_body (replace_with c.structured_body_inputs) s in
      map_post (replace_inputs cs s₁)
      (replace_inputs_post s₀ r ks cs s₁ (rewrite_doing s₀ s r ks c dg mine)
      (λ c' i. rewrite_on s₀ s r ks c dg mine c' (ne c' i) (tl c' (inr i))) ap) λ u s' h.
      record {
        doing = h.doing;
        given = λ x i. elim i [
          | inl p ↦ let e : x ≡ c = cc in
              rw e (entry_stays c.structured_body h.moves.gains.rewrites
              (entry_at s.region_input_rewrites c.structured_body _ mine.unrewritten))
          | inr j ↦ h.given x j
        ];
        outputs = h.outputs;
        moves = moved_then (rewrite_moved s₀ s r ks c dg mine) h.moves;
        keeps = λ q n p. h.keeps q (λ c' i. n c' (inr i)) (rewrite_keeps s₀ s r ks c dg mine q (n c (inl refl)) p);
      }

  -- ---- the cases with their values looked up
  rewritten_claimed : (σ : Resolver) (x : MaybeClaimedRegion) (c : ClaimedRegion) → ok c ≡ rewrite_case σ x
      → (y : ClaimedRegion) × (x ≡ ok y) × (c.structured_body ≡ y.structured_body)
      × (c.structured_body_inputs ≡ map σ y.structured_body_inputs)
  rewritten_claimed σ (err d) c p = absurd (clash (cc))
  rewritten_claimed σ (ok y) c p =
      let e : c ≡ rewrite_claimed σ y = cc in
      (y, refl, ap (λ z. z.structured_body) e, ap (λ z. z.structured_body_inputs) e)

  apart_rewritten : (σ : Resolver) (cs : List MaybeClaimedRegion) → Apart cs → Apart (map (rewrite_case σ) cs)
  apart_rewritten σ [] h = tt
  apart_rewritten σ (err d ∷ cs) h = apart_rewritten σ cs h
  apart_rewritten σ (ok c ∷ cs) (ne, h) = (
    (λ c' i. let y = from_map (rewrite_case σ) cs (ok c') i in let z = rewritten_claimed σ y.0 c' y.2 in rw z.2
        (ne z.0 (rw z.1 at y.1))),
    apart_rewritten σ cs h,
  )

  module _ (s₀ : NestState) (r : ℕ) (ks : Nodes) (kind : SelectionKind) (sc : Scrutinee) (cases : List MaybeClaimedRegion) (s : NestState)
      (dg : Doing W s₀ r ks s) (fit : CasesOk W s₀ r ks s cases) where
    abbrev pub σ : Resolver
    σ = rewrite s.region_input_rewrites

    abbrev pub cs : List MaybeClaimedRegion
    cs = map (rewrite_case σ) cases

    -- a select with these cases, which emits d
    pub record Made (more : Nodes) (d : DeferredEdgeBundleSet) (os : List NodeOutput) : Type 0 where
      pub node : DefinedSelect
      pub cases_of : Cases
      pub children_is : more ≡ new_select node.node node.kind node.scrutinee cases_of ▸ ⟨⟩
      pub kind_is : node.kind ≡ kind
      pub scrutinee_is : ScrutineeIs sc os node.scrutinee
      pub from : CasesFrom cases cases_of
      pub above : s.node_count ≤ node.node
      pub emits : EmitsAll os node (plan_bundles W.g cs) d

    pub data Shape (more : Nodes) (d : DeferredEdgeBundleSet) (os : List NodeOutput) : Type 0 where
      made : Made more d os → Shape more d os
      unmade : more ≡ ⟨⟩ → any_non_empty_case cases ≡ false → any_needs_select (plan_bundles W.g cs) ≡ false
          → d ≡ map shared_bundle (plan_bundles W.g cs) → Shape more d os

    pub record Selected (x : Body) (s' : NestState) : Type 0 where
      pub shape : Shape x.children x.deferred_edges s'.node_outputs
      pub grew : Grew s s'
      pub doing : Doing W s₀ r (join ks x.children) s'

    -- the children with the select's
    with_select : (n : DefinedSelect) (s₁ s₂ : NestState) → (mk : DefinesSelect kind sc cases s n s₁) → Grew s₁ s₂
        → Doing W s₀ r (join ks n.children) s₂
    with_select n s₁ s₂ mk gr₂ =
        let gr = grew_then mk.grew gr₂ in
        let d₂ = doing_on W dg (inv_grew W gr dg.inv) (later_grew W gr) in
        doing_with W (join ks n.children) d₂ (λ κ o. (since κ (whose κ o), clear gr d₂ κ (whose κ o)))
      where
        Who : Key → Type 0
        Who v = (owns_nodes ks v ≡ true) ⊎
            ((v ≡ of_node n.node) ⊎ ((c : ClaimedRegion) × In (ok c) cases × (owns_nodes c.children v ≡ true)))

        in_case : (κ : Key) (c : MaybeClaimedRegion) → In c cases → owns_nodes (children_in c) κ ≡ true
            → (x : ClaimedRegion) × In (ok x) cases × (owns_nodes x.children κ ≡ true)
        in_case κ (ok x) i o = (x, i, o)
        in_case κ (err d) i o = absurd (none_owned κ o)

        tree : (κ : Key) → owns_nodes (new_select n.node n.kind n.scrutinee mk.cases_of ▸ ⟨⟩) κ ≡ true → Who κ
        tree κ o = at (own_select κ n.node n.kind n.scrutinee mk.cases_of o)
          where
            at : (is_node n.node κ ≡ true) ⊎ (owns_cases mk.cases_of κ ≡ true) → Who κ
            at (inl p) = inr (inl (node_key n.node κ p))
            at (inr p) = let y = cases_own cases mk.cases_of mk.from κ p in inr (inr (in_case κ y.0 y.1 y.2))

        whose : (κ : Key) → owns_nodes (join ks n.children) κ ≡ true → Who κ
        whose κ o = at (or_either (owns_nodes ks κ) (owns_nodes n.children κ) (sym (owns_join ks n.children κ) ∙ o))
          where
            at : (owns_nodes ks κ ≡ true) ⊎ (owns_nodes n.children κ ≡ true) → Who κ
            at (inl p) = inl p
            at (inr p) = tree κ (rw mk.children_is at p)

        fresh : Free s (of_node n.node)
        fresh = new mk.above

        tk : (c : ClaimedRegion) → In (ok c) cases → ClaimedOk W s₀ r ks s c
        tk c i = (fit.each (ok c) i).is

        since : (κ : Key) → Who κ → Free s₀ κ
        since κ (inl o) = dg.since κ o
        since κ (inr (inl e)) = rw e (dg.step.free (of_node n.node) fresh)
        since κ (inr (inr (c, i, o))) = (tk c i).since.children κ o

        clear : Grew s s₂ → Doing W s₀ r ks s₂ → (κ : Key) → Who κ → Free s₂ κ → ⊥
        clear gr d₂ κ (inl o) w = d₂.clear κ o w
        clear gr d₂ κ (inr (inl e)) w = not_new (subst (λ x. Free s₂ x) e w)
          where
            not_new : Free s₂ (of_node n.node) → ⊥
            not_new (old o) = dg.inv.fresh (of_node n.node) (owned_same W gr (of_node n.node) o) mk.above
            not_new (new h) = omega (arith, h, mk.below, gr₂.node_count)
        clear gr d₂ κ (inr (inr (c, i, o))) w = (tk c i).holds.clear κ o ((later_grew W gr).free κ w)

    makes_from : (n : DefinedSelect) (s₁ s₂ : NestState) → Grew s s₁ → DefinesSelect kind sc cases s₁ n s₂
        → DefinesSelect kind sc cases s n s₂
    makes_from n s₁ s₂ gr mk = record {
      cases_of = mk.cases_of;
      children_is = mk.children_is;
      kind_is = mk.kind_is;
      scrut_is = mk.scrut_is;
      from = mk.from;
      above = omega (arith, gr.node_count, mk.above);
      below = mk.below;
      grew = grew_then gr mk.grew;
    }

    no_more : {s₁ : NestState} → Doing W s₀ r ks s₁ → Doing W s₀ r (join ks ⟨⟩) s₁
    no_more {s₁} d = subst (λ k. Doing W s₀ r k s₁) (sym (join_nil ks)) d

    select_if_post : (b : Bool) → (any_non_empty_case cases || any_needs_select (plan_bundles W.g cs)) ≡ b → (s₁ : NestState) → Grew s s₁
        → IfDone Selected (select_if b kind sc cases (plan_bundles W.g cs) s₁)
    unfolding select_if
    select_if_post true p s₁ gr =
        bind (define_select kind sc cases s₁) _ (define_select_post kind sc cases s₁) λ n s₂ mk.
        bind (emit n (plan_bundles W.g cs) s₂) _ (emit_post n (plan_bundles W.g cs) s₂) λ d s₃ em.
        record {
          post = record {
            shape = made (record {
              node = n;
              cases_of = mk.cases_of;
              children_is = mk.children_is;
              kind_is = mk.kind_is;
              scrutinee_is = scrutinee_stays sc s₂.node_outputs s₃.node_outputs em.grew.outputs n.scrutinee mk.scrut_is;
              from = mk.from;
              above = omega (arith, gr.node_count, mk.above);
              emits = em.emits;
            });
            grew = grew_then gr (grew_then mk.grew em.grew);
            doing = with_select n s₂ s₃ (makes_from n s₁ s₂ gr mk) em.grew;
          };
        }
    select_if_post false p s₁ gr = record {
      post = record {
        shape = unmade refl (or_left (any_non_empty_case cases) _ p) (or_right (any_non_empty_case cases) _ p) refl;
        grew = gr;
        doing = no_more (doing_on W dg (inv_grew W gr dg.inv) (later_grew W gr));
      };
    }

    pub record SelectMade (y : Body) (s' : NestState) : Type 0 where
      pub more : Nodes
      pub children_is : y.children ≡ join ks more
      pub shape : Shape more y.deferred_edges s'.node_outputs
      pub doing : Doing W s₀ r (join ks more) s'
      pub moves : Moved s s'
      pub keeps : (q : ℕ) → ((c : ClaimedRegion) → In (ok c) cases → eqb q c.structured_body ≡ false)
          → rewrites_of s.region_input_rewrites q ≡ none
          → rewrites_of s'.region_input_rewrites q ≡ none
      pub law : (ρ : Resolver) (os : List NodeOutput) → Respects ρ os (tables s') → (c : ClaimedRegion) → In (ok c) cases → (k : ℕ)
          → ρ (input c.structured_body k) ≡ ρ (get_or c.structured_body_inputs k (undef 0))

    to_rewrite : (ks' : Nodes) → OwnedWithin ks ks' → (s₂ : NestState) → Grew s s₂ → (c : ClaimedRegion) → In (ok c) cs
        → ToRewrite s₀ r ks' s₂ c
    to_rewrite ks' wi s₂ gr c i =
        let x = from_map (rewrite_case σ) cases (ok c) i in
        let y = rewritten_claimed σ x.0 c x.2 in
        let tk : ClaimedOk W s₀ r ks s y.0 = (fit.each (ok y.0) (rw y.1 at x.1)).is in
        let st = later_grew W gr in
        record {
          closed = λ l. tk.holds.closed (st.rewritable y.0.structured_body (subst (λ z. Rewritable W s₂ z) y.2 l));
          unrewritten = rw (y.2, gr.rewrites) tk.holds.unrewritten;
          inputs = λ k. rw (y.3, getD_rewritten W s.region_input_rewrites y.0.structured_body_inputs k)
              (scoped_later st.gains wi
              (scoped_rewritten dg.unrewritten (get_or y.0.structured_body_inputs k (undef 0)) (tk.inputs k)));
          other = rw y.2 tk.other;
          since = rw y.2 tk.since.region;
        }

    pub structurize_select_post : IfDone SelectMade (structurize_select W.g ks kind sc cases s)
    unfolding structurize_select
    structurize_select_post =
        rw (rewrite_cases_is cases s)
        let s₁ : NestState = with_twice (look_up_each (look_up_case (look_up s.region_input_rewrites)) cases).twice s in
        let gr₁ : Grew s s₁ = grew_steady.twice _ s in
        bind (select_if (any_non_empty_case cases || any_needs_select (plan_bundles W.g cs)) kind sc cases (plan_bundles W.g cs) s₁) _
        (select_if_post _ refl s₁ gr₁) λ x s₂ sel.
        bind (replace_inputs cs s₂) _ (replace_inputs_post s₀ r (join ks x.children) cs s₂ sel.doing
        (to_rewrite (join ks x.children) (within_left ks x.children) s₂ sel.grew)
        (apart_rewritten σ cases fit.apart)) λ u s₃ rp.
        record {
          post = record {
            more = x.children;
            children_is = refl;
            shape = subst (λ l. Shape x.children x.deferred_edges l) (sym rp.outputs) sel.shape;
            doing = rp.doing;
            moves = moved_then (later_moves (later_grew W sel.grew)) rp.moves;
            keeps = λ q n h. rp.keeps q (λ c i. keep q n c i) (rw sel.grew.rewrites h);
            law = λ ρ os res c i k.
                entry_law res c.structured_body _ (rp.given (rewrite_claimed σ c) (in_map (rewrite_case σ) cases (ok c) i)) k
                ∙ ap ρ (getD_rewritten W s.region_input_rewrites c.structured_body_inputs k)
                ∙ lookup_keeps (respects_back (moved_then (later_moves (later_grew W sel.grew)) rp.moves).gains res)
                (get_or c.structured_body_inputs k (undef 0));
          };
        }
      where
        keep : (q : ℕ) → ((c : ClaimedRegion) → In (ok c) cases → eqb q c.structured_body ≡ false) → (c : ClaimedRegion) → In (ok c) cs
            → eqb q c.structured_body ≡ false
        keep q n c i =
            let x = from_map (rewrite_case σ) cases (ok c) i in
            let y = rewritten_claimed σ x.0 c x.2 in
            rw y.2 (n y.0 (rw y.1 at x.1))
