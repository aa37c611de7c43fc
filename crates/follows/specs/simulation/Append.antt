-- A claimed region is put behind the children that lead to it.
use Rattle.std.specs.Prelude.{false, List, ◌≡◌, refl, ◌<◌, ℕ, eqb, get_or}
use Rattle.std.proofs.Common.{inl, inr, ◌∙◌}
use Rattle.std.proofs.Math.Path.{subst, sym}
use Rattle.meaning.specs.Runs.{Nodes}
use Rattle.meaning.specs.Graph.{Value, input, undef}
use Rattle.meaning.specs.facts.Tests.{clash, or_either, or_right}
use Rattle.nesting.proofs.lookups.Contexts.{InContext, context_replaced, entry_at}
use Rattle.nesting.specs.Nesting.{Body, ClaimedRegion, MaybeClaimedRegion, append_maybe_claimed_region, deferred_of, err, join, ok}
use Rattle.nesting.specs.Nesting.{DeferredEdgeBundle, DeferredEdgeBundleSet, LazyCond, false_cond, merge, true_cond, undef_cond, NestState}
use Rattle.nesting.specs.Nesting.{NodeOutput}
use Rattle.nesting.specs.steps.TargetsAndCases.{children_in}
use Rattle.follows.specs.simulation.Key.{key, of_node, owns_join, owns_nodes}
use Rattle.follows.specs.simulation.World.{World, ar}
use Rattle.follows.specs.simulation.Tables.{Gains, Resolver, Respects, Tables, entry_law, gains_refl, respects_back, tables}
use Rattle.follows.specs.simulation.Leads.{Leads, Sim, leads_then}
use Rattle.follows.specs.simulation.Defined.{IfDone}
use Rattle.follows.specs.simulation.Scope.{AllScoped, CondOk, EntryOk, InScope, Scoped, SetOk, OwnedWithin, constant, own_input}
use Rattle.follows.specs.simulation.Scope.{owned, scoped_later, within_left, within_right}
use Rattle.follows.specs.simulation.ClaimedRegions.{CaseOk, Doing, Holds, Since, doing_with}
use Rattle.follows.specs.simulation.EnterCase.{Enters, enter_follows}
use Rattle.follows.specs.simulation.SelectSteps.{Moved, ToRewrite, given, join_nil, rewrite_doing, rewrite_moved}

-- ---- from one scope to another
module _ {T T' : Tables} {q a r a' : ℕ} {ks ks' : Nodes} (gains : Gains T T') (wi : OwnedWithin ks ks')
    (through : (ρ : Resolver) (os : List NodeOutput) → Respects ρ os T' → (k : ℕ) → k < a → InScope ρ os r a' ks' (ρ (input q k)))
    (joins : (v : Value) → InContext T.rewrites q v → InContext T'.rewrites r v) where
  pub scoped_through : (v : Value) → Scoped T q a ks v → Scoped T' r a' ks' v
  scoped_through v h = record {
    scoped = λ ρ os res. go ρ os res (h.scoped ρ os (respects_back gains res));
    context =
        joins v h.context;
  }
    where
      go : (ρ : Resolver) (os : List NodeOutput) → Respects ρ os T' → InScope ρ os q a ks (ρ v) → InScope ρ os r a' ks' (ρ v)
      go ρ os res (constant c) = constant c
      go ρ os res (own_input k lt e) = rw e (through ρ os res k lt)
      go ρ os res (owned o) = owned (wi.into (key os (ρ v)) o)

  pub cond_through : (c : LazyCond) → CondOk T q a ks c → CondOk T' r a' ks' c
  cond_through true_cond h = record { is = tt }
  cond_through false_cond h = record { is = tt }
  cond_through undef_cond h = record { is = tt }
  cond_through (merge n kind sc cs) h = record { is = (scoped_through sc h.is.0, wi.into (of_node n) h.is.1) }

  pub entry_through : (W : World) (e : DeferredEdgeBundle) → EntryOk W T q a ks e → EntryOk W T' r a' ks' e
  entry_through W e h = record {
    fits = h.fits;
    inputs = λ i. scoped_through (get_or e.target_inputs i (undef 0)) (h.inputs i);
    condition = cond_through e.condition h.condition;
  }

  pub set_through : (W : World) (d : DeferredEdgeBundleSet) → SetOk W T q a ks d → SetOk W T' r a' ks' d
  set_through W d h = record { distinct = h.distinct; entries = λ e i. entry_through W e (h.entries e i) }

module _ (W : World) where
  -- what appending asks of a case
  pub record TailOk (s₀ : NestState) (r : ℕ) (ks : Nodes) (s : NestState) (c : ClaimedRegion) : Type 0 where
    pub holds : Holds W c s
    pub since : Since W s₀ c
    pub inputs : AllScoped (tables s) r (ar W r) ks c.structured_body_inputs
    pub other : eqb r c.structured_body ≡ false

  abbrev pub TailIs : NestState → ℕ → Nodes → NestState → MaybeClaimedRegion → Type 0
  TailIs s₀ r ks s (ok c) = TailOk s₀ r ks s c
  TailIs s₀ r ks s (err d) = SetOk W (tables s) r (ar W r) ks d

  pub with_children : {s₀ s : NestState} {r : ℕ} {ks : Nodes} (c : ClaimedRegion) → Doing W s₀ r ks s → Holds W c s → Since W s₀ c
      → Doing W s₀ r (join ks c.children) s
  with_children {ks} c d h si = doing_with W (join ks c.children) d λ κ o.
      elim (or_either (owns_nodes ks κ) (owns_nodes c.children κ) (sym (owns_join ks c.children κ) ∙ o)) [
        | inl p ↦ (d.since κ p, d.clear κ p)
        | inr p ↦ (si.children κ p, h.clear κ p)
      ]

  pub record Appended (s₀ : NestState) (r : ℕ) (ks : Nodes) (c : MaybeClaimedRegion) (s : NestState) (y : Body)
      (s' : NestState) : Type 0 where
    pub children_is : y.children ≡ join ks (children_in c)
    pub set_is : y.deferred_edges ≡ deferred_of c
    pub doing : Doing W s₀ r (join ks (children_in c)) s'
    pub moves : Moved W s s'
    pub set : SetOk W (tables s') r (ar W r) (join ks (children_in c)) (deferred_of c)
    pub law : (ρ : Resolver) (os : List NodeOutput) → Respects ρ os (tables s') → (x : ClaimedRegion) → c ≡ ok x → (k : ℕ)
        → ρ (input x.structured_body k) ≡ ρ (get_or x.structured_body_inputs k (undef 0))

  pub append_post : (s₀ : NestState) (r : ℕ) (ks : Nodes) (c : MaybeClaimedRegion) (s : NestState) → Doing W s₀ r ks s → TailIs s₀ r ks s c
      → IfDone (Appended s₀ r ks c s) (append_maybe_claimed_region ks c s)
  unfolding append_maybe_claimed_region
  append_post s₀ r ks (err d) s dg fit = record {
    post = record {
      children_is = sym (join_nil ks);
      set_is = refl;
      doing = subst (λ k. Doing W s₀ r k s) (sym (join_nil ks)) dg;
      moves = record { gains = gains_refl (tables s); free = λ κ h. h; rewritable = λ q h. h };
      set = subst (λ k. SetOk W (tables s) r (ar W r) k d) (sym (join_nil ks)) fit;
      law = λ ρ os res x p k. absurd (clash (cc));
    };
  }
  append_post s₀ r ks (ok c) s dg fit =
      let dg₁ = with_children c dg fit.holds fit.since in
      let tl : ToRewrite W s₀ r (join ks c.children) s c = record {
        closed = fit.holds.closed;
        unrewritten = fit.holds.unrewritten;
        other = fit.other;
        since = fit.since.region;
        inputs = λ i. scoped_later (gains_refl (tables s)) (within_left ks c.children) (fit.inputs i);
      } in
      let mv = rewrite_moved W s₀ s r (join ks c.children) c dg₁ tl in
      record {
        post = record {
          children_is = refl;
          set_is = refl;
          doing = rewrite_doing W s₀ s r (join ks c.children) c dg₁ tl;
          moves = mv;
          set = set_through mv.gains (within_right ks c.children)
              (λ ρ os res k lt. rw (entry_law res c.structured_body _
              (entry_at s.region_input_rewrites c.structured_body _ tl.unrewritten) k)
              ((tl.inputs k).scoped ρ os (respects_back mv.gains res)))
              (λ v y. context_replaced s.region_input_rewrites c.structured_body r _ tl.unrewritten
              (given W s₀ s r (join ks c.children) c dg₁ tl) y) W
              c.deferred_edges fit.holds.set;
          law = λ ρ os res x p k. let e : c ≡ x = cc in
              subst (λ z. ρ (input z.structured_body k) ≡ ρ (get_or z.structured_body_inputs k (undef 0))) e
              (entry_law res c.structured_body _ (entry_at s.region_input_rewrites c.structured_body _ tl.unrewritten) k);
        };
      }

  -- the children lead to the case, and then its own follow
  pub append_sim : (s₀ : NestState) (r : ℕ) (ks : Nodes) (c : MaybeClaimedRegion) (s : NestState) (y : Body) (s' : NestState)
      → CaseOk W s₀ r ks s c → Appended s₀ r ks c s y s'
      → Leads W r r ks (tables s) (λ ρ os n e h st. Enters W ρ os n e h st c)
      → Sim W r r (join ks (children_in c)) (deferred_of c) (tables s')
  append_sim s₀ r ks c s y s' fit ad ld = leads_then W (children_in c) (deferred_of c) _ ld ad.moves.gains
      λ ρ os res b n le st bs apart e h en.
      enter_follows W s₀ r ks s c fit ρ os (respects_back ad.moves.gains res) b n le st bs (ad.law ρ os res)
      (λ k lt. or_right (owns_nodes ks (key os (ρ (input r k)))) (owns_nodes (children_in c) (key os (ρ (input r k))))
      (sym (owns_join ks (children_in c) (key os (ρ (input r k)))) ∙ apart k lt)) e h en
