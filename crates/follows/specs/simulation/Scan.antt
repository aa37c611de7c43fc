-- The scan of deferred edges: the first that can be claimed becomes a case of a select, until none can.
use Rattle.std.specs.Prelude.{Bool, false, true, ◌⊎◌, ◌≡◌, eqb, length}
use mathlib.Core.List.{List, [], ◌++◌, ◌∷◌, append_assoc}
use Rattle.std.proofs.Common.{inl, inr, ◌∙◌, ap, sym, eqb-true}
use Rattle.std.proofs.Math.Option.{Option, none, some}
use Rattle.std.proofs.Math.Path.{refl, subst}
use Prim.Native.Nat.{suc, zero, ℕ}
use Rattle.meaning.specs.Graph.{Value, bool, bool_cond}
use Rattle.meaning.specs.Runs.{End, Event, RunState, place_taken, word}
use Rattle.nesting.specs.Nesting.{same_target, Body, ClaimedRegion, MaybeClaimedRegion, err, lazy, ok, Claim, SplitOut, resolve_by}
use Rattle.nesting.specs.Nesting.{resolve_deferred, split_out_matching, DeferredEdgeBundle, DeferredEdgeBundleSet, DeferredTarget, LazyCond}
use Rattle.nesting.specs.Nesting.{to_region, to_return, true_cond, structurize_select_into, StepAnswer, NestState, NodeOutput, done}
use Rattle.nesting.specs.Nesting.{turned_away}
use Rattle.nesting.specs.laws.FirstClaim.{bundle_to, first_claim}
use Rattle.nesting.specs.steps.Post.{bind, map_post}
use Rattle.meaning.specs.facts.Elements.{In}
use Rattle.follows.specs.simulation.World.{Fits, World, ar}
use Rattle.follows.specs.simulation.Tables.{Resolver, Respects, tables}
use Rattle.follows.specs.simulation.Conditions.{Mat}
use Rattle.follows.specs.simulation.Leads.{Based, Goes, OnwardTo, leads_map}
use Rattle.follows.specs.simulation.Bundles.{DistinctBundles, in_split, is_always, one_only, split_at, split_distinct, split_in}
use Rattle.follows.specs.simulation.Defined.{IfDone}
use Rattle.follows.specs.simulation.Scope.{CondOk, SetOk, mat_scoped}
use Rattle.follows.specs.simulation.Invariant.{Inv, LaterState, later_refl, later_state_then}
use Rattle.follows.specs.simulation.ClaimedRegions.{Came, CaseOk, CasesOk, came_on}
use Rattle.follows.specs.simulation.EnterCase.{Takes}
use Rattle.follows.specs.simulation.ConvergentFollows.{structurize_select_into_post}
use Rattle.follows.specs.simulation.ClaimReady.{ClaimDone}
use Rattle.follows.specs.simulation.TargetRegions.{ClaimOk, claimed_back, claimed_ok, since_back}
use Rattle.meaning.specs.Lists.{pick}

module _ (W : World) (cl : Claim) (cl_ok : ClaimOk W cl) where
  -- ---- the first entry that can be claimed
  pub record FoundOk (before d : DeferredEdgeBundleSet) (s : NestState) (y : SplitOut) (s' : NestState) : Type 0 where
    pub front : DeferredEdgeBundleSet
    pub behind : DeferredEdgeBundleSet
    pub split : d ≡ front ++ (y.bundle ∷ behind)
    pub left : y.others ≡ before ++ (front ++ behind)
    pub region : ℕ
    pub target : y.bundle.target ≡ to_region region
    pub done : ClaimDone W region y.bundle.target_inputs s (some y.claimed_region) s'

  abbrev pub FoundIs : DeferredEdgeBundleSet → DeferredEdgeBundleSet → NestState → NestState → Option SplitOut → Type 0
  FoundIs before d s s' none = Unit
  FoundIs before d s s' (some y) = FoundOk before d s y s'

  pub record FirstDone (before d : DeferredEdgeBundleSet) (s : NestState) (o : Option SplitOut) (s' : NestState) : Type 0 where
    pub inv : Inv W s'
    pub step : LaterState W s s'
    pub found : FoundIs before d s s' o

  further : (before : DeferredEdgeBundleSet) (e : DeferredEdgeBundle) (es : DeferredEdgeBundleSet) (s s₁ : NestState) → LaterState W s s₁
      → (o : Option SplitOut) (s' : NestState) → FirstDone (before ++ (e ∷ [])) es s₁ o s' → FirstDone before (e ∷ es) s o s'
  further before e es s s₁ st o s' fd = record { inv = fd.inv; step = later_state_then W st fd.step; found = by o fd.found }
    where
      by : (o : Option SplitOut) → FoundIs (before ++ (e ∷ [])) es s₁ s' o → FoundIs before (e ∷ es) s s' o
      by none f = tt
      by (some y) f = record {
        front = e ∷ f.front;
        behind = f.behind;
        split = ap (λ l. e ∷ l) f.split;
        left = f.left ∙ append_assoc before (e ∷ []) (f.front ++ f.behind);
        region = f.region;
        target = f.target;
        done = record {
          inv = f.done.inv;
          step = later_state_then W st f.done.step;
          got =
              record {
                holds = f.done.got.holds;
                since = since_back W st f.done.got.since;
                origin = f.done.got.origin;
                inputs =
                    f.done.got.inputs;
              };
        };
      }

  abbrev ScansOn : DeferredEdgeBundleSet → DeferredEdgeBundleSet → NestState → Type 0
  ScansOn before d s = IfDone (FirstDone before d s) (split_out_matching W.g cl before d s)

  -- a bundle to a region: claimed, the scan stops there; else it goes on
  module _ (before es : DeferredEdgeBundleSet) (q n : ℕ) (inputs : List Value) (c : LazyCond) (s : NestState)
      (later : (s₁ : NestState) → Inv W s₁ → ScansOn (before ++ (bundle_to q n inputs c ∷ [])) es s₁) where
    by_answer : (a : StepAnswer (Option ClaimedRegion)) → cl q n inputs s ≡ a → IfDone (ClaimDone W q inputs s) a
        → ScansOn before (bundle_to q n inputs c ∷ es) s
    unfolding split_out_matching
    by_answer (done (some x) t) comes h =
        subst (λ a. IfDone (FirstDone before (bundle_to q n inputs c ∷ es) s) a)
        (sym (first_claim W.g cl before es q n inputs c s t x comes)) (record {
          post =
              record {
                inv = h.post.inv;
                step = h.post.step;
                found =
                    record { front = []; behind = es; split = refl; left = refl; region = q; target = refl; done = h.post };
              };
        })
    by_answer (done none t) comes h =
        rw comes (map_post (split_out_matching W.g cl (before ++ (bundle_to q n inputs c ∷ [])) es t) (later t h.post.inv) λ o s' fd.
        further before (bundle_to q n inputs c) es s t h.post.step o s' fd)
    by_answer (turned_away refusal at_word) comes h = rw comes (record { post = tt })

  pub split_out_matching_post : (before d : DeferredEdgeBundleSet) (s : NestState) → Inv W s
      → ((e : DeferredEdgeBundle) → In e d → Fits W e.target (length e.target_inputs)) → ScansOn before d s
  unfolding split_out_matching
  split_out_matching_post before [] s inv fits = record { post = record { inv = inv; step = later_refl W s; found = tt } }
  split_out_matching_post before (e ∷ es) s inv fits =
      go e.target refl (λ s₁ inv₁. split_out_matching_post (before ++ (e ∷ [])) es s₁ inv₁ (λ x i. fits x (inr i))) (fits e (inl refl))
    where
      Rest : DeferredEdgeBundle → Type 0
      Rest z = (s₁ : NestState) → Inv W s₁ → ScansOn (before ++ (z ∷ [])) es s₁

      with_target : DeferredTarget → DeferredEdgeBundle
      with_target x = record {
        target = x;
        accumulated_count = e.accumulated_count;
        target_inputs = e.target_inputs;
        condition =
            e.condition;
      }

      at : (x : DeferredTarget) → Rest (with_target x) → Fits W x (length e.target_inputs) → ScansOn before (with_target x ∷ es) s
      at to_return rest f = map_post (split_out_matching W.g cl (before ++ (with_target to_return ∷ [])) es s) (rest s inv) λ o s' fd.
          further before (with_target to_return) es s s (later_refl W s) o s' fd
      at (to_region q) rest f = by_answer before es q e.accumulated_count e.target_inputs e.condition s rest _ refl
          (cl_ok q e.accumulated_count e.target_inputs s inv f.0 f.2)

      go : (x : DeferredTarget) → e.target ≡ x → Rest e → Fits W x (length e.target_inputs) → ScansOn before (e ∷ es) s
      go x p rest f = subst (λ y. Rest (with_target y) → ScansOn before (with_target y ∷ es) s) (sym p) (λ rest'. at x rest' f) rest

  -- ---- and its select
  module _ (s₀ : NestState) (r : ℕ) (x : Body) (s s₁ : NestState) (cm : Came W s₀ r x.children x.deferred_edges s) (y : SplitOut)
      (inv₁ : Inv W s₁)
      (st₁ : LaterState W s s₁) (fo : FoundOk [] x.deferred_edges s y s₁) where
    cm₁ : Came W s₀ r x.children x.deferred_edges s₁
    cm₁ = came_on W cm inv₁ st₁

    d_is : x.deferred_edges ≡ fo.front ++ (y.bundle ∷ fo.behind)
    d_is = fo.split

    abbrev sc : LazyCond
    sc = pick (is_always x.deferred_edges) true_cond y.bundle.condition

    entry_in : In y.bundle x.deferred_edges
    entry_in = subst (λ l. In y.bundle l) (sym d_is) (split_at fo.front fo.behind y.bundle)

    rest_in : (z : DeferredEdgeBundle) → In z y.others → In z x.deferred_edges
    rest_in z i = subst (λ l. In z l) (sym d_is) (split_in fo.front fo.behind y.bundle z (subst (λ l. In z l) fo.left i))

    parted : DistinctBundles (fo.front ++ fo.behind)
        × ((z : DeferredEdgeBundle) → In z (fo.front ++ fo.behind) → same_target y.bundle.target z.target ≡ false)
    parted = split_distinct fo.front fo.behind y.bundle (subst (λ l. DistinctBundles l) d_is cm₁.set.distinct)

    rest_ok : SetOk W (tables s₁) r (ar W r) x.children y.others
    rest_ok = record {
      distinct = subst (λ l. DistinctBundles l) (sym fo.left) parted.0;
      entries =
          λ z i. cm₁.set.entries z (rest_in z i);
    }

    cases_ok : CasesOk W s₀ r x.children s₁ (ok y.claimed_region ∷ err y.others ∷ [])
    cases_ok = record { each = each; apart = ((λ c' i. no_other c' i), tt) }
      where
        no_other : (c' : ClaimedRegion) → (ok c' ≡ err y.others) ⊎ ⊥
            → eqb c'.structured_body y.claimed_region.structured_body ≡ false
        no_other c' (inl p) = cc
        no_other c' (inr i) = absurd i

        each : (c : MaybeClaimedRegion) → (c ≡ ok y.claimed_region) ⊎ ((c ≡ err y.others) ⊎ ⊥) → CaseOk W s₀ r x.children s₁ c
        each c (inl p) = rw p (record {
          is = claimed_back W cm.doing.step
              (claimed_ok W y.claimed_region cm.doing fo.done (cm₁.set.entries y.bundle entry_in).inputs);
        })
        each c (inr (inl p)) = rw p (record { is = rest_ok })
        each c (inr (inr i)) = absurd i

    sc_ok : CondOk (tables s₁) r (ar W r) x.children sc
    sc_ok = go (is_always x.deferred_edges)
      where
        go : (b : Bool) → CondOk (tables s₁) r (ar W r) x.children (pick b true_cond y.bundle.condition)
        go true = record { is = tt }
        go false = (cm₁.set.entries y.bundle entry_in).condition

    takes : (ρ : Resolver) (os : List NodeOutput) → Respects ρ os (tables s₁) → (n : ℕ) (e : End) (h : List Event) (st : RunState)
        → Based W st
        → Goes W ρ os n x.deferred_edges e h st
        → Takes W bool_cond (lazy sc) (ok y.claimed_region ∷ err y.others ∷ []) ρ os n e h st
    unfolding Mat
    takes ρ os res n e h st bs go =
        by (in_split fo.front fo.behind y.bundle go.entry (subst (λ l. In go.entry l) d_is go.chosen.member))
      where
        Two : Type 0
        Two = Takes W bool_cond (lazy sc) (ok y.claimed_region ∷ err y.others ∷ []) ρ os n e h st

        yes_test : go.entry ≡ y.bundle → (b : Bool) (v : Value) → Mat (pick b true_cond y.bundle.condition) os v
            → (w : ℕ) × (st.env (ρ v) ≡ word w) × (place_taken bool_cond w 2 ≡ 0)
        yes_test p true v mt =
            (1, ap (λ z. st.env (ρ z)) mt ∙ ap st.env (res.on_bool true) ∙ bs.based (bool true) refl ∙ W.on_bool true, refl)
        yes_test p false v mt = let tr = go.chosen.holds v (subst (λ z. Mat z.condition os v) (sym p) mt) in
            (suc tr.less, tr.is, refl)

        no_test : In go.entry (fo.front ++ fo.behind) → (b : Bool) → is_always x.deferred_edges ≡ b → (v : Value)
            → Mat (pick b true_cond y.bundle.condition) os v → (w : ℕ) × (st.env (ρ v) ≡ word w) × (place_taken bool_cond w 2 ≡ 1)
        no_test i true p v mt =
            absurd (one_only fo.front fo.behind y.bundle go.entry
            (subst (λ l. length l ≡ 1) d_is (eqb-true (length x.deferred_edges) 1 p)) i)
        no_test i false p v mt = (0, go.chosen.others y.bundle entry_in (parted.1 go.entry i) v mt, refl)

        by : (go.entry ≡ y.bundle) ⊎ In go.entry (fo.front ++ fo.behind) → Two
        by (inl p) = record {
          place_of = 0;
          case_of = ok y.claimed_region;
          at_place = refl;
          enters =
              let onw : OnwardTo W ρ st n e h (to_region fo.region) y.bundle.target_inputs =
              subst (λ z. OnwardTo W ρ st n e h z y.bundle.target_inputs)
              fo.target (subst (λ z. OnwardTo W ρ st n e h z.target z.target_inputs) p go.onward) in
              subst (λ z. OnwardTo W ρ st n e h (to_region z) y.claimed_region.structured_body_inputs) (sym fo.done.got.origin)
              (subst (λ l. OnwardTo W ρ st n e h (to_region fo.region) l) (sym fo.done.got.inputs) onw);
          tests = λ v mt. yes_test p (is_always x.deferred_edges) v mt;
        }
        by (inr i) = record {
          place_of = 1;
          case_of = err y.others;
          at_place = refl;
          enters = record {
            entry = go.entry;
            chosen = record {
              member = subst (λ l. In go.entry l) (sym fo.left) i;
              holds = go.chosen.holds;
              others = λ z k ne v mt. go.chosen.others z (rest_in z k) ne v mt;
            };
            onward = go.onward;
          };
          tests = λ v mt. no_test i (is_always x.deferred_edges) refl v mt;
        }

    pub found_post : IfDone (λ z s'. Came W s₀ r z.children z.deferred_edges s')
        (structurize_select_into W.g x.children bool_cond (lazy sc) (ok y.claimed_region ∷ err y.others ∷ []) s₁)
    found_post = structurize_select_into_post W s₀ r x.children bool_cond (lazy sc) (ok y.claimed_region ∷ err y.others ∷ []) s₁
        cm₁.doing cases_ok
        (λ T p v mt. mat_scoped sc v p sc_ok mt)
        (leads_map W _ _ cm₁.sim takes)

  pub resolve_deferred_post : (s₀ : NestState) (r n : ℕ) (x : Body) (s : NestState) → Came W s₀ r x.children x.deferred_edges s
      → IfDone (λ z s'. Came W s₀ r z.children z.deferred_edges s') (resolve_deferred W.g cl n x s)
  unfolding resolve_deferred
  resolve_deferred_post s₀ r zero x s cm = record { post = cm }
  resolve_deferred_post s₀ r (suc n) x s cm =
      bind (split_out_matching W.g cl [] x.deferred_edges s) _
      (split_out_matching_post [] x.deferred_edges s cm.doing.inv (λ e i. (cm.set.entries e i).fits)) λ o s₁ fd. by
      (λ x' s₂ cm₂. resolve_deferred_post s₀ r n x' s₂ cm₂) o s₁ fd
    where
      by : ((x' : Body) (s₂ : NestState) → Came W s₀ r x'.children x'.deferred_edges s₂
          → IfDone (λ z s'. Came W s₀ r z.children z.deferred_edges s') (resolve_deferred W.g cl n x' s₂))
          → (o : Option SplitOut) (s₁ : NestState) → FirstDone [] x.deferred_edges s o s₁
          → IfDone (λ z s'. Came W s₀ r z.children z.deferred_edges s')
          (resolve_by W.g (λ x'. resolve_deferred W.g cl n x') x o s₁)
      by ih none s₁ fd = record { post = came_on W cm fd.inv fd.step }
      by ih (some y) s₁ fd =
          bind (structurize_select_into W.g x.children bool_cond
          (lazy (pick (is_always x.deferred_edges) true_cond y.bundle.condition))
          (ok y.claimed_region ∷ err y.others ∷ []) s₁) _
          (found_post s₀ r x s s₁ cm y fd.inv fd.step fd.found) ih
