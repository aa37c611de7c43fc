-- A select over cases: what it defers is in scope, and its run follows the graph's wherever the children before it take a case.
use Rattle.std.specs.Prelude.{Bool, ◌||◌, false, true, List, [], ◌∷◌, map, ◌⊎◌, ◌≡◌, ◌<◌, ◌≤◌, ℕ, eqb, get_or, length}
use Rattle.std.proofs.Math.Bool.{or-true}
use Rattle.std.proofs.Common.{inl, inr, ◌∙◌, subst, eqb-true}
use Rattle.std.proofs.Math.Option.{none, some}
use Rattle.std.proofs.Math.Path.{ap, refl, sym}
use Rattle.meaning.specs.Runs.{Cases, Nodes, ◌▸◌, ⟨⟩, pay, run_nodes, through, End, Event, RunState, mark, word}
use Rattle.meaning.specs.Graph.{SelectionKind, Value, bool, bool_cond, const, held, input, instr, number, output, undef, no_value}
use Rattle.meaning.specs.facts.Tests.{clash, eqb_self, false_if, or_left, or_right}
use Rattle.nesting.specs.Nesting.{new_select, Body, ClaimedRegion, MaybeClaimedRegion, Scrutinee, deferred_of, err, has_children, join, ok}
use Rattle.nesting.specs.Nesting.{DeferredEdgeBundle, to_region, DeferredTargetSummary, any_needs_select, any_non_empty_case}
use Rattle.nesting.specs.Nesting.{deferred_targets, in_parent, plan_bundles, DefinedSelect, shared_bundle, NestState, NodeOutput}
use Rattle.nesting.specs.Nesting.{look_up_nodes}
use Rattle.nesting.specs.lookups.Rewriting.{rewrite_claimed, rewrite_nodes, rewrite, rewrite_case}
use Rattle.meaning.specs.facts.Elements.{In, from_map, nth, nth_in, nth_map}
use Rattle.nesting.specs.steps.TargetsAndCases.{children_in}
use Rattle.follows.specs.simulation.Key.{Key, is_constant, is_node, key, node_key, nodes_none, of_node, owns_cases, owns_join}
use Rattle.follows.specs.simulation.Key.{owns_nodes}
use Rattle.follows.specs.simulation.World.{Fits, World, ar, fits_same, runs}
use Rattle.follows.specs.simulation.Tables.{Gains, Resolver, Respects, Tables, gains_refl, lookup_keeps, respects_back, tables}
use Rattle.follows.specs.simulation.Leads.{Based, Goes, Leads, Sim, Tracks, leads_then}
use Rattle.follows.specs.simulation.Bundles.{DistinctBundles}
use Rattle.follows.specs.simulation.Planned.{EmitsAll}
use Rattle.follows.specs.simulation.SelectGoes.{select_goes}
use Rattle.follows.specs.simulation.SelectRuns.{select_follows}
use Rattle.follows.specs.simulation.Scope.{Agrees, Scoped, SetOk, goes_same, in_apart, onward_same, scoped_const, scoped_later}
use Rattle.follows.specs.simulation.Scope.{scoped_output, scoped_rewritten, within_left}
use Rattle.follows.specs.simulation.Invariant.{new}
use Rattle.follows.specs.simulation.ClaimedRegions.{CaseOk, CasesOk, Doing}
use Rattle.follows.specs.simulation.EnterCase.{Enters, ScrutineeIs, Takes, enter_follows, getD_rewritten, set_rewritten}
use Rattle.follows.specs.simulation.EnterCase.{tracks_rewritten}
use Rattle.follows.specs.simulation.Targets.{FitAll, targets_distinct, targets_fit, targets_have}
use Rattle.follows.specs.simulation.SelectDefined.{CasesFrom, cases_apart, cases_children, cases_count, scrutinee_stays}
use Rattle.follows.specs.simulation.EmittedSet.{emits_all_stay, no_select, no_select_number, no_select_outputs, set_emitted}
use Rattle.follows.specs.simulation.EmittedSet.{shared_all, shared_no_condition}
use Rattle.follows.specs.simulation.SelectSteps.{SelectMade, Shape, made, unmade}
use Rattle.meaning.specs.Lists.{pick}

-- A case's value u is v outside of it: the same constant, or what stands for an input of its own.
abbrev SeenOutside : ClaimedRegion → Value → Value → Type 0
SeenOutside c u v = ((v ≡ u) × (is_constant u ≡ true)) ⊎
    ((k : ℕ) × (u ≡ input c.structured_body k) × (v ≡ get_or c.structured_body_inputs k (undef 0)))

in_parent_of : (c : ClaimedRegion) (u v : Value) → in_parent (ok c) u ≡ some v → SeenOutside c u v
in_parent_of c (const i) v p = inl (cc, refl)
in_parent_of c (bool b) v p = inl (cc, refl)
in_parent_of c (undef ty) v p = inl (cc, refl)
in_parent_of c no_value v p = absurd (clash (cc))
in_parent_of c (held r k) v p = absurd (clash (cc))
in_parent_of c (instr r k) v p = absurd (clash (cc))
in_parent_of c (output k) v p = absurd (clash (cc))
in_parent_of c (input r k) v p = go (eqb r c.structured_body) refl p
  where
    go : (b : Bool) → eqb r c.structured_body ≡ b → pick b (some (get_or c.structured_body_inputs k (undef 0))) none ≡ some v
        → SeenOutside c (input r k) v
    go true e q = inr (k, ap (λ z. input z k) (eqb-true r c.structured_body e), cc)
    go false e q = absurd (clash (cc))

pub select_owns : (κ : Key) (n : ℕ) (kind : SelectionKind) (sc : Value) (ccs : Cases) → owns_nodes (new_select n kind sc ccs ▸ ⟨⟩) κ ≡ false
    → (is_node n κ ≡ false) × (owns_cases ccs κ ≡ false)
unfolding owns_nodes
select_owns κ n kind sc ccs h =
    let z : (is_node n κ || owns_cases ccs κ) ≡ false = or_left (is_node n κ || owns_cases ccs κ) false h in
    (or_left (is_node n κ) (owns_cases ccs κ) z, or_right (is_node n κ) (owns_cases ccs κ) z)

pub none_owns : (κ : Key) → owns_nodes ⟨⟩ κ ≡ false
unfolding owns_nodes
none_owns κ = refl

own_node : (n : ℕ) (kind : SelectionKind) (sc : Value) (ccs : Cases) → owns_nodes (new_select n kind sc ccs ▸ ⟨⟩) (of_node n) ≡ true
unfolding owns_nodes
own_node n kind sc ccs = rw (eqb_self n)

pub no_children : (cases : List MaybeClaimedRegion) → any_non_empty_case cases ≡ false → (c : MaybeClaimedRegion) → In c cases
    → children_in c ≡ ⟨⟩
no_children [] h c i = absurd i
no_children (err d ∷ cs) h c (inl p) = rw p
no_children (err d ∷ cs) h c (inr i) = no_children cs h c i
no_children (ok x ∷ cs) h c (inl p) = rw p (go x.children (or_left (has_children x.children) (any_non_empty_case cs) h))
  where
    go : (ks : Nodes) → has_children ks ≡ false → ks ≡ ⟨⟩
    go ⟨⟩ q = refl
    go (t ▸ ks) q = absurd (clash (cc))
no_children (ok x ∷ cs) h c (inr i) = no_children cs (or_right (has_children x.children) (any_non_empty_case cs) h) c i

module _ (W : World) where
  -- entering a case depends on what is in scope alone
  pub enters_same : {s₀ s₁ : NestState} {r : ℕ} {ks : Nodes} (c : MaybeClaimedRegion) → CaseOk W s₀ r ks s₁ c
      → (ρ : Resolver) (os : List NodeOutput)
      → Respects ρ os (tables s₁) → (s s' : RunState) → Agrees W ρ os r (ar W r) ks s s'
      → (n : ℕ) (e : End) (h : List Event) → Enters W ρ os n e h s c → Enters W ρ os n e h s' c
  enters_same (ok c) fit ρ os res s s' ag n e h en =
      onward_same W ρ s s' ag.events n e h (to_region c.origin) c.structured_body_inputs
      (λ i. ag.env _ ((fit.is.inputs i).scoped ρ os res)) en
  enters_same (err d) fit ρ os res s s' ag n e h en = goes_same W ρ os res s s' ag fit.is n e h en

  pub pay_agrees : (ρ : Resolver) (os : List NodeOutput) (q a : ℕ) (ks : Nodes) (c : ℕ) (s : RunState) → Agrees W ρ os q a ks s (pay c s)
  pay_agrees ρ os q a ks c s = record { events = refl; env = λ v i. refl }

  pub based_pay : (c : ℕ) (s : RunState) → Based W s → Based W (pay c s)
  based_pay c s bs = record { based = bs.based }

  module _ (s₀ : NestState) (r : ℕ) (ks : Nodes) (kind : SelectionKind) (sc : Scrutinee) (cases : List MaybeClaimedRegion) (s : NestState)
      (dg : Doing W s₀ r ks s) (fit : CasesOk W s₀ r ks s cases)
      (scrutinee_ok : (T : Tables) → Gains (tables s) T → (v : Value) → ScrutineeIs sc T.outputs v → Scoped T r (ar W r) ks v)
      (y : Body) (s' : NestState) (al : SelectMade W s₀ r ks kind sc cases s dg fit y s') where
    abbrev σ : Resolver
    σ = rewrite s.region_input_rewrites

    abbrev cs : List MaybeClaimedRegion
    cs = map (rewrite_case σ) cases

    abbrev ws : List DeferredTargetSummary
    ws = deferred_targets cs []

    -- each looked_up case's set, in its own scope
    rewritten_distinct : (c : MaybeClaimedRegion) → In c cases → DistinctBundles (deferred_of (rewrite_case σ c))
    rewritten_distinct (ok c) i =
        (set_rewritten W (fit.each (ok c) i).is.holds.unrewritten c.deferred_edges (fit.each (ok c) i).is.holds.set).distinct
    rewritten_distinct (err d) i = (set_rewritten W dg.unrewritten d (fit.each (err d) i).is).distinct

    rewritten_fits : (c : MaybeClaimedRegion) → In c cases → (e : DeferredEdgeBundle) → In e (deferred_of (rewrite_case σ c))
        → Fits W e.target (length e.target_inputs)
    rewritten_fits (ok c) i e k =
        ((set_rewritten W (fit.each (ok c) i).is.holds.unrewritten c.deferred_edges
        (fit.each (ok c) i).is.holds.set).entries e k).fits
    rewritten_fits (err d) i e k = ((set_rewritten W dg.unrewritten d (fit.each (err d) i).is).entries e k).fits

    rewritten_shares : (c : MaybeClaimedRegion) → In c cases → (e : DeferredEdgeBundle) → In e (deferred_of (rewrite_case σ c))
        → (i : ℕ) (v : Value)
        → in_parent (rewrite_case σ c) (get_or e.target_inputs i (undef 0)) ≡ some v → Scoped (tables s) r (ar W r) ks v
    rewritten_shares (err d) i e k j v p = let q : v ≡ get_or e.target_inputs j (undef 0) = cc in
        rw q (((set_rewritten W dg.unrewritten d (fit.each (err d) i).is).entries e k).inputs j)
    rewritten_shares (ok c) i e k j v p = go (in_parent_of (rewrite_claimed σ c) (get_or e.target_inputs j (undef 0)) v p)
      where
        go : SeenOutside (rewrite_claimed σ c) (get_or e.target_inputs j (undef 0)) v → Scoped (tables s) r (ar W r) ks v
        go (inl (q, con)) = rw q (scoped_const _ con)
        go (inr (l, q, q')) = rw (q', getD_rewritten W s.region_input_rewrites c.structured_body_inputs l)
            (scoped_rewritten dg.unrewritten (get_or c.structured_body_inputs l (undef 0)) ((fit.each (ok c) i).is.inputs l))

    shares : (c : MaybeClaimedRegion) → In c cs → (e : DeferredEdgeBundle) → In e (deferred_of c) → (i : ℕ) (v : Value)
        → in_parent c (get_or e.target_inputs i (undef 0)) ≡ some v → Scoped (tables s') r (ar W r) (join ks al.more) v
    shares c i e k j v p =
        let x = from_map (rewrite_case σ) cases c i in
        scoped_later al.moves.gains (within_left ks al.more) (rewritten_shares x.0 x.1 e (rw x.2 at k) j v (rw x.2 at p))

    fits : FitAll W ws
    fits = targets_fit W cs (λ c i e k. let x = from_map (rewrite_case σ) cases c i in rewritten_fits x.0 x.1 e (rw x.2 at k)) []
        (λ w i. absurd i)

    pub select_set : SetOk W (tables s') r (ar W r) (join ks al.more) y.deferred_edges
    select_set = by al.more refl al.shape
      where
        by : (T : Nodes) → al.more ≡ T → Shape W s₀ r ks kind sc cases s dg fit T y.deferred_edges s'.node_outputs
            → SetOk W (tables s') r (ar W r) (join ks al.more) y.deferred_edges
        by T te (made m) =
            let n = m.node in
            let own : owns_nodes (join ks al.more) (of_node n.node) ≡ true =
            owns_join ks al.more (of_node n.node)
            ∙ ap (λ x. owns_nodes ks (of_node n.node) || owns_nodes x (of_node n.node)) (te ∙ m.children_is) ∙ ap
            (λ x. owns_nodes ks (of_node n.node) || x) (own_node n.node n.kind n.scrutinee m.cases_of)
            ∙ or-true (owns_nodes ks (of_node n.node)) in
            set_emitted W (tables s') r (join ks al.more) cs shares n (λ k o p. scoped_output p own) ws y.deferred_edges
            m.emits fits (targets_distinct cs [] tt)
            (λ w i cds p. record {
              is = (
                scoped_later (gains_refl (tables s')) (within_left ks al.more)
                    (scrutinee_ok (tables s') al.moves.gains n.scrutinee m.scrutinee_is),
                own,
              );
            })
        by T te (unmade is_tree nk nn is_d) =
            let nb : DefinedSelect = no_select s'.node_outputs in
            rw is_d (set_emitted W (tables s') r (join ks al.more) cs shares nb
            (λ k o p. absurd (no_select_outputs s'.node_outputs k o p)) ws _
            (shared_all s'.node_outputs nb (plan_bundles W.g cs) nn) fits (targets_distinct cs [] tt)
            (λ w i cds p. absurd (shared_no_condition W.g cs ws nn w i cds p)))

    -- ---- a run of the select
    module _ (ρ : Resolver) (os : List NodeOutput) (res : Respects ρ os (tables s')) (b k : ℕ) (le : k ≤ b) (st : RunState)
        (bs : Based W st)
        (apart : (i : ℕ) → i < ar W r → owns_nodes (join ks al.more) (key os (ρ (input r i))) ≡ false) (e : End) (h : List Event) where
      res₀ : Respects ρ os (tables s)
      res₀ = respects_back al.moves.gains res

      same : (v : Value) → ρ (σ v) ≡ ρ v
      same v = lookup_keeps res₀ v

      alike : (c : MaybeClaimedRegion) → In c cases → (x : DeferredEdgeBundle) (i : ℕ) (v : Value)
          → in_parent (rewrite_case σ c) (get_or x.target_inputs i (undef 0)) ≡ some v → ρ v ≡ ρ (get_or x.target_inputs i (undef 0))
      alike (err d) i x j v p = let q : v ≡ get_or x.target_inputs j (undef 0) = cc in rw q
      alike (ok c) i x j v p = go (in_parent_of (rewrite_claimed σ c) (get_or x.target_inputs j (undef 0)) v p)
        where
          go : SeenOutside (rewrite_claimed σ c) (get_or x.target_inputs j (undef 0)) v → ρ v ≡ ρ (get_or x.target_inputs j (undef 0))
          go (inl (q, con)) = ap ρ q
          go (inr (l, q, q')) = ap ρ (q' ∙ getD_rewritten W s.region_input_rewrites c.structured_body_inputs l) ∙ same
              (get_or c.structured_body_inputs l (undef 0)) ∙ sym (ap ρ q ∙ al.law ρ os res c i l)

      wants : (c : MaybeClaimedRegion) → In c cases → In (rewrite_case σ c) cs → (x : DeferredEdgeBundle)
          → In x (deferred_of (rewrite_case σ c))
          → (z : DeferredTargetSummary) × In z ws × (z.target ≡ x.target) × (z.input_count ≡ length x.target_inputs)
      wants c i i' x k =
          let hs = targets_have W cs [] (rewrite_case σ c) i' x k in (
            hs.it,
            hs.there,
            hs.target,
            fits_same W hs.it.target hs.it.input_count (length x.target_inputs) (fits hs.it hs.there)
                (rw hs.target (rewritten_fits c i x k)),
          )

      pub in_more : (i : ℕ) → i < ar W r → owns_nodes al.more (key os (ρ (input r i))) ≡ false
      in_more i lt = or_right (owns_nodes ks (key os (ρ (input r i)))) (owns_nodes al.more (key os (ρ (input r i))))
          (sym (owns_join ks al.more (key os (ρ (input r i)))) ∙ apart i lt)

      -- case c is entered
      pub entered : (c : MaybeClaimedRegion) → In c cases
          → ((i : ℕ) → i < ar W r → owns_nodes (children_in c) (key os (ρ (input r i))) ≡ false) → (s₁ : RunState)
          → Agrees W ρ os r (ar W r) ks st s₁ → Based W s₁
          → Enters W ρ os k e h st c → Tracks W ρ os k (deferred_of c) e h (runs W b (rewrite_nodes ρ os (children_in c)) s₁)
      entered c i far s₁ ag bs₁ en =
          enter_follows W s₀ r ks s c (fit.each c i) ρ os res₀ b k le s₁ bs₁
          (λ x p j. al.law ρ os res x (subst (λ z. In z cases) p i) j) far e h
          (enters_same c (fit.each c i) ρ os res₀ st s₁ ag k e h en)

      pub not_out : (n : ℕ) → s.node_count ≤ n → (κ : Key) → owns_nodes ks κ ≡ true → is_node n κ ≡ false
      not_out n above κ o = false_if (is_node n κ) (λ p. dg.clear (of_node n) (rw (node_key n κ p) at o) (new above))

      at_bool : (x : Bool) → st.env (ρ (bool x)) ≡ word (pick x 1 0)
      at_bool x = ap st.env (res.on_bool x) ∙ bs.based (bool x) refl ∙ W.on_bool x

      at_undef : (ty : ℕ) → st.env (ρ (undef ty)) ≡ mark
      at_undef ty = ap st.env (res.on_undef ty) ∙ bs.based (undef ty) refl ∙ W.on_undef ty

      pub far_made : (n : DefinedSelect) (ccs : Cases) → al.more ≡ new_select n.node n.kind n.scrutinee ccs ▸ ⟨⟩ → (i : ℕ)
          → i < ar W r
          → (is_node n.node (key os (ρ (input r i))) ≡ false) × (owns_cases ccs (key os (ρ (input r i))) ≡ false)
      far_made n ccs te i lt = select_owns (key os (ρ (input r i))) n.node n.kind n.scrutinee ccs (rw te at (in_more i lt))

      pub made_follows : (n : DefinedSelect) (ccs : Cases) → al.more ≡ new_select n.node n.kind n.scrutinee ccs ▸ ⟨⟩
          → n.kind ≡ kind
          → ScrutineeIs sc s'.node_outputs n.scrutinee → CasesFrom cases ccs → s.node_count ≤ n.node
          → EmitsAll s'.node_outputs n (plan_bundles W.g cs) y.deferred_edges → Takes W kind sc cases ρ os k e h st
          → Tracks W ρ os k y.deferred_edges e h (runs W b (rewrite_nodes ρ os al.more) st)
      made_follows n ccs te ke is mf above em tk =
          let c = tk.case_of in
          let i = nth_in cases tk.place_of c tk.at_place in
          let at_j = nth_map (rewrite_case σ) cases tk.place_of c tk.at_place in
          let i' = nth_in cs tk.place_of (rewrite_case σ c) at_j in
          let tst = tk.tests n.scrutinee (scrutinee_stays sc s'.node_outputs os res.outputs n.scrutinee is) in
          let far : (x : ℕ) → x < ar W r → owns_nodes (children_in c) (key os (ρ (input r x))) ≡ false =
          λ x lt. cases_apart cases ccs mf (key os (ρ (input r x)))
          (far_made n ccs te x lt).1 c i in
          let sc₁ = (scrutinee_ok (tables s') al.moves.gains n.scrutinee is).scoped ρ os res in
          rw te (select_follows W ρ os (tables s) res₀ n ccs cs tk.place_of (rewrite_case σ c) (children_in c) at_j
          (cases_children cases ccs mf tk.place_of c tk.at_place)
          (rewritten_distinct c i) b k st bs tst.0 tst.1 (rw (ke, cases_count cases ccs mf) tst.2) e h
          (tracks_rewritten W ρ σ same os k c e h _
          (entered c i far (pay W.g.test_cost st) (pay_agrees ρ os r (ar W r) ks W.g.test_cost st)
          (based_pay W.g.test_cost st bs) tk.enters))
          (in_apart (owns_nodes (children_in c)) (ρ n.scrutinee) (nodes_none (children_in c)) far (λ κ o. not_in c i κ o) sc₁)
          (in_apart (is_node n.node) (ρ n.scrutinee) refl (λ x lt. (far_made n ccs te x lt).0) (not_out n.node above) sc₁)
          (λ x x_in j v p. (
            alike c i x j v p,
            in_apart (is_node n.node) (ρ v) refl (λ z lt. (far_made n ccs te z lt).0) (not_out n.node above)
                ((rewritten_shares c i x x_in j v p).scoped ρ os res₀),
          ))
          ws (wants c i i') y.deferred_edges
          (emits_all_stay n (plan_bundles W.g cs) s'.node_outputs os res.outputs y.deferred_edges em))
        where
          not_in : (c : MaybeClaimedRegion) → In c cases → (κ : Key) → owns_nodes ks κ ≡ true → owns_nodes (children_in c) κ ≡ false
          not_in (ok x) i κ o = false_if (owns_nodes x.children κ) (λ p. (fit.each (ok x) i).is.apart κ o p)
          not_in (err d) i κ o = none_owns κ

      unmade_goes : (c : MaybeClaimedRegion) (j : ℕ) → nth cases j ≡ some c → any_non_empty_case cases ≡ false
          → any_needs_select (plan_bundles W.g cs) ≡ false
          → Enters W ρ os k e h st c → Goes W ρ os k (map shared_bundle (plan_bundles W.g cs)) e h st
      unfolding run_nodes look_up_nodes
      unmade_goes c j at_c nk nn en =
          let i = nth_in cases j c at_c in
          let at_j = nth_map (rewrite_case σ) cases j c at_c in
          let i' = nth_in cs j (rewrite_case σ c) at_j in
          let nb : DefinedSelect = no_select os in
          let none : children_in c ≡ ⟨⟩ = no_children cases nk c i in
          let fl : Tracks W ρ os k (deferred_of c) e h (runs W b (rewrite_nodes ρ os (children_in c)) st) = entered c i
          (λ x lt. rw none (none_owns (key os (ρ (input r x))))) st (record { events = refl; env = λ v z. refl }) bs en in
          let fl' : Tracks W ρ os k (deferred_of c) e h (through st) = rw none at fl in
          let go : Goes W ρ os k (deferred_of (rewrite_case σ c)) e h st =
          (tracks_rewritten W ρ σ same os k c e h (through st) fl').leads_to in
          let x = wants c i i' go.entry go.chosen.member in
          select_goes W ρ os nb cs j (rewrite_case σ c) at_j st st refl res.on_output at_bool at_bool at_undef
          (λ z o p. absurd (no_select_outputs os z o p))
          (λ p. absurd (let q : number ≡ bool_cond = sym (no_select_number os) ∙ p in clash (cc)))
          k e h go (rewritten_distinct c i) (λ z v p. ap st.env (alike c i go.entry z v p))
          ws x.0 x.1 x.2 x.3 (map shared_bundle (plan_bundles W.g cs)) (shared_all os nb (plan_bundles W.g cs) nn)

      pub unmade_follows : al.more ≡ ⟨⟩ → any_non_empty_case cases ≡ false → any_needs_select (plan_bundles W.g cs) ≡ false
          → y.deferred_edges ≡ map shared_bundle (plan_bundles W.g cs) → Takes W kind sc cases ρ os k e h st
          → Tracks W ρ os k y.deferred_edges e h (runs W b (rewrite_nodes ρ os al.more) st)
      unfolding run_nodes look_up_nodes
      unmade_follows te nk nn de tk =
          rw (te, de) (record { leads_to = unmade_goes tk.case_of tk.place_of tk.at_place nk nn tk.enters })

    pub select_sim : Leads W r r ks (tables s) (Takes W kind sc cases) → Sim W r r (join ks al.more) y.deferred_edges (tables s')
    select_sim ld = leads_then W al.more y.deferred_edges (Takes W kind sc cases) ld al.moves.gains
        λ ρ os res b n le st bs apart e h tk. by ρ os res b n le st bs apart e h tk al.more refl al.shape
      where
        by : (ρ : Resolver) (os : List NodeOutput) → Respects ρ os (tables s') → (b n : ℕ) → n ≤ b → (st : RunState) → Based W st
            → ((i : ℕ) → i < ar W r → owns_nodes (join ks al.more) (key os (ρ (input r i))) ≡ false) → (e : End) (h : List Event)
            → Takes W kind sc cases ρ os n e h st
            → (T : Nodes) → al.more ≡ T → Shape W s₀ r ks kind sc cases s dg fit T y.deferred_edges s'.node_outputs
            → Tracks W ρ os n y.deferred_edges e h (runs W b (rewrite_nodes ρ os al.more) st)
        by ρ os res b n le st bs apart e h tk T te (made m) =
            made_follows ρ os res b n le st bs apart e h m.node m.cases_of (te ∙ m.children_is) m.kind_is m.scrutinee_is
            m.from m.above m.emits tk
        by ρ os res b n le st bs apart e h tk T te (unmade is_tree nk nn is_d) =
            unmade_follows ρ os res b n le st bs apart e h (te ∙ is_tree) nk nn is_d tk
