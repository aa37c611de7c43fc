-- A region's children after its terminator: nothing, an exit, the one target appended, or a select over the targets.
use Rattle.std.specs.Prelude.{Bool, false, true, List, [], ◌∷◌, map, ◌⊎◌, ◌≡◌, refl, ◌<◌, ◌≤◌, pred, suc, zero, ℕ, ltb, get_or, length}
use Rattle.std.proofs.Math.Bool.{or-false}
use Rattle.std.proofs.lemmas.Simd.{map-map}
use Rattle.std.proofs.Common.{inl, inr, ◌∙◌, ap, subst, arith, ltb-true}
use Rattle.std.proofs.Math.Option.{none, some}
use Rattle.std.proofs.Math.Path.{sym}
use Rattle.meaning.specs.Runs.{Nodes, ◌▸◌, exit, ⟨⟩, Ended, along, edge_taken, run_nodes, End, Event, RunState, Word, exited, mark}
use Rattle.meaning.specs.Runs.{place_taken, returned, word}
use Rattle.meaning.specs.Graph.{ControlInst, Edge, SelectionKind, Value, bool_cond, branch, edges_of, exit_invocation, number, region}
use Rattle.meaning.specs.Graph.{return, select_branch, unreachable}
use Rattle.meaning.specs.facts.Tests.{clash}
use Rattle.meaning.specs.facts.Numbers.{pred_below}
use Rattle.nesting.specs.Nesting.{blocks_of, MaybeClaimedRegion, append_maybe_claimed_region, err, join, ok, value, define_node}
use Rattle.nesting.specs.Nesting.{by_control_inst, DeferredEdgeBundle, to_region, to_return, true_cond, structurize_select_into, NestState}
use Rattle.nesting.specs.Nesting.{NodeOutput, look_up_nodes}
use Rattle.nesting.specs.lookups.Rewriting.{rewrite_nodes}
use Rattle.nesting.specs.steps.Post.{bind, map_post}
use Rattle.nesting.specs.steps.TargetsAndCases.{children_in}
use Rattle.follows.specs.simulation.Usable.{AllUsable, EdgeUsable, EdgesUsable, TerminatorUsable, after_blocks}
use Rattle.meaning.specs.facts.Elements.{In, nth, nth_getD}
use Rattle.follows.specs.simulation.Key.{Key, owns_join, owns_nodes}
use Rattle.follows.specs.simulation.World.{World, ar, from_region, runs}
use Rattle.follows.specs.simulation.Tables.{Resolver, Respects, tables}
use Rattle.follows.specs.simulation.Leads.{Based, Leads, OnwardTo, Reached, Tracks, ends_with, leads_map, leads_then}
use Rattle.follows.specs.simulation.OwnBlocks.{Agree, AtTerminator, blocks_lead}
use Rattle.follows.specs.simulation.Defined.{IfDone, define_node_post}
use Rattle.follows.specs.simulation.Scope.{EntryOk}
use Rattle.follows.specs.simulation.Invariant.{inv_grew, later_grew}
use Rattle.follows.specs.simulation.ClaimedRegions.{Came, CaseOk, CasesOk, Doing, doing_on, doing_with}
use Rattle.follows.specs.simulation.EnterCase.{Takes}
use Rattle.follows.specs.simulation.Append.{TailIs, append_post, append_sim}
use Rattle.follows.specs.simulation.ConvergentFollows.{structurize_select_into_post}
use Rattle.follows.specs.simulation.AtTerminator.{EdgeEnters, one_goes, reads_of, usable_all, usable_scoped}
use Rattle.meaning.specs.Lists.{pick}

place_below : (kind : SelectionKind) (x n : ℕ) → (kind ≡ bool_cond → n ≡ 2) → 1 ≤ n → place_taken kind x n < n
place_below bool_cond zero n two le = let z = two refl in omega arith
place_below bool_cond (suc x) n two le = omega arith
place_below number x n two le = go (ltb x n) refl
  where
    go : (b : Bool) → ltb x n ≡ b → pick b x (pred n) < n
    go true p = ltb-true x n p
    go false p = pred_below n le

ends_same : {a b : End} {x y : List Event} → ends_with a x ≡ ends_with b y → (a ≡ b) × (x ≡ y)
ends_same {a} {b} {x} {y} p = let both : ◌≡◌ {A = Ended} (record { end = a; events = x }) (record { end = b; events = y }) = cc in
    (ap (λ z. z.end) both, ap (λ z. z.events) both)

module _ (W : World) where
  edge_at : (r : ℕ) (es : List Edge) → EdgesUsable W.g r es → (j : ℕ) (ed : Edge) → nth es j ≡ some ed → EdgeUsable W.g r ed
  edge_at r [] h j ed q = absurd (clash (cc))
  edge_at r (x ∷ es) (h, hs) zero ed q = let z : x ≡ ed = cc in subst (λ y. EdgeUsable W.g r y) z h
  edge_at r (x ∷ es) (h, hs) (suc j) ed q = edge_at r es hs j ed q

  exit_owns : (ks : Nodes) (n op : ℕ) (vs : List Value) (κ : Key) → owns_nodes (join ks (exit n op vs ▸ ⟨⟩)) κ ≡ true
      → owns_nodes ks κ ≡ true
  unfolding owns_nodes
  exit_owns ks n op vs κ o = sym (or-false (owns_nodes ks κ)) ∙ sym (owns_join ks (exit n op vs ▸ ⟨⟩) κ) ∙ o

  exit_follows : (ρ : Resolver) (os : List NodeOutput) (b k n op : ℕ) (vs : List Value) (st : RunState) (e : End) (h : List Event)
      → exited op (map (λ v. st.env (ρ v)) vs) ≡ e → st.events ≡ h
      → Tracks W ρ os k [] e h (runs W b (rewrite_nodes ρ os (exit n op vs ▸ ⟨⟩)) st)
  unfolding run_nodes look_up_nodes
  exit_follows ρ os b k n op vs st e h p q = record { leads_to = (ap (exited op) (map-map st.env ρ vs) ∙ p, q) }

  module _ (s₀ : NestState) (r : ℕ) (s : NestState) (dg : Doing W s₀ r (blocks_of W.g r) s) (cs : List MaybeClaimedRegion)
      (fit : CasesOk W s₀ r (blocks_of W.g r) s cs) where
    abbrev ks : Nodes
    ks = blocks_of W.g r

    lead : (Q : Reached W)
        → ((ρ : Resolver) (os' : List NodeOutput) → Respects ρ os' (tables s) → (n : ℕ) (e : End) (h : List Event) (st : RunState)
        → Based W st
        → AtTerminator W r ρ n e h st → Q ρ os' n e h st) → Leads W r r ks (tables s) Q
    lead Q f = leads_map W _ Q (blocks_lead W r (W.valid.blocks r dg.in_range) (tables s)) f

    unreachable_came : (region W.g r).terminator ≡ unreachable → Came W s₀ r ks [] s
    unreachable_came p = record {
      doing = dg;
      sim = (lead _ λ ρ os' res n e h st bs at. absurd (let z : none ≡ ends_with e h = rw p at at.ends in clash (cc)));
      set = record { distinct = tt; entries = λ e i. absurd i };
    }

    return_came : (vs : List Value) → (region W.g r).terminator ≡ return vs → TerminatorUsable W.g r (return vs)
        → Came W s₀ r ks (record { target = to_return; accumulated_count = 0; target_inputs = vs; condition = true_cond } ∷ []) s
    return_came vs p (us, len) = record {
      doing = dg;
      sim = (lead _ λ ρ os' res n e h st bs at.
          let both = ends_same (rw p at at.ends) in
          let e₁ = both.0 in
          let e₂ = both.1 in
          let rd = reads_of W r dg.in_range ρ at.graph st at.agree vs us in
          let ps = at.agree.events in
          one_goes W ρ os' (tables s) res n e h st bs
          (record { target = to_return; accumulated_count = 0; target_inputs = vs; condition = true_cond }) refl
          (sym e₁ ∙ ap returned rd, sym e₂ ∙ ps));
      set = record { distinct = ((λ y i. absurd i), tt); entries = one };
    }
      where
        one : (e : DeferredEdgeBundle)
            → (e ≡ record { target = to_return; accumulated_count = 0; target_inputs = vs; condition = true_cond }) ⊎ ⊥
            → EntryOk W (tables s) r (ar W r) ks e
        one e (inl q) = rw q (record { fits = len; inputs = usable_all W r (tables s) vs us; condition = record { is = tt } })
        one e (inr no_way) = absurd no_way

    onward_to : (ed : Edge) → EdgeUsable W.g r ed → (ρ : Resolver) (n fewer : ℕ) → fewer < n
        → (e : End) (h : List Event) (a st : RunState)
        → Agree ρ r (ar W r) (after_blocks 0 (region W.g r).blocks) a st
        → from_region W fewer ed.target (map a.env ed.inputs) a.events ≡ ends_with e h
        → OnwardTo W ρ st n e h (to_region ed.target) ed.inputs
    onward_to ed eo ρ n fewer is_fewer e h a st ag gr =
        (fewer, is_fewer, eo.many, rw (reads_of W r dg.in_range ρ a st ag ed.inputs eo.inputs, ag.events) at gr)

    branch_post : (ed : Edge) → (region W.g r).terminator ≡ branch ed → EdgeUsable W.g r ed → (c : MaybeClaimedRegion)
        → CaseOk W s₀ r ks s c
        → EdgeEnters W (tables s) ed.target ed.inputs c
        → IfDone (λ x s'. Came W s₀ r x.children x.deferred_edges s') (append_maybe_claimed_region ks c s)
    branch_post ed p eo c c_ok stc = map_post (append_maybe_claimed_region ks c s) (append_post W s₀ r ks c s dg (tail c c_ok)) λ y s' ad.
        subst (λ k. Came W s₀ r k y.deferred_edges s') (sym ad.children_is)
        (subst (λ d. Came W s₀ r (join ks (children_in c)) d s') (sym ad.set_is) (record {
          doing = ad.doing;
          sim = append_sim W s₀ r ks c s y s' c_ok ad
              (lead _ λ ρ os' res n e h st bs at. stc.enters ρ os' res n e h st bs
              (onward_to ed eo ρ n at.fewer at.is_fewer e h at.graph st at.agree (rw p at at.ends)));
          set = ad.set;
        }))
      where
        tail : (c : MaybeClaimedRegion) → CaseOk W s₀ r ks s c → TailIs W s₀ r ks s c
        tail (ok c) h = record { holds = h.is.holds; since = h.is.since; inputs = h.is.inputs; other = h.is.other }
        tail (err d) h = h.is

    exit_post : (op : ℕ) (vs : List Value) → (region W.g r).terminator ≡ exit_invocation op vs
        → AllUsable r (ar W r) (after_blocks 0 (region W.g r).blocks) vs
        → IfDone (λ x s'. Came W s₀ r x.children x.deferred_edges s') (by_control_inst W.g ks (exit_invocation op vs) cs s)
    exit_post op vs p us =
        bind (define_node s) _ (define_node_post s) λ n s₁ hn.
        let gr = hn.2 in
        let dg₁ = doing_on W dg (inv_grew W gr dg.inv) (later_grew W gr) in
        record {
          post = record {
            doing = doing_with W (join ks (exit n op vs ▸ ⟨⟩)) dg₁
                (λ κ o. let q = exit_owns ks n op vs κ o in (dg₁.since κ q, dg₁.clear κ q));
            sim = leads_then W (exit n op vs ▸ ⟨⟩) [] (λ ρ os' n e h st. AtTerminator W r ρ n e h st)
                (blocks_lead W r (W.valid.blocks r dg.in_range) (tables s)) (later_grew W gr).gains
                λ ρ os' res b k le st bs apart e h at.
                let both = ends_same (rw p at at.ends) in
                let rd = reads_of W r dg.in_range ρ at.graph st at.agree vs us in
                exit_follows ρ os' b k n op vs st e h (ap (exited op) (sym rd) ∙ both.0) (sym at.agree.events ∙ both.1);
            set = record { distinct = tt; entries = λ e i. absurd i };
          };
        }

    select_branch_post : (kind : SelectionKind) (v : Value) (es : List Edge) → (region W.g r).terminator ≡ select_branch kind v es
        → TerminatorUsable W.g r (select_branch kind v es) → length cs ≡ length es
        → ((j : ℕ) (ed : Edge) → nth es j ≡ some ed → (c : MaybeClaimedRegion) × (nth cs j ≡ some c) × EdgeEnters W (tables s) ed.target
        ed.inputs c)
        → IfDone (λ x s'. Came W s₀ r x.children x.deferred_edges s') (structurize_select_into W.g ks kind (value v) cs s)
    select_branch_post kind v es p tu len steers =
        structurize_select_into_post W s₀ r ks kind (value v) cs s dg fit (λ T p u q. rw q (usable_scoped W r T v tu.scrutinee))
        (lead _ takes)
      where
        takes : (ρ : Resolver) (os : List NodeOutput) → Respects ρ os (tables s) → (n : ℕ) (e : End) (h : List Event) (st : RunState)
            → Based W st
            → AtTerminator W r ρ n e h st → Takes W kind (value v) cs ρ os n e h st
        takes ρ os res n e h st bs at = by (at.graph.env v) refl (rw p at at.ends)
          where
            by : (x : Word) → at.graph.env v ≡ x → along (λ y vs h'. from_region W at.fewer y vs h') at.graph.env
                at.graph.events (edge_taken kind x es) ≡ ends_with e h
                → Takes W kind (value v) cs ρ os n e h st
            by mark q gr = absurd (clash (cc))
            by (word x) q gr =
                let j : ℕ = place_taken kind x (length es) in
                let ed : Edge = get_or es j (record { target = 0; inputs = [] }) in
                let at_ed : nth es j ≡ some ed =
                nth_getD es j (record { target = 0; inputs = [] }) (place_below kind x (length es) tu.two tu.some) in
                let c = steers j ed at_ed in
                record {
                  place_of = j;
                  case_of = c.0;
                  at_place = c.1;
                  enters = c.2.enters ρ os res n e h st bs
                      (onward_to ed (edge_at r es tu.edges j ed at_ed) ρ n at.fewer at.is_fewer e h at.graph st at.agree gr);
                  tests = λ u is. (x, ap (λ z. st.env (ρ z)) is ∙ sym (at.agree.reads v tu.scrutinee) ∙ q, rw len);
                }

    pub by_control_inst_post : (tm : ControlInst) → (region W.g r).terminator ≡ tm → TerminatorUsable W.g r tm
        → length cs ≡ length (edges_of tm)
        → ((j : ℕ) (ed : Edge) → nth (edges_of tm) j ≡ some ed
        → (c : MaybeClaimedRegion) × (nth cs j ≡ some c) × EdgeEnters W (tables s) ed.target ed.inputs c)
        → IfDone (λ x s'. Came W s₀ r x.children x.deferred_edges s') (by_control_inst W.g ks tm cs s)
    by_control_inst_post unreachable p tok len steers = record { post = unreachable_came p }
    by_control_inst_post (return vs) p tok len steers = record { post = return_came vs p tok }
    by_control_inst_post (exit_invocation op vs) p tok len steers = exit_post op vs p tok
    by_control_inst_post (select_branch kind v es) p tok len steers = select_branch_post kind v es p tok len steers
    by_control_inst_post (branch ed) p tok len steers = by cs refl
      where
        by : (l : List MaybeClaimedRegion) → cs ≡ l → IfDone (λ x s'. Came W s₀ r x.children x.deferred_edges s')
            (by_control_inst W.g ks (branch ed) l s)
        by [] q = absurd (let z : 0 ≡ 1 = rw q at len in omega arith)
        by (c ∷ l) q =
            let st = steers 0 ed refl in
            let z : some c ≡ some st.0 = rw q at st.1 in
            let e : st.0 ≡ c = cc in
            branch_post ed p tok c (fit.each c (subst (λ m. In c m) (sym q) (inl refl)))
            (subst (λ y. EdgeEnters W (tables s) ed.target ed.inputs y) e st.2)
