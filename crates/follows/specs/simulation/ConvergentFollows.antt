-- A select of which one case goes on: the others end inside it, and that case's children follow it.
use Rattle.std.specs.Prelude.{◌||◌, false, List, [], ◌∷◌, map, ◌⊎◌, ◌≡◌, ◌<◌, ◌≤◌, ℕ, eqb, length}
use Rattle.std.proofs.Common.{inl, inr, ◌∙◌, ap, subst, sym}
use Rattle.std.proofs.Math.Option.{some}
use Rattle.std.proofs.Math.Path.{refl}
use Rattle.meaning.specs.Runs.{Cases, Nodes, ◌▸◌, ⟨⟩, Ran, and_then, case_count, ended, no_end, pay, run_nodes, through, End, Event}
use Rattle.meaning.specs.Runs.{RunState, place_taken, word}
use Rattle.meaning.specs.Graph.{SelectionKind, Value, input}
use Rattle.nesting.specs.Nesting.{new_select, Body, ClaimedRegion, MaybeClaimedRegion, Scrutinee, append_maybe_claimed_region}
use Rattle.nesting.specs.Nesting.{convergent_cases, deferred_of, err, join, ok, DeferredEdgeBundleSet, case_outputs, any_non_empty_case}
use Rattle.nesting.specs.Nesting.{DefinedSelect, structurize_select, structurize_select_by, without_convergent, structurize_select_into}
use Rattle.nesting.specs.Nesting.{NestState, NodeOutput, look_up_nodes}
use Rattle.nesting.specs.lookups.Rewriting.{rewrite_nodes}
use Rattle.nesting.specs.steps.Post.{bind, map_post}
use Rattle.meaning.specs.facts.Elements.{In, nth, nth_in}
use Rattle.meaning.specs.facts.Tests.{or_left, or_right}
use Rattle.nesting.specs.steps.TargetsAndCases.{children_in}
use Rattle.follows.specs.simulation.Key.{Key, is_node, key, key_constant, owns_cases, owns_join, owns_nodes}
use Rattle.follows.specs.simulation.World.{World, ar, runs}
use Rattle.follows.specs.simulation.Tables.{Gains, Resolver, Respects, Tables, respects_back, tables}
use Rattle.follows.specs.simulation.Frame.{outputs_kept}
use Rattle.follows.specs.simulation.Leads.{Based, Leads, Sim, Tracks, leads_then, rewrite_join, then_runs}
use Rattle.follows.specs.simulation.SelectGoes.{outputs_set}
use Rattle.follows.specs.simulation.SelectRuns.{select_runs}
use Rattle.follows.specs.simulation.Defined.{IfDone}
use Rattle.follows.specs.simulation.Scope.{Agrees, Scoped, in_apart, scoped_later, set_later, within_left}
use Rattle.follows.specs.simulation.ClaimedRegions.{Came, CaseOk, CasesOk, Doing}
use Rattle.follows.specs.simulation.EnterCase.{Enters, ScrutineeIs, Takes, enter_follows}
use Rattle.follows.specs.simulation.SelectDefined.{CasesFrom, cases_apart, cases_children, cases_count, scrutinee_stays}
use Rattle.follows.specs.simulation.SelectSteps.{Moved, SelectMade, Shape, holds_moved, made, moved_then, structurize_select_post}
use Rattle.follows.specs.simulation.SelectSteps.{unmade}
use Rattle.follows.specs.simulation.SelectFollows.{based_pay, entered, enters_same, far_made, no_children, none_owns, not_out}
use Rattle.follows.specs.simulation.SelectFollows.{pay_agrees, select_set, select_sim}
use Rattle.follows.specs.simulation.Append.{Appended, TailIs, append_post}
use Rattle.follows.specs.simulation.ConvergentCase.{Converges, converges}

join_assoc : (a b c : Nodes) → join (join a b) c ≡ join a (join b c)
join_assoc ⟨⟩ b c = refl
join_assoc (x ▸ a) b c = ap (λ k. x ▸ k) (join_assoc a b c)

module _ (W : World) where
  ends_there : (ρ : Resolver) (os : List NodeOutput) (n : ℕ) (x : MaybeClaimedRegion) (d : DeferredEdgeBundleSet) (e : End) (h : List Event)
      (R : Ran) (k : RunState
      → Ran) → deferred_of x ≡ [] → Tracks W ρ os n (deferred_of x) e h R → Tracks W ρ os n d e h (and_then R k)
  ends_there ρ os n x d e h (through s) k p fl = absurd (subst (λ l. In fl.leads_to.entry l) p fl.leads_to.chosen.member)
  ends_there ρ os n x d e h (ended e' s) k p fl = record { leads_to = fl.leads_to }
  ends_there ρ os n x d e h (no_end why) k p fl = record { leads_to = fl.leads_to }

  and_assoc : (R : Ran) (f g : RunState → Ran) → and_then (and_then R f) g ≡ and_then R (λ s. and_then (f s) g)
  and_assoc (through s) f g = refl
  and_assoc (ended e s) f g = refl
  and_assoc (no_end why) f g = refl

  abbrev tail_run : Resolver → List NodeOutput → ℕ → MaybeClaimedRegion → RunState → Ran
  tail_run ρ os b c st = runs W b (rewrite_nodes ρ os (children_in c)) st

  none_runs : (ρ : Resolver) (os : List NodeOutput) (k b : ℕ) (e : End) (h : List Event) (n j : ℕ)
      (st : RunState) {d : DeferredEdgeBundleSet} (f : RunState → Ran)
      → Tracks W ρ os k d e h (f (outputs_set ρ os n j (pay W.g.test_cost st)))
      → Tracks W ρ os k d e h
      (and_then (and_then (runs W b (rewrite_nodes ρ os ⟨⟩) (pay W.g.test_cost st)) (λ s'. through (outputs_set ρ os n j s'))) f)
  unfolding run_nodes look_up_nodes
  none_runs ρ os k b e h n j st f fl = fl

  module _ (s₀ : NestState) (r : ℕ) (ks : Nodes) (kind : SelectionKind) (sc : Scrutinee) (cases : List MaybeClaimedRegion) (s : NestState)
      (dg : Doing W s₀ r ks s) (fit : CasesOk W s₀ r ks s cases)
      (scrutinee_ok : (T : Tables) → Gains (tables s) T → (v : Value) → ScrutineeIs sc T.outputs v → Scoped T r (ar W r) ks v)
      (ld : Leads W r r ks (tables s) (Takes W kind sc cases)) where
    all_came : (x : Body) (s' : NestState) → SelectMade W s₀ r ks kind sc cases s dg fit x s'
        → Came W s₀ r x.children x.deferred_edges s'
    all_came x s' al = subst (λ k. Came W s₀ r k x.deferred_edges s') (sym al.children_is) (record {
      doing = al.doing;
      sim = select_sim W s₀ r ks kind sc cases s dg fit scrutinee_ok x s' al ld;
      set =
          select_set W s₀ r ks kind sc cases s dg fit scrutinee_ok x s' al;
    })

    module _ (c : MaybeClaimedRegion) (rest : List MaybeClaimedRegion) (cv : Converges cases c rest) where
      ok' : CasesOk W s₀ r ks s rest
      ok' = record { each = λ x i. each x (cv.from x i); apart = cv.apart fit.apart }
        where
          each : (x : MaybeClaimedRegion) → (x ≡ err []) ⊎ In x cases → CaseOk W s₀ r ks s x
          each x (inl p) = rw p (record { is = record { distinct = tt; entries = λ e i. absurd i } })
          each x (inr i) = fit.each x i

      c_in : In c cases
      c_in = nth_in cases cv.at c cv.is

      module _ (x : Body) (s₁ : NestState) (al : SelectMade W s₀ r ks kind sc rest s dg ok' x s₁) where
        tail : (c : MaybeClaimedRegion) → CaseOk W s₀ r ks s c
            → ((y : ClaimedRegion) → c ≡ ok y → (z : ClaimedRegion) → In (ok z) rest
            → eqb y.structured_body z.structured_body ≡ false)
            → TailIs W s₀ r (join ks al.more) s₁ c
        tail (ok y) k ne = record {
          holds = holds_moved W k.is.holds al.moves (al.keeps y.structured_body (ne y refl) k.is.holds.unrewritten);
          since = k.is.since;
          inputs = λ i. scoped_later al.moves.gains (within_left ks al.more) (k.is.inputs i);
          other = k.is.other;
        }
        tail (err d) k ne = set_later W al.moves.gains (within_left ks al.more) k.is

        module _ (y : Body) (s₂ : NestState) (ad : Appended W s₀ r (join ks al.more) c s₁ y s₂) where
          moves₂ : Moved W s s₂
          moves₂ = moved_then W al.moves ad.moves

          module _ (ρ : Resolver) (os : List NodeOutput) (res : Respects ρ os (tables s₂)) (b k : ℕ) (le : k ≤ b) (st : RunState)
              (bs : Based W st)
              (apart : (i : ℕ) → i < ar W r → owns_nodes (join ks (join al.more (children_in c))) (key os (ρ (input r i))) ≡ false)
              (e : End) (h : List Event) where
            res₁ : Respects ρ os (tables s₁)
            res₁ = respects_back ad.moves.gains res

            res₀ : Respects ρ os (tables s)
            res₀ = respects_back moves₂.gains res

            parts : (i : ℕ) → i < ar W r → (owns_nodes (join ks al.more) (key os (ρ (input r i))) ≡ false)
                × (owns_nodes (children_in c) (key os (ρ (input r i))) ≡ false)
            parts i lt =
                let v : Key = key os (ρ (input r i)) in
                let z : (owns_nodes (join ks al.more) v || owns_nodes (children_in c) v) ≡ false =
                sym (owns_join (join ks al.more) (children_in c) v) ∙ ap (λ x. owns_nodes x v) (join_assoc ks al.more (children_in c))
                ∙ apart i lt in
                (or_left _ _ z, or_right (owns_nodes (join ks al.more) v) _ z)

            apart₁ : (i : ℕ) → i < ar W r → owns_nodes (join ks al.more) (key os (ρ (input r i))) ≡ false
            apart₁ i lt = (parts i lt).0

            -- the case that goes on
            enter_c : (st' : RunState) → Agrees W ρ os r (ar W r) ks st st' → Based W st' → Enters W ρ os k e h st c
                → Tracks W ρ os k (deferred_of c) e h (runs W b (rewrite_nodes ρ os (children_in c)) st')
            enter_c st' ag bs' en =
                enter_follows W s₀ r ks s c (fit.each c c_in) ρ os res₀ b k le st' bs' (ad.law ρ os res) (λ i lt. (parts i lt).1) e h
                (enters_same W c (fit.each c c_in) ρ os res₀ st st' ag k e h en)

            -- one of the others
            enter_x : (z : MaybeClaimedRegion) → In z rest
                → ((i : ℕ) → i < ar W r → owns_nodes (children_in z) (key os (ρ (input r i))) ≡ false) → (st' : RunState)
                → Agrees W ρ os r (ar W r) ks st st' → Based W st'
                → Enters W ρ os k e h st z → Tracks W ρ os k (deferred_of z) e h (runs W b (rewrite_nodes ρ os (children_in z)) st')
            enter_x z i far st' ag bs' en =
                entered W s₀ r ks kind sc rest s dg ok' scrutinee_ok x s₁ al ρ os res₁ b k le st bs apart₁ e h z i far st' ag bs' en

            follow_made : (n : DefinedSelect) (ccs : Cases) → al.more ≡ new_select n.node n.kind n.scrutinee ccs ▸ ⟨⟩
                → n.kind ≡ kind
                → ScrutineeIs sc s₁.node_outputs n.scrutinee → CasesFrom rest ccs → s.node_count ≤ n.node
                → Takes W kind sc cases ρ os k e h st → Tracks W ρ os k (deferred_of c) e h
                (and_then (runs W b (rewrite_nodes ρ os al.more) st) (tail_run ρ os b c))
            follow_made n ccs te ke is mf above tk = by (cv.each tk.place_of tk.case_of tk.at_place)
              where
                tst : (w : ℕ) × (st.env (ρ n.scrutinee) ≡ word w) × (place_taken kind w (length cases) ≡ tk.place_of)
                tst = tk.tests n.scrutinee (scrutinee_stays sc s₁.node_outputs os res₁.outputs n.scrutinee is)

                takes : place_taken n.kind tst.0 (case_count ccs) ≡ tk.place_of
                takes = rw (ke, cases_count rest ccs mf, cv.len) tst.2

                far : (i : ℕ) → i < ar W r → (is_node n.node (key os (ρ (input r i))) ≡ false)
                    × (owns_cases ccs (key os (ρ (input r i))) ≡ false)
                far = far_made W s₀ r ks kind sc rest s dg ok' scrutinee_ok x s₁ al ρ os res₁ b k le st bs apart₁ e h n ccs te

                st₂ : RunState
                st₂ = outputs_set ρ os n.node tk.place_of (pay W.g.test_cost st)

                kept : (v : Value) → is_node n.node (key os v) ≡ false → st₂.env v ≡ st.env v
                kept v p = outputs_kept n.node os v p (map ρ (case_outputs n.node tk.place_of os)) (pay W.g.test_cost st)

                ag : Agrees W ρ os r (ar W r) ks st st₂
                ag = record {
                  events = refl;
                  env = λ v sc₁. kept v (in_apart (is_node n.node) v refl (λ i lt. (far i lt).0)
                      (not_out W s₀ r ks kind sc rest s dg ok' scrutinee_ok x s₁ al ρ os res₁ b k le st bs apart₁ e h n.node above) sc₁);
                }

                by : ((tk.case_of ≡ c) × (nth rest tk.place_of ≡ some (err [])))
                    ⊎ ((nth rest tk.place_of ≡ some tk.case_of) × (deferred_of tk.case_of ≡ []))
                    → Tracks W ρ os k (deferred_of c) e h (and_then (runs W b (rewrite_nodes ρ os al.more) st) (tail_run ρ os b c))
                by (inl (is_c, blank)) =
                    let en : Enters W ρ os k e h st c = subst (λ z. Enters W ρ os k e h st z) is_c tk.enters in
                    rw (
                      te,
                      select_runs W ρ os b n.node n.kind n.scrutinee ccs tk.place_of tst.0 ⟨⟩ st
                          (cases_children rest ccs mf tk.place_of (err []) blank) tst.1 takes,
                    )
                    (none_runs ρ os k b e h n.node tk.place_of st (tail_run ρ os b c)
                    (enter_c st₂ ag (record { based = λ v con. kept v (rw (key_constant os v con)) ∙ bs.based v con }) en))
                by (inr (there, no_set)) =
                    let z : MaybeClaimedRegion = tk.case_of in
                    let i = nth_in rest tk.place_of z there in
                    rw (
                      te,
                      select_runs W ρ os b n.node n.kind n.scrutinee ccs tk.place_of tst.0 (children_in z) st
                          (cases_children rest ccs mf tk.place_of z there) tst.1 takes,
                      and_assoc (runs W b (rewrite_nodes ρ os (children_in z)) (pay W.g.test_cost st))
                          (λ s'. through (outputs_set ρ os n.node tk.place_of s'))
                          (tail_run ρ os b c),
                    )
                    (ends_there ρ os k z (deferred_of c) e h
                    (runs W b (rewrite_nodes ρ os (children_in z)) (pay W.g.test_cost st)) _ no_set
                    (enter_x z i (λ l lt. cases_apart rest ccs mf (key os (ρ (input r l))) (far l lt).1 z i) (pay W.g.test_cost st)
                    (pay_agrees W ρ os r (ar W r) ks W.g.test_cost st) (based_pay W W.g.test_cost st bs) tk.enters))

            follow_unmade : al.more ≡ ⟨⟩ → any_non_empty_case rest ≡ false → Takes W kind sc cases ρ os k e h st
                → Tracks W ρ os k (deferred_of c) e h (and_then (runs W b (rewrite_nodes ρ os al.more) st) (tail_run ρ os b c))
            unfolding run_nodes look_up_nodes
            follow_unmade te nk tk = rw te (by (cv.each tk.place_of tk.case_of tk.at_place))
              where
                same : Agrees W ρ os r (ar W r) ks st st
                same = record { events = refl; env = λ v z. refl }

                by : ((tk.case_of ≡ c) × (nth rest tk.place_of ≡ some (err [])))
                    ⊎ ((nth rest tk.place_of ≡ some tk.case_of) × (deferred_of tk.case_of ≡ []))
                    → Tracks W ρ os k (deferred_of c) e h (tail_run ρ os b c st)
                by (inl (is_c, blank)) = enter_c st same bs (subst (λ z. Enters W ρ os k e h st z) is_c tk.enters)
                by (inr (there, no_set)) =
                    let z : MaybeClaimedRegion = tk.case_of in
                    let i = nth_in rest tk.place_of z there in
                    let none : children_in z ≡ ⟨⟩ = no_children rest nk z i in
                    let fl : Tracks W ρ os k (deferred_of z) e h (runs W b (rewrite_nodes ρ os (children_in z)) st) = enter_x z i
                    (λ l lt. rw none (none_owns (key os (ρ (input r l))))) st same bs tk.enters in
                    let fl' : Tracks W ρ os k (deferred_of z) e h (through st) = rw none at fl in
                    absurd (subst (λ l. In fl'.leads_to.entry l) no_set fl'.leads_to.chosen.member)

          just_sim : Sim W r r (join ks (join al.more (children_in c))) (deferred_of c) (tables s₂)
          just_sim = leads_then W (join al.more (children_in c)) (deferred_of c) (Takes W kind sc cases) ld moves₂.gains
              λ ρ os res b n le st bs apart e h tk.
              rw (
                rewrite_join ρ os al.more (children_in c),
                then_runs W b (rewrite_nodes ρ os al.more) (rewrite_nodes ρ os (children_in c)) st,
              )
              (by ρ os res b n le st bs apart e h tk al.more refl al.shape)
            where
              by : (ρ : Resolver) (os : List NodeOutput) → Respects ρ os (tables s₂) → (b n : ℕ) → n ≤ b → (st : RunState) → Based W st
                  → ((i : ℕ) → i < ar W r → owns_nodes (join ks (join al.more (children_in c))) (key os (ρ (input r i))) ≡ false)
                  → (e : End) (h : List Event)
                  → Takes W kind sc cases ρ os n e h st
                  → (T : Nodes) → al.more ≡ T → Shape W s₀ r ks kind sc rest s dg ok' T x.deferred_edges s₁.node_outputs
                  → Tracks W ρ os n (deferred_of c) e h (and_then (runs W b (rewrite_nodes ρ os al.more) st) (tail_run ρ os b c))
              by ρ os res b n le st bs apart e h tk T te (made m) =
                  follow_made ρ os res b n le st bs apart e h m.node m.cases_of (te ∙ m.children_is) m.kind_is m.scrutinee_is
                  m.from m.above tk
              by ρ os res b n le st bs apart e h tk T te (unmade is_tree nk nn is_d) =
                  follow_unmade ρ os res b n le st bs apart e h (te ∙ is_tree) nk tk

          just_came : Came W s₀ r y.children y.deferred_edges s₂
          just_came = subst (λ k. Came W s₀ r k y.deferred_edges s₂) (sym ad.children_is)
              (subst (λ d. Came W s₀ r (join (join ks al.more) (children_in c)) d s₂) (sym ad.set_is) (record {
                doing = ad.doing;
                sim = subst (λ k. Sim W r r k (deferred_of c) (tables s₂)) (sym (join_assoc ks al.more (children_in c))) just_sim;
                set = ad.set;
              }))

        append_came : IfDone (λ y s₂. Came W s₀ r y.children y.deferred_edges s₂) (append_maybe_claimed_region x.children c s₁)
        append_came = subst (λ k. IfDone (λ y s₂. Came W s₀ r y.children y.deferred_edges s₂) (append_maybe_claimed_region k c s₁))
            (sym al.children_is)
            (map_post (append_maybe_claimed_region (join ks al.more) c s₁)
            (append_post W s₀ r (join ks al.more) c s₁ al.doing (tail c (fit.each c c_in) (cv.others fit.apart)))
            λ y s₂ ad. just_came y s₂ ad)

    pub structurize_select_into_post : IfDone (λ y s'. Came W s₀ r y.children y.deferred_edges s')
        (structurize_select_into W.g ks kind sc cases s)
    structurize_select_into_post = by (convergent_cases cases) refl
      where
        by : (v : List MaybeClaimedRegion) → convergent_cases cases ≡ v
            → IfDone (λ y s'. Came W s₀ r y.children y.deferred_edges s') (structurize_select_by W.g ks kind sc cases v s)
        by [] p = map_post (structurize_select W.g ks kind sc cases s)
            (structurize_select_post W s₀ r ks kind sc cases s dg fit) all_came
        by (c ∷ d ∷ ds) p = map_post (structurize_select W.g ks kind sc cases s)
            (structurize_select_post W s₀ r ks kind sc cases s dg fit) all_came
        by (c ∷ []) p =
            let rest = without_convergent cases in
            let cv = converges cases c p in
            bind (structurize_select W.g ks kind sc rest s) _
            (structurize_select_post W s₀ r ks kind sc rest s dg (ok' c rest cv)) λ x s₁ al. append_came c rest cv x s₁ al
