-- The target regions of a terminator: each edge's claim is a case of the region in progress, and is steered to.
use Rattle.std.specs.Prelude.{Bool, ◌&&◌, false, not, true, ◌⊎◌, ◌≡◌, refl, get_or, length}
use mathlib.Core.List.{List, [], ◌∷◌, map}
use Rattle.std.proofs.Common.{inl, inr, ◌∙◌, subst, sym, ne_eqb}
use Rattle.std.proofs.Math.Option.{Option, none, some}
use Rattle.std.proofs.Math.Path.{ap}
use Prim.Native.Nat.{◌<◌, suc, zero, ℕ}
use Rattle.std.proofs.lemmas.List.{length-map}
use Rattle.meaning.specs.Runs.{Nodes, ◌▸◌, ⟨⟩}
use Rattle.meaning.specs.Graph.{Edge, Value, undef}
use Rattle.meaning.specs.Lists.{is_in, empty, pick}
use Rattle.meaning.specs.facts.Tests.{clash, and_both}
use Rattle.nesting.specs.Nesting.{blocks_of, ClaimedRegion, MaybeClaimedRegion, deferred_of, err, has_children, ok, Claim, defer_edge}
use Rattle.nesting.specs.Nesting.{edge_case, target_regions, unclaimed_edge, DeferredEdgeBundle, to_region, true_cond, NestState}
use Rattle.nesting.specs.Nesting.{StructurizeRegionState, claimed, in_progress, not_begun, ready}
use Rattle.nesting.specs.steps.RegionsLeft.{state_of}
use Rattle.nesting.specs.steps.Post.{bind}
use Rattle.follows.specs.simulation.ConvergentCase.{Apart}
use Rattle.follows.specs.simulation.Bundles.{is_empty}
use Rattle.meaning.specs.facts.Members.{in_front, in_rest}
use Rattle.follows.specs.simulation.Usable.{EdgeUsable, EdgesUsable}
use Rattle.meaning.specs.facts.Elements.{In, nth}
use Rattle.follows.specs.simulation.World.{Live, World, ar, size}
use Rattle.follows.specs.simulation.Tables.{Tables, tables}
use Rattle.follows.specs.simulation.Defined.{IfDone}
use Rattle.follows.specs.simulation.Scope.{AllScoped, EntryOk, Scoped, SetOk}
use Rattle.follows.specs.simulation.Invariant.{Inv, LaterState, Rewritable, later_refl, later_state_then}
use Rattle.follows.specs.simulation.ClaimedRegions.{CaseOk, CasesOk, ClaimedOk, Doing, Since, case_on, doing_closed, doing_on}
use Rattle.follows.specs.simulation.ClaimReady.{ClaimDone}
use Rattle.follows.specs.simulation.AtTerminator.{EdgeEnters, edge_enters_on, never_ends, one_goes, usable_all}

children_none : (ks : Nodes) → not (has_children ks) ≡ true → ks ≡ ⟨⟩
children_none ⟨⟩ h = refl
children_none (x ▸ ks) h = cc

module _ (W : World) where
  abbrev pub ClaimOk : Claim → Type 0
  ClaimOk cl = (r n : ℕ) (ins : List Value) (s : NestState) → Inv W s → r < size W → Live W r → IfDone (ClaimDone W r ins s) (cl r n ins s)

  pub since_back : {s₀ s : NestState} {c : ClaimedRegion} → LaterState W s₀ s → Since W s c → Since W s₀ c
  since_back {c} st h = record { children = λ v o. st.free v (h.children v o); region = st.rewritable c.structured_body h.region }

  pub claimed_back : {s₀ s s' : NestState} {r : ℕ} {ks : Nodes} {c : ClaimedRegion} → LaterState W s₀ s → ClaimedOk W s r ks s' c
      → ClaimedOk W s₀ r ks s' c
  claimed_back st h = record { holds = h.holds; since = since_back st h.since; inputs = h.inputs; other = h.other; apart = h.apart }

  case_back : {s₀ s s' : NestState} {r : ℕ} {ks : Nodes} (c : MaybeClaimedRegion) → LaterState W s₀ s → CaseOk W s r ks s' c
      → CaseOk W s₀ r ks s' c
  case_back (ok c) st h = record { is = claimed_back st h.is }
  case_back (err d) st h = record { is = h.is }

  pub cases_back : {s₀ s s' : NestState} {r : ℕ} {ks : Nodes} {cs : List MaybeClaimedRegion} → LaterState W s₀ s → CasesOk W s r ks s' cs
      → CasesOk W s₀ r ks s' cs
  cases_back st h = record { each = λ c i. case_back c st (h.each c i); apart = h.apart }

  -- what a claim gives, to a region in progress
  pub claimed_ok : {s₀ s s₁ : NestState} {r x : ℕ} {ks : Nodes} {vs : List Value} (c : ClaimedRegion) → Doing W s₀ r ks s
      → ClaimDone W x vs s (some c) s₁
      → AllScoped (tables s₁) r (ar W r) ks vs → ClaimedOk W s r ks s₁ c
  claimed_ok {s} {s₁} {r} {ks} c dg cd sc = record {
    holds = cd.got.holds;
    since = cd.got.since;
    inputs = λ i. subst (λ l. Scoped (tables s₁) r (ar W r) ks (get_or l i (undef 0))) (sym cd.got.inputs) (sc i);
    other = ne_eqb r c.structured_body (λ e. doing_closed W dg (subst (λ q. Rewritable W s q) (sym e) cd.got.since.region));
    apart = λ v o o'. dg.clear v o (cd.got.since.children v o');
  }

  pub in_targets : (es : List Edge) (ed : Edge) → In ed es → is_in ed.target (map (λ e. e.target) es) ≡ true
  in_targets [] ed i = absurd i
  in_targets (x ∷ es) ed (inl p) =
      subst (λ (z : Edge). is_in z.target (x.target ∷ map (λ e. e.target) es) ≡ true) (sym p)
      (in_front x.target (map (λ e. e.target) es))
  in_targets (x ∷ es) ed (inr i) = in_rest ed.target x.target (map (λ e. e.target) es) (in_targets es ed i)

  module _ (cl : Claim) (cl_ok : ClaimOk cl) where
    module _ (s₀ : NestState) (r : ℕ) where
      abbrev ks : Nodes
      ks = blocks_of W.g r

      pub record CaseDone (s s₁ : NestState) (ed : Edge) (c : MaybeClaimedRegion) (s' : NestState) : Type 0 where
        pub same : s' ≡ s₁
        pub is : CaseOk W s r ks s₁ c
        pub enters : EdgeEnters W (tables s₁) ed.target ed.inputs c

      deferred_ok : (ed : Edge) → EdgeUsable W.g r ed → Live W ed.target → (T : Tables)
          → SetOk W T r (ar W r) ks (deferred_of (defer_edge ed))
      deferred_ok ed eo lv T = record {
        distinct = ((λ y i. absurd i), tt);
        entries = λ e i. one e i;
      }
        where
          one : (e : DeferredEdgeBundle)
              → (e ≡ record { target = to_region ed.target; accumulated_count = 1; target_inputs = ed.inputs; condition = true_cond })
              ⊎ ⊥
              → EntryOk W T r (ar W r) ks e
          one e (inl p) = rw p (record {
            fits = (eo.target, eo.many, lv);
            inputs = usable_all W r T ed.inputs eo.inputs;
            condition =
                record { is = tt };
          })
          one e (inr no_way) = absurd no_way

      deferred_done : (ed : Edge) → EdgeUsable W.g r ed → Live W ed.target → (s s₁ : NestState) → CaseDone s s₁ ed (defer_edge ed) s₁
      deferred_done ed eo lv s s₁ = record {
        same = refl;
        is = record { is = deferred_ok ed eo lv (tables s₁) };
        enters = record {
          enters = λ ρ os res n e h st bs onw. one_goes W ρ os (tables s₁) res n e h st bs
              (record {
                target = to_region ed.target;
                accumulated_count = 1;
                target_inputs = ed.inputs;
                condition =
                    true_cond;
              }) refl onw;
        };
      }

      unclaimed_done : (ed : Edge) → EdgeUsable W.g r ed → Live W ed.target → (s s₁ : NestState) → Inv W s₁
          → (x : StructurizeRegionState)
          → state_of s₁ ed.target ≡ x → CaseDone s s₁ ed (unclaimed_edge ed x) s₁
      unclaimed_done ed eo lv s s₁ inv not_begun p = deferred_done ed eo lv s s₁
      unclaimed_done ed eo lv s s₁ inv in_progress p = deferred_done ed eo lv s s₁
      unclaimed_done ed eo lv s s₁ inv claimed p = deferred_done ed eo lv s s₁
      unclaimed_done ed eo lv s s₁ inv (ready b ks' d) p = go (empty d && not (has_children ks')) refl
        where
          go : (o : Bool) → (empty d && not (has_children ks')) ≡ o → CaseDone s s₁ ed (pick o (err []) (defer_edge ed)) s₁
          go false q = deferred_done ed eo lv s s₁
          go true q =
              let z = and_both (empty d) (not (has_children ks')) q in
              let is : state_of s₁ ed.target ≡ ready b ⟨⟩ [] =
              p ∙ ap (λ k. ready b k d) (children_none ks' z.1) ∙ ap (λ l. ready b ⟨⟩ l) (is_empty d z.0) in
              record {
                same = refl;
                is = record { is = record { distinct = tt; entries = λ e i. absurd i } };
                enters = record {
                  enters = λ ρ os res n e h st bs onw. absurd
                      (never_ends W s₁ inv ed.target b eo.target is onw.0 _ st.events e h
                      (length-map ed.inputs (λ v. st.env (ρ v)) ∙ onw.2) onw.3);
                };
              }

      edge_case_post : (ed : Edge) → EdgeUsable W.g r ed → Live W ed.target → (s s₁ : NestState) → Doing W s₀ r ks s
          → (o : Option ClaimedRegion)
          → ClaimDone W ed.target ed.inputs s o s₁ → IfDone (CaseDone s s₁ ed) (edge_case ed o s₁)
      edge_case_post ed eo lv s s₁ dg none cd = record { post = unclaimed_done ed eo lv s s₁ cd.inv (state_of s₁ ed.target) refl }
      edge_case_post ed eo lv s s₁ dg (some c) cd = record {
        post = record {
          same = refl;
          is = record { is = claimed_ok c dg cd (usable_all W r (tables s₁) ed.inputs eo.inputs) };
          enters = record { enters = λ ρ os res n e h st bs onw. rw (cd.got.origin, cd.got.inputs) onw };
        };
      }

      pub record CasesDone (s : NestState) (es : List Edge) (cs : List MaybeClaimedRegion) (s' : NestState) : Type 0 where
        pub inv : Inv W s'
        pub step : LaterState W s s'
        pub is : CasesOk W s r ks s' cs
        pub len : length cs ≡ length es
        pub enters : (j : ℕ) (ed : Edge) → nth es j ≡ some ed
            → (c : MaybeClaimedRegion) × (nth cs j ≡ some c) × EdgeEnters W (tables s') ed.target ed.inputs c

      pub target_regions_post : (es : List Edge) → EdgesUsable W.g r es → ((ed : Edge) → In ed es → Live W ed.target)
          → (s : NestState) → Doing W s₀ r ks s
          → IfDone (CasesDone s es) (target_regions W.g cl es s)
      unfolding target_regions
      target_regions_post [] eo lv s dg =
          record {
            post = record {
              inv = dg.inv;
              step = later_refl W s;
              is = record { each = λ c i. absurd i; apart = tt };
              len = refl;
              enters = λ j ed p. absurd (clash (cc));
            };
          }
      target_regions_post (ed ∷ es) (eo, eos) lv s dg =
          bind (cl ed.target 1 ed.inputs s) _
          (cl_ok ed.target 1 ed.inputs s dg.inv eo.target (lv ed (inl refl))) λ o s₁ cd.
          bind (edge_case ed o s₁) _ (edge_case_post ed eo (lv ed (inl refl)) s s₁ dg o cd) λ c s₁' ca.
          bind (target_regions W.g cl es s₁') _
          (subst (λ z. IfDone (CasesDone s₁ es) (target_regions W.g cl es z)) (sym ca.same)
          (target_regions_post es eos (λ x i. lv x (inr i)) s₁ (doing_on W dg cd.inv cd.step))) λ cs s₂ cs_ok.
          record {
            post = record {
              inv = cs_ok.inv;
              step = later_state_then W cd.step cs_ok.step;
              is = record {
                each = λ x i. each c cs s₁ s₂ (case_on W c ca.is cs_ok.step) (cases_back cd.step cs_ok.is) x i;
                apart = apart c cs s₁ s₂ ca.is cs_ok.is;
              };
              len = ap suc cs_ok.len;
              enters = λ j x p. steers c cs s₁ s₂ (edge_enters_on W cs_ok.step.gains ca.enters) cs_ok.enters j x p;
            };
          }
        where
          each : (c : MaybeClaimedRegion) (cs : List MaybeClaimedRegion) (s₁ s₂ : NestState) → CaseOk W s r ks s₂ c → CasesOk W s r ks s₂ cs
              → (x : MaybeClaimedRegion)
              → (x ≡ c) ⊎ In x cs → CaseOk W s r ks s₂ x
          each c cs s₁ s₂ h hs x (inl p) = rw p h
          each c cs s₁ s₂ h hs x (inr i) = hs.each x i

          apart : (c : MaybeClaimedRegion) (cs : List MaybeClaimedRegion) (s₁ s₂ : NestState) → CaseOk W s r ks s₁ c
              → CasesOk W s₁ r ks s₂ cs → Apart (c ∷ cs)
          apart (err d) cs s₁ s₂ h hs = hs.apart
          apart (ok c) cs s₁ s₂ h hs = (
            (λ c' i. ne_eqb c'.structured_body c.structured_body
                (λ e. h.is.holds.closed (subst (λ q. Rewritable W s₁ q) e (hs.each (ok c') i).is.since.region))),
            hs.apart,
          )

          steers : (c : MaybeClaimedRegion) (cs : List MaybeClaimedRegion) (s₁ s₂ : NestState)
              → EdgeEnters W (tables s₂) ed.target ed.inputs c
              → ((j : ℕ) (x : Edge) → nth es j ≡ some x → (c : MaybeClaimedRegion) × (nth cs j ≡ some c) × EdgeEnters W (tables s₂)
              x.target x.inputs c)
              → (j : ℕ) (x : Edge) → nth (ed ∷ es) j ≡ some x
              → (z : MaybeClaimedRegion) × (nth (c ∷ cs) j ≡ some z) × EdgeEnters W (tables s₂) x.target x.inputs z
          steers c cs s₁ s₂ h hs zero x p = let e : ed ≡ x = cc in
              (c, refl, subst (λ z. EdgeEnters W (tables s₂) z.target z.inputs c) e h)
          steers c cs s₁ s₂ h hs (suc j) x p = hs j x p
