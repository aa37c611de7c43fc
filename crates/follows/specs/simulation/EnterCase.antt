-- A case of a select is entered: its children follow the graph's run from there. Looking its values up changes nothing.
use Rattle.std.proofs.Math.Bool.{false, true}
use mathlib.Core.List.{List, [], ◌∷◌, map}
use Rattle.std.proofs.Math.Option.{none, some}
use Rattle.std.proofs.Common.{◌∙◌, arith}
use Rattle.std.specs.Prelude.{◌≡◌, ◌<◌, ◌≤◌, ℕ, get_or}
use Rattle.std.proofs.Math.Path.{ap, refl, sym}
use Rattle.std.proofs.Math.ListN.{get_or-map, length, length-map}
use Rattle.meaning.specs.Runs.{Nodes, Ran, ended, no_end, run_nodes, through, End, Event, RunState, Word, mark, place_taken, word}
use Rattle.meaning.specs.Graph.{SelectionKind, Value, input, undef}
use Rattle.nesting.specs.Nesting.{ClaimedRegion, MaybeClaimedRegion, Scrutinee, deferred_of, err, lazy, ok, value, DeferredEdgeBundle}
use Rattle.nesting.specs.Nesting.{DeferredEdgeBundleSet, DeferredTarget, to_region, rewrites_of, NestState, NodeOutput, RewriteEntry}
use Rattle.nesting.specs.Nesting.{look_up_nodes}
use Rattle.nesting.specs.lookups.Rewriting.{rewrite_nodes, rewrite, rewrite_bundle, rewrite_case}
use Rattle.nesting.proofs.lookups.ChainSteps.{stops_rewrite}
use Rattle.meaning.specs.facts.Elements.{In, from_map, getD_map_in, in_map, nth}
use Rattle.meaning.specs.facts.Tests.{false_if}
use Rattle.nesting.specs.steps.TargetsAndCases.{children_in}
use Rattle.follows.specs.simulation.Key.{Key, key, nodes_none, owns_nodes}
use Rattle.follows.specs.simulation.World.{World, ar, runs}
use Rattle.follows.specs.simulation.Tables.{Resolver, Respects, Tables, tables}
use Rattle.follows.specs.simulation.Conditions.{Mat}
use Rattle.follows.specs.simulation.Leads.{Based, Goes, OnwardTo, Tracks, onward_reads, tracks_less}
use Rattle.follows.specs.simulation.Bundles.{DistinctBundles}
use Rattle.follows.specs.simulation.Scope.{EntryOk, SetOk, in_apart, scoped_rewritten}
use Rattle.follows.specs.simulation.ClaimedRegions.{CaseOk}

-- ---- cases
-- the value stands for the scrutinee
abbrev pub ScrutineeIs : Scrutinee → List NodeOutput → Value → Type 0
ScrutineeIs (value u) os v = v ≡ u
ScrutineeIs (lazy c) os v = Mat c os v

module _ (W : World) where
  -- The case is entered: the graph's run goes on from its region, or along one of its deferred edges.
  abbrev pub Enters : Resolver → List NodeOutput → ℕ → End → List Event → RunState → MaybeClaimedRegion → Type 0
  Enters ρ os n e h s (ok c) = OnwardTo W ρ s n e h (to_region c.origin) c.structured_body_inputs
  Enters ρ os n e h s (err d) = Goes W ρ os n d e h s

  -- The test takes a case, and that case is entered.
  pub record Takes (kind : SelectionKind) (sc : Scrutinee) (cases : List MaybeClaimedRegion) (ρ : Resolver) (os : List NodeOutput) (n : ℕ)
      (e : End) (h : List Event)
      (s : RunState) : Type 0 where
    pub place_of : ℕ
    pub case_of : MaybeClaimedRegion
    pub at_place : nth cases place_of ≡ some case_of
    pub enters : Enters ρ os n e h s case_of
    pub tests : (v : Value) → ScrutineeIs sc os v → (w : ℕ) × (s.env (ρ v) ≡ word w) × (place_taken kind w (length cases) ≡ place_of)

  pub enter_follows : (s₀ : NestState) (r : ℕ) (ks : Nodes) (s₁ : NestState) (c : MaybeClaimedRegion) → CaseOk W s₀ r ks s₁ c
      → (ρ : Resolver) (os : List NodeOutput) → Respects ρ os (tables s₁) → (b n : ℕ) → n ≤ b → (s : RunState) → Based W s
      → ((x : ClaimedRegion) → c ≡ ok x → (k : ℕ) → ρ (input x.structured_body k) ≡ ρ (get_or x.structured_body_inputs k (undef 0)))
      → ((k : ℕ) → k < ar W r → owns_nodes (children_in c) (key os (ρ (input r k))) ≡ false)
      → (e : End) (h : List Event) → Enters ρ os n e h s c → Tracks W ρ os n (deferred_of c) e h
      (runs W b (rewrite_nodes ρ os (children_in c)) s)
  unfolding run_nodes look_up_nodes
  enter_follows s₀ r ks s₁ (err d) fit ρ os res b n le s bs law far e h go = record { leads_to = go }
  enter_follows s₀ r ks s₁ (ok c) fit ρ os res b n le s bs law far e h (k, lt, len, gr) =
      let words : List Word = map (λ v. s.env (ρ v)) c.structured_body_inputs in
      let lw : length words ≡ ar W c.origin = length-map c.structured_body_inputs (λ v. s.env (ρ v)) ∙ len in
      tracks_less W ρ os k n (omega arith) c.deferred_edges e h _
      (fit.is.holds.sim.leads ρ os res b k (omega arith) s words bs lw
      (record {
        reads = λ i i_lt. ap s.env (law c refl i) ∙ sym
            (getD_map_in (λ v. s.env (ρ v)) c.structured_body_inputs i (undef 0) mark (omega (arith, lw, len)));
        apart = λ i i_lt. rw (law c refl i)
            (in_apart {os = os} {q = r} {a = ar W r} {ks = ks} (owns_nodes c.children) (ρ (get_or c.structured_body_inputs i (undef 0)))
            (nodes_none c.children) far (λ κ o. not_both κ o) ((fit.is.inputs i).scoped ρ os res));
      })
      e h gr)
    where
      not_both : (κ : Key) → owns_nodes ks κ ≡ true → owns_nodes c.children κ ≡ false
      not_both κ o = false_if (owns_nodes c.children κ) (λ p. fit.is.apart κ o p)

  -- ---- values looked up
  distinct_rewritten : (σ : Resolver) (d : DeferredEdgeBundleSet) → DistinctBundles d → DistinctBundles (map (rewrite_bundle σ) d)
  distinct_rewritten σ [] h = tt
  distinct_rewritten σ (x ∷ d) (h, hs) =
      ((λ y i. let z = from_map (rewrite_bundle σ) d y i in let q = h z.0 z.1 in rw z.2 q), distinct_rewritten σ d hs)

  read_rewritten : (ρ σ : Resolver) → ((v : Value) → ρ (σ v) ≡ ρ v) → (s : RunState) (vs : List Value)
      → map (λ v. s.env (ρ v)) (map σ vs) ≡ map (λ v. s.env (ρ v)) vs
  read_rewritten ρ σ same s [] = refl
  read_rewritten ρ σ same s (v ∷ vs) = let p = same v in let q = read_rewritten ρ σ same s vs in cc

  onward_rewritten : (ρ σ : Resolver) → ((v : Value) → ρ (σ v) ≡ ρ v)
      → (s : RunState) (n : ℕ) (e : End) (h : List Event) (x : DeferredTarget) (vs : List Value)
      → OnwardTo W ρ s n e h x vs → OnwardTo W ρ s n e h x (map σ vs)
  onward_rewritten ρ σ same s n e h x vs = onward_reads W ρ s s refl n e h x vs (map σ vs) (read_rewritten ρ σ same s vs)

  goes_rewritten : (ρ σ : Resolver) → ((v : Value) → ρ (σ v) ≡ ρ v)
      → (os : List NodeOutput) (n : ℕ) (d : DeferredEdgeBundleSet) (e : End) (h : List Event) (s : RunState) → Goes W ρ os n d e h s
      → Goes W ρ os n (map (rewrite_bundle σ) d) e h s
  goes_rewritten ρ σ same os n d e h s go = record {
    entry = rewrite_bundle σ go.entry;
    chosen = record {
      member = in_map (rewrite_bundle σ) d go.entry go.chosen.member;
      holds = go.chosen.holds;
      others = λ y i ne v mat. let z = from_map (rewrite_bundle σ) d y i in
          go.chosen.others z.0 z.1 (rw z.2 at ne) v (rw z.2 at mat);
    };
    onward = onward_rewritten ρ σ same s n e h go.entry.target go.entry.target_inputs go.onward;
  }

  set_of_rewritten : (σ : Resolver) (c : MaybeClaimedRegion) → deferred_of (rewrite_case σ c) ≡ map (rewrite_bundle σ) (deferred_of c)
  set_of_rewritten σ (ok c) = refl
  set_of_rewritten σ (err d) = refl

  pub tracks_rewritten : (ρ σ : Resolver) → ((v : Value) → ρ (σ v) ≡ ρ v)
      → (os : List NodeOutput) (n : ℕ) (c : MaybeClaimedRegion) (e : End) (h : List Event) (R : Ran)
      → Tracks W ρ os n (deferred_of c) e h R → Tracks W ρ os n (deferred_of (rewrite_case σ c)) e h R
  tracks_rewritten ρ σ same os n c e h R fl = rw (set_of_rewritten σ c) (go R fl)
    where
      go : (R : Ran) → Tracks W ρ os n (deferred_of c) e h R → Tracks W ρ os n (map (rewrite_bundle σ) (deferred_of c)) e h R
      go (through s) fl' = record { leads_to = goes_rewritten ρ σ same os n (deferred_of c) e h s fl'.leads_to }
      go (ended e' s) fl' = record { leads_to = fl'.leads_to }
      go (no_end why) fl' = record { leads_to = fl'.leads_to }

  pub getD_rewritten : (rs : List RewriteEntry) (vs : List Value) (i : ℕ)
      → get_or (map (rewrite rs) vs) i (undef 0) ≡ rewrite rs (get_or vs i (undef 0))
  getD_rewritten rs vs i =
      ap (λ z. get_or (map (rewrite rs) vs) i z) (sym (stops_rewrite rs (undef 0) refl)) ∙ get_or-map (rewrite rs) vs i (undef 0)

  pub set_rewritten : {T : Tables} {q a : ℕ} {ks : Nodes} → rewrites_of T.rewrites q ≡ none → (d : DeferredEdgeBundleSet)
      → SetOk W T q a ks d → SetOk W T q a ks (map (rewrite_bundle (rewrite T.rewrites)) d)
  set_rewritten {T} {q} {a} {ks} un d h =
      record {
        distinct = distinct_rewritten (rewrite T.rewrites) d h.distinct;
        entries =
            λ e i. go e (from_map (rewrite_bundle (rewrite T.rewrites)) d e i);
      }
    where
      go : (e : DeferredEdgeBundle) → (z : DeferredEdgeBundle) × In z d × (e ≡ rewrite_bundle (rewrite T.rewrites) z)
          → EntryOk W T q a ks e
      go e (z, i, p) =
          let x = h.entries z i in
          rw p (record {
            fits = rw (length-map z.target_inputs (rewrite T.rewrites)) x.fits;
            inputs = λ j. rw (getD_rewritten T.rewrites z.target_inputs j)
                (scoped_rewritten un (get_or z.target_inputs j (undef 0)) (x.inputs j));
            condition = x.condition;
          })
