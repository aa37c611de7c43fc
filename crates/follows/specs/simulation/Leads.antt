-- Where children lead: a run of a region's children ends as the graph's run does, or comes to a state from which that goes on.
use Rattle.std.specs.Prelude.{◌||◌, false, true, List, map, ◌≡◌, ◌<◌, ◌≤◌, ℕ, get_or, length}
use Rattle.std.proofs.Math.Option.{Option, some}
use Rattle.std.proofs.Common.{◌∙◌, ap, sym, arith}
use Rattle.std.proofs.Math.Path.{refl}
use Rattle.std.proofs.lemmas.List.{length-map}
use Rattle.meaning.specs.Runs.{Nodes, ◌▸◌, ⟨⟩, Ended, run_from, Ran, and_then, ended, no_end, run_node, run_nodes, through, End, Event}
use Rattle.meaning.specs.Runs.{RunState, Word, mark, returned, word}
use Rattle.meaning.specs.Graph.{Value, input}
use Rattle.meaning.specs.facts.Tests.{clash, or_left}
use Rattle.nesting.specs.Nesting.{same_target, join, DeferredEdgeBundle, DeferredEdgeBundleSet, DeferredTarget, to_region, to_return}
use Rattle.nesting.specs.Nesting.{NodeOutput, look_up_nodes}
use Rattle.nesting.specs.lookups.Rewriting.{rewrite_node, rewrite_nodes}
use Rattle.meaning.specs.facts.Elements.{In}
use Rattle.follows.specs.simulation.Key.{Key, is_constant, key, key_constant, nodes_none, owns_join, owns_nodes}
use Rattle.follows.specs.simulation.World.{World, ar, from_region, runs}
use Rattle.follows.specs.simulation.Tables.{Gains, Resolver, Respects, Tables, respects_back}
use Rattle.follows.specs.simulation.Frame.{frame}
use Rattle.follows.specs.simulation.Conditions.{Mat, Truthy}

-- The one bundle of a set whose condition holds: each value that stands for it tests true, and those of the others false.
pub record Chosen (ρ : Resolver) (os : List NodeOutput) (s : RunState) (d : DeferredEdgeBundleSet) (x : DeferredEdgeBundle) : Type 0 where
  pub member : In x d
  pub holds : (v : Value) → Mat x.condition os v → Truthy (s.env (ρ v))
  pub others : (y : DeferredEdgeBundle) → In y d → same_target y.target x.target ≡ false
      → (v : Value) → Mat y.condition os v → s.env (ρ v) ≡ word 0

abbrev pub read : Resolver → RunState → List Value → List Word
read ρ s vs = map (λ v. s.env (ρ v)) vs

abbrev pub ends_with : End → List Event → Option Ended
ends_with e h = some (record { end = e; events = h })

-- At s the inputs of q resolve to the words, and the children own none of them.
pub record InputsAre (ρ : Resolver) (os : List NodeOutput) (q : ℕ) (ks : Nodes) (w : List Word) (s : RunState) : Type 0 where
  pub reads : (k : ℕ) → k < length w → s.env (ρ (input q k)) ≡ get_or w k mark
  pub apart : (k : ℕ) → k < length w → owns_nodes ks (key os (ρ (input q k))) ≡ false

-- ---- joining
pub rewrite_join : (ρ : Resolver) (os : List NodeOutput) (a b : Nodes)
    → rewrite_nodes ρ os (join a b) ≡ join (rewrite_nodes ρ os a) (rewrite_nodes ρ os b)
unfolding look_up_nodes
rewrite_join ρ os ⟨⟩ b = refl
rewrite_join ρ os (x ▸ a) b = ap (λ ks. rewrite_node ρ os x ▸ ks) (rewrite_join ρ os a b)

pub then_on : (R : Ran) → and_then R (λ s. through s) ≡ R
then_on (through s) = refl
then_on (ended e s) = refl
then_on (no_end why) = refl

module _ (W : World) where
  pub then_runs : (b : ℕ) (a c : Nodes) (s : RunState) → runs W b (join a c) s ≡ and_then (runs W b a s) (λ s'. runs W b c s')
  unfolding run_nodes
  then_runs b ⟨⟩ c s = refl
  then_runs b (x ▸ a) c s = go (λ s'. then_runs b a c s') (run_node W.rule W.g.test_cost b x s)
    where
      go : ((s' : RunState) → runs W b (join a c) s' ≡ and_then (runs W b a s') (λ s''. runs W b c s'')) → (r : Ran)
          → and_then r (λ s'. runs W b (join a c) s') ≡ and_then (and_then r (λ s'. runs W b a s')) (λ s'. runs W b c s')
      go ih (through s') = ih s'
      go ih (ended e s') = refl
      go ih (no_end why) = refl

  -- ---- where a run leads
  -- The graph's run goes on to the target with these inputs, in fewer than n regions, to this end.
  abbrev pub OnwardTo : Resolver → RunState → ℕ → End → List Event → DeferredTarget → List Value → Type 0
  OnwardTo ρ s n e h (to_region r) vs =
      (k : ℕ) × (k < n) × (length vs ≡ ar W r) × (from_region W k r (read ρ s vs) s.events ≡ ends_with e h)
  OnwardTo ρ s n e h to_return vs = (e ≡ returned (read ρ s vs)) × (h ≡ s.events)

  pub record Goes (ρ : Resolver) (os : List NodeOutput) (n : ℕ) (d : DeferredEdgeBundleSet) (e : End) (h : List Event)
      (s : RunState) : Type 0 where
    pub entry : DeferredEdgeBundle
    pub chosen : Chosen ρ os s d entry
    pub onward : OnwardTo ρ s n e h entry.target entry.target_inputs

  abbrev pub LeadsRan : (RunState → Type 0) → End → List Event → Ran → Type 0
  LeadsRan Q e h (through s) = Q s
  LeadsRan Q e h (ended e' s) = (e' ≡ e) × (s.events ≡ h)
  LeadsRan Q e h (no_end why) = ⊥

  pub record LeadsTo (Q : RunState → Type 0) (e : End) (h : List Event) (r : Ran) : Type 0 where
    pub leads_to : LeadsRan Q e h r

  -- A run that keeps up with the graph's: it leads to one of the deferred edges.
  abbrev pub Tracks : Resolver → List NodeOutput → ℕ → DeferredEdgeBundleSet → End → List Event → Ran → Type 0
  Tracks ρ os n d e h r = LeadsTo (Goes ρ os n d e h) e h r

  -- the constants stand in the environment
  pub record Based (s : RunState) : Type 0 where
    pub based : (v : Value) → is_constant v ≡ true → s.env v ≡ W.base v

  abbrev pub Reached : Type 1
  Reached = Resolver → List NodeOutput → ℕ → End → List Event → RunState → Type 0

  -- The children lead to Q wherever the graph's run from r ends. They read the inputs of q: r itself, or the wrapper of its loop.
  pub record Leads (r q : ℕ) (ks : Nodes) (T : Tables) (Q : Reached) : Type 0 where
    pub leads : (ρ : Resolver) (os : List NodeOutput) → Respects ρ os T
        → (b n : ℕ) → n ≤ b → (s : RunState) (w : List Word) → Based s → length w ≡ ar W r → InputsAre ρ os q ks w s
        → (e : End) (h : List Event) → from_region W n r w s.events ≡ ends_with e h
        → LeadsTo (Q ρ os n e h) e h (runs W b (rewrite_nodes ρ os ks) s)

  -- The simulation.
  abbrev pub Sim : ℕ → ℕ → Nodes → DeferredEdgeBundleSet → Tables → Type 0
  Sim r q ks d T = Leads r q ks T (λ ρ os n e h s. Goes ρ os n d e h s)

  pub none_run : (r : ℕ) (ws : List Word) (past : List Event) (e : End) (h : List Event) → from_region W 0 r ws past ≡ ends_with e h → ⊥
  unfolding run_from
  none_run r ws past e h p = clash (cc)

  pub leads_on : {r q : ℕ} {ks : Nodes} {T T' : Tables} {Q : Reached} → Gains T T' → Leads r q ks T Q → Leads r q ks T' Q
  leads_on p h = record { leads = λ ρ os res. h.leads ρ os (respects_back p res) }

  pub based_after : (ρ : Resolver) (os : List NodeOutput) (ks : Nodes) (b : ℕ) (s s' : RunState)
      → runs W b (rewrite_nodes ρ os ks) s ≡ through s' → Based s → Based s'
  based_after ρ os ks b s s' p q =
      record {
        based = λ v c. frame W.rule W.g.test_cost ρ os v ks b s s' p (rw (key_constant os v c) (nodes_none ks))
            ∙ q.based v c;
      }

  -- ---- Q weakened
  pub leads_map : {r q : ℕ} {ks : Nodes} {T : Tables} (Q Q' : Reached) → Leads r q ks T Q
      → ((ρ : Resolver) (os : List NodeOutput) → Respects ρ os T → (n : ℕ) (e : End) (h : List Event) (s : RunState) → Based s
      → Q ρ os n e h s → Q' ρ os n e h s)
      → Leads r q ks T Q'
  leads_map {ks} {T} Q Q' ld f = record {
    leads = λ ρ os res b n le s w bs lw gv e h gr. go ρ os res b n s bs e h _ refl (ld.leads ρ os res b n le s w bs lw gv e h gr);
  }
    where
      go : (ρ : Resolver) (os : List NodeOutput) → Respects ρ os T → (b n : ℕ) (s : RunState) → Based s → (e : End) (h : List Event)
          → (R : Ran) → runs W b (rewrite_nodes ρ os ks) s ≡ R → LeadsTo (Q ρ os n e h) e h R → LeadsTo (Q' ρ os n e h) e h R
      go ρ os res b n s bs e h (through s') p q = record { leads_to = f ρ os res n e h s' (based_after ρ os ks b s s' p bs) q.leads_to }
      go ρ os res b n s bs e h (ended e' s') p q = record { leads_to = q.leads_to }
      go ρ os res b n s bs e h (no_end why) p q = record { leads_to = q.leads_to }

  -- what the inputs read as, and the events, alone decide
  pub onward_reads : (ρ : Resolver) (s s' : RunState) → s'.events ≡ s.events
      → (n : ℕ) (e : End) (h : List Event) (x : DeferredTarget) (us vs : List Value)
      → read ρ s' vs ≡ read ρ s us → OnwardTo ρ s n e h x us → OnwardTo ρ s' n e h x vs
  onward_reads ρ s s' past n e h (to_region r) us vs p (k, lt, len, gr) =
      (k, lt, sym (length-map vs (λ v. s'.env (ρ v))) ∙ ap length p ∙ length-map us (λ v. s.env (ρ v)) ∙ len, rw (p, past) gr)
  onward_reads ρ s s' past n e h to_return us vs p (q, r) = (rw p q, rw past r)

  onward_less : (ρ : Resolver) (s : RunState) (n n' : ℕ) → n ≤ n' → (e : End) (h : List Event) (x : DeferredTarget) (vs : List Value)
      → OnwardTo ρ s n e h x vs
      → OnwardTo ρ s n' e h x vs
  onward_less ρ s n n' le e h (to_region r) vs p = (p.0, omega arith, p.2, p.3)
  onward_less ρ s n n' le e h to_return vs p = p

  pub tracks_less : (ρ : Resolver) (os : List NodeOutput) (n n' : ℕ) → n ≤ n'
      → (d : DeferredEdgeBundleSet) (e : End) (h : List Event) (r : Ran) → Tracks ρ os n d e h r
      → Tracks ρ os n' d e h r
  tracks_less ρ os n n' le d e h (through s) p =
      let y = p.leads_to in
      record {
        leads_to = record {
          entry = y.entry;
          chosen = y.chosen;
          onward =
              onward_less ρ s n n' le e h y.entry.target y.entry.target_inputs y.onward;
        };
      }
  tracks_less ρ os n n' le d e h (ended e' s) p = record { leads_to = p.leads_to }
  tracks_less ρ os n n' le d e h (no_end why) p = record { leads_to = p.leads_to }

  -- ---- more children follow
  pub leads_then : {r : ℕ} {ks : Nodes} {T T' : Tables} (more : Nodes) (d : DeferredEdgeBundleSet) (Q : Reached) → Leads r r ks T Q
      → Gains T T'
      → ((ρ : Resolver) (os : List NodeOutput) → Respects ρ os T' → (b n : ℕ) → n ≤ b → (s : RunState) → Based s
      → ((k : ℕ) → k < ar W r → owns_nodes (join ks more) (key os (ρ (input r k))) ≡ false)
      → (e : End) (h : List Event) → Q ρ os n e h s → Tracks ρ os n d e h (runs W b (rewrite_nodes ρ os more) s))
      → Sim r r (join ks more) d T'
  leads_then {r} {ks} {T} {T'} more d Q ld gains next = record {
    leads = λ ρ os res b n le s w bs lw gv e h gr.
        let first = ld.leads ρ os (respects_back gains res) b n le s w bs lw
        (record { reads = gv.reads; apart = λ k lt. or_left _ _ (both (key os (ρ (input r k))) (gv.apart k lt)) }) e h gr in
        rw (rewrite_join ρ os ks more, then_runs b (rewrite_nodes ρ os ks) (rewrite_nodes ρ os more) s)
        (go ρ os res b n le s w bs lw gv.apart e h (runs W b (rewrite_nodes ρ os ks) s) refl first);
  }
    where
      both : (κ : Key) → owns_nodes (join ks more) κ ≡ false → (owns_nodes ks κ || owns_nodes more κ) ≡ false
      both κ p = sym (owns_join ks more κ) ∙ p

      go : (ρ : Resolver) (os : List NodeOutput) → Respects ρ os T' → (b n : ℕ) → n ≤ b → (s : RunState) (w : List Word) → Based s
          → length w ≡ ar W r
          → ((k : ℕ) → k < length w → owns_nodes (join ks more) (key os (ρ (input r k))) ≡ false) → (e : End) (h : List Event)
          → (R : Ran) → runs W b (rewrite_nodes ρ os ks) s ≡ R → LeadsTo (Q ρ os n e h) e h R
          → Tracks ρ os n d e h (and_then R (λ s'. runs W b (rewrite_nodes ρ os more) s'))
      go ρ os res b n le s w bs lw apart e h (through s') p q =
          next ρ os res b n le s' (based_after ρ os ks b s s' p bs) (λ k lt. apart k (omega (arith, lw))) e h q.leads_to
      go ρ os res b n le s w bs lw apart e h (ended e' s') p q = record { leads_to = q.leads_to }
      go ρ os res b n le s w bs lw apart e h (no_end why) p q = record { leads_to = q.leads_to }
