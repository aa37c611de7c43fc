-- Statement 1: the nested run of a whole or closed form follows the graph's run.
use Rattle.std.proofs.Math.Path.{◌≡◌, refl, ap, subst}
use Rattle.std.proofs.Common.{sym, ◌∙◌, inl, inr, arith, eqb-true}
use Rattle.std.specs.Prelude.{◌⊎◌, Bool, get_or}
use Rattle.std.proofs.Math.Bool.{true, false}
use mathlib.Core.List.{List, [], ◌∷◌, map, map-map}
use Rattle.std.proofs.Math.Option.{Option, none, some}
use Prim.Native.Nat.{ℕ, zero, suc, ◌+◌}
use Rattle.std.proofs.Math.ListN.{length}
use Rattle.std.proofs.Math.Dec.{eqb}
use Rattle.meaning.specs.Graph.{Value, input, Graph, region}
use Rattle.meaning.specs.Lists.{numbers_from, empty, pick}
use Rattle.meaning.specs.Runs.{Word, word32, End, returned, Given, RunState, base_env, entry_words, Nodes, ⟨⟩, Ended, run_from, graph_run}
use Rattle.meaning.specs.Runs.{Ran, through, ended, no_end, run_nodes, NestedEnded, ends_as, ended_at, after_last, start, nested_run}
use Rattle.meaning.proofs.laws.MoreBudget.{nested_run_one}
use Rattle.meaning.specs.facts.Tests.{clash, false_if}
use Rattle.format.specs.Valid.{Valid}
use Rattle.format.specs.Store
use Rattle.format.specs.Store.{accepted}
use Rattle.format.specs.Refusals.{never}
use Rattle.nesting.proofs.lookups.Contexts.{rooted_ends}
use Rattle.nesting.specs.Nesting.{DeferredTarget, to_region, to_return, DeferredEdgeBundle, DeferredEdgeBundleSet, Outcome, untouched}
use Rattle.nesting.specs.Nesting.{whole, closed, leftover, Nested, IncomingEdgeCount, StructurizeRegionState, not_begun, in_progress}
use Rattle.nesting.specs.Nesting.{claimed, ready, NestState, StepAnswer, done, turned_away, give, follow, ◌>>◌, turn_away, set_state}
use Rattle.nesting.specs.Nesting.{get_state, rewrites_of, ClaimedRegion, try_claim_edge_bundle, claim_by_state, claim_body, backedge_of}
use Rattle.nesting.specs.Nesting.{begin, structurize_region, incoming_edge_counts, initial_state, outcome_of, conclude_by, conclude}
use Rattle.nesting.specs.Nesting.{structurize_func_by, structurize_func, look_up_piece, look_up_nodes, look_up_last, add_attempt}
use Rattle.nesting.specs.lookups.Rewriting.{nodes_value, rewrite_last, rewrite_nodes}
use Rattle.nesting.specs.steps.Post.{bind, map_post}
use Rattle.nesting.specs.steps.RegionsLeft.{state_of}
use Rattle.follows.specs.simulation.Usable.{arity}
use Rattle.follows.specs.counting.Reach.{entry_reachable}
use Rattle.follows.specs.simulation.ValidUse.{usable_graph}
use Rattle.follows.specs.Statements.{is_whole, is_closed, Followed, FollowsRun}
use Rattle.follows.specs.Statements as statements
use Rattle.meaning.specs.facts.Elements.{In}
use Rattle.follows.specs.simulation.Key.{constant_not_input, key, of_input, owns_nodes}
use Rattle.follows.specs.simulation.Tables.{Resolver, tables}
use Rattle.follows.specs.simulation.World.{World}
use Rattle.follows.specs.simulation.Frame.{puts_other}
use Rattle.follows.specs.simulation.Inputs.{puts_at, input_numbered}
use Rattle.follows.specs.simulation.Leads.{OnwardTo, Tracks}
use Rattle.follows.specs.simulation.Final.{final_respects, unrewritten_stays}
use Rattle.follows.specs.simulation.Defined.{IfDone}
use Rattle.follows.specs.simulation.Invariant.{new}
use Rattle.follows.specs.simulation.ClaimReady.{ClaimDone, at_state}
use Rattle.follows.specs.simulation.Claims.{at_first, claim_post}

-- ---- the entry is no loop
module _ (g : Graph) (counts : List IncomingEdgeCount) where
  abbrev Itself : ℕ → ℕ → Option ClaimedRegion → NestState → Type 0
  Itself r n none s = Unit
  Itself r n (some c) s = get_or counts r 0 ≡ n → c.structured_body ≡ r

  anything : {A : Type 0} (x : StepAnswer A) → IfDone (λ a s. Unit {0}) x
  anything (done a s) = record { post = tt }
  anything (turned_away n w) = record { post = tt }

  as_itself : (r n : ℕ) (ins : List Value) (x : StructurizeRegionState) (s : NestState)
      → IfDone (Itself r n) (claim_by_state g r n ins (get_or counts r 0) x s)
  as_itself r n ins not_begun s = record { post = tt }
  as_itself r n ins claimed s = record { post = tt }
  as_itself r n ins in_progress s = go (eqb (get_or counts r 0) n)
    where
      go : (o : Bool) → IfDone (Itself r n)
          (at_state {A = Option ClaimedRegion} (elim o [ false ↦ give none | true ↦ turn_away never r ]) s)
      go false = record { post = tt }
      go true = record { post = tt }
  as_itself r n ins (ready b ks d) s = go (eqb (get_or counts r 0) (n + b)) refl
    where
      by : (b : ℕ) → eqb (get_or counts r 0) (n + b) ≡ true → (s₁ : NestState)
          → IfDone (Itself r n) (claim_body g r ins ks d (backedge_of r b d) s₁)
      by zero p s₁ = record { post = λ q. refl }
      by (suc b) p s₁ = map_post (claim_body g r ins ks d (backedge_of r (suc b) d) s₁) (anything _) λ o s₂ u. no_way o s₂
        where
          no_way : (o : Option ClaimedRegion) (s₂ : NestState) → Itself r n o s₂
          no_way none s₂ = tt
          no_way (some c) s₂ = λ q. absurd (let z : get_or counts r 0 ≡ n + suc b = eqb-true (get_or counts r 0) (n + suc b) p in omega arith)

      go : (o : Bool) → eqb (get_or counts r 0) (n + b) ≡ o
          → IfDone (Itself r n) (at_state {A = Option ClaimedRegion}
          (elim o [ false ↦ give none | true ↦ set_state r claimed >> claim_body g r ins ks d (backedge_of r b d) ]) s)
      go false p = record { post = tt }
      go true p = by b p _

  claim_itself : (fuel r n : ℕ) (ins : List Value) (s : NestState) → IfDone (Itself r n) (try_claim_edge_bundle g counts fuel r n ins s)
  unfolding try_claim_edge_bundle
  claim_itself zero r n ins s = record { post = tt }
  claim_itself (suc fuel) r n ins s =
      bind (follow (begin (state_of s r) (structurize_region g (λ r' n' ins'. try_claim_edge_bundle g counts fuel r' n' ins') r)
      (add_attempt s)) (λ u. get_state r)) _
      (anything _) λ x s₂ u. as_itself r n ins x s₂

-- ---- the run from the entry
abbrev world : (g : Graph) → Valid g → Given → World
world g v x = record { g = g; valid = usable_graph g v; rule = x.rule; base = base_env x; on_bool = λ b. refl; on_undef = λ ty. refl }

numbers_many : (f : ℕ → Word) (k : ℕ) (ts : List ℕ) → length (map f (numbers_from k ts)) ≡ length ts
numbers_many f k [] = refl
numbers_many f k (t ∷ ts) = ap suc (numbers_many f (suc k) ts)

entry_many : (g : Graph) (x : Given) → length (entry_words g x) ≡ arity g g.entry
unfolding entry_words
entry_many g x = numbers_many (λ k. word32 (x.entry_inputs k)) 0 (region g g.entry).inputs

module _ (g : Graph) (valid : Valid g) (x : Given) (c : ClaimedRegion) (s : NestState)
    (cd : ClaimDone (world g valid x) g.entry [] (initial_state g) (some c) s) (itself : c.structured_body ≡ g.entry) where
  abbrev ρ : Resolver
  ρ = rewrite_last s.region_input_rewrites

  abbrev form : Nodes
  form = rewrite_nodes ρ s.node_outputs c.children

  entry_follows : (b : ℕ) (e : Ended) → graph_run g x b ≡ some e
      → Tracks (world g valid x) ρ s.node_outputs b c.deferred_edges e.end e.events
      (run_nodes x.rule g.test_cost b form (start g x))
  unfolding graph_run
  entry_follows b e gr =
      let hd = cd.got.holds in
      let origin : c.origin ≡ g.entry = cd.got.origin in
      let un : rewrites_of s.region_input_rewrites g.entry ≡ none =
      subst (λ q. rewrites_of s.region_input_rewrites q ≡ none) itself hd.unrewritten in
      hd.sim.leads ρ s.node_outputs (final_respects (tables s) (λ q. rooted_ends (cd.inv.rooted q))) b b (omega arith) (start g x)
      (entry_words g x)
      (record {
        based = λ v k. puts_other (λ i. input g.entry i) v (constant_not_input g.entry v k) 0 (entry_words g x)
            (base_env x);
      })
      (entry_many g x ∙ ap (λ q. length (region g q).inputs) (sym origin))
      (record {
        reads = λ k lt. ap (λ q. (start g x).env (ρ (input q k))) itself
            ∙ ap (start g x).env (unrewritten_stays s.region_input_rewrites g.entry k un)
            ∙ puts_at (λ i. input g.entry i) (input_numbered g.entry) (entry_words g x) k k 0 (omega arith) lt (base_env x);
        apart = λ k lt. ap (λ q. owns_nodes c.children (key s.node_outputs (ρ (input q k)))) itself
            ∙ ap (λ v. owns_nodes c.children (key s.node_outputs v)) (unrewritten_stays s.region_input_rewrites g.entry k un)
            ∙ false_if _ (λ o. hd.clear (of_input g.entry) o (new un));
      })
      e.end e.events (subst (λ q. run_from x.rule g (base_env x) b q (entry_words g x) [] ≡ some e) (sym origin) gr)

  followed : {outs : Option (List Value)} {e : Ended} (b : ℕ) (r : NestedEnded) → nested_run g x form outs b ≡ ends_as r
      → r.end ≡ e.end → r.events ≡ e.events → Followed g x form outs e
  followed {outs} b r h p q = record {
    budget = b;
    run = r;
    ends = h;
    only = λ b' r' h'. nested_run_one g x form outs b' b r' r h' h;
    end = p;
    events = q;
  }

  abbrev Comes : Option (List Value) → ℕ → Ended → Ran → Type 0
  Comes outs b e R = (run_nodes x.rule g.test_cost b form (start g x) ≡ R) → Followed g x form outs e

  at_end : (outs : Option (List Value)) (b : ℕ) (e : Ended) (e' : End) (st : RunState) → e' ≡ e.end → st.events ≡ e.events
      → Comes outs b e (ended e' st)
  unfolding nested_run
  at_end outs b e e' st p q came = followed b (ended_at e' st) (ap (after_last outs) came) p q

  closed_follows : c.deferred_edges ≡ [] → (b : ℕ) (e : Ended) → graph_run g x b ≡ some e → Followed g x form none e
  closed_follows is_empty b e gr = go _ (entry_follows b e gr) refl
    where
      go : (R : Ran) → Tracks (world g valid x) ρ s.node_outputs b c.deferred_edges e.end e.events R → Comes none b e R
      go (ended e' st) fl = at_end none b e e' st fl.leads_to.0 fl.leads_to.1
      go (through st) fl = λ came. absurd (subst (λ l. In fl.leads_to.entry l) is_empty fl.leads_to.chosen.member)
      go (no_end why) fl = λ came. absurd fl.leads_to

  whole_follows : (y : DeferredEdgeBundle) → y.target ≡ to_return → c.deferred_edges ≡ y ∷ [] → (b : ℕ) (e : Ended)
      → graph_run g x b ≡ some e
      → Followed g x form (some (map ρ y.target_inputs)) e
  unfolding nested_run
  whole_follows y returns is_one b e gr = go _ (entry_follows b e gr) refl
    where
      only : {a d : DeferredEdgeBundle} → (a ≡ d) ⊎ ⊥ → a ≡ d
      only (inl q) = q
      only (inr no_way) = absurd no_way

      go : (R : Ran) → Tracks (world g valid x) ρ s.node_outputs b c.deferred_edges e.end e.events R
          → Comes (some (map ρ y.target_inputs)) b e R
      go (ended e' st) fl = at_end _ b e e' st fl.leads_to.0 fl.leads_to.1
      go (no_end why) fl = λ came. absurd fl.leads_to
      go (through st) fl =
          let here : fl.leads_to.entry ≡ y = only (subst (λ l. In fl.leads_to.entry l) is_one fl.leads_to.chosen.member) in
          let onw : OnwardTo (world g valid x) ρ st b e.end e.events to_return y.target_inputs =
          subst (λ z. OnwardTo (world g valid x) ρ st b e.end e.events z y.target_inputs) returns
          (subst (λ z. OnwardTo (world g valid x) ρ st b e.end e.events z.target z.target_inputs) here
          fl.leads_to.onward) in
          λ came. followed b (ended_at (returned (map st.env (map ρ y.target_inputs))) st)
          (ap (after_last (some (map ρ y.target_inputs))) came) (ap returned (map-map st.env ρ y.target_inputs) ∙ sym onw.0)
          (sym onw.1)

-- ---- what the answer shows of the claimed entry
module _ (g : Graph) (valid : Valid g) (c : ClaimedRegion) (s : NestState)
    (cd : (x : Given) → ClaimDone (world g valid x) g.entry [] (initial_state g) (some c) s)
    (itself : c.structured_body ≡ g.entry) where
  -- the form that is given is the claimed children, rewritten
  form_is : rewrite_nodes (rewrite_last s.region_input_rewrites) s.node_outputs c.children
      ≡ (look_up_nodes (look_up_last s.region_input_rewrites) s.node_outputs c.children).value
  form_is = sym (nodes_value (look_up_last s.region_input_rewrites) s.node_outputs c.children)

  no_form : (n : Nested) → n.outcome ≡ leftover → FollowsRun g n
  no_form n p outs (is_closed q) x b e gr = absurd (let z : leftover ≡ closed = sym p ∙ q in clash (cc))
  no_form n p outs (is_whole q) x b e gr = absurd (let z : leftover ≡ whole = sym p ∙ q in clash (cc))

  module _ (y : DeferredEdgeBundle) (ys : DeferredEdgeBundleSet) where
    abbrev FollowsAs : Outcome → Type 0
    FollowsAs o = FollowsRun g (conclude_by g s c.children (y ∷ ys) o)

    one : y.target ≡ to_return → c.deferred_edges ≡ y ∷ [] → FollowsAs whole
    unfolding look_up_piece
    one t q outs (is_closed r) x b e gr = absurd (clash (cc))
    one t q outs (is_whole r) x b e gr =
        subst (λ ks. Followed g x ks (some (map (rewrite_last s.region_input_rewrites) y.target_inputs)) e) form_is
        (whole_follows g valid x c s (cd x) itself y t q b e gr)

    abbrev outcome_by : DeferredTarget → DeferredEdgeBundleSet → Outcome
    outcome_by t zs = elim t [ to_region r ↦ leftover | to_return ↦ pick (empty zs) whole leftover ]

    by_others : c.deferred_edges ≡ y ∷ ys → y.target ≡ to_return → (zs : DeferredEdgeBundleSet) → ys ≡ zs
        → FollowsAs (outcome_by to_return zs)
    by_others p t [] q = one t (p ∙ ap (λ l. y ∷ l) q)
    by_others p t (z ∷ zs) q = no_form _ refl

    by_target : c.deferred_edges ≡ y ∷ ys → (t : DeferredTarget) → y.target ≡ t → FollowsAs (outcome_by t ys)
    by_target p (to_region r) t = no_form _ refl
    by_target p to_return t = by_others p t ys refl

  none_follows : c.deferred_edges ≡ [] → FollowsRun g (conclude_by g s c.children [] closed)
  unfolding look_up_piece
  none_follows p outs (is_closed q) x b e gr =
      subst (λ ks. Followed g x ks none e) form_is (closed_follows g valid x c s (cd x) itself p b e gr)
  none_follows p outs (is_whole q) x b e gr = absurd (clash (cc))

  shown_follows : (d : DeferredEdgeBundleSet) → c.deferred_edges ≡ d → FollowsRun g (conclude_by g s c.children d (outcome_of d))
  shown_follows [] p = none_follows p
  shown_follows (y ∷ ys) p = by_target y ys p y.target refl

nested_is : (a b : Nested) → accepted a ≡ accepted b → a ≡ b
nested_is a b p = cc

untouched_run : (g : Graph) (n : Nested) → n.outcome ≡ untouched → FollowsRun g n
untouched_run g n p outs (is_whole q) x b e gr = absurd (let z : untouched ≡ whole = sym p ∙ q in clash (cc))
untouched_run g n p outs (is_closed q) x b e gr = absurd (let z : untouched ≡ closed = sym p ∙ q in clash (cc))

module _ (g : Graph) (valid : Valid g) (n : Nested) where
  by_answer : (counts : List IncomingEdgeCount) → get_or counts g.entry 0 ≡ 1 → (a : StepAnswer (Option ClaimedRegion))
      → ((x : Given) → IfDone (ClaimDone (world g valid x) g.entry [] (initial_state g)) a) → IfDone (Itself g counts g.entry 1) a
      → conclude g a ≡ accepted n → FollowsRun g n
  unfolding conclude
  by_answer counts once (turned_away k w) p q r = absurd (clash (cc))
  by_answer counts once (done none s) p q r = absurd (clash (cc))
  by_answer counts once (done (some c) s) p q r =
      subst (λ z. FollowsRun g z) (nested_is _ n r) (shown_follows g valid c s (λ x. (p x).post) (q.post once) c.deferred_edges refl)

  by_counts : (counts : List IncomingEdgeCount) → structurize_func_by g counts ≡ accepted n → FollowsRun g n
  unfolding structurize_func_by
  by_counts counts r = go (eqb (get_or counts g.entry 0) 1) refl r
    where
      go : (b : Bool) → eqb (get_or counts g.entry 0) 1 ≡ b
          → ◌≡◌ {A = Store.Answer Nested} (elim b [
            | false ↦ accepted (conclude_by g (initial_state g) ⟨⟩ [] untouched)
            | true ↦ conclude g
                (try_claim_edge_bundle g counts (suc (length g.regions)) g.entry 1 [] (initial_state g))
          ]) (accepted n)
          → FollowsRun g n
      go false p r = untouched_run g n (ap (λ z. z.outcome) (sym (nested_is _ n r)))
      go true p r = by_answer counts (eqb-true (get_or counts g.entry 0) 1 p) _
          (λ x. claim_post (world g valid x) counts (suc (length g.regions)) g.entry 1 [] (initial_state g)
          (at_first (world g valid x)) valid.entry (entry_reachable g))
          (claim_itself g counts (suc (length g.regions)) g.entry 1 [] (initial_state g)) r

pub follows : statements.Follows
unfolding structurize_func
follows g valid n h = by_counts g valid n (incoming_edge_counts g) h
