-- A region in progress, a claimed region in its claimer's hands, and the cases of a select.
-- Doing s₀ r ks s: region r, begun at s₀, has the children ks at s; they own nothing Free at s, and only what was Free at s₀.
-- Came: and they lead to the deferred edges d, which are in scope. Holds c s: a claimed region, not yet put into place.
use Rattle.std.specs.Prelude.{false, true, List, ◌⊎◌, ◌≡◌, ◌<◌, ℕ, eqb}
use Rattle.std.proofs.Common.{inl, inr, ◌∙◌, ap, sym, arith, length-set}
use Rattle.std.proofs.Math.Option.{none}
use Rattle.meaning.specs.Runs.{Nodes}
use Rattle.meaning.specs.facts.Tests.{clash, at_or_else, eqb_self}
use Rattle.nesting.specs.Nesting.{ClaimedRegion, MaybeClaimedRegion, err, ok, DeferredEdgeBundleSet, rewrites_of, NestState, in_progress}
use Rattle.nesting.specs.Nesting.{not_begun, ready}
use Rattle.nesting.specs.steps.RegionsLeft.{state_of}
use Rattle.follows.specs.simulation.ConvergentCase.{Apart}
use Rattle.meaning.specs.facts.Elements.{In}
use Rattle.follows.specs.simulation.Key.{Key, of_input, of_instr, of_node, of_none, owns_nodes}
use Rattle.follows.specs.simulation.World.{World, ar, size}
use Rattle.follows.specs.simulation.Tables.{tables}
use Rattle.follows.specs.simulation.Leads.{Sim, leads_on}
use Rattle.follows.specs.simulation.Scope.{AllScoped, SetOk, scoped_later, set_later, within_refl}
use Rattle.follows.specs.simulation.Invariant.{Free, Inv, LaterState, New, Owned, Rewritable, idle, later_state_then, new, old}
use Rattle.follows.specs.simulation.Invariant.{owned_by, unborn}
use Rattle.follows.specs.simulation.Invariant.{waiting}
use Rattle.follows.specs.simulation.StateChanges.{changed, else, now}

module _ (W : World) where
  -- region r is in progress with these children, begun at s₀
  pub record Doing (s₀ : NestState) (r : ℕ) (ks : Nodes) (s : NestState) : Type 0 where
    pub in_range : r < size W
    pub inv : Inv W s
    pub step : LaterState W s₀ s
    pub began : state_of s₀ r ≡ not_begun
    pub busy : state_of s r ≡ in_progress
    pub unrewritten : rewrites_of s.region_input_rewrites r ≡ none
    pub since : (κ : Key) → owns_nodes ks κ ≡ true → Free s₀ κ
    pub clear : (κ : Key) → owns_nodes ks κ ≡ true → Free s κ → ⊥

  pub record Came (s₀ : NestState) (r : ℕ) (ks : Nodes) (d : DeferredEdgeBundleSet) (s : NestState) : Type 0 where
    pub doing : Doing s₀ r ks s
    pub sim : Sim W r r ks d (tables s)
    pub set : SetOk W (tables s) r (ar W r) ks d

  -- a claimed region that is not yet put into place
  pub record Holds (c : ClaimedRegion) (s : NestState) : Type 0 where
    pub sim : Sim W c.origin c.structured_body c.children c.deferred_edges (tables s)
    pub set : SetOk W (tables s) c.structured_body (ar W c.origin) c.children c.deferred_edges
    pub clear : (κ : Key) → owns_nodes c.children κ ≡ true → Free s κ → ⊥
    pub closed : Rewritable W s c.structured_body → ⊥
    pub unrewritten : rewrites_of s.region_input_rewrites c.structured_body ≡ none

  -- it was none of s₀'s
  pub record Since (s₀ : NestState) (c : ClaimedRegion) : Type 0 where
    pub children : (κ : Key) → owns_nodes c.children κ ≡ true → Free s₀ κ
    pub region : Rewritable W s₀ c.structured_body

  pub doing_closed : {s₀ s : NestState} {r : ℕ} {ks : Nodes} → Doing s₀ r ks s → Rewritable W s r → ⊥
  doing_closed e (unborn le) = omega (arith, e.inv.room, e.in_range)
  doing_closed e (waiting lt p) = let z : idle in_progress ≡ true = rw e.busy at p in clash (cc)

  pub doing_on : {s₀ s s' : NestState} {r : ℕ} {ks : Nodes} → Doing s₀ r ks s → Inv W s' → LaterState W s s' → Doing s₀ r ks s'
  doing_on {r} d h st = record {
    in_range = d.in_range;
    inv = h;
    step = later_state_then W d.step st;
    began = d.began;
    busy = st.busy r d.busy;
    unrewritten = st.kept r (doing_closed d) d.unrewritten;
    since = d.since;
    clear = λ κ o w. d.clear κ o (st.free κ w);
  }

  -- with other children, which own nothing Free either
  pub doing_with : {s₀ s : NestState} {r : ℕ} {ks : Nodes} (ks' : Nodes) → Doing s₀ r ks s
      → ((κ : Key) → owns_nodes ks' κ ≡ true → Free s₀ κ × (Free s κ → ⊥)) → Doing s₀ r ks' s
  doing_with ks' d f = record {
    in_range = d.in_range;
    inv = d.inv;
    step = d.step;
    began = d.began;
    busy = d.busy;
    unrewritten = d.unrewritten;
    since = λ κ o. (f κ o).0;
    clear = λ κ o. (f κ o).1;
  }

  pub holds_on : {c : ClaimedRegion} {s s' : NestState} → Holds c s → LaterState W s s' → Holds c s'
  holds_on {c} h st = record {
    sim = leads_on W st.gains h.sim;
    set = set_later W st.gains (within_refl c.children) h.set;
    clear = λ κ o w. h.clear κ o (st.free κ w);
    closed = λ l. h.closed (st.rewritable c.structured_body l);
    unrewritten = st.kept c.structured_body h.closed h.unrewritten;
  }

  pub came_on : {s₀ s s' : NestState} {r : ℕ} {ks : Nodes} {d : DeferredEdgeBundleSet} → Came s₀ r ks d s → Inv W s' → LaterState W s s'
      → Came s₀ r ks d s'
  came_on {ks} c h st =
      record {
        doing = doing_on c.doing h st;
        sim = leads_on W st.gains c.sim;
        set =
            set_later W st.gains (within_refl ks) c.set;
      }

  -- ---- the cases of a select in region r after its children ks
  pub record ClaimedOk (s₀ : NestState) (r : ℕ) (ks : Nodes) (s : NestState) (c : ClaimedRegion) : Type 0 where
    pub holds : Holds c s
    pub since : Since s₀ c
    pub inputs : AllScoped (tables s) r (ar W r) ks c.structured_body_inputs
    pub other : eqb r c.structured_body ≡ false
    pub apart : (κ : Key) → owns_nodes ks κ ≡ true → owns_nodes c.children κ ≡ true → ⊥

  abbrev pub CaseIs : NestState → ℕ → Nodes → NestState → MaybeClaimedRegion → Type 0
  CaseIs s₀ r ks s (ok c) = ClaimedOk s₀ r ks s c
  CaseIs s₀ r ks s (err d) = SetOk W (tables s) r (ar W r) ks d

  pub record CaseOk (s₀ : NestState) (r : ℕ) (ks : Nodes) (s : NestState) (c : MaybeClaimedRegion) : Type 0 where
    pub is : CaseIs s₀ r ks s c

  pub record CasesOk (s₀ : NestState) (r : ℕ) (ks : Nodes) (s : NestState) (cs : List MaybeClaimedRegion) : Type 0 where
    pub each : (c : MaybeClaimedRegion) → In c cs → CaseOk s₀ r ks s c
    pub apart : Apart cs

  pub claimed_on : {s₀ s s' : NestState} {r : ℕ} {ks : Nodes} {c : ClaimedRegion} → ClaimedOk s₀ r ks s c → LaterState W s s'
      → ClaimedOk s₀ r ks s' c
  claimed_on {ks} h st = record {
    holds = holds_on h.holds st;
    since = h.since;
    inputs = λ i. scoped_later st.gains (within_refl ks) (h.inputs i);
    other = h.other;
    apart = h.apart;
  }

  pub case_on : {s₀ s s' : NestState} {r : ℕ} {ks : Nodes} (c : MaybeClaimedRegion) → CaseOk s₀ r ks s c → LaterState W s s'
      → CaseOk s₀ r ks s' c
  case_on (ok c) h st = record { is = claimed_on h.is st }
  case_on {ks} (err d) h st = record { is = set_later W st.gains (within_refl ks) h.is }

  -- ---- a region in progress is ready
  module _ (s₀ s : NestState) (r b : ℕ) (ks : Nodes) (d : DeferredEdgeBundleSet) (cm : Came s₀ r ks d s) where
    abbrev h : Inv W s
    h = cm.doing.inv

    abbrev s⁺ : NestState
    s⁺ = changed W s r (ready b ks d) h cm.doing.in_range

    now⁺ : state_of s⁺ r ≡ ready b ks d
    now⁺ = now W s r (ready b ks d) h cm.doing.in_range

    else⁺ : (q : ℕ) → eqb q r ≡ false → state_of s⁺ q ≡ state_of s q
    else⁺ = else W s r (ready b ks d) h cm.doing.in_range

    ready_was : (q b' : ℕ) (ks' : Nodes) (d' : DeferredEdgeBundleSet) → state_of s⁺ q ≡ ready b' ks' d' → eqb q r ≡ false
        → state_of s q ≡ ready b' ks' d'
    ready_was q b' ks' d' p ne = sym (else⁺ q ne) ∙ p

    its_children : (q b' : ℕ) (ks' : Nodes) (d' : DeferredEdgeBundleSet) → state_of s⁺ q ≡ ready b' ks' d' → q ≡ r → ks' ≡ ks
    its_children q b' ks' d' p e = let z : ready b' ks' d' ≡ ready b ks d = sym p ∙ ap (λ x. state_of s⁺ x) e ∙ now⁺ in cc

    its_set : (q b' : ℕ) (ks' : Nodes) (d' : DeferredEdgeBundleSet) → state_of s⁺ q ≡ ready b' ks' d' → q ≡ r → d' ≡ d
    its_set q b' ks' d' p e = let z : ready b' ks' d' ≡ ready b ks d = sym p ∙ ap (λ x. state_of s⁺ x) e ∙ now⁺ in cc

    new_was : (κ : Key) → New s⁺ κ → New s κ
    new_was (of_instr q) n = at_or_else (state_of s q ≡ not_begun) q r
        (λ e. absurd (let z : ready b ks d ≡ not_begun = sym now⁺ ∙ ap (λ x. state_of s⁺ x) (sym e) ∙ n in clash (cc)))
        (λ ne. sym (else⁺ q ne) ∙ n)
    new_was (of_input q) n = n
    new_was (of_node a) n = n
    new_was of_none n = n

    rewritable_was : (q : ℕ) → eqb q r ≡ false → Rewritable W s⁺ q → Rewritable W s q
    rewritable_was q ne (unborn le) = unborn le
    rewritable_was q ne (waiting lt p) = waiting lt (rw (else⁺ q ne) at p)

    owned_was : (κ : Key) → Owned s⁺ κ → (owns_nodes ks κ ≡ true) ⊎ Owned s κ
    owned_was κ o = at_or_else ((owns_nodes ks κ ≡ true) ⊎ Owned s κ) o.region r
        (λ e. inl (rw (its_children o.region o.back o.children o.deferred_edges o.is e) at o.owns))
        (λ ne. inr (owned_by o (ready_was o.region o.back o.children o.deferred_edges o.is ne)))

    pub inv_ready : Inv W s⁺
    inv_ready = record {
      rooted = h.rooted;
      sized = length-set s.region_states r (ready b ks d) ∙ h.sized;
      room = h.room;
      sims = λ q b' ks' d' p. at_or_else (Sim W q q ks' d' (tables s)) q r
          (λ e. rw (e, its_children q b' ks' d' p e, its_set q b' ks' d' p e) cm.sim)
          (λ ne. h.sims q b' ks' d' (ready_was q b' ks' d' p ne));
      sets = λ q b' ks' d' p. at_or_else (SetOk W (tables s) q (ar W q) ks' d') q r
          (λ e. rw (e, its_children q b' ks' d' p e, its_set q b' ks' d' p e) cm.set)
          (λ ne. h.sets q b' ks' d' (ready_was q b' ks' d' p ne));
      disjoint = λ q q' b₁ b₂ k₁ k₂ d₁ d₂ p p' ne κ o o'. apart q q' b₁ b₂ k₁ k₂ d₁ d₂ p p' ne κ o o';
      fresh = λ κ o n. fresh κ (owned_was κ o) n;
      unrewritten = λ q l. at_or_else (rewrites_of s.region_input_rewrites q ≡ none) q r (λ e. rw e cm.doing.unrewritten)
          (λ ne. h.unrewritten q (rewritable_was q ne l));
    }
      where
        fresh : (κ : Key) → (owns_nodes ks κ ≡ true) ⊎ Owned s κ → New s⁺ κ → ⊥
        fresh κ (inl o) n = cm.doing.clear κ o (new (new_was κ n))
        fresh κ (inr o) n = h.fresh κ o (new_was κ n)

        mine : (q b' : ℕ) (ks' : Nodes) (d' : DeferredEdgeBundleSet) → state_of s⁺ q ≡ ready b' ks' d' → eqb q r ≡ false → (κ : Key)
            → owns_nodes ks' κ ≡ true
            → owns_nodes ks κ ≡ true → ⊥
        mine q b' ks' d' p ne κ o o' =
            cm.doing.clear κ o'
            (old (record { region = q; back = b'; children = ks'; deferred_edges = d'; is = ready_was q b' ks' d' p ne; owns = o }))

        apart : (q q' b₁ b₂ : ℕ) (k₁ k₂ : Nodes) (d₁ d₂ : DeferredEdgeBundleSet) → state_of s⁺ q ≡ ready b₁ k₁ d₁
            → state_of s⁺ q' ≡ ready b₂ k₂ d₂ → eqb q q' ≡ false
            → (κ : Key) → owns_nodes k₁ κ ≡ true → owns_nodes k₂ κ ≡ true → ⊥
        apart q q' b₁ b₂ k₁ k₂ d₁ d₂ p p' ne κ o o' = at_or_else ⊥ q r
            (λ e. at_or_else ⊥ q' r
            (λ e'. let z : eqb r r ≡ false = rw (e, e') at ne in let z' : true ≡ false = sym (eqb_self r) ∙ z in clash (cc))
            (λ ne'. mine q' b₂ k₂ d₂ p' ne' κ o' (rw (its_children q b₁ k₁ d₁ p e) at o)))
            (λ ne₁. at_or_else ⊥ q' r
            (λ e'. mine q b₁ k₁ d₁ p ne₁ κ o (rw (its_children q' b₂ k₂ d₂ p' e') at o'))
            (λ ne₂. h.disjoint q q' b₁ b₂ k₁ k₂ d₁ d₂ (ready_was q b₁ k₁ d₁ p ne₁) (ready_was q' b₂ k₂ d₂ p' ne₂) ne κ o o'))

    pub later_ready : LaterState W s₀ s⁺
    later_ready = record {
      gains = cm.doing.step.gains;
      free = free;
      rewritable = λ q l. at_or_else (Rewritable W s₀ q) q r
          (λ e. waiting (rw e cm.doing.in_range) (rw (e, cm.doing.began)))
          (λ ne. cm.doing.step.rewritable q (rewritable_was q ne l));
      kept = cm.doing.step.kept;
      busy = λ q p. at_or_else (state_of s⁺ q ≡ in_progress) q r
          (λ e. absurd (let z : in_progress ≡ not_begun = sym p ∙ ap (λ x. state_of s₀ x) e ∙ cm.doing.began in clash (cc)))
          (λ ne. else⁺ q ne ∙ cm.doing.step.busy q p);
    }
      where
        owned₀ : (κ : Key) → (owns_nodes ks κ ≡ true) ⊎ Owned s κ → Free s₀ κ
        owned₀ κ (inl o) = cm.doing.since κ o
        owned₀ κ (inr o) = cm.doing.step.free κ (old o)

        free : (κ : Key) → Free s⁺ κ → Free s₀ κ
        free κ (old o) = owned₀ κ (owned_was κ o)
        free κ (new n) = cm.doing.step.free κ (new (new_was κ n))
