-- The invariant of nesting's state, and what a step may change.
-- A key is Owned if a Ready region's children own it, New if no children can own it yet: instructions of a region not begun,
-- inputs of a region without rewrites, outputs of a node not defined. Free is either: what a call may still use.
-- A region is Rewritable if someone other than its holder may still give it rewrites: not begun, Ready, or not yet defined.
-- Whoever holds children that own nothing Free, or a region that is not Rewritable, still does after any call: no list of holders is kept.
use Rattle.std.specs.Prelude.{Bool, false, true, List, [], ◌∷◌, ◌++◌, ◌≡◌, refl, ◌<◌, ◌≤◌, ℕ, eqb, get_or, length}
use Rattle.std.proofs.Math.Option.{Option, none, some}
use Rattle.std.proofs.Common.{◌∙◌, ap, subst, sym, arith}
use Rattle.meaning.specs.Runs.{Nodes}
use Rattle.meaning.specs.Graph.{Value}
use Rattle.nesting.specs.lookups.ChainEnds.{RewritesTo}
use Rattle.nesting.proofs.lookups.ChainEnds.{entry_kept}
use Rattle.meaning.specs.facts.Tests.{clash}
use Rattle.nesting.proofs.lookups.Contexts.{InContext, Rooted, open_else, rooted_add}
use Rattle.nesting.specs.Nesting.{DeferredEdgeBundleSet, rewrites_of, NestState, RegionInputRewrites, RewriteEntry, StructurizeRegionState}
use Rattle.nesting.specs.Nesting.{claimed, in_progress, not_begun, ready}
use Rattle.nesting.specs.steps.RegionsLeft.{state_of}
use Rattle.nesting.proofs.steps.Keeps.{with_entry}
use Rattle.follows.specs.simulation.Key.{Key, of_input, of_instr, of_node, of_none, owns_nodes}
use Rattle.follows.specs.simulation.World.{World, ar, size}
use Rattle.follows.specs.simulation.Tables.{Gains, gains_refl, gains_then, tables}
use Rattle.follows.specs.simulation.Leads.{Sim, leads_on}
use Rattle.follows.specs.simulation.Defined.{Grew}
use Rattle.follows.specs.simulation.Scope.{SetOk, set_later, within_refl}
use Rattle.meaning.specs.facts.Elements.{extends_same, extends_refl}

abbrev pub idle : StructurizeRegionState → Bool
idle not_begun = true
idle in_progress = false
idle claimed = false
idle (ready b ks d) = true

pub open_before : (es t : List RewriteEntry) (r : ℕ) → rewrites_of (es ++ t) r ≡ none → rewrites_of es r ≡ none
open_before es t r h = go (rewrites_of es r) refl
  where
    go : (y : Option RegionInputRewrites) → rewrites_of es r ≡ y → rewrites_of es r ≡ none
    go none e = e
    go (some y) e = let z = entry_kept es t r y e in absurd (clash (cc))

-- Some Ready region's children own the key.
pub record Owned (s : NestState) (κ : Key) : Type 0 where
  pub region : ℕ
  pub back : ℕ
  pub children : Nodes
  pub deferred_edges : DeferredEdgeBundleSet
  pub is : state_of s region ≡ ready back children deferred_edges
  pub owns : owns_nodes children κ ≡ true

-- No children own it yet.
abbrev pub New : NestState → Key → Type 0
New s (of_instr q) = state_of s q ≡ not_begun
New s (of_input q) = rewrites_of s.region_input_rewrites q ≡ none
New s (of_node n) = s.node_count ≤ n
New s of_none = ⊥

pub owned_by : {s s' : NestState} {κ : Key} (o : Owned s' κ) → state_of s o.region ≡ ready o.back o.children o.deferred_edges
    → Owned s κ
owned_by o p = record {
  region = o.region;
  back = o.back;
  children = o.children;
  deferred_edges = o.deferred_edges;
  is = p;
  owns =
      o.owns;
}

pub data Free (s : NestState) (κ : Key) : Type 0 where
  old : Owned s κ → Free s κ
  new : New s κ → Free s κ

module _ (W : World) where
  -- Someone other than its holder may yet give the region rewrites.
  pub data Rewritable (s : NestState) (q : ℕ) : Type 0 where
    unborn : s.region_count ≤ q → Rewritable s q
    waiting : q < size W → idle (state_of s q) ≡ true → Rewritable s q

  -- Every region's inputs lead to those of one without rewrites, so look_ups end; a Ready region's children follow the graph, its
  -- deferred edges are in scope; the children of two Ready regions own nothing in common, and nothing New; what is Rewritable has
  -- no rewrites.
  pub record Inv (s : NestState) : Type 0 where
    pub rooted : (r : ℕ) → Rooted s.region_input_rewrites r
    pub sized : length s.region_states ≡ size W
    pub room : size W ≤ s.region_count
    pub sims : (r b : ℕ) (ks : Nodes) (d : DeferredEdgeBundleSet) → state_of s r ≡ ready b ks d → Sim W r r ks d (tables s)
    pub sets : (r b : ℕ) (ks : Nodes) (d : DeferredEdgeBundleSet) → state_of s r ≡ ready b ks d → SetOk W (tables s) r (ar W r) ks d
    pub disjoint : (r r' b b' : ℕ) (ks ks' : Nodes) (d d' : DeferredEdgeBundleSet) → state_of s r ≡ ready b ks d
        → state_of s r' ≡ ready b' ks' d' → eqb r r' ≡ false
        → (κ : Key) → owns_nodes ks κ ≡ true → owns_nodes ks' κ ≡ true → ⊥
    pub fresh : (κ : Key) → Owned s κ → New s κ → ⊥
    pub unrewritten : (q : ℕ) → Rewritable s q → rewrites_of s.region_input_rewrites q ≡ none

  -- Tables gain; nothing becomes Free or Rewritable again; what is not Rewritable gets no rewrites; who is in progress stays so.
  pub record LaterState (s s' : NestState) : Type 0 where
    pub gains : Gains (tables s) (tables s')
    pub free : (κ : Key) → Free s' κ → Free s κ
    pub rewritable : (q : ℕ) → Rewritable s' q → Rewritable s q
    pub kept : (q : ℕ) → (Rewritable s q → ⊥) → rewrites_of s.region_input_rewrites q ≡ none
        → rewrites_of s'.region_input_rewrites q ≡ none
    pub busy : (q : ℕ) → state_of s q ≡ in_progress → state_of s' q ≡ in_progress

  pub later_refl : (s : NestState) → LaterState s s
  later_refl s = record { gains = gains_refl (tables s); free = λ κ h. h; rewritable = λ q h. h; kept = λ q n h. h; busy = λ q h. h }

  pub later_state_then : {s s' s'' : NestState} → LaterState s s' → LaterState s' s'' → LaterState s s''
  later_state_then p q = record {
    gains = gains_then p.gains q.gains;
    free = λ κ h. p.free κ (q.free κ h);
    rewritable = λ r h. p.rewritable r (q.rewritable r h);
    kept = λ r n h. q.kept r (λ l. n (p.rewritable r l)) (p.kept r n h);
    busy = λ r h. q.busy r (p.busy r h);
  }

  -- ---- only outputs and counters grow
  module _ {s s' : NestState} (gr : Grew s s') where
    status_same : (r : ℕ) → state_of s' r ≡ state_of s r
    status_same r = ap (λ l. get_or l r not_begun) gr.region_states

    pub owned_same : (κ : Key) → Owned s' κ → Owned s κ
    owned_same v o = owned_by o (sym (status_same o.region) ∙ o.is)

    new_same : (κ : Key) → New s' κ → New s κ
    new_same (of_instr q) h = sym (status_same q) ∙ h
    new_same (of_input q) h = ap (λ l. rewrites_of l q) (sym gr.rewrites) ∙ h
    new_same (of_node n) h = omega (arith, gr.node_count)
    new_same of_none h = h

    rewritable_same : (q : ℕ) → Rewritable s' q → Rewritable s q
    rewritable_same q (unborn h) = unborn (omega (arith, gr.regions))
    rewritable_same q (waiting lt h) = waiting lt (rw (status_same q) at h)

    pub grew_gains : Gains (tables s) (tables s')
    grew_gains = record { rewrites = extends_same gr.rewrites; outputs = gr.outputs }

    pub later_grew : LaterState s s'
    later_grew = record {
      gains = grew_gains;
      free = λ v h. go v h;
      rewritable = rewritable_same;
      kept = λ q n h. rw gr.rewrites h;
      busy = λ q h. status_same q ∙ h;
    }
      where
        go : (κ : Key) → Free s' κ → Free s κ
        go v (old o) = old (owned_same v o)
        go v (new n) = new (new_same v n)

    pub inv_grew : Inv s → Inv s'
    inv_grew h = record {
      rooted = λ r. subst (λ l. Rooted l r) (sym gr.rewrites) (h.rooted r);
      sized = ap length gr.region_states ∙ h.sized;
      room = omega (arith, h.room, gr.regions);
      sims = λ r b ks d p. leads_on W grew_gains (h.sims r b ks d (sym (status_same r) ∙ p));
      sets = λ r b ks d p. set_later W grew_gains (within_refl ks) (h.sets r b ks d (sym (status_same r) ∙ p));
      disjoint = λ r r' b b' ks ks' d d' p p' ne. h.disjoint r r' b b' ks ks' d d' (sym (status_same r) ∙ p)
          (sym (status_same r') ∙ p') ne;
      fresh = λ v o n. h.fresh v (owned_same v o) (new_same v n);
      unrewritten = λ q l. rw gr.rewrites (h.unrewritten q (rewritable_same q l));
    }

  -- ---- an entry is added
  abbrev pub rewriting : ℕ → RegionInputRewrites → NestState → NestState
  rewriting q e s = with_entry (record { region = q; rewrites = e }) s

  module _ (s : NestState) (q : ℕ) (e : RegionInputRewrites) where
    abbrev s⁺ : NestState
    s⁺ = rewriting q e s

    pub rewrite_gains : Gains (tables s) (tables s⁺)
    rewrite_gains = record {
      rewrites = record { more = record { region = q; rewrites = e } ∷ []; whole = refl };
      outputs =
          extends_refl s.node_outputs;
    }

    pub rewritable⁺ : (r : ℕ) → Rewritable s⁺ r → Rewritable s r
    rewritable⁺ r (unborn h) = unborn h
    rewritable⁺ r (waiting lt h) = waiting lt h

    pub owned⁺ : (κ : Key) → Owned s⁺ κ → Owned s κ
    owned⁺ v o = owned_by o o.is

    new⁺ : (κ : Key) → New s⁺ κ → New s κ
    new⁺ (of_instr r) h = h
    new⁺ (of_input r) h = open_before s.region_input_rewrites _ r h
    new⁺ (of_node n) h = h
    new⁺ of_none h = h

    pub free⁺ : (κ : Key) → Free s⁺ κ → Free s κ
    free⁺ κ (old o) = old (owned⁺ κ o)
    free⁺ κ (new n) = new (new⁺ κ n)

    pub inv_rewrite : (h : Inv s) → rewrites_of s.region_input_rewrites q ≡ none → (Rewritable s q → ⊥) → (p : ℕ)
        → rewrites_of s.region_input_rewrites p ≡ none → (p ≡ q → ⊥)
        → ((k : ℕ) (v : Value) → RewritesTo e k v → InContext s.region_input_rewrites p v) → Inv s⁺
    inv_rewrite h no_q closed p no_p ne given = record {
      rooted = rooted_add s.region_input_rewrites q p e no_q no_p ne given h.rooted;
      sized = h.sized;
      room = h.room;
      sims = λ r b ks d p. leads_on W rewrite_gains (h.sims r b ks d p);
      sets = λ r b ks d p. set_later W rewrite_gains (within_refl ks) (h.sets r b ks d p);
      disjoint = λ r r' b b' ks ks' d d' p p' ne. h.disjoint r r' b b' ks ks' d d' p p' ne;
      fresh = λ v o n. h.fresh v (owned⁺ v o) (new⁺ v n);
      unrewritten = λ r l. open_else s.region_input_rewrites q e r (h.unrewritten r (rewritable⁺ r l))
          (λ p. closed (subst (λ x. Rewritable s x) p (rewritable⁺ r l)));
    }

    -- since s₀, when the region could still get rewrites
    pub later_rewrite : {s₀ : NestState} → LaterState s₀ s → Rewritable s₀ q → LaterState s₀ s⁺
    later_rewrite {s₀} st l = record {
      gains = gains_then st.gains rewrite_gains;
      free = λ κ h. st.free κ (free⁺ κ h);
      rewritable = λ r h. st.rewritable r (rewritable⁺ r h);
      kept = λ r n h. open_else s.region_input_rewrites q e r (st.kept r n h) (λ p. n (subst (λ x. Rewritable s₀ x) (sym p) l));
      busy = λ r h. st.busy r h;
    }
