-- Scope: what the values and conditions of deferred edges may be, and that these alone decide where a run goes on.
use Rattle.std.specs.Prelude.{Bool, false, true, List, [], ◌∷◌, map, ◌≡◌, refl, ◌<◌, suc, ℕ, get_or, length}
use Rattle.std.proofs.Math.Bool.{or-true}
use Rattle.std.proofs.Common.{inl, inr, ◌∙◌, subst, sym}
use Rattle.std.proofs.Math.Option.{none}
use Rattle.meaning.specs.Runs.{Nodes, End, Event, RunState}
use Rattle.meaning.specs.Graph.{Value, bool, input, output, undef}
use Rattle.nesting.specs.lookups.ChainEnds.{names}
use Rattle.nesting.proofs.lookups.Contexts.{InContext, context_more, context_rewritten, no_input}
use Rattle.nesting.specs.Nesting.{join, DeferredEdgeBundle, DeferredEdgeBundleSet, DeferredTarget, LazyCond, false_cond, merge, true_cond}
use Rattle.nesting.specs.Nesting.{undef_cond, rewrites_of, NodeOutput, RewriteEntry}
use Rattle.nesting.specs.lookups.Rewriting.{rewrite}
use Rattle.meaning.specs.facts.Elements.{In, Extends}
use Rattle.follows.specs.simulation.Key.{Key, OutputAt, constant_by, is_constant, key, key_constant, key_output, of_node, of_none}
use Rattle.follows.specs.simulation.Key.{owns_join, owns_nodes}
use Rattle.follows.specs.simulation.World.{Fits, World}
use Rattle.follows.specs.simulation.Tables.{Gains, Resolver, Respects, Tables, lookup_keeps, respects_back, stays}
use Rattle.follows.specs.simulation.Conditions.{Mat, mat_stays}
use Rattle.follows.specs.simulation.Leads.{Goes, OnwardTo, onward_reads}
use Rattle.follows.specs.simulation.Bundles.{DistinctBundles}

-- ---- scope
-- A value that the children may leave: a constant, an own input (of q, of which there are a), or what the children own.
pub data InScope (ρ : Resolver) (os : List NodeOutput) (q a : ℕ) (ks : Nodes) (v : Value) : Type 0 where
  constant : is_constant v ≡ true → InScope ρ os q a ks v
  own_input : (k : ℕ) → k < a → v ≡ ρ (input q k) → InScope ρ os q a ks v
  owned : owns_nodes ks (key os v) ≡ true → InScope ρ os q a ks v

-- Whatever the tables will be at the end; and its look-up leads, past every mark, to no inputs but those of q.
pub record Scoped (T : Tables) (q a : ℕ) (ks : Nodes) (v : Value) : Type 0 where
  pub scoped : (ρ : Resolver) (os : List NodeOutput) → Respects ρ os T → InScope ρ os q a ks (ρ v)
  pub context : InContext T.rewrites q v

abbrev pub AllScoped : Tables → ℕ → ℕ → Nodes → List Value → Type 0
AllScoped T q a ks vs = (i : ℕ) → Scoped T q a ks (get_or vs i (undef 0))

abbrev pub CondIs : Tables → ℕ → ℕ → Nodes → LazyCond → Type 0
CondIs T q a ks true_cond = Unit
CondIs T q a ks false_cond = Unit
CondIs T q a ks undef_cond = Unit
CondIs T q a ks (merge n kind sc cs) = Scoped T q a ks sc × (owns_nodes ks (of_node n) ≡ true)

pub record CondOk (T : Tables) (q a : ℕ) (ks : Nodes) (c : LazyCond) : Type 0 where
  pub is : CondIs T q a ks c

pub record OwnedWithin (a b : Nodes) : Type 0 where
  pub into : (κ : Key) → owns_nodes a κ ≡ true → owns_nodes b κ ≡ true

pub within_left : (a b : Nodes) → OwnedWithin a (join a b)
within_left a b = record { into = λ κ p. rw (owns_join a b κ, p) }

pub within_right : (a b : Nodes) → OwnedWithin b (join a b)
within_right a b = record { into = λ κ p. rw (owns_join a b κ, p) (or-true (owns_nodes a κ)) }

pub within_refl : (a : Nodes) → OwnedWithin a a
within_refl a = record { into = λ κ p. p }

pub context_stays : {es es' : List RewriteEntry} {q : ℕ} {v : Value} → Extends es es' → InContext es q v → InContext es' q v
context_stays {q = q} {v = v} p h = subst (λ l. InContext l q v) (sym p.whole) (context_more p.more h)

pub scoped_later : {T T' : Tables} {q a : ℕ} {ks ks' : Nodes} {v : Value} → Gains T T' → OwnedWithin ks ks' → Scoped T q a ks v
    → Scoped T' q a ks' v
scoped_later {q} {a} {ks} {ks'} {v} p w h =
    record { scoped = λ ρ os res. go ρ os (h.scoped ρ os (respects_back p res)); context = context_stays p.rewrites h.context }
  where
    go : (ρ : Resolver) (os : List NodeOutput) → InScope ρ os q a ks (ρ v) → InScope ρ os q a ks' (ρ v)
    go ρ os (constant c) = constant c
    go ρ os (own_input k lt e) = own_input k lt e
    go ρ os (owned x) = owned (w.into (key os (ρ v)) x)

constant_stays : {ρ : Resolver} {os : List NodeOutput} {T : Tables} → Respects ρ os T → (v : Value) → is_constant v ≡ true
    → is_constant (ρ v) ≡ true
constant_stays {ρ} res v h =
    constant_by (λ u. is_constant (ρ u) ≡ true) (λ i. rw (res.on_const i)) (λ b. rw (res.on_bool b)) (λ ty. rw (res.on_undef ty)) v h

pub scoped_const : {T : Tables} {q a : ℕ} {ks : Nodes} (v : Value) → is_constant v ≡ true → Scoped T q a ks v
scoped_const v c = record {
  scoped = λ ρ os res. constant (constant_stays res v c);
  context =
      no_input v (constant_by (λ u. names u ≡ none) (λ i. refl) (λ b. refl) (λ ty. refl) v c);
}

pub scoped_output : {T : Tables} {q a : ℕ} {ks : Nodes} {n k : ℕ} {o : NodeOutput} → OutputAt n T.outputs k o
    → owns_nodes ks (of_node n) ≡ true → Scoped T q a ks (output k)
scoped_output {k} at_k p =
    record {
      scoped = λ ρ os res. owned (rw (res.on_output k, key_output (stays res.outputs at_k)) p);
      context =
          no_input (output k) refl;
    }

pub scoped_rewritten : {T : Tables} {q a : ℕ} {ks : Nodes} → rewrites_of T.rewrites q ≡ none → (v : Value) → Scoped T q a ks v
    → Scoped T q a ks (rewrite T.rewrites v)
scoped_rewritten {T} {q} o v h =
    record {
      scoped = λ ρ os res. rw (lookup_keeps res v) (h.scoped ρ os res);
      context =
          context_rewritten T.rewrites q o v h.context;
    }

pub cond_later : {T T' : Tables} {q a : ℕ} {ks ks' : Nodes} → Gains T T' → OwnedWithin ks ks' → (c : LazyCond) → CondOk T q a ks c
    → CondOk T' q a ks' c
cond_later p w true_cond h = record { is = tt }
cond_later p w false_cond h = record { is = tt }
cond_later p w undef_cond h = record { is = tt }
cond_later p w (merge n kind sc cs) h = record { is = (scoped_later p w h.is.0, w.into (of_node n) h.is.1) }

-- what materializes is in scope
mat_in_scope : {ρ : Resolver} {os : List NodeOutput} {T : Tables} {q a : ℕ} {ks : Nodes} (c : LazyCond) (v : Value) → Respects ρ os T
    → CondOk T q a ks c → Mat c os v
    → InScope ρ os q a ks (ρ v)
unfolding Mat
mat_in_scope true_cond v res h mt = rw mt (constant (constant_stays res (bool true) refl))
mat_in_scope false_cond v res h mt = rw mt (constant (constant_stays res (bool false) refl))
mat_in_scope undef_cond v res h mt = rw mt (constant (constant_stays res (undef 1) refl))
mat_in_scope {ρ} {os} (merge n kind sc cs) v res h (inl (b, e, ms)) = rw e (h.is.0.scoped ρ os res)
mat_in_scope (merge n kind sc cs) v res h (inr (k, o, e, at_k, ms)) = rw e (owned (rw (res.on_output k, key_output at_k) h.is.1))

mat_in_context : {T : Tables} {q a : ℕ} {ks : Nodes} (c : LazyCond) (v : Value) (os : List NodeOutput) → CondOk T q a ks c → Mat c os v
    → InContext T.rewrites q v
unfolding Mat
mat_in_context true_cond v os h mt = rw mt (no_input (bool true) refl)
mat_in_context false_cond v os h mt = rw mt (no_input (bool false) refl)
mat_in_context undef_cond v os h mt = rw mt (no_input (undef 1) refl)
mat_in_context (merge n kind sc cs) v os h (inl (b, e, ms)) = rw e h.is.0.context
mat_in_context (merge n kind sc cs) v os h (inr (k, o, e, at_k, ms)) = rw e (no_input (output k) refl)

pub mat_scoped : {T T' : Tables} {q a : ℕ} {ks : Nodes} (c : LazyCond) (v : Value) → Gains T T' → CondOk T q a ks c → Mat c T'.outputs v
    → Scoped T' q a ks v
mat_scoped {T'} c v p h mt = record {
  scoped = λ ρ os res. mat_in_scope c v (respects_back p res) h (mat_stays c T'.outputs os res.outputs v mt);
  context = context_stays p.rewrites (mat_in_context c v T'.outputs h mt);
}

-- values in scope are none of what is apart from the children, if the own inputs are not
pub in_apart : {ρ : Resolver} {os : List NodeOutput} {q a : ℕ} {ks : Nodes} (P : Key → Bool) (v : Value) → P of_none ≡ false
    → ((k : ℕ) → k < a → P (key os (ρ (input q k))) ≡ false)
    → ((κ : Key) → owns_nodes ks κ ≡ true → P κ ≡ false) → InScope ρ os q a ks v → P (key os v) ≡ false
in_apart {os} P v on_none on_input on_owned (constant c) = rw (key_constant os v c) on_none
in_apart P v on_none on_input on_owned (own_input k lt e) = rw e (on_input k lt)
in_apart {os} P v on_none on_input on_owned (owned o) = on_owned (key os v) o

-- ---- sets
module _ (W : World) where
  pub record EntryOk (T : Tables) (q a : ℕ) (ks : Nodes) (e : DeferredEdgeBundle) : Type 0 where
    pub fits : Fits W e.target (length e.target_inputs)
    pub inputs : AllScoped T q a ks e.target_inputs
    pub condition : CondOk T q a ks e.condition

  pub record SetOk (T : Tables) (q a : ℕ) (ks : Nodes) (d : DeferredEdgeBundleSet) : Type 0 where
    pub distinct : DistinctBundles d
    pub entries : (e : DeferredEdgeBundle) → In e d → EntryOk T q a ks e

  pub entry_later : {T T' : Tables} {q a : ℕ} {ks ks' : Nodes} → Gains T T' → OwnedWithin ks ks' → (e : DeferredEdgeBundle)
      → EntryOk T q a ks e → EntryOk T' q a ks' e
  entry_later p w e h =
      record { fits = h.fits; inputs = λ i. scoped_later p w (h.inputs i); condition = cond_later p w e.condition h.condition }

  pub set_later : {T T' : Tables} {q a : ℕ} {ks ks' : Nodes} {d : DeferredEdgeBundleSet} → Gains T T' → OwnedWithin ks ks'
      → SetOk T q a ks d → SetOk T' q a ks' d
  set_later p w h = record { distinct = h.distinct; entries = λ e i. entry_later p w e (h.entries e i) }

  read_same : (ρ : Resolver) (s s' : RunState) (vs : List Value)
      → ((i : ℕ) → s'.env (ρ (get_or vs i (undef 0))) ≡ s.env (ρ (get_or vs i (undef 0))))
      → map (λ v. s'.env (ρ v)) vs ≡ map (λ v. s.env (ρ v)) vs
  read_same ρ s s' [] h = refl
  read_same ρ s s' (v ∷ vs) h = let p = h 0 in let q = read_same ρ s s' vs (λ i. h (suc i)) in cc

  pub onward_same : (ρ : Resolver) (s s' : RunState) → s'.events ≡ s.events
      → (n : ℕ) (e : End) (h : List Event) (x : DeferredTarget) (vs : List Value)
      → ((i : ℕ) → s'.env (ρ (get_or vs i (undef 0))) ≡ s.env (ρ (get_or vs i (undef 0)))) → OnwardTo W ρ s n e h x vs
      → OnwardTo W ρ s' n e h x vs
  onward_same ρ s s' past n e h x vs same = onward_reads W ρ s s' past n e h x vs vs (read_same ρ s s' vs same)

  -- two states that agree on all that is in scope
  pub record Agrees (ρ : Resolver) (os : List NodeOutput) (q a : ℕ) (ks : Nodes) (s s' : RunState) : Type 0 where
    pub events : s'.events ≡ s.events
    pub env : (v : Value) → InScope ρ os q a ks v → s'.env v ≡ s.env v

  pub goes_same : {T : Tables} {q a : ℕ} {ks : Nodes} {d : DeferredEdgeBundleSet} (ρ : Resolver) (os : List NodeOutput) → Respects ρ os T
      → (s s' : RunState)
      → Agrees ρ os q a ks s s' → SetOk T q a ks d → (n : ℕ) (e : End) (h : List Event) → Goes W ρ os n d e h s → Goes W ρ os n d e h s'
  goes_same ρ os res s s' ag fit n e h go =
      let x = go.entry in
      let x_ok = fit.entries x go.chosen.member in
      record {
        entry = x;
        chosen = record {
          member = go.chosen.member;
          holds = λ v mat.
              let y = go.chosen.holds v mat in
              record { less = y.less; is = ag.env (ρ v) (mat_in_scope x.condition v res x_ok.condition mat) ∙ y.is };
          others = λ y i ne v mat. ag.env (ρ v) (mat_in_scope y.condition v res (fit.entries y i).condition mat)
              ∙ go.chosen.others y i ne v mat;
        };
        onward = onward_same ρ s s' ag.events n e h x.target x.target_inputs (λ i. ag.env _ ((x_ok.inputs i).scoped ρ os res))
            go.onward;
      }
