-- A region at its terminator: what it may use is in scope, and the case of an edge that is steered to.
use Rattle.std.proofs.Math.Bool.{false, true}
use mathlib.Core.List.{List, [], ◌∷◌, map}
use Rattle.std.specs.Prelude.{◌⊎◌, ◌≡◌, ◌<◌, ◌≤◌, suc, zero, ℕ, length, take}
use Rattle.std.proofs.Math.Logic.{inl}
use Rattle.std.proofs.Common.{inr, ◌∙◌, arith}
use Rattle.std.proofs.Math.Option.{none}
use Rattle.std.proofs.Math.Path.{ap, refl, sym}
use Rattle.meaning.specs.Runs.{⟨⟩, run_nodes, End, Event, RunState, Word, put_inputs, word}
use Rattle.meaning.specs.Graph.{Instr, Value, bool, const, held, input, instr, output, region, undef, no_value}
use Rattle.nesting.proofs.lookups.Contexts.{no_input, own_in, rooted_ends}
use Rattle.nesting.specs.Nesting.{block_count, blocks_from, blocks_of, same_target, MaybeClaimedRegion, DeferredEdgeBundle, to_region}
use Rattle.nesting.specs.Nesting.{true_cond, rewrites_of, NestState, NodeOutput, ready, look_up_nodes}
use Rattle.nesting.specs.lookups.Rewriting.{rewrite_last}
use Rattle.nesting.specs.steps.RegionsLeft.{state_of}
use Rattle.nesting.specs.steps.TargetsAndCases.{same_target_self}
use Rattle.follows.specs.simulation.Usable.{AllUsable, UsableIn, after_blocks}
use Rattle.meaning.specs.facts.Tests.{eqb_self}
use Rattle.follows.specs.simulation.Key.{constant_not_input, key, of_instr, owns_nodes}
use Rattle.follows.specs.simulation.World.{World, ar, from_region, size}
use Rattle.follows.specs.simulation.Tables.{Gains, Resolver, Respects, Tables, respects_back, tables}
use Rattle.follows.specs.simulation.Frame.{puts_other}
use Rattle.follows.specs.simulation.Conditions.{Mat}
use Rattle.follows.specs.simulation.Leads.{Based, Goes, OnwardTo, ends_with}
use Rattle.follows.specs.simulation.Inputs.{input_numbered, puts_at}
use Rattle.follows.specs.simulation.OwnBlocks.{Agree, usable_reads}
use Rattle.follows.specs.simulation.Final.{final_respects, unrewritten_stays}
use Rattle.follows.specs.simulation.Scope.{AllScoped, Scoped, own_input, owned, scoped_const}
use Rattle.follows.specs.simulation.Invariant.{Inv, waiting}
use Rattle.follows.specs.simulation.EnterCase.{Enters}
use Rattle.follows.specs.simulation.SelectFollows.{none_owns}

module _ (W : World) where
  pub reads_of : (r : ℕ) → r < size W → (ρ : Resolver) (a st : RunState)
      → Agree ρ r (ar W r) (after_blocks 0 (region W.g r).blocks) a st → (vs : List Value)
      → AllUsable r (ar W r) (after_blocks 0 (region W.g r).blocks) vs
      → map a.env vs ≡ map (λ v. st.env (ρ v)) vs
  reads_of r r_in ρ a st ag vs us = usable_reads W r (W.valid.blocks r r_in) ρ _ a st ag vs us

  -- ---- what the region may use is in scope
  own_instr : (n r k i : ℕ) (bs : List (List Instr)) → i < after_blocks k bs → k ≤ i → owns_nodes (blocks_from n r k bs) (of_instr r) ≡ true
  unfolding owns_nodes
  own_instr n r k i [] lt le = absurd (omega arith)
  own_instr n r k i (x ∷ bs) lt le = rw (eqb_self r)

  pub usable_scoped : (r : ℕ) (T : Tables) (v : Value) → UsableIn r (ar W r) (after_blocks 0 (region W.g r).blocks) v
      → Scoped T r (ar W r) (blocks_of W.g r) v
  usable_scoped r T (const i) h = scoped_const (const i) refl
  usable_scoped r T (bool b) h = scoped_const (bool b) refl
  usable_scoped r T (undef ty) h = scoped_const (undef ty) refl
  usable_scoped r T no_value h = absurd h
  usable_scoped r T (held q i) h = absurd h
  usable_scoped r T (output i) h = absurd h
  usable_scoped r T (input q i) (p, lt) =
      record { scoped = λ ρ os res. own_input i lt (ap (λ z. ρ (input z i)) p); context = rw p (own_in r i) }
  usable_scoped r T (instr q i) (p, lt) =
      record {
        scoped = λ ρ os res. owned
            (rw (res.on_instr q i, p) (own_instr (block_count (take r W.g.regions)) r 0 i (region W.g r).blocks lt (omega arith)));
        context = no_input (instr q i) refl;
      }

  pub usable_all : (r : ℕ) (T : Tables) (vs : List Value) → AllUsable r (ar W r) (after_blocks 0 (region W.g r).blocks) vs
      → AllScoped T r (ar W r) (blocks_of W.g r) vs
  usable_all r T [] h i = scoped_const (undef 0) refl
  usable_all r T (v ∷ vs) (h, hs) zero = usable_scoped r T v h
  usable_all r T (v ∷ vs) (h, hs) (suc i) = usable_all r T vs hs i

  -- ---- an edge's case: where the graph's run goes on along the edge, the case is entered
  pub record EdgeEnters (T : Tables) (x : ℕ) (vs : List Value) (c : MaybeClaimedRegion) : Type 0 where
    pub enters : (ρ : Resolver) (os : List NodeOutput) → Respects ρ os T → (n : ℕ) (e : End) (h : List Event) (st : RunState) → Based W st
        → OnwardTo W ρ st n e h (to_region x) vs → Enters W ρ os n e h st c

  pub edge_enters_on : {T T' : Tables} {x : ℕ} {vs : List Value} {c : MaybeClaimedRegion} → Gains T T' → EdgeEnters T x vs c
      → EdgeEnters T' x vs c
  edge_enters_on p h = record { enters = λ ρ os res. h.enters ρ os (respects_back p res) }

  -- one entry whose condition is true
  pub one_goes : (ρ : Resolver) (os : List NodeOutput) (T : Tables) → Respects ρ os T → (n : ℕ) (e : End) (h : List Event) (st : RunState)
      → Based W st
      → (x : DeferredEdgeBundle) → x.condition ≡ true_cond → OnwardTo W ρ st n e h x.target x.target_inputs
      → Goes W ρ os n (x ∷ []) e h st
  unfolding Mat
  one_goes ρ os T res n e h st bs x c onw = record {
    entry = x;
    chosen = record {
      member = inl refl;
      holds = λ v mat. record {
        less = 0;
        is = let q : v ≡ bool true = rw c at mat in ap (λ z. st.env (ρ z)) q ∙ ap st.env (res.on_bool true) ∙ bs.based
            (bool true) refl ∙ W.on_bool true;
      };
      others = λ y i ne v mat. only y i ne;
    };
    onward = onw;
  }
    where
      only : {v : Value} (y : DeferredEdgeBundle) → (y ≡ x) ⊎ ⊥ → same_target y.target x.target ≡ false → st.env (ρ v) ≡ word 0
      only y (inl p) ne = let z : same_target x.target x.target ≡ false = rw p at ne in let z' : true ≡ false =
          sym (same_target_self x.target) ∙ z in cc
      only y (inr no_way) ne = absurd no_way

  -- a region with no children and no way on never ends
  pub never_ends : (s : NestState) → Inv W s → (x b : ℕ) → x < size W → state_of s x ≡ ready b ⟨⟩ []
      → (n : ℕ) (ws : List Word) (past : List Event) (e : End) (h : List Event) → length ws ≡ ar W x
      → from_region W n x ws past ≡ ends_with e h → ⊥
  unfolding run_nodes look_up_nodes
  never_ends s inv x b x_in is n ws past e h len gr =
      let ρ : Resolver = rewrite_last s.region_input_rewrites in
      let st : RunState = record { env = put_inputs (λ k. input x k) 0 ws W.base; events = past; cost = 0; over_limit = false } in
      let un : rewrites_of s.region_input_rewrites x ≡ none = inv.unrewritten x (waiting x_in (rw is)) in
      let fl = (inv.sims x b ⟨⟩ [] is).leads ρ s.node_outputs (final_respects (tables s) (λ q. rooted_ends (inv.rooted q))) n n
      (omega arith) st ws
      (record { based = λ v c. puts_other (λ k. input x k) v (constant_not_input x v c) 0 ws W.base }) len
      (record {
        reads = λ k lt. ap st.env (unrewritten_stays s.region_input_rewrites x k un)
            ∙ puts_at (λ k. input x k) (input_numbered x) ws k k 0
            (omega arith) lt W.base;
        apart = λ k lt. none_owns (key s.node_outputs (ρ (input x k)));
      }) e h gr in
      fl.leads_to.chosen.member
