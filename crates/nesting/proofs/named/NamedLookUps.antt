-- Of values that name something the look-ups make such values again; and when all values in a state do.
use Rattle.std.specs.Prelude.{Bool, true, false, List, [], ◌∷◌, map, eqb, get_or}
use Rattle.std.proofs.Math.Option.{Option, none, some}
use Prim.Native.Nat.{ℕ, zero, suc}
use Rattle.meaning.specs.Lists.{pick, All}
use Rattle.meaning.specs.facts.Elements.{all_get_d, all_mapped}
use Rattle.meaning.specs.Graph.{Value, const, input, instr, output, bool, undef, held, no_value}
use Rattle.meaning.specs.Runs.{Nodes, ⟨⟩, ◌▸◌}
use Rattle.nesting.specs.Nesting.{StructurizeRegionState, not_begun, in_progress, claimed, ready, InputRewrite, renumber_to}
use Rattle.nesting.specs.Nesting.{replace_by, RegionInputRewrites, replace_with, renumber_or_replace_with, RewriteEntry}
use Rattle.nesting.specs.Nesting.{NodeOutput, NestState, rewrites_of, LookUp, plain, look_up_input, look_up_chain, look_up, unmarked}
use Rattle.nesting.specs.Nesting.{look_up_last, ClaimedRegion, MaybeClaimedRegion, ok, err, join}
use Rattle.nesting.specs.AnswerValues.{Named, AllNamed, NodesNamed, SetNamed}

module _ (M : ℕ) where
  abbrev pub ClaimedNamed : ClaimedRegion → Type 0
  ClaimedNamed c = AllNamed M c.structured_body_inputs × NodesNamed M c.children × SetNamed M c.deferred_edges

  abbrev pub CaseNamed : MaybeClaimedRegion → Type 0
  CaseNamed (ok c) = ClaimedNamed c
  CaseNamed (err d) = SetNamed M d

  abbrev pub StateNamed : StructurizeRegionState → Type 0
  StateNamed not_begun = Unit
  StateNamed in_progress = Unit
  StateNamed claimed = Unit
  StateNamed (ready b ks d) = NodesNamed M ks × SetNamed M d

  abbrev pub RewriteNamed : InputRewrite → Type 0
  RewriteNamed (renumber_to i) = Unit
  RewriteNamed (replace_by v) = Named M v

  abbrev pub RewritesNamed : RegionInputRewrites → Type 0
  RewritesNamed (replace_with vs) = AllNamed M vs
  RewritesNamed (renumber_or_replace_with xs) = All RewriteNamed xs

  abbrev pub LogNamed : List RewriteEntry → Type 0
  LogNamed es = All (λ e. RewritesNamed e.rewrites) es

  abbrev pub OutputsNamed : List NodeOutput → Type 0
  OutputsNamed os = All (λ o. AllNamed M o.values) os

  -- All that the tables of a state hold.
  pub record GoodLookUp (s : NestState) : Type 0 where
    pub states : All StateNamed s.region_states
    pub log : LogNamed s.region_input_rewrites
    pub outputs : OutputsNamed s.node_outputs

  pub at_place : (vs : List Value) → AllNamed M vs → (k : ℕ) → Named M (get_or vs k (undef 0))
  at_place vs h k = all_get_d (Named M) (undef 0) tt vs h k

  pub join_named : (a b : Nodes) → NodesNamed M a → NodesNamed M b → NodesNamed M (join a b)
  unfolding NodesNamed
  join_named ⟨⟩ b h k = k
  join_named (x ▸ a) b h k = (h.0, join_named a b h.1 k)

  -- ---- look_ups
  abbrev FoundNamed : Option RegionInputRewrites → Type 0
  FoundNamed none = Unit
  FoundNamed (some x) = RewritesNamed x

  found_named : (es : List RewriteEntry) (r : ℕ) → LogNamed es → FoundNamed (rewrites_of es r)
  found_named [] r h = tt
  found_named (e ∷ es) r h = go (eqb r e.region) (found_named es r h.1)
    where
      go : (b : Bool) → FoundNamed (rewrites_of es r) → FoundNamed (pick b (some e.rewrites) (rewrites_of es r))
      go true k = h.0
      go false k = k

  input_named : (go : Value → LookUp Value) → ((v : Value) → Named M v → Named M (go v).value) → (r k : ℕ) (o : Option RegionInputRewrites)
      → FoundNamed o → Named M (look_up_input go r k o).value
  input_named go g r k none f = tt
  input_named go g r k (some (replace_with vs)) f = g (get_or vs k (undef 0)) (at_place vs f k)
  input_named go g r k (some (renumber_or_replace_with xs)) f =
      by (get_or xs k (renumber_to k)) (all_get_d RewriteNamed (renumber_to k) tt xs f k)
    where
      by : (x : InputRewrite) → RewriteNamed x → Named M
          (elim x as (λ x. LookUp Value) [ replace_by v ↦ go v | renumber_to i ↦ plain (held r i) ]).value
      by (renumber_to i) h = tt
      by (replace_by v) h = g v h

  chain_named : (fuel : ℕ) (es : List RewriteEntry) → LogNamed es → (v : Value) → Named M v → Named M (look_up_chain fuel es v).value
  unfolding look_up_chain
  chain_named zero es l v h = h
  chain_named (suc fuel) es l (input r k) h = input_named (λ v. look_up_chain fuel es v) (λ v n. chain_named fuel es l v n) r k (rewrites_of es r) (found_named es r l)
  chain_named (suc fuel) es l (held r k) h = tt
  chain_named (suc fuel) es l (const i) h = tt
  chain_named (suc fuel) es l (instr r k) h = tt
  chain_named (suc fuel) es l (output o) h = h
  chain_named (suc fuel) es l (bool b) h = tt
  chain_named (suc fuel) es l (undef ty) h = tt
  chain_named (suc fuel) es l no_value h = h

  pub look_up_named : (es : List RewriteEntry) → LogNamed es → (v : Value) → Named M v → Named M (look_up es v).value
  unfolding look_up
  look_up_named es l v h = chain_named _ es l v h

  unmarked_named : (v : Value) → Named M v → Named M (unmarked v)
  unmarked_named (held r k) h = tt
  unmarked_named (const i) h = tt
  unmarked_named (input r k) h = tt
  unmarked_named (instr r k) h = tt
  unmarked_named (output o) h = h
  unmarked_named (bool b) h = tt
  unmarked_named (undef ty) h = tt
  unmarked_named no_value h = h

  pub look_up_last_named : (es : List RewriteEntry) → LogNamed es → (v : Value) → Named M v → Named M (look_up_last es v).value
  look_up_last_named es l v h = unmarked_named (look_up es v).value (look_up_named es l v h)

  pub look_ups_named : (ρ : Value → LookUp Value) → ((v : Value) → Named M v → Named M (ρ v).value) → (vs : List Value) → AllNamed M vs
      → AllNamed M (map (λ v. (ρ v).value) vs)
  look_ups_named ρ f vs h = all_mapped (λ v. (ρ v).value) (Named M) (Named M) f vs h
