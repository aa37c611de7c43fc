-- The end of the refinement: whatever Func allows shows what the definition's structurize_func answers. The definition claims the entry
-- with no inputs; the laws below are for regions with all of theirs, so stand_ins are passed, and shown to make no difference.
use Rattle.std.specs.Prelude.{◌≡◌, Bool, length, eqb}
use Rattle.std.proofs.Math.Path.{refl, ap, subst}
use Rattle.std.proofs.Common.{sym, ◌∙◌}
use Rattle.std.proofs.Math.Bool.{true, false}
use mathlib.Core.List.{List, [], map, append-nil, ◌∷◌}
use Rattle.std.proofs.Math.Option.{Option, some}
use Prim.Native.Nat.{ℕ, suc, ◌≤◌, ◌<◌, zero, ◌+◌}
use native.Mathlib.Omega.{arith}
use Rattle.std.proofs.Math.ListN.{get_or}
use Rattle.std.proofs.lemmas.List.{length-map}
use borrow.Author.Tests.{eq-eqb, ne_eqb}
use Rattle.meaning.specs.Graph.{Graph, Value, undef, region}
use Rattle.meaning.specs.Runs.{⟨⟩}
use Rattle.format.specs.Store.{Answer, accepted, refused}
use Rattle.format.specs.Valid.{Valid}
use Rattle.record.specs.Stands.{Stands}
use Rattle.nesting.specs.Nesting.{Nested, untouched, whole, leftover, outcome_of, conclude, conclude_by, NestState, StepAnswer, not_begun}
use Rattle.nesting.specs.Nesting.{claimed, structurize_func, structurize_func_by, incoming_edge_counts, initial_state}
use Rattle.nesting.specs.Nesting.{try_claim_edge_bundle, reachable, to_region, ClaimedRegion, region_body, done, turned_away}
use Rattle.nesting.specs.Nesting.{StructurizeRegionState, in_progress, ready, claim_by_state, structurize_region, begin, follow, get_state}
use Rattle.nesting.specs.Nesting.{DeferredEdgeBundleSet, DeferredTarget, to_return, add_attempt}
use Rattle.nesting.specs.lookups.ChainEnds.{ChainsEnd}
use Rattle.nesting.specs.steps.RegionsLeft.{all_not_begun, state_of}
use Rattle.follows.specs.simulation.Claims.{at_first}
use Rattle.follows.specs.counting.Totals.{edges_to}
use Rattle.follows.specs.counting.Counting.{owed, owed_by}
use Rattle.follows.specs.counting.Reach.{entry_reachable}
use Rattle.follows.proofs.counting.Attempts.{start_pre}
use Rattle.follows.specs.chains.Chains.{chains_end}
use Rattle.state_words.specs.Sections.{used}
use Rattle.state_shown.specs.Front.{SameFront}
use Rattle.state_shown.specs.laws.FrontKept.{front_then, stands_on}
use Rattle.state_shown.specs.States.{ShowsBody, ShowsOwnSet}
use Rattle.cfg_start.specs.InitialState.{started}
use Rattle.cfg_start.specs.laws.shown.Started.{started_front, initial_state_shown}
use Rattle.std.specs.Prelude.{Ok, Result}
use Rattle.cfg_regions.specs.declared.claim.Claim as claim
use Rattle.cfg.specs.declared.func.Outcome as code
use Rattle.cfg.specs.declared.func.Outcome.TheVariants.{Whole, Leftover}
use Rattle.store.specs.declared.refusals.Refusal.{Refusal}
use Rattle.cfg_claims.specs.Claims.{TriesClaim}
use Rattle.cfg.specs.Func.{FuncBy, Func, Outcomes}
use Rattle.cfg.specs.Func as func
use Rattle.cfg_claims.proofs.laws.Left.{steady_claim}
use Rattle.cfg.specs.laws.shown.Shows.{CanClaim, ClaimShows, K, if_claimed, if_refused, if_unclaimed, owed_at_start, world}
use Rattle.cfg.specs.laws.shown.ClaimsShown.{claim_shown}
use Rattle.meaning.specs.facts.Sums.{total_within}
use Rattle.cfg.specs.laws.shown.WholeShown.{parts, few_targets, few_live}
use Rattle.state_shown.specs.Sets.{ShowsTarget, shows_region, shows_return}
use Rattle.cfg.specs.laws.shown.ScansShown.{own_bundle_shown}
use Rattle.cfg.specs.FuncShown.{outcome_code, ShowsNested, shows_untouched, shows_nested, shows_refused}
use Rattle.state_words.specs.Rows.{kind_claimed, region_kind, return_word}

-- ---- The entry is claimed with no inputs, whatever its region has; it is no loop, so what is concluded is the same with any.
module _ (g : Graph) (r n : ℕ) (a b : List Value) where
  same_by_state : (x : StructurizeRegionState) (s : NestState)
      → conclude g (claim_by_state g r n a n x s) ≡ conclude g (claim_by_state g r n b n x s)
  unfolding conclude
  same_by_state not_begun s = refl
  same_by_state claimed s = refl
  same_by_state in_progress s = rw (claim_by_state, eq-eqb n n refl) refl
  same_by_state (ready zero ks d) s = rw (claim_by_state, eq-eqb n (n + zero) (omega arith)) refl
  same_by_state (ready (suc k) ks d) s = rw (claim_by_state, ne_eqb n (n + suc k) (λ e. omega arith)) refl

  same_follow : {A : Type 0} (f h : A → NestState → StepAnswer (Option ClaimedRegion))
      → ((x : A) (s : NestState) → conclude g (f x s) ≡ conclude g (h x s)) → (y : StepAnswer A)
      → conclude g (follow y f) ≡ conclude g (follow y h)
  unfolding conclude
  same_follow f h e (done x s) = e x s
  same_follow f h e (turned_away m x) = refl

  same_claim : (counts : List ℕ) → get_or counts r 0 ≡ n → (fuel : ℕ) (s : NestState)
      → conclude g (try_claim_edge_bundle g counts fuel r n a s) ≡ conclude g (try_claim_edge_bundle g counts fuel r n b s)
  unfolding try_claim_edge_bundle
  same_claim counts e zero s = refl
  same_claim counts e (suc fuel) s =
      rw e
      (same_follow (λ x. claim_by_state g r n a n x) (λ x. claim_by_state g r n b n x) same_by_state
      (follow (begin (state_of s r) (structurize_region g (λ r' n' ins'. try_claim_edge_bundle g counts fuel r' n' ins') r)
      (add_attempt s)) (λ u. get_state r)))

-- ---- By the entry's set.
not_alone : (e : DeferredTarget) → Leftover ≡ outcome_code (elim e [ to_region q ↦ leftover | to_return ↦ leftover ])
not_alone (to_region q) = refl
not_alone to_return = refl

module _ {g : Graph} (few : length g.regions ≤ 32) where
  alone : {t : ℕ} (e : DeferredTarget) → ShowsTarget g t e → t ≡ return_word
      → Whole ≡ outcome_code (elim e [ to_region q ↦ leftover | to_return ↦ whole ])
  alone (to_region q) (shows_region p l) d = absurd (omega arith)
  alone to_return (shows_return p) d = refl

  elsewhere : {t : ℕ} (e : DeferredTarget) → ShowsTarget g t e → (t ≡ return_word → ⊥)
      → Leftover ≡ outcome_code (elim e [ to_region q ↦ leftover | to_return ↦ whole ])
  elsewhere (to_region q) (shows_region p l) d = refl
  elsewhere to_return (shows_return p) d = absurd (d p)

  outcome_shown : {w : List ℕ} {r : ℕ} {a : code.Outcome} (d : DeferredEdgeBundleSet) → ShowsOwnSet g w r d → Outcomes w r a
      → a ≡ outcome_code (outcome_of d)
  outcome_shown [] set (func.is_closed n) = refl
  outcome_shown [] set (func.is_whole n t) = absurd (let z = set.size in omega arith)
  outcome_shown [] set (func.one_elsewhere n t) = absurd (let z = set.size in omega arith)
  outcome_shown [] set (func.more_left n m) = absurd (n set.size)
  outcome_shown (e ∷ []) set (func.is_closed n) = absurd (let z = set.size in omega arith)
  outcome_shown {r} (e ∷ []) set (func.is_whole n t) = alone e.target (own_bundle_shown r set 0 (omega arith)).target t
  outcome_shown {r} (e ∷ []) set (func.one_elsewhere n t) = elsewhere e.target (own_bundle_shown r set 0 (omega arith)).target t
  outcome_shown (e ∷ []) set (func.more_left n m) = absurd (m set.size)
  outcome_shown (e ∷ x ∷ d) set (func.is_closed n) = absurd (let z = set.size in omega arith)
  outcome_shown (e ∷ x ∷ d) set (func.is_whole n t) = absurd (let z = set.size in omega arith)
  outcome_shown (e ∷ x ∷ d) set (func.one_elsewhere n t) = absurd (let z = set.size in omega arith)
  outcome_shown (e ∷ x ∷ d) set (func.more_left n m) = not_alone e.target

-- ---- The whole.
module _ (g : Graph) (valid : Valid g) where
  -- A region not begun owes its edges and twice as many attempts as there are regions.
  few_owed : owed (K g valid) (initial_state g).region_states ≤ 2304
  unfolding owed
  few_owed =
      let live = few_live g valid in
      let z = total_within (λ i. owed_by (K g valid) i (get_or (initial_state g).region_states i not_begun)) 72 (reachable g) (λ i l.
      let edges = few_targets g valid i in
      rw (all_not_begun (length g.regions) i) (omega arith)) in omega arith

  can_start : CanClaim g valid (suc (length g.regions)) (λ q. 0) (λ q. edges_to q (to_region g.entry) 1) 1 (initial_state g)
  can_start = record { pre = start_pre g valid; inv = at_first (world g valid); few = let z = few_owed in omega arith }

  -- As many inputs as the entry has.
  abbrev stand_ins : List Value
  stand_ins = map (λ t. undef 0) (region g g.entry).inputs

  abbrev entry_claim : StepAnswer (Option ClaimedRegion)
  entry_claim = try_claim_edge_bundle g (incoming_edge_counts g) (suc (length g.regions)) g.entry 1 stand_ins (initial_state g)

  by_count : (b : Bool) → eqb (get_or (incoming_edge_counts g) g.entry 0) 1 ≡ b → structurize_func g ≡ elim b [
    | false ↦ accepted (conclude_by g (initial_state g) ⟨⟩ [] untouched)
    | true ↦ conclude g
        (try_claim_edge_bundle g (incoming_edge_counts g) (suc (length g.regions)) g.entry 1 [] (initial_state g))
  ]
  unfolding structurize_func structurize_func_by
  by_count b e = ap (λ b. elim b as (λ x. Answer Nested) [
    | false ↦ accepted (conclude_by g (initial_state g) ⟨⟩ [] untouched)
    | true ↦ conclude g
        (try_claim_edge_bundle g (incoming_edge_counts g) (suc (length g.regions)) g.entry 1 [] (initial_state g))
  ]) e

  concludes : get_or (incoming_edge_counts g) g.entry 0 ≡ 1 → {x : StepAnswer (Option ClaimedRegion)} → entry_claim ≡ x
      → structurize_func g ≡ conclude g x
  concludes one e =
      by_count true (eq-eqb (get_or (incoming_edge_counts g) g.entry 0) 1 one)
      ∙ same_claim g g.entry 1 [] stand_ins (incoming_edge_counts g) one (suc (length g.regions)) (initial_state g)
      ∙ ap (conclude g) e

  module _ {w w' : List ℕ} (stands : Stands w g) (room : used ≤ length w) (counts : List ℕ)
      (right : (r : ℕ) → r < length g.regions → get_or counts r 0 ≡ get_or (incoming_edge_counts g) r 0) where
    claims : {a : Result claim.Claim Refusal} → TriesClaim g counts (started g w) g.entry 1 w' a
        → ClaimShows g (started g w) w' g.entry stand_ins entry_claim a
    claims t =
        let first = initial_state_shown valid stands room refl in
        let owing = owed_at_start g (started g w) first.no_kinds in
        let cells = first.cell_total in
        let many = valid.count in
        claim_shown g valid (parts g valid) counts right t (suc (length g.regions)) (λ q. 0) (initial_state g) stand_ins first.state
        (omega arith) (entry_reachable g) (omega arith) (length-map (region g g.entry).inputs (λ t. undef 0)) can_start

    kept : {r n : ℕ} {a : Result claim.Claim Refusal} → TriesClaim g counts (started g w) r n w' a → SameFront w w'
    kept t = let f = started_front g w room in front_then f (steady_claim t (stands_on f stands)).front

    by : {a : Result code.Outcome Refusal} → FuncBy g counts (started g w) w' a → ShowsNested g w w' (structurize_func g) a
    unfolding conclude
    by (func.untouched n e) =
        let other : get_or (incoming_edge_counts g) g.entry 0 ≡ 1 → ⊥ = λ z. n (right g.entry valid.entry ∙ z) in
        rw e (shows_untouched (started_front g w room) (initial_state_shown valid stands room refl).state
        (by_count false (ne_eqb (get_or (incoming_edge_counts g) g.entry 0) 1 other)))
    by (func.concluded one t (func.claimed o)) = if_claimed (claims t) λ c s p st cl origin i f u k.
        let x : ShowsBody g w' g.entry (region_body c.children c.deferred_edges) =
        subst (λ r. ShowsBody g w' r (region_body c.children c.deferred_edges)) origin
        (record { nodes = cl.nodes; set = cl.set }) in
        let ends : (r : ℕ) → ChainsEnd s.region_input_rewrites r = chains_end g valid (incoming_edge_counts g)
        (suc (length g.regions)) 1 stand_ins (some c) s p s.region_input_rewrites [] (sym (append-nil s.region_input_rewrites)) in
        shows_nested (kept t) st ends
        (subst (λ r. region_kind w' r ≡ kind_claimed) origin cl.kind) x (concludes (sym (right g.entry valid.entry) ∙ one) p)
        (outcome_shown valid.count.1 c.deferred_edges x.set o)
    by (func.concluded one t func.unclaimed) = if_unclaimed (claims t) λ s p st u k.
        shows_refused (kept t) (concludes (sym (right g.entry valid.entry) ∙ one) p)
    by (func.concluded one t func.refused) = if_refused (claims t) λ p.
        shows_refused (kept t) (concludes (sym (right g.entry valid.entry) ∙ one) p)

  pub structurize_func_shown : {w w' : List ℕ} {a : Result code.Outcome Refusal} → Stands w g → used ≤ length w → Func g w w' a
      → ShowsNested g w w' (structurize_func g) a
  structurize_func_shown stands room f = by stands room f.counts f.right f.steps
