-- What a select defers, from its cases: no more bundles to a region, and no more edges to it, than they have together.
use Rattle.std.specs.Prelude.{◌≡◌, Bool, ◌||◌, ℕ, ◌+◌, ◌≤◌}
use Rattle.std.proofs.Math.Path.{refl, ap}
use Rattle.std.proofs.Common.{◌∙◌, inl, inr, arith}
use Rattle.std.proofs.Math.Bool.{true, false}
use mathlib.Core.List.{List, [], ◌∷◌, map}
use Rattle.meaning.specs.Graph.{Value, SelectionKind, Graph}
use Rattle.meaning.specs.Runs.{Nodes}
use Rattle.nesting.specs.Nesting.{DeferredEdgeBundleSet, NestState, MaybeClaimedRegion, ok, err, Scrutinee, deferred_of}
use Rattle.nesting.specs.Nesting.{append_maybe_claimed_region, convergent_cases, DeferredTargetSummary, deferred_targets, PlannedBundle}
use Rattle.nesting.specs.Nesting.{plan_bundle, plan_bundles, any_needs_select, any_non_empty_case, DefinedSelect, define_select}
use Rattle.nesting.specs.Nesting.{emit_inputs, emit_condition, emit, shared_bundle, select_if, replace_inputs, structurize_select}
use Rattle.nesting.specs.Nesting.{structurize_select_by, without_convergent, structurize_select_into}
use Rattle.nesting.specs.lookups.Rewriting.{rewrite_cases_is, rewrite, rewrite_bundle, rewrite_case}
use Rattle.nesting.specs.steps.Post.{Post, map_post, bind}
use Rattle.nesting.proofs.steps.Keeps.{define_select_keeps, emit_inputs_keeps, emit_condition_keeps, replace_inputs_keeps}
use Rattle.nesting.specs.steps.StatesKept.{KeepsStates, states_kept_refl, states_kept_then}
use Rattle.nesting.proofs.steps.StatesSteady.{states_kept_steady, states_kept_log}
use Rattle.meaning.specs.facts.Elements.{In, nth_in}
use Rattle.follows.specs.simulation.ConvergentCase.{converges}
use Rattle.follows.specs.counting.Totals.{Measure, edge_total, totals, summary_total, planned_total, bundles_to, edges_to, edgeless}
use Rattle.follows.specs.counting.Totals.{SetFits, FitsAll, target_totals, targets_add, edges_add, edgeless_adds}

-- ---- look-ups change values alone
rewritten_total : (ρ : Value → Value) (μ : Measure) (d : DeferredEdgeBundleSet) → edge_total μ (map (rewrite_bundle ρ) d) ≡ edge_total μ d
rewritten_total ρ μ [] = refl
rewritten_total ρ μ (e ∷ es) = ap (λ n. μ e.target e.accumulated_count + n) (rewritten_total ρ μ es)

rewritten_case : (ρ : Value → Value) (μ : Measure) (c : MaybeClaimedRegion)
    → edge_total μ (deferred_of (rewrite_case ρ c)) ≡ edge_total μ (deferred_of c)
rewritten_case ρ μ (err d) = rewritten_total ρ μ d
rewritten_case ρ μ (ok c) = rewritten_total ρ μ c.deferred_edges

rewritten_totals : (ρ : Value → Value) (μ : Measure) (cs : List MaybeClaimedRegion) → totals μ (map (rewrite_case ρ) cs) ≡ totals μ cs
rewritten_totals ρ μ [] = refl
rewritten_totals ρ μ (c ∷ cs) = let z = rewritten_case ρ μ c in let y = rewritten_totals ρ μ cs in omega arith

rewritten_fits : (ρ : Value → Value) (k : ℕ → ℕ) (cs : List MaybeClaimedRegion) → FitsAll k cs → FitsAll k (map (rewrite_case ρ) cs)
rewritten_fits ρ k [] f = tt
rewritten_fits ρ k (c ∷ cs) (f, fs) =
    (λ r. let z = rewritten_case ρ (bundles_to r) c in let y = f r in omega arith, rewritten_fits ρ k cs fs)

-- ---- from the cases to the select
pub record ChosenTotals (cs : List MaybeClaimedRegion) (d : DeferredEdgeBundleSet) : Type 0 where
  pub fits : (k : ℕ → ℕ) → FitsAll k cs → SetFits k d
  pub edges : (r : ℕ) → edge_total (edges_to r) d ≤ totals (edges_to r) cs
  pub edgeless : edge_total edgeless d ≤ totals edgeless cs

one_chosen : (cs : List MaybeClaimedRegion) (c : MaybeClaimedRegion) → In c cs → ChosenTotals cs (deferred_of c)
one_chosen [] c i = absurd i
one_chosen (x ∷ cs) c (inl p) = rw p (record { fits = λ k f. f.0; edges = λ r. omega arith; edgeless = omega arith })
one_chosen (x ∷ cs) c (inr i) =
    let h = one_chosen cs c i in
    record { fits = λ k f. h.fits k f.1; edges = λ r. let z = h.edges r in omega arith; edgeless = let z = h.edgeless in omega arith }

shared_total : (μ : Measure) (ps : List PlannedBundle) → edge_total μ (map shared_bundle ps) ≡ planned_total μ ps
shared_total μ [] = refl
shared_total μ (p ∷ ps) = ap (λ n. μ p.target p.total_edge_count + n) (shared_total μ ps)

plans_total : (g : Graph) (μ : Measure) (cs : List MaybeClaimedRegion) (ws : List DeferredTargetSummary)
    → planned_total μ (map (plan_bundle g cs) ws) ≡ summary_total μ ws
plans_total g μ cs [] = refl
plans_total g μ cs (w ∷ ws) = ap (λ n. μ w.target w.total_edge_count + n) (plans_total g μ cs ws)

pub record EmittedTotals (s : NestState) (ps : List PlannedBundle) (s' : NestState) (d : DeferredEdgeBundleSet) : Type 0 where
  pub still : KeepsStates s s'
  pub same : (μ : Measure) → edge_total μ d ≡ planned_total μ ps

pub record SelectedTotals (s : NestState) (cs : List MaybeClaimedRegion) (s' : NestState) (d : DeferredEdgeBundleSet) : Type 0 where
  pub still : KeepsStates s s'
  pub chosen : ChosenTotals cs d

module _ (Q : ℕ → ℕ → Type 0) (q9 : Q 9 0) where
  emit_total : (n : DefinedSelect) (ps : List PlannedBundle) (s : NestState) → Post Q (λ d s'. EmittedTotals s ps s' d) (emit n ps s)
  unfolding emit
  emit_total n [] s = record { post = record { still = states_kept_refl s; same = λ μ. refl } }
  emit_total n (p ∷ ps) s =
      bind (emit_inputs n p.inputs s) _ (emit_inputs_keeps states_kept_steady Q q9 n p.inputs s) λ vs s₁ q₁.
      bind (emit_condition n p.condition s₁) _ (emit_condition_keeps states_kept_steady Q q9 n p.condition s₁) λ c s₂ q₂.
      bind (emit n ps s₂) _ (emit_total n ps s₂) λ d s₃ h.
      record {
        post = record {
          still = states_kept_then q₁ (states_kept_then q₂ h.still);
          same =
              λ μ. ap (λ x. μ p.target p.total_edge_count + x) (h.same μ);
        };
      }

  select_if_total : (b : Bool) (kind : SelectionKind) (x : Scrutinee) (cases : List MaybeClaimedRegion) (ps : List PlannedBundle)
      (s : NestState)
      → Post Q (λ y s'. EmittedTotals s ps s' y.deferred_edges) (select_if b kind x cases ps s)
  unfolding select_if
  select_if_total false kind x cases ps s = record { post = record { still = states_kept_refl s; same = λ μ. shared_total μ ps } }
  select_if_total true kind x cases ps s =
      bind (define_select kind x cases s) _ (define_select_keeps states_kept_steady Q q9 kind x cases s) λ n s₁ q.
      bind (emit n ps s₁) _ (emit_total n ps s₁) λ d s₂ h.
      record { post = record { still = states_kept_then q h.still; same = h.same } }

  module _ (g : Graph) where
    -- of the cases as they were looked up
    planned : (cases : List MaybeClaimedRegion) (ρ : Value → Value) (d : DeferredEdgeBundleSet)
        → ((μ : Measure) → edge_total μ d ≡ planned_total μ (plan_bundles g (map (rewrite_case ρ) cases))) → ChosenTotals cases d
    planned cases ρ d h = record {
      fits = λ k f r. let w = target_totals r k cs [] (omega arith) (rewritten_fits ρ k cases f) in omega (arith, same (bundles_to r));
      edges = λ r. let w = targets_add (edges_to r) (edges_add r) cs [] in
          omega (arith, same (edges_to r), rewritten_totals ρ (edges_to r) cases);
      edgeless = let w = targets_add edgeless edgeless_adds cs [] in omega (arith, same edgeless, rewritten_totals ρ edgeless cases);
    }
      where
        cs : List MaybeClaimedRegion
        cs = map (rewrite_case ρ) cases

        same : (μ : Measure) → edge_total μ d ≡ summary_total μ (deferred_targets (map (rewrite_case ρ) cases) [])
        same μ = h μ ∙ plans_total g μ (map (rewrite_case ρ) cases) (deferred_targets (map (rewrite_case ρ) cases) [])

    structurize_select_total : (parent : Nodes) (kind : SelectionKind) (x : Scrutinee) (cases : List MaybeClaimedRegion) (s : NestState)
        → Post Q (λ y s'. SelectedTotals s cases s' y.deferred_edges) (structurize_select g parent kind x cases s)
    unfolding structurize_select
    structurize_select_total parent kind x cases s =
        rw (rewrite_cases_is cases s)
        let cs = map (rewrite_case (rewrite s.region_input_rewrites)) cases in
        bind (select_if (any_non_empty_case cases || any_needs_select (plan_bundles g cs)) kind x cases (plan_bundles g cs) _) _
        (select_if_total (any_non_empty_case cases || any_needs_select (plan_bundles g cs)) kind x cases (plan_bundles g cs) _) λ y s₁ a.
        bind (replace_inputs cs s₁) _ (replace_inputs_keeps states_kept_steady Q q9 states_kept_log cs s₁) λ u s₂ q.
        record {
          post = record {
            still =
                record { states = q.states ∙ a.still.states; attempts = q.attempts ∙ a.still.attempts };
            chosen =
                planned cases (rewrite s.region_input_rewrites) y.deferred_edges a.same;
          };
        }

    pub append_total : (parent : Nodes) (c : MaybeClaimedRegion) (s : NestState)
        → Post Q (λ y s'. KeepsStates s s' × (y.deferred_edges ≡ deferred_of c)) (append_maybe_claimed_region parent c s)
    unfolding append_maybe_claimed_region
    append_total parent (err d) s = record { post = (states_kept_refl s, refl) }
    append_total parent (ok c) s = record { post = (record { states = refl; attempts = refl }, refl) }

    select_by_total : (parent : Nodes) (kind : SelectionKind) (x : Scrutinee) (cases cs : List MaybeClaimedRegion)
        → convergent_cases cases ≡ cs → (s : NestState)
        → Post Q (λ y s'. SelectedTotals s cases s' y.deferred_edges) (structurize_select_by g parent kind x cases cs s)
    select_by_total parent kind x cases [] h s = structurize_select_total parent kind x cases s
    select_by_total parent kind x cases (c ∷ d ∷ ds) h s = structurize_select_total parent kind x cases s
    select_by_total parent kind x cases (c ∷ []) h s =
        let cv = converges cases c h in
        bind (structurize_select g parent kind x (without_convergent cases) s) _
        (structurize_select_total parent kind x (without_convergent cases) s) λ y s₁ a.
        map_post (append_maybe_claimed_region y.children c s₁)
        (append_total y.children c s₁) λ z s₂ b. record {
          still = states_kept_then a.still b.0;
          chosen =
              rw b.1 (one_chosen cases c (nth_in cases cv.at c cv.is));
        }

    pub select_into_total : (parent : Nodes) (kind : SelectionKind) (x : Scrutinee) (cases : List MaybeClaimedRegion) (s : NestState)
        → Post Q (λ y s'. SelectedTotals s cases s' y.deferred_edges) (structurize_select_into g parent kind x cases s)
    select_into_total parent kind x cases s = select_by_total parent kind x cases (convergent_cases cases) refl s
