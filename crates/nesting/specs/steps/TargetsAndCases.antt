-- Targets that are the same; of cases: the children of one, what all pass to a target, a target's summary with more edges.
use Rattle.std.specs.Prelude.{◌≡◌, refl, true, List, map, ◌+◌}
use Rattle.std.proofs.Common.{ap, eqb-true}
use Rattle.meaning.specs.Runs.{Nodes, ⟨⟩}
use Rattle.meaning.specs.facts.Tests.{eqb_self, eqb_sym}
use Rattle.nesting.specs.Nesting.{DeferredTarget, to_region, to_return, same_target, MaybeClaimedRegion, ok, err, deferred_of}
use Rattle.nesting.specs.Nesting.{PerCaseDeferred, per_case_deferred, DeferredEdgeBundle, DeferredTargetSummary}

pub same_target_sym : (a b : DeferredTarget) → same_target a b ≡ same_target b a
same_target_sym (to_region a) (to_region b) = eqb_sym a b
same_target_sym (to_region a) to_return = refl
same_target_sym to_return (to_region b) = refl
same_target_sym to_return to_return = refl

pub same_target_self : (a : DeferredTarget) → same_target a a ≡ true
same_target_self (to_region a) = eqb_self a
same_target_self to_return = refl

pub same_target_is : (a b : DeferredTarget) → same_target a b ≡ true → a ≡ b
same_target_is (to_region a) (to_region b) p = ap to_region (eqb-true a b p)
same_target_is (to_region a) to_return p = cc
same_target_is to_return (to_region b) p = cc
same_target_is to_return to_return p = refl

abbrev pub children_in : MaybeClaimedRegion → Nodes
children_in (ok c) = c.children
children_in (err d) = ⟨⟩

abbrev pub per_cases : DeferredTarget → List MaybeClaimedRegion → List PerCaseDeferred
per_cases x cs = map (λ c. per_case_deferred x (deferred_of c)) cs

abbrev pub summary_with : DeferredEdgeBundle → DeferredTargetSummary → DeferredTargetSummary
summary_with e t =
    record { target = t.target; input_count = t.input_count; total_edge_count = t.total_edge_count + e.accumulated_count }
