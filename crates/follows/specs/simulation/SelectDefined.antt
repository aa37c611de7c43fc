-- Defining a select: its cases, its scrutinee and its node.
use Rattle.std.specs.Prelude.{false, true, List, [], ◌∷◌, ◌⊎◌, ◌≡◌, refl, ◌<◌, ◌≤◌, suc, zero, ℕ, length}
use Rattle.std.proofs.Common.{inl, inr, ap, arith}
use Rattle.std.proofs.Math.Option.{some}
use Rattle.meaning.specs.Runs.{Cases, ◌▸◌, ∅, ⟨⟩, case_count}
use Rattle.meaning.specs.Graph.{SelectionKind, Value}
use Rattle.meaning.specs.facts.Tests.{clash, or_either, or_left, or_right}
use Rattle.nesting.specs.Nesting.{new_case, new_select, MaybeClaimedRegion, Scrutinee, err, lazy, ok, value, define_node, define_region}
use Rattle.nesting.specs.Nesting.{materialize_lazy_cond, DefinedSelect, case_regions, define_select, scrutinee_value, NestState, NodeOutput}
use Rattle.nesting.specs.steps.Post.{bind, map_post}
use Rattle.meaning.specs.facts.Elements.{In, nth, Extends}
use Rattle.nesting.specs.steps.TargetsAndCases.{children_in}
use Rattle.follows.specs.simulation.Key.{Key, owns_cases, owns_nodes}
use Rattle.follows.specs.simulation.Conditions.{mat_stays}
use Rattle.follows.specs.simulation.SelectRuns.{children_at}
use Rattle.follows.specs.simulation.Defined.{Grew, IfDone, define_node_post, define_region_post, grew_refl, grew_then}
use Rattle.follows.specs.simulation.Defined.{materialize_post}
use Rattle.follows.specs.simulation.EnterCase.{ScrutineeIs}

-- ---- the select's cases
abbrev pub CasesFrom : List MaybeClaimedRegion → Cases → Type 0
CasesFrom [] ccs = ccs ≡ ∅
CasesFrom (c ∷ cs) ccs = (r : ℕ) × (rest : Cases) × (ccs ≡ new_case r (children_in c) rest) × CasesFrom cs rest

pub cases_children : (cs : List MaybeClaimedRegion) (ccs : Cases) → CasesFrom cs ccs → (j : ℕ) (c : MaybeClaimedRegion) → nth cs j ≡ some c
    → children_at ccs j ≡ some (children_in c)
cases_children [] ccs h j c p = absurd (clash (cc))
cases_children (x ∷ cs) ccs (r, rest, e, h) zero c p = let q : x ≡ c = cc in rw (e, q)
cases_children (x ∷ cs) ccs (r, rest, e, h) (suc j) c p = rw e (cases_children cs rest h j c p)

pub cases_count : (cs : List MaybeClaimedRegion) (ccs : Cases) → CasesFrom cs ccs → case_count ccs ≡ length cs
cases_count [] ccs h = rw h
cases_count (x ∷ cs) ccs (r, rest, e, h) = rw e (ap suc (cases_count cs rest h))

pub cases_own : (cs : List MaybeClaimedRegion) (ccs : Cases) → CasesFrom cs ccs → (κ : Key) → owns_cases ccs κ ≡ true
    → (c : MaybeClaimedRegion) × In c cs × (owns_nodes (children_in c) κ ≡ true)
unfolding owns_cases
cases_own [] ccs h κ o = absurd (let z : false ≡ true = rw h at o in clash (cc))
cases_own (x ∷ cs) ccs (r, rest, e, h) κ o =
    go (λ o'. cases_own cs rest h κ o') (or_either (owns_nodes (children_in x) κ) (owns_cases rest κ) (rw e at o))
  where
    go : (owns_cases rest κ ≡ true → (c : MaybeClaimedRegion) × In c cs × (owns_nodes (children_in c) κ ≡ true))
        → (owns_nodes (children_in x) κ ≡ true) ⊎ (owns_cases rest κ ≡ true)
        → (c : MaybeClaimedRegion) × In c (x ∷ cs) × (owns_nodes (children_in c) κ ≡ true)
    go ih (inl p) = (x, inl refl, p)
    go ih (inr p) = let y = ih p in (y.0, inr y.1, y.2)

pub cases_apart : (cs : List MaybeClaimedRegion) (ccs : Cases) → CasesFrom cs ccs → (κ : Key) → owns_cases ccs κ ≡ false
    → (c : MaybeClaimedRegion) → In c cs
    → owns_nodes (children_in c) κ ≡ false
unfolding owns_cases
cases_apart [] ccs h κ o c i = absurd i
cases_apart (x ∷ cs) ccs (r, rest, e, h) κ o c (inl p) = rw p (or_left (owns_nodes (children_in x) κ) (owns_cases rest κ) (rw e at o))
cases_apart (x ∷ cs) ccs (r, rest, e, h) κ o c (inr i) =
    cases_apart cs rest h κ (or_right (owns_nodes (children_in x) κ) (owns_cases rest κ) (rw e at o)) c i

case_regions_post : (cs : List MaybeClaimedRegion) (s : NestState) → IfDone (λ ccs s'. CasesFrom cs ccs × Grew s s') (case_regions cs s)
unfolding case_regions
case_regions_post [] s = record { post = (refl, grew_refl s) }
case_regions_post (err d ∷ cs) s =
    bind (define_region s) _ (define_region_post s) λ r s₁ h.
    bind (case_regions cs s₁) _ (case_regions_post cs s₁) λ rest s₂ hs.
    record { post = ((r, rest, refl, hs.0), grew_then h.2 hs.1) }
case_regions_post (ok c ∷ cs) s =
    bind (case_regions cs s) _ (case_regions_post cs s) λ rest s₁ hs.
    record { post = ((c.structured_body, rest, refl, hs.0), hs.1) }

pub scrutinee_stays : (sc : Scrutinee) (a b : List NodeOutput) → Extends a b → (v : Value) → ScrutineeIs sc a v → ScrutineeIs sc b v
scrutinee_stays (value u) a b p v h = h
scrutinee_stays (lazy c) a b p v h = mat_stays c a b p v h

scrutinee_value_post : (sc : Scrutinee) (s : NestState) → IfDone (λ v s'. ScrutineeIs sc s'.node_outputs v × Grew s s')
    (scrutinee_value sc s)
scrutinee_value_post (value u) s = record { post = (refl, grew_refl s) }
scrutinee_value_post (lazy c) s = map_post (materialize_lazy_cond c s) (materialize_post c s) λ v s' h. (h.mat, h.grew)

pub record DefinesSelect (kind : SelectionKind) (sc : Scrutinee) (cases : List MaybeClaimedRegion) (s : NestState) (n : DefinedSelect)
    (s' : NestState) : Type 0 where
  pub cases_of : Cases
  pub children_is : n.children ≡ new_select n.node n.kind n.scrutinee cases_of ▸ ⟨⟩
  pub kind_is : n.kind ≡ kind
  pub scrut_is : ScrutineeIs sc s'.node_outputs n.scrutinee
  pub from : CasesFrom cases cases_of
  pub above : s.node_count ≤ n.node
  pub below : n.node < s'.node_count
  pub grew : Grew s s'

pub define_select_post : (kind : SelectionKind) (sc : Scrutinee) (cases : List MaybeClaimedRegion) (s : NestState)
    → IfDone (DefinesSelect kind sc cases s) (define_select kind sc cases s)
unfolding define_select
define_select_post kind sc cases s =
    bind (case_regions cases s) _ (case_regions_post cases s) λ ccs s₁ hc.
    bind (scrutinee_value sc s₁) _ (scrutinee_value_post sc s₁) λ v s₂ hv.
    bind (define_node s₂) _ (define_node_post s₂) λ n s₃ hn.
    record {
      post = record {
        cases_of = ccs;
        children_is = refl;
        kind_is = refl;
        scrut_is = scrutinee_stays sc s₂.node_outputs s₃.node_outputs hn.2.outputs v hv.0;
        from = hc.0;
        above = omega (arith, hc.1.node_count, hv.1.node_count, hn.0);
        below = omega (arith, hn.1);
        grew = grew_then hc.1 (grew_then hv.1 hn.2);
      };
    }
