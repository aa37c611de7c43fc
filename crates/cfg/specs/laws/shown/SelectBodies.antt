-- What a select leaves of region r's body, and the bound on the edges of its cases.
use Rattle.std.specs.Prelude.{◌≡◌, refl, List, [], ◌∷◌, map, ℕ, zero, suc, ◌+◌, ◌≤◌, ◌<◌, length, get_or}
use Rattle.std.proofs.Common.{ap, arith}
use Rattle.meaning.specs.Graph.{Graph}
use Rattle.meaning.specs.Lists.{pick}
use Rattle.nesting.specs.Nesting.{DeferredTarget, to_region, to_return, DeferredEdgeBundleSet, MaybeClaimedRegion, ok, err, deferred_of}
use Rattle.nesting.specs.Nesting.{NestState, StepAnswer, Body, same_target}
use Rattle.follows.specs.counting.Totals.{edge_total, edges_to, totals, edgeless}
use Rattle.state_words.specs.Sections.{word, head}
use Rattle.state_words.specs.Totals.{Made}
use Rattle.state_shown.specs.Front.{SameKinds}
use Rattle.state_shown.specs.Kept.{PreservesMade, KeptRegion}
use Rattle.state_shown.specs.laws.RegionsKept.{preserves_then, kept_then}
use Rattle.cfg_merging.specs.laws.shown.TargetsShown.{edges_of_set, edges_of_cases}
use Rattle.cfg_merging.specs.laws.shown.RewritingShown.{bundle_found, case_found, cases_after}
use Rattle.cfg_select_nodes.specs.laws.shown.RegionsShown.{ShowsMade, shows_made, shows_refused}
use Rattle.cfg_selects.specs.laws.shown.IntoShown.{IntoDone}
use Rattle.cfg.specs.laws.shown.Shows.{BodyShows, owed_stays, refuses_body, shows_body}
use Rattle.state_words.specs.Rows.{cells_at, largest}

-- ---- Rewriting keeps targets and counts.
set_after : (s : NestState) (x : DeferredTarget) (d : DeferredEdgeBundleSet)
    → edges_of_set x (map (λ e. (bundle_found s e).value) d) ≡ edges_of_set x d
set_after s x [] = refl
set_after s x (e ∷ d) = rw (set_after s x d)

case_after : (s : NestState) (x : DeferredTarget) (c : MaybeClaimedRegion)
    → edges_of_set x (deferred_of (case_found s c).value) ≡ edges_of_set x (deferred_of c)
case_after s x (ok c) = set_after s x c.deferred_edges
case_after s x (err d) = set_after s x d

same_after : (s : NestState) (x : DeferredTarget) (cs : List MaybeClaimedRegion) → edges_of_cases x (cases_after s cs) ≡ edges_of_cases x cs
same_after s x [] = refl
same_after s x (c ∷ cs) = rw (case_after s x c, same_after s x cs)

-- ---- The edges to a region; to a Return there are none.
one_to : (q : ℕ) (x : DeferredTarget) (n : ℕ) → pick (same_target (to_region q) x) n 0 ≡ edges_to q x n
one_to q (to_region p) n = refl
one_to q to_return n = refl

set_to : (q : ℕ) (d : DeferredEdgeBundleSet) → edges_of_set (to_region q) d ≡ edge_total (edges_to q) d
set_to q [] = refl
set_to q (e ∷ d) = rw (one_to q e.target e.accumulated_count, set_to q d)

cases_to : (q : ℕ) (cs : List MaybeClaimedRegion) → edges_of_cases (to_region q) cs ≡ totals (edges_to q) cs
cases_to q [] = refl
cases_to q (c ∷ cs) = rw (set_to q (deferred_of c), cases_to q cs)

one_return : (x : DeferredTarget) (n : ℕ) → edgeless x n ≡ 0 → pick (same_target to_return x) n 0 ≡ 0
one_return (to_region p) n e = refl
one_return to_return zero e = refl
one_return to_return (suc n) e = absurd (omega arith)

set_returns : (d : DeferredEdgeBundleSet) → edge_total edgeless d ≡ 0 → edges_of_set to_return d ≡ 0
set_returns [] e = refl
set_returns (x ∷ d) e =
    let y = one_return x.target x.accumulated_count (omega arith) in let z = set_returns d (omega arith) in omega arith

cases_return : (cs : List MaybeClaimedRegion) → totals edgeless cs ≡ 0 → edges_of_cases to_return cs ≡ 0
cases_return [] e = refl
cases_return (c ∷ cs) e =
    let y = set_returns (deferred_of c) (omega arith) in let z = cases_return cs (omega arith) in omega arith

pub edges_bound : (s : NestState) (cs : List MaybeClaimedRegion) → ((q : ℕ) → totals (edges_to q) cs ≤ largest) → totals edgeless cs ≡ 0
    → (x : DeferredTarget) → edges_of_cases x (cases_after s cs) ≤ largest
edges_bound s cs most none (to_region q) = rw (same_after s (to_region q) cs, cases_to q cs) (most q)
edges_bound s cs most none to_return = rw (same_after s to_return cs, cases_return cs none) (omega arith)

-- ---- From w to w₁ the cases were filled, from w₁ to w' the select made.
pub into_body : {g : Graph} {w w₁ w' : List ℕ} {r more : ℕ} {cs : List MaybeClaimedRegion} {b : StepAnswer Body} {a : Made}
    → PreservesMade g w w₁
    → ((q : ℕ) → q < length g.regions → (q ≡ r → ⊥) → KeptRegion w w₁ q) → SameKinds w w'
    → word w₁ head cells_at + (length cs + 2) ≤ word w head cells_at + more → ShowsMade (IntoDone g r cs w₁ w') a b
    → BodyShows g w w' r cs more b a
into_body {g} {w} {w'} made_stays kept same room (shows_made {a = x} {s} m) =
    let owed = owed_stays g w w' (λ q h. ap (λ l. get_or l q 0) same.kinds_words) in
    let total = m.total in
    shows_body {x = x} {s' = s} refl m.state m.body
    (record {
      made_stays = preserves_then made_stays m.made_stays;
      kinds_stay = λ q h. ap (λ l. get_or l q 0) same.kinds_words;
      regions_stay = λ q l d f h. kept_then (kept q l d) (m.kept q l d f);
    }) (omega arith)
into_body made_stays kept same room shows_refused = refuses_body refl
