-- On a valid graph nesting makes at most 1 + e + n × (2n - 1) attempts, n the reachable regions and e the edges that lead from
-- them, a target named twice two; and it is turned away by a limit alone: fuel never runs out, and where the Rust stops is never met.
use Rattle.std.specs.Prelude.{◌≡◌, Bool, ℕ, zero, suc, ◌+◌, ◌*◌, ◌-◌, ◌≤◌, ◌<◌, get_or, replicate}
use Rattle.std.proofs.Math.Path.{refl, ap}
use Rattle.std.proofs.Common.{sym, ◌∙◌, eqb-true}
use Rattle.std.proofs.Math.Bool.{true, false}
use mathlib.Core.List.{List, [], ◌∷◌}
use Rattle.std.proofs.Math.Option.{Option, none, some}
use native.Mathlib.Omega.{arith}
use Rattle.std.proofs.Math.ListN.{length}
use Rattle.std.proofs.lemmas.List.{length-replicate}
use Rattle.std.proofs.Math.Dec.{eqb}
use Rattle.meaning.specs.Graph.{Graph, region, edges_of, targets_of}
use Rattle.meaning.specs.Runs.{Nodes, ⟨⟩}
use Rattle.meaning.specs.facts.Tests.{clash}
use Rattle.format.specs.Valid.{Valid}
use Rattle.meaning.specs.Lists.{times_in, total}
use Rattle.format.specs.Store
use Rattle.format.specs.Store.{accepted, refused}
use Rattle.nesting.specs.Nesting.{exit_targets, Nested, to_region, DeferredEdgeBundleSet, Outcome, untouched, whole, closed, leftover}
use Rattle.nesting.specs.Nesting.{StructurizeRegionState, not_begun, NestState, StepAnswer, done, turned_away, ClaimedRegion, reachable}
use Rattle.nesting.specs.Nesting.{incoming_edge_count, incoming_edge_counts, try_claim_edge_bundle, initial_state, outcome_of, conclude_by}
use Rattle.nesting.specs.Nesting.{conclude, structurize_func_by, structurize_func}
use Rattle.nesting.specs.steps.Post.{Post}
use Rattle.nesting.specs.steps.RegionsLeft.{all_not_begun, not_begun_one, count_states}
use Rattle.follows.specs.counting.Reach.{entry_reachable, target_reachable, reachable_once}
use Rattle.follows.specs.Statements.{edges_from, most_attempts, Attempts}
use Rattle.follows.specs.counting.JustReached.{just_reached}
use Rattle.follows.specs.simulation.ValidUse.{usable_graph, reachable_region}
use Rattle.meaning.specs.facts.Sums.{total_same, total_add, total_each}
use Rattle.follows.specs.counting.Totals.{edges_to}
use Rattle.follows.specs.counting.Counting.{Counting, Nine, busy, owed_by, edges_waiting_by, owed, edges_waiting, Pre}
use Rattle.follows.proofs.counting.CountClaim.{Claims}
use Rattle.follows.proofs.counting.CountRegion.{claim_counted}
use Rattle.meaning.specs.facts.Elements.{numbered_map}

pub incoming_at : (g : Graph) (r : ℕ) → r < length g.regions → get_or (incoming_edge_counts g) r 0 ≡ incoming_edge_count g (reachable g) r
unfolding incoming_edge_counts
incoming_at g r h = let z : 0 + r ≡ r = omega arith in
    numbered_map (incoming_edge_count g (reachable g)) 0 g.regions r h ∙ ap (incoming_edge_count g (reachable g)) z

-- ---- before anything is begun
count_new : (n : ℕ) → count_states not_begun_one (replicate n not_begun) ≡ n
count_new zero = refl
count_new (suc n) = let z = count_new n in omega arith

module _ (g : Graph) where
  edges_over : (l : List ℕ) → total (λ r. length (edges_of (region g r).terminator)) l ≡ edges_from g l
  edges_over [] = refl
  edges_over (x ∷ l) = let z = edges_over l in omega arith

  abbrev incoming_from : ℕ → List ℕ → ℕ
  incoming_from a rs = total (λ r. times_in a (targets_of g r) + times_in a (exit_targets g r)) rs

  over_incoming : (a : ℕ) (l : List ℕ) → total (λ i. times_in a (targets_of g i) + times_in a (exit_targets g i)) l ≡ incoming_from a l
  over_incoming a [] = refl
  over_incoming a (x ∷ l) = let z = over_incoming a l in omega arith

  module _ (valid : Valid g) where
    abbrev pub counting : Counting
    counting = record {
      g = g;
      counts = incoming_edge_counts g;
      live = reachable g;
      incoming = incoming_edge_count g (reachable g);
      once = reachable_once g;
      below = λ r i. reachable_region g (usable_graph g valid) r i;
      closed = target_reachable g;
      counts_right = λ r i. incoming_at g r (reachable_region g (usable_graph g valid) r i);
    }

    abbrev first_states : List StructurizeRegionState
    first_states = replicate (length g.regions) not_begun

    pub owed_start : owed counting first_states ≡ edges_from g (reachable g) + length (reachable g) * (2 * length (reachable g))
    unfolding owed
    owed_start =
        total_same (λ i. owed_by counting i (get_or first_states i not_begun))
        (λ i. length (edges_of (region g i).terminator) + 2 * length (reachable g))
        (λ i. ap (owed_by counting i) (all_not_begun (length g.regions) i)) (reachable g)
        ∙ total_add (λ i. length (edges_of (region g i).terminator)) (λ i. 2 * length (reachable g)) (reachable g)
        ∙ (let z = edges_over (reachable g) in let y = total_each (2 * length (reachable g)) (reachable g) in omega arith)

    edges_waiting_start : (r : ℕ) → edges_waiting counting r first_states ≡ incoming_from r (reachable g)
    unfolding edges_waiting
    edges_waiting_start r =
        total_same (λ i. edges_waiting_by counting r i (get_or first_states i not_begun))
        (λ i. times_in r (targets_of g i) + times_in r (exit_targets g i))
        (λ i. ap (edges_waiting_by counting r i) (all_not_begun (length g.regions) i)) (reachable g)
        ∙ over_incoming r (reachable g)

    pub start_pre : Pre counting (suc (length g.regions)) (λ r. 0) (λ r. edges_to r (to_region g.entry) 1) (initial_state g)
    start_pre = record {
      inv = record {
        length = length-replicate (length g.regions) not_begun;
        fine = λ i. let z = all_not_begun (length g.regions) i in
            rw z tt;
      };
      enough = let z = count_new (length g.regions) in omega arith;
      room = λ r. let z = edges_waiting_start r in omega arith;
      waits = λ r b. absurd (let z : false ≡ true = sym (ap busy (all_not_begun (length g.regions) r)) ∙ b in clash (cc));
    }

    pub entry_counted : Post Nine (λ o s'. Claims counting 1 g.entry 1 (initial_state g) o s')
        (try_claim_edge_bundle g (incoming_edge_counts g) (suc (length g.regions)) g.entry 1 [] (initial_state g))
    entry_counted = claim_counted counting (suc (length g.regions)) g.entry 1 [] (λ r. 0) (initial_state g) (entry_reachable g)
        (omega arith) start_pre

    squared : (n a e : ℕ) → a + n ≤ 1 + (e + n * (2 * n)) → a ≤ 1 + e + n * (2 * n - 1)
    squared zero a e h = omega arith
    squared (suc n) a e h = let z : 2 * suc n - 1 ≡ 2 * n + 1 = omega arith in rw z (omega arith)

    -- what is shown of the answer
    abbrev FewOrNine : Store.Answer Nested → Type 0
    FewOrNine (accepted x) = x.attempts ≤ most_attempts g (reachable g)
    FewOrNine (refused n w) = Nine n w

    of_outcome : (s : NestState) (children : Nodes) (d : DeferredEdgeBundleSet) (o : Outcome)
        → (conclude_by g s children d o).attempts ≡ s.attempts
    of_outcome s children d untouched = refl
    of_outcome s children d whole = refl
    of_outcome s children d closed = refl
    of_outcome s children d leftover = refl

    concluded : (a : StepAnswer (Option ClaimedRegion)) → get_or (incoming_edge_counts g) g.entry 0 ≡ 1
        → Post Nine (λ o s'. Claims counting 1 g.entry 1 (initial_state g) o s') a → FewOrNine (conclude g a)
    unfolding conclude
    concluded (turned_away n w) i p = p.post
    concluded (done none s) i p = let z = incoming_at g g.entry valid.entry in let y = p.post.good in absurd (omega arith)
    concluded (done (some c) s) i p =
        let paid = p.post.step.paid in
        let first = owed_start in
        let same = of_outcome s c.children c.deferred_edges (outcome_of c.deferred_edges) in
        rw same (squared (length (reachable g)) s.attempts (edges_from g (reachable g)) (omega arith))

    few_or_nine : FewOrNine (structurize_func g)
    unfolding structurize_func structurize_func_by
    few_or_nine = go (eqb (get_or (incoming_edge_counts g) g.entry 0) 1) refl
      where
        go : (b : Bool) → eqb (get_or (incoming_edge_counts g) g.entry 0) 1 ≡ b
            → FewOrNine (elim b [
              | false ↦ accepted (conclude_by g (initial_state g) ⟨⟩ [] untouched)
              | true ↦ conclude g
                  (try_claim_edge_bundle g (incoming_edge_counts g) (suc (length g.regions)) g.entry 1 [] (initial_state g))
            ])
        go false p = omega arith
        go true p = concluded _ (eqb-true _ 1 p) entry_counted

-- Statement 3.
pub attempts : Attempts
attempts g valid n p = record { reached = just_reached g; few = rw p at (few_or_nine g valid) }

pub refused_nine : (g : Graph) → Valid g → (n w : ℕ) → structurize_func g ≡ refused n w → Nine n w
refused_nine g valid n w p = rw p at (few_or_nine g valid)
