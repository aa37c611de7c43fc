-- Counts of an accepted record are small; and so claims and regions are shown for every one.
use Rattle.std.specs.Prelude.{Bool, ◌⊎◌, ℕ, ◌+◌, ◌*◌, ◌≤◌, ◌<◌, eqb}
use Rattle.std.proofs.Math.Bool.{true, false}
use Rattle.std.proofs.Common.{inl, inr}
use native.Mathlib.Omega.{arith}
use Rattle.std.proofs.Math.ListN.{length, get_or-eq_default, length-map}
use Rattle.meaning.specs.Graph.{Graph, region, edges_of, targets_of, nowhere}
use Rattle.meaning.specs.Lists.{pick, times_in, total}
use Rattle.meaning.specs.facts.Tests.{in_or_out}
use Rattle.meaning.specs.facts.Members.{times_few}
use Rattle.meaning.specs.facts.Sums.{total_within}
use Rattle.meaning.specs.facts.Pigeonhole.{distinct_few}
use Rattle.format.specs.Valid.{Valid}
use Rattle.nesting.specs.Nesting.{reachable, exit_targets}
use Rattle.cfg_bundles.specs.laws.shown.RecordValues.{few_edges}
use Rattle.cfg.specs.laws.shown.ClaimsShown.{ShownParts}
use Rattle.cfg.specs.laws.shown.StateShown.{state_shown}
use Rattle.cfg.specs.laws.shown.InstShown.{inst_shown}
use Rattle.cfg.specs.laws.shown.ResolveShown.{resolve_shown}
use Rattle.cfg.specs.laws.shown.Shows.{K}

-- ---- At most 32 regions are reachable, each with at most 8 edges and 32 exits: the counts are small.
module _ (g : Graph) (valid : Valid g) where
  pub few_live : length (reachable g) ≤ 32
  few_live =
      let n = valid.count.1 in
      let z = distinct_few (length g.regions) (reachable g) (K g valid).once (K g valid).below in omega arith

  pub few_targets : (r : ℕ) → length (edges_of (region g r).terminator) ≤ 8
  few_targets r = go (in_or_out r (length g.regions))
    where
      go : (r < length g.regions) ⊎ (length g.regions ≤ r) → length (edges_of (region g r).terminator) ≤ 8
      go (inl l) = few_edges valid l
      go (inr l) = rw (get_or-eq_default g.regions nowhere l) (omega arith)

  pub few_incoming : (q : ℕ) → (K g valid).incoming q ≤ 65534
  unfolding exit_targets
  few_incoming q =
      let live = few_live in
      let sum = total_within (λ r. times_in q (targets_of g r) + times_in q (exit_targets g r)) 40 (reachable g) (λ r i.
      let below = (K g valid).below r i in
      let a = times_few q (targets_of g r) in
      let b = times_few q (exit_targets g r) in
      let c = few_targets r in
      let d = (valid.regions r below).exits_few in
      let e = length-map (edges_of (region g r).terminator) (λ e. e.target) in omega arith) in
      first (eqb q g.entry) sum live
    where
      first : (b : Bool) → total (λ r. times_in q (targets_of g r) + times_in q (exit_targets g r)) (reachable g) ≤ length (reachable g)
          * 40
          → length (reachable g) ≤ 32
          → pick b 1 0 + total (λ r. times_in q (targets_of g r) + times_in q (exit_targets g r)) (reachable g) ≤ 65534
      first true s l = omega arith
      first false s l = omega arith

  -- What claims and regions are shown from.
  pub parts : ShownParts g valid
  parts =
      let few = valid.count.1 in
      record {
        few = omega arith;
        few_targets = few_targets;
        few_incoming = few_incoming;
        by_state = λ {w} {w'} {r} {n} {a} step fuel H s inputs shown cells live many begun pos can.
            state_shown g valid (omega arith) few_incoming w r n fuel H s inputs shown cells live many can step begun pos;
        by_inst = λ x. inst_shown g valid (omega arith) x;
        by_resolve = λ x. resolve_shown g valid (omega arith) x;
      }
