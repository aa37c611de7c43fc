-- What falls is twice the number of regions not begun, and one more for a claim. The loops' invariants: the words so far come from those
-- when the loop began, and whatever is still to come completes the whole.
use Rattle.std.proofs.Common.{◌+◌, ◌*◌, ◌-◌}
use Rattle.cfg_claims.proofs.laws.Left.{left}
use Rattle.cfg_claims.proofs.laws.Turns.{TargetsPassed, ScanPassed, TurnsPassed}
use Rattle.cfg_claims.proofs.claims.+structurize_region_try_claim_edge_bundle.Given as goal

abbrev pub decreases-structurize_region : goal.decreases-structurize_region
decreases-structurize_region l = 2 * left l.w.now

abbrev pub decreases-try_claim_edge_bundle : goal.decreases-try_claim_edge_bundle
decreases-try_claim_edge_bundle l = 2 * left l.w.now + 1

-- The loop over the targets.
abbrev pub invariant-structurize_region-loop-j : goal.invariant-structurize_region-loop-j
invariant-structurize_region-loop-j l = TargetsPassed l.counts l.initial.w l.r l.w l.j

-- The scan of the region's set.
abbrev pub invariant-structurize_region-loop-i : goal.invariant-structurize_region-loop-i
invariant-structurize_region-loop-i l = ScanPassed l.again l.initial.w l.r l.m l.w l.i

abbrev pub decreases-structurize_region-loop-i : goal.decreases-structurize_region-loop-i
decreases-structurize_region-loop-i l = l.m - l.i

-- The loop over the deferred edges.
abbrev pub invariant-structurize_region-loop-left : goal.invariant-structurize_region-loop-left
invariant-structurize_region-loop-left l = TurnsPassed l.again l.initial.w l.r l.w l.left

abbrev pub decreases-structurize_region-loop-left : goal.decreases-structurize_region-loop-left
decreases-structurize_region-loop-left l = l.left
