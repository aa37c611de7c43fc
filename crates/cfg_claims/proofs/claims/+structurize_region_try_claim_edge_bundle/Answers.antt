-- The two functions of the cycle meet their contracts, in one induction: each goes on with fewer regions not begun.
use Rattle.std.proofs.Common.{ℕ, arith, refl, rules, ◌∙◌}
use Rattle.state_regions.specs.laws.KindsBack.{state_is, state_not}
use Rattle.cfg_claims.proofs.laws.Turns.{stood_on, targets_over, targets_refused, targets_claimed}
use Rattle.cfg_claims.proofs.laws.Turns.{targets_waiting, Scanned, scan_over, scan_return, scan_claimed, scan_refuses}
use Rattle.cfg_claims.proofs.laws.Turns.{scan_waiting, turns_none, turns_over, turn_nothing, turn_refused, turn_full, turn_again}
use Rattle.cfg_claims.proofs.laws.Turns.{begun_less, begun_steady, BeforeTurns, region_refused, region_full, before_turns}
use Rattle.cfg_claims.proofs.laws.Turns.{attempted_on, claim_nowhere, claim_later, not_begun_yet, claim_inside, claim_first}
use Rattle.std.proofs.lemmas.Result.{err_from_is_err_and}
use Rattle.cfg_claims.proofs.claims.+structurize_region_try_claim_edge_bundle.Goals as goal
use Rattle.cfg_claims.proofs.claims.+structurize_region_try_claim_edge_bundle.Goals.{structurize_region-In_ok-by_control_inst}
use Rattle.cfg_claims.proofs.claims.+structurize_region_try_claim_edge_bundle.Goals.{structurize_region-Left-loop-i}
use Rattle.cfg_claims.proofs.claims.+structurize_region_try_claim_edge_bundle.Goals.{structurize_region-in-Claimed, structurize_region-in-Unclaimed}
use Rattle.cfg_claims.proofs.claims.+structurize_region_try_claim_edge_bundle.Goals.{structurize_region-then-t+in_ok-claim-2+in-Unclaimed-claim, structurize_region-else-t}
use Rattle.cfg_claims.proofs.claims.+structurize_region_try_claim_edge_bundle.Goals.{structurize_region-else-loop-i-test, structurize_region-then-loop-i-test+then-t+in_ok-claim-2+in-Claimed-claim}
use Rattle.cfg_claims.proofs.claims.+structurize_region_try_claim_edge_bundle.Goals.{structurize_region-else-loop-left-test, structurize_region-then-loop-left-test+then-m-i}
use Rattle.cfg_claims.proofs.claims.+structurize_region_try_claim_edge_bundle.Goals.{try_claim_edge_bundle-then-eq+in_ok-structurize_region}
use Rattle.cfg_claims.proofs.claims.+structurize_region_try_claim_edge_bundle.Goals.{try_claim_edge_bundle-else-eq}

-- ---- The targets.
pub structurize_region-try_claim_edge_bundle-requires : goal.structurize_region-try_claim_edge_bundle-requires
structurize_region-try_claim_edge_bundle-requires t c =
    let less = begun_less c.requires.stood.room c.requires.not_begun c.set_region_state.ensures in (
      omega arith,
      (
        omega arith,
        stood_on c.loop-j.invariant.steady (stood_on (begun_steady _ c.set_region_state.ensures) c.requires.stood),
      ),
    )

pub structurize_region-returns-in_err-claim : goal.structurize_region-returns-in_err-claim
structurize_region-returns-in_err-claim t c =
    let refused = err_from_is_err_and c.from_residual.result c.from_residual.ensures.1 in
    rw (refused.1, refused.2)
    (region_refused _ c.set_region_state.ensures
    (targets_refused c.loop-j.invariant c.target_count-n.ensures c.loop-j-test.true c.target-t.ensures
    c.try_claim_edge_bundle.ensures c.in_err-claim.was))

pub structurize_region-loop-j-preserved : goal.structurize_region-loop-j-preserved
structurize_region-loop-j-preserved t c =
    let stood = stood_on (begun_steady _ c.set_region_state.ensures) c.requires.stood in
    elim c.match-claim.branch [
      | structurize_region-in-Claimed w ↦ targets_claimed c.loop-j.invariant c.target_count-n.ensures c.loop-j-test.true
          c.target-t.ensures c.try_claim_edge_bundle.ensures stood (rw w.in-Claimed.is at c.in_ok-claim.was) (w.w-is ∙ w.set_target_answer.ensures)
      | structurize_region-in-Unclaimed w ↦ targets_waiting c.loop-j.invariant c.target_count-n.ensures c.loop-j-test.true
          c.target-t.ensures c.try_claim_edge_bundle.ensures stood (rw w.in-Unclaimed.is at c.in_ok-claim.was) (w.w-is ∙ w.defer_target.ensures)
    ]

-- ---- The terminator.
pub structurize_region-returns-in_err-by_control_inst : goal.structurize_region-returns-in_err-by_control_inst
structurize_region-returns-in_err-by_control_inst t c =
    let refused = err_from_is_err_and c.from_residual-in_err-by_control_inst.result c.from_residual-in_err-by_control_inst.ensures.1 in
    rw (refused.1, refused.2)
    (region_full _ c.set_region_state.ensures (targets_over c.loop-j.invariant c.target_count-n.ensures c.loop-j-test.false)
    c.by_control_inst.ensures c.in_err-by_control_inst.was)

-- What the steps up to the deferred edges come to.
begun : {t : ℕ} (c : structurize_region-In_ok-by_control_inst t) → BeforeTurns c.args.counts c.args.w.now c.args.r c.by_control_inst.new.w
begun c =
    before_turns _ c.set_region_state.ensures (targets_over c.loop-j.invariant c.target_count-n.ensures c.loop-j-test.false)
    c.by_control_inst.ensures c.in_ok-by_control_inst.was c.requires.not_begun c.requires.stood

pub structurize_region-loop-left-init : goal.structurize_region-loop-left-init
structurize_region-loop-left-init t c = turns_none _ _ _ _ c.region_count-left.ensures

-- ---- The scan.
pub structurize_region-try_claim_edge_bundle-requires-then-t :
    goal.structurize_region-try_claim_edge_bundle-requires-then-t
structurize_region-try_claim_edge_bundle-requires-then-t t c =
    let before = begun (goal.at.structurize_region-try_claim_edge_bundle-requires-then-t t c).In_ok-by_control_inst in (
      omega arith,
      (
        omega arith,
        stood_on c.loop-i.invariant.steady (stood_on c.loop-left.invariant.steady before.stood),
      ),
    )

pub structurize_region-returns-in_err-claim-2 : goal.structurize_region-returns-in_err-claim-2
structurize_region-returns-in_err-claim-2 t c =
    let before = begun (goal.at.structurize_region-returns-in_err-claim-2 t c).In_ok-by_control_inst in
    let refused = err_from_is_err_and c.from_residual-in_err-claim-2.result c.from_residual-in_err-claim-2.ensures.1 in
    rw (refused.1, refused.2)
    λ g st. before.refused_late g st (turn_refused c.loop-left.invariant c.loop-left-test.true
    (scan_refuses c.loop-i.invariant c.loop-i-test.true c.own_bundle-p.ensures c.target-t-in-loop-i.ensures c.if-t.true
    c.accumulated_count-edges.ensures.0 c.try_claim_edge_bundle-then-t.ensures c.set_length-m.ensures c.in_err-claim-2.was))

pub structurize_region-loop-i-preserved : goal.structurize_region-loop-i-preserved
structurize_region-loop-i-preserved t c =
    let before = begun (goal.at.structurize_region-loop-i-preserved t c).In_ok-by_control_inst in
    elim c.if-t.branch [
      | structurize_region-then-t+in_ok-claim-2+in-Unclaimed-claim w ↦ rw w.w-is (scan_waiting c.loop-i.invariant c.loop-i-test.true
          c.own_bundle-p.ensures c.target-t-in-loop-i.ensures w.if-t.true w.accumulated_count-edges.ensures.0
          w.try_claim_edge_bundle-then-t.ensures (stood_on c.loop-left.invariant.steady before.stood) (rw w.in-Unclaimed-claim.is at w.in_ok-claim-2.was))
      | structurize_region-else-t w ↦ rw w.w-is (scan_return c.loop-i.invariant c.loop-i-test.true c.own_bundle-p.ensures
          c.target-t-in-loop-i.ensures w.if-t.false)
    ]

-- By both ways out of the scan.
scanned : {t : ℕ} (c : structurize_region-Left-loop-i t)
    → Scanned c.args.counts c.loop-left.w c.args.r c.set_length-m.result c.loop-i-test.w c.loop-i.i
scanned c = elim c.loop-i-test.branch [
  | structurize_region-else-loop-i-test w ↦ rw w.w-is (scan_over c.loop-i.invariant c.set_length-m.ensures w.loop-i-test.false)
  | structurize_region-then-loop-i-test+then-t+in_ok-claim-2+in-Claimed-claim w ↦ rw w.w-is (scan_claimed c.loop-i.invariant w.loop-i-test.true
      w.own_bundle-p.ensures w.target-t-in-loop-i.ensures w.if-t.true w.accumulated_count-edges.ensures.0
      w.try_claim_edge_bundle-then-t.ensures c.set_length-m.ensures (rw w.in-Claimed-claim.is at w.in_ok-claim-2.was))
]

-- ---- The deferred edges.
pub structurize_region-returns-in_err-resolve_by : goal.structurize_region-returns-in_err-resolve_by
structurize_region-returns-in_err-resolve_by t c =
    let at_goal = goal.at.structurize_region-returns-in_err-resolve_by t c in
    let refused = err_from_is_err_and c.from_residual-in_err-resolve_by.result c.from_residual-in_err-resolve_by.ensures.1 in
    rw (refused.1, refused.2)
    λ g st. (begun at_goal.In_ok-by_control_inst).refused_late g st (turn_full c.loop-left.invariant c.loop-left-test.true
    ((scanned at_goal.Left-loop-i).claims_one c.if-m-i.false) c.resolve_by.ensures c.in_err-resolve_by.was)

pub structurize_region-loop-left-preserved : goal.structurize_region-loop-left-preserved
structurize_region-loop-left-preserved t c =
    let at_goal = goal.at.structurize_region-loop-left-preserved t c in
    turn_again c.loop-left.invariant c.loop-left-test.true
    ((scanned at_goal.Left-loop-i).claims_one c.if-m-i.false) c.resolve_by.ensures c.in_ok-resolve_by.was
    (begun at_goal.In_ok-by_control_inst).stood

pub structurize_region-returns : goal.structurize_region-returns
structurize_region-returns t c =
    let before = begun (goal.at.structurize_region-returns t c).In_ok-by_control_inst in
    λ g st. before.all_done g st {w₄ = c.loop-left-test.w}
    (elim c.loop-left-test.branch [
      | structurize_region-else-loop-left-test w ↦ rw w.w-is (turns_over c.loop-left.invariant w.loop-left-test.false)
      | structurize_region-then-loop-left-test+then-m-i w ↦ (
          let scan : Scanned c.args.counts c.loop-left.w c.args.r w.set_length-m.result w.loop-i-test.w w.loop-i.i =
          elim w.loop-i-test.branch [
            | structurize_region-else-loop-i-test v ↦ rw v.w-is (scan_over w.loop-i.invariant w.set_length-m.ensures v.loop-i-test.false)
            | structurize_region-then-loop-i-test+then-t+in_ok-claim-2+in-Claimed-claim v ↦ rw v.w-is (scan_claimed w.loop-i.invariant v.loop-i-test.true
                v.own_bundle-p.ensures v.target-t-in-loop-i.ensures v.if-t.true v.accumulated_count-edges.ensures.0
                v.try_claim_edge_bundle-then-t.ensures w.set_length-m.ensures (rw v.in-Claimed-claim.is at v.in_ok-claim-2.was))
          ]
          in
          rw w.w-is (turn_nothing c.loop-left.invariant w.loop-left-test.true (scan.claims_none w.if-m-i.true)))
    ])
    c.make_ready.ensures

-- ---- A claim.
pub try_claim_edge_bundle-returns-then-r-ge32 : goal.try_claim_edge_bundle-returns-then-r-ge32
try_claim_edge_bundle-returns-then-r-ge32 t c = claim_nowhere _ c.count_attempt.ensures c.if-r-ge32.true

pub try_claim_edge_bundle-structurize_region-requires : goal.try_claim_edge_bundle-structurize_region-requires
try_claim_edge_bundle-structurize_region-requires t c =
    let on = attempted_on c.count_attempt.ensures in (
      omega arith,
      (
        not_begun_yet (omega arith) refl (state_is c.region_state.ensures (search rules)),
        stood_on on c.requires.stood,
      ),
    )

pub try_claim_edge_bundle-returns-in_err-structurize_region : goal.try_claim_edge_bundle-returns-in_err-structurize_region
try_claim_edge_bundle-returns-in_err-structurize_region t c =
    let refused = err_from_is_err_and c.from_residual.result c.from_residual.ensures.1 in
    rw (refused.1, refused.2)
    (claim_inside _ c.count_attempt.ensures c.if-r-ge32.false refl (state_is c.region_state.ensures (search rules))
    c.structurize_region.ensures c.in_err-structurize_region.was)

pub try_claim_edge_bundle-returns : goal.try_claim_edge_bundle-returns
try_claim_edge_bundle-returns t c = elim c.if-eq.branch [
  | try_claim_edge_bundle-then-eq+in_ok-structurize_region w ↦ claim_first _ c.count_attempt.ensures c.if-r-ge32.false
      refl (state_is c.region_state.ensures (search rules)) w.structurize_region.ensures w.in_ok-structurize_region.was c.count_of.ensures w.w-is
      c.claim_by_state.ensures
  | try_claim_edge_bundle-else-eq w ↦ claim_later _ c.count_attempt.ensures c.if-r-ge32.false
      refl (state_not c.region_state.ensures (search rules)) c.count_of.ensures w.w-is c.claim_by_state.ensures
]
