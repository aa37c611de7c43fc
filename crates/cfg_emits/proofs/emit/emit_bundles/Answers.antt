use Prim.Native.Nat.{◌-◌, ◌≤◌}
use native.Mathlib.Omega.{arith}
use Rattle.cfg_select_nodes.specs.Turns.{GoesOnBy}
use Rattle.cfg_select_nodes.specs.laws.paths.TurnsLaws.{begins_by, turned_by, refused_by, over_by}
use Rattle.cfg_emits.specs.Emits.{EmitAt}
use Rattle.cfg_emits.specs.laws.paths.EmitsLaws.{emits_by, bundles_leave}
use borrow.Author.Rules.{rules}
use Rattle.state_words.specs.laws.Filled.{full_of_err}
use Rattle.cfg_emits.proofs.emit.emit_bundles.Goals as goal

pub returns-in_err-emit_bundle : goal.returns-in_err-emit_bundle
returns-in_err-emit_bundle c =
    rw (full_of_err c.from_residual.ensures.0)
    (emits_by _ _ c.set_start-start.ensures
    c.set_length-n.ensures
    (refused_by _ _ _ _ _ c.loop-i.invariant.1
    c.loop-i-test.true
    (λ g s. rw (c.in_err-emit_bundle.was, c.bundle_at.ensures) at (c.emit_bundle.ensures g s))))

pub loop-i-preserved : goal.loop-i-preserved
loop-i-preserved c = (
  omega arith,
  turned_by _ _ _ _ _ c.loop-i.invariant.1 (λ g. bundles_leave g _ _)
      c.loop-i-test.true
      (λ g s. rw (c.in_ok-emit_bundle.was, c.bundle_at.ensures) at (c.emit_bundle.ensures g s)),
)

pub returns : goal.returns
returns c = emits_by _ _ c.set_start-start.ensures c.set_length-n.ensures
    (over_by _ _ _ _ _ c.loop-i.invariant.1 c.loop-i-test.false)
