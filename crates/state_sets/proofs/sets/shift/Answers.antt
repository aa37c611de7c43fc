use Rattle.state_sets.specs.laws.Finds.{shift_turn, shift_stop}
use Rattle.state_sets.proofs.sets.shift.Goals as goal

pub loop-j-preserved : goal.loop-j-preserved
loop-j-preserved c = rw (c.copy_bundle.ensures, c.bundle_at.ensures, c.bundle_at-in-loop-j.ensures)
    (shift_turn _ _ _ _ c.loop-j-test.true c.loop-j.invariant)

pub returns : goal.returns
returns c = shift_stop _ _ _ _ c.loop-j-test.false c.loop-j.invariant
