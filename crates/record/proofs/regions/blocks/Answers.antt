use Rattle.std.proofs.Common.{refl, arith}
use Rattle.reading.specs.laws.AnswerSteps.{exit_is, step_on}
use Rattle.meaning.specs.facts.Parts.{taken_inside}
use Rattle.record.specs.laws.RegionsForgotten.{block_inside}
use Rattle.record.specs.laws.RegionSteps.{blocks_start, blocks_next, blocks_stop, blocks_end}
use Rattle.record.proofs.regions.blocks.Goals as goal

pub loop-i-init : goal.loop-i-init
loop-i-init c = (blocks_start _ _ _, refl)

pub returns-in_err-e : goal.returns-in_err-e
returns-in_err-e c =
    rw (exit_is c.from_residual.result c.from_residual.ensures.1) (blocks_stop _ _ _ c.loop-i.invariant.0 c.loop-i-test.true
    (rw c.loop-i.invariant.1 at c.in_err-e.ensures))

pub overflow_cast-places : goal.overflow_cast-places
overflow_cast-places c =
    let a = step_on c.loop-i.invariant.1 c.in_ok-e.ensures in
    omega (arith, (taken_inside c.args.w.now c.args.from.end (block_inside _ _ a.is)).1)

pub loop-i-preserved : goal.loop-i-preserved
loop-i-preserved c =
    let a = step_on c.loop-i.invariant.1 c.in_ok-e.ensures in
    (blocks_next _ _ _ c.loop-i.invariant.0 c.loop-i-test.true c.requires a.is, a.same)

pub returns : goal.returns
returns c = blocks_end _ _ _ c.loop-i.invariant.0 c.loop-i.invariant.1 c.loop-i-test.false
