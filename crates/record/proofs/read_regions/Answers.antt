use Rattle.std.proofs.Common.{refl, sym, ◌∙◌, arith, rules}
use Rattle.reading.specs.laws.AnswerSteps.{exit_is, step_on}
use Rattle.meaning.specs.facts.Parts.{taken_inside}
use Rattle.record.specs.laws.RegionsForgotten.{region_inside}
use Rattle.record.specs.laws.IndexSteps.{regions_start, regions_next, regions_refused, regions_read, regions_left}
use Rattle.record.specs.laws.RecordSteps.{mapped_ok, mapped_err}
use Rattle.record.proofs.read_regions.Goals as goal

pub loop-r-init : goal.loop-r-init
loop-r-init c = (regions_start _ _ _ _, refl)

pub returns-in_err-x : goal.returns-in_err-x
returns-in_err-x c =
    let m = mapped_err c.read_region.result c.map_err.result _ _ c.map_err.ensures.cases c.in_err-x.was in
    let h = rw m.is at c.read_region.ensures in
    rw (exit_is c.from_residual.result c.from_residual.ensures.1) (regions_refused _ _ _ _ _ c.loop-r.invariant.0 c.loop-r.invariant.1
    c.loop-r-test.true c.requires.0 m.why c.in_err-x.field-0.0 h (let t = m.told in search rules))

pub overflow_cast-c : goal.overflow_cast-c
overflow_cast-c c =
    let is = mapped_ok c.read_region.result c.map_err.result _ c.map_err.ensures.cases c.in_ok-x.was in
    let h = rw is at c.read_region.ensures in
    let a = step_on c.loop-r.invariant.1 h.step in
    omega (arith, (taken_inside c.loop-r.w c.args.from.end (region_inside _ _ a.is)).1)

pub loop-r-preserved : goal.loop-r-preserved
loop-r-preserved c =
    let is = mapped_ok c.read_region.result c.map_err.result _ c.map_err.ensures.cases c.in_ok-x.was in
    let h = rw is at c.read_region.ensures in (
      regions_next _ _ _ _ _ c.loop-r.invariant.0 c.loop-r.invariant.1 c.loop-r-test.true c.requires.0 c.in_ok-x.x _ h c.requires.1
          c.put_places.ensures,
      h.step.same ∙ c.loop-r.invariant.1,
    )

pub returns-then-c : goal.returns-then-c
returns-then-c c =
    regions_read _ _ _ _ c.loop-r.invariant.0 c.loop-r-test.false (omega arith) (c.if-c.true ∙ c.loop-r.invariant.1)

pub returns : goal.returns
returns c =
    regions_left _ _ _ _ c.loop-r.invariant.0 c.loop-r-test.false (omega arith) (λ q. c.if-c.false (q ∙ sym c.loop-r.invariant.1))
