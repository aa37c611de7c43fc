use native.Mathlib.Omega.{arith}
use Rattle.text_parts.specs.laws.Steps.{wrote_region, wrote_regions}
use Rattle.text_record.proofs.regions.put_regions.Goals as goal

pub loop-r-preserved : goal.loop-r-preserved
loop-r-preserved c =
    let l = c.loop-r in
    λ g s q w.
    let size = c.region_count-n.ensures g s in
    l.invariant g s q (wrote_region g.regions l.r (omega arith) (c.put_region-place.ensures g s) w)

pub returns : goal.returns
returns c = λ g s.
    let size = c.region_count-n.ensures g s in
    c.loop-r.invariant g s _ (wrote_regions g.regions c.loop-r.r (omega arith))
