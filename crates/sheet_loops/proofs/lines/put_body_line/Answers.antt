use Rattle.sheet_regions.specs.RegionLine.{kept_types}
use Rattle.sheet_regions.specs.laws.RegionLineLaws.{line_put}
use Rattle.sheet_loops.proofs.lines.put_body_line.Goals as goal

pub returns : goal.returns
returns c =
    λ g s x y v ns nodes repeat keeps.
    let here = rw (← c.loop_header-r.ensures, ← c.loop_kept-kept.ensures) at keeps in
    rw c.loop_header-r.ensures at
    (line_put s _ y.types ns y.outputs (c.put_kept_values-outputs.ensures g s x _ y here)
    (c.put_region_line.ensures g s x y.types ns (kept_types y here) (rw c.loop_body.ensures nodes)))
