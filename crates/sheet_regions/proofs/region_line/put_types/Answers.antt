use Rattle.sheet_regions.specs.laws.RegionLineLaws.{types_kept}
use Rattle.sheet_regions.proofs.region_line.put_types.Goals as goal

pub returns-in-Kept : goal.returns-in-Kept
returns-in-Kept c =
    types_kept _ _ c.in-Kept.is c.put_kept_types.ensures
