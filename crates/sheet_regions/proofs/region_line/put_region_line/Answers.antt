use Rattle.sheet_regions.specs.laws.RegionLineLaws.{front_put}
use Rattle.sheet_regions.proofs.region_line.put_region_line.Goals as goal

pub returns : goal.returns
returns c =
    front_put _ _ _ _ c.put_kids-kids.ensures c.put_types-types.ensures c.put_word-number.ensures c.put_word.ensures
