use Rattle.sheet_regions.proofs.laws.ListsLaws.{kids_put}
use Rattle.sheet_regions.proofs.put_kids.Goals as goal

pub returns : goal.returns
returns c =
    kids_put _ _ c.put_numbers-x.ensures c.put.ensures
