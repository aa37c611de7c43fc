use Rattle.sheet.specs.laws.LinesShown.{leftover_put}
use Rattle.sheet.proofs.leftover.put_leftover.Goals as goal

pub returns : goal.returns
returns c =
    leftover_put _ c.entry.ensures
    c.put_sets-sets.ensures
    c.put_unclaimed-unclaimed.ensures c.put_piece.ensures
