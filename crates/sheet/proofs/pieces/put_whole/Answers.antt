use Rattle.sheet.specs.laws.RegionsLaws.{whole_put}
use Rattle.sheet.proofs.pieces.put_whole.Goals as goal

pub returns : goal.returns
returns c =
    whole_put _ _ c.children-list.ensures c.put_nodes-nodes.ensures c.entry-r.ensures
    c.put_whole_outputs-outputs.ensures c.put_region_line.ensures
