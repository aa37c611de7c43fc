use Rattle.sheet.specs.laws.RegionsLaws.{piece_put}
use Rattle.sheet.proofs.pieces.put_piece.Goals as goal

pub returns : goal.returns
returns c =
    piece_put _ _ c.children-list.ensures c.put_nodes-nodes.ensures c.put_word-none.ensures c.put_region_line.ensures
