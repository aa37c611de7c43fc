use Rattle.cfg_select_nodes.specs.Selects.{CellsOn}
use Rattle.cfg_select_nodes.specs.laws.paths.SelectsLaws.{cells_begin, cells_turn, cells_end}
use borrow.Author.Rules.{rules}
use Rattle.cfg_select_nodes.proofs.define.case_cells.Goals as goal

pub loop-j-preserved : goal.loop-j-preserved
loop-j-preserved c =
    cells_turn _ _ _ _ c.loop-j.invariant
    c.loop-j-test.true c.case_body-body.ensures
    c.children_of-kids.ensures
    c.add_cell-h.ensures

pub returns : goal.returns
returns c = cells_end _ _ _ _ c.loop-j.invariant c.loop-j-test.false
