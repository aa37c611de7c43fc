use Rattle.cfg_select_nodes.specs.Selects.{select_added}
use borrow.Author.Rules.{rules}
use Rattle.cfg_select_nodes.proofs.define.add_select.Goals as goal

pub returns : goal.returns
returns c =
    select_added c.case_cells-cases.ensures
    c.children-before.ensures c.add_cell-h.ensures c.set_children.ensures
