use Rattle.state_nodes.specs.laws.CellTagsBack.{tag_is, tag_not}
use borrow.Author.Rules.{rules}
use mathlib.Core.Path.{refl}
use Rattle.sheet_nodes.specs.laws.InsideLaws.{line_case, line_none}
use Rattle.sheet_nodes.proofs.cell.put_inner_line.Goals as goal

pub returns-then-eq : goal.returns-then-eq
returns-then-eq c =
    line_case _ _ refl _ (tag_is c.cell_tag.ensures (search rules)) c.select_cases.ensures
    c.case_cell-c.ensures
    c.select_node.ensures c.put_case_line.ensures

pub returns-else-eq : goal.returns-else-eq
returns-else-eq c = line_none _ _ refl _ _ _ (tag_not c.cell_tag.ensures (search rules))
