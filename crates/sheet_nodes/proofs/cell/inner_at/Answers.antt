use Rattle.state_nodes.specs.laws.CellTagsBack.{tag_is, tag_not}
use mathlib.Core.Path.{refl}
use borrow.Author.Rules.{rules}
use Rattle.sheet_nodes.specs.laws.InsideLaws.{at_case, at_joined, at_before}
use Rattle.sheet_nodes.proofs.cell.inner_at.Goals as goal

pub returns-in-Select : goal.returns-in-Select
returns-in-Select c =
    at_case _ _ refl _ (tag_is c.cell_tag.ensures c.in-Select.is) c.select_cases.ensures c.case_cell.ensures
    c.children_of_case.ensures

pub returns-in-Join : goal.returns-in-Join
returns-in-Join c = at_joined _ _ refl _ (tag_is c.cell_tag.ensures c.in-Join.is) c.join_list.ensures

pub returns-in_default : goal.returns-in_default
returns-in_default c =
    at_before _ _ refl _ (tag_not c.cell_tag.ensures (search rules)) (tag_not c.cell_tag.ensures (search rules)) c.loop_body.ensures
