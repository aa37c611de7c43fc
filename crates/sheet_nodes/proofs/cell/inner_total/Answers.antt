use Rattle.state_nodes.specs.laws.CellTagsBack.{tag_is, tag_not}
use mathlib.Core.Path.{refl}
use borrow.Author.Rules.{rules}
use Rattle.sheet_nodes.specs.laws.InsideLaws.{total_cases, total_joined, total_body, total_none}
use Rattle.sheet_nodes.proofs.cell.inner_total.Goals as goal

pub returns-in-Select : goal.returns-in-Select
returns-in-Select c = total_cases _ _ refl (tag_is c.cell_tag.ensures c.in-Select.is) c.select_cases.ensures c.case_total.ensures

pub returns-in-Join : goal.returns-in-Join
returns-in-Join c = total_joined _ _ refl (tag_is c.cell_tag.ensures c.in-Join.is)

pub returns-in-Loop : goal.returns-in-Loop
returns-in-Loop c = total_body _ _ refl (tag_is c.cell_tag.ensures c.in-Loop.is)

pub returns-in_default : goal.returns-in_default
returns-in_default c = total_none _ _ refl (tag_not c.cell_tag.ensures (search rules)) (tag_not c.cell_tag.ensures (search rules)) (tag_not c.cell_tag.ensures (search rules))
