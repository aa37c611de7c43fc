use Rattle.state_nodes.specs.laws.CellTagsBack.{tag_is, tag_not}
use mathlib.Core.Path.{refl}
use borrow.Author.Rules.{rules}
use Rattle.sheet_nodes.specs.laws.InsideLaws.{own_blocks, own_exit, own_select, own_loop, own_none}
use Rattle.sheet_nodes.proofs.cell.put_own_lines.Goals as goal

pub returns-in-Blocks : goal.returns-in-Blocks
returns-in-Blocks c = own_blocks _ _ refl (tag_is c.cell_tag.ensures c.in-Blocks.is) c.blocks_region.ensures c.put_blocks.ensures

pub returns-in-Exit : goal.returns-in-Exit
returns-in-Exit c =
    own_exit _ _ refl (tag_is c.cell_tag.ensures c.in-Exit.is) c.exit_node.ensures
    c.exit_region.ensures
    c.put_exit.ensures

pub returns-in-Select : goal.returns-in-Select
returns-in-Select c = own_select _ _ refl (tag_is c.cell_tag.ensures c.in-Select.is) c.put_select_line.ensures

pub returns-in-Loop : goal.returns-in-Loop
returns-in-Loop c = own_loop _ _ refl (tag_is c.cell_tag.ensures c.in-Loop.is) c.put_loop_lines.ensures

pub returns-in_default : goal.returns-in_default
returns-in_default c =
    own_none _ _ refl _ _ (tag_not c.cell_tag.ensures (search rules)) (tag_not c.cell_tag.ensures (search rules)) (tag_not c.cell_tag.ensures (search rules)) (tag_not c.cell_tag.ensures (search rules))
