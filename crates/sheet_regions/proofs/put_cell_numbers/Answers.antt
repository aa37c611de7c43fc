use Rattle.state_nodes.specs.laws.CellTagsBack.{tag_is, tag_not}
use borrow.Author.Rules.{rules}
use mathlib.Core.Path.{refl}
use Rattle.sheet_regions.proofs.laws.ListsLaws.{cell_blocks, cell_one}
use Rattle.sheet_regions.proofs.put_cell_numbers.Goals as goal

pub returns-then-eq : goal.returns-then-eq
returns-then-eq c =
    cell_blocks _ _ refl
    (tag_is c.cell_tag.ensures (search rules)) c.blocks_region.ensures
    c.put_block_numbers.ensures

pub returns-else-eq : goal.returns-else-eq
returns-else-eq c =
    cell_one _ _ refl
    (tag_not c.cell_tag.ensures (search rules)) c.cell_node.ensures
    (rw c.from.ensures at c.put_number.ensures)
