use Rattle.sheet_nodes.specs.Inside.{inner_put}
use Rattle.sheet_nodes.proofs.cell.put_cell_lines.Goals as goal

pub returns-else-j-eq0 : goal.returns-else-j-eq0
returns-else-j-eq0 c =
    inner_put c.if-j-eq0.false (rw c.inner_at-list.ensures at c.put_walked_lines-walked.ensures)
    c.put_inner_line.ensures
