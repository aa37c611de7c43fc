use mathlib.Core.Path.{◌≡◌}
use Prim.Native.Nat.{◌+◌, ◌-◌}
use native.Mathlib.Omega.{arith}
use Rattle.state_lists.specs.laws.CellByCellLaws.{before_below}
use Rattle.sheet_nodes.specs.laws.InsideLaws.{walked_below, inside_start, inside_turn, cell_put}
use Rattle.sheet_nodes.specs.laws.WalkLaws.{walk_start, walk_turn, walk_end}
use Rattle.sheet_nodes.proofs.nodes.+put_cell_put_nodes.Goals as goal

-- ---- A cell.
pub put_cell-loop-j-init : goal.put_cell-loop-j-init
put_cell-loop-j-init t c = inside_start _ _ c.inner_total-j.ensures _ _

pub put_cell-put_nodes-nodes-requires : goal.put_cell-put_nodes-nodes-requires
put_cell-put_nodes-nodes-requires t c =
    (omega (arith, walked_below _ _ _ c.inner_at-list.ensures c.walked_list-walked.ensures c.requires), tt)

pub put_cell-loop-j-preserved : goal.put_cell-loop-j-preserved
put_cell-loop-j-preserved t c =
    let e : c.loop-j.j - 1 + 1 ≡ c.loop-j.j = omega (arith, c.loop-j-test.true) in
    inside_turn _ _ c.inner_total-j.ensures _ c.loop-j-test.true c.loop-j.auto.j c.loop-j.invariant c.inner_at-list.ensures
    c.walked_list-walked.ensures c.put_nodes-nodes.ensures (rw e at c.put_cell_lines-e.ensures)

pub put_cell-returns : goal.put_cell-returns
put_cell-returns t c =
    cell_put _ _ c.inner_total-j.ensures _ c.loop-j-test.false c.loop-j.invariant c.put_cell_lines.ensures

-- ---- A list of nodes.
pub put_nodes-loop-h-init : goal.put_nodes-loop-h-init
put_nodes-loop-h-init t c = (walk_start _ _ _ _, omega arith)

pub put_nodes-loop-h-smaller : goal.put_nodes-loop-h-smaller
put_nodes-loop-h-smaller t c = before_below _ c.list_before-h.ensures c.loop-h-test.true

pub put_nodes-loop-h-preserved : goal.put_nodes-loop-h-preserved
put_nodes-loop-h-preserved t c = (
  walk_turn _ _ _ c.loop-h-test.true c.loop-h.invariant.0 c.put_cell-e.ensures c.list_before-h.ensures,
  omega (arith, before_below _ c.list_before-h.ensures c.loop-h-test.true, c.loop-h.invariant.1),
)

pub put_nodes-returns : goal.put_nodes-returns
put_nodes-returns t c = walk_end _ _ c.loop-h-test.false c.loop-h.invariant.0
