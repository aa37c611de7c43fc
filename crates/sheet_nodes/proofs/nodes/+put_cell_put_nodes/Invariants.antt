-- The two functions of the walk meet their contracts, in one induction: each goes on with an earlier cell. The loops' invariants: the
-- lists inside from place j on are put; what is behind the present cell is put.
use Prim.Native.Nat.{◌+◌, ◌*◌, ◌≤◌}
use Rattle.sheet_nodes.specs.Walk.{PutsBehind}
use Rattle.sheet_nodes.specs.Inside.{InsidePut}
use Rattle.sheet_nodes.proofs.nodes.+put_cell_put_nodes.Given as goal

abbrev pub decreases-put_cell : goal.decreases-put_cell
decreases-put_cell l = 2 * l.h.0

abbrev pub decreases-put_nodes : goal.decreases-put_nodes
decreases-put_nodes l = 2 * l.list.0 + 1

abbrev pub invariant-put_cell-loop-j : goal.invariant-put_cell-loop-j
invariant-put_cell-loop-j l =
    InsidePut l.w l.h.0 l.initial.j l.j l.initial.out l.initial.e l.out l.e

abbrev pub invariant-put_nodes-loop-h : goal.invariant-put_nodes-loop-h
invariant-put_nodes-loop-h l =
    PutsBehind l.w l.initial.h.0 l.h.0 l.initial.out l.initial.e l.out l.e × (l.h.0 ≤ l.initial.h.0)

abbrev pub decreases-put_nodes-loop-h : goal.decreases-put_nodes-loop-h
decreases-put_nodes-loop-h l = l.h.0
