-- `blocks_figure` meets its contract. The loop's invariant: what is summed and what is left are the whole.
use mathlib.Core.Path.{◌≡◌}
use Prim.Native.Nat.{◌≤◌, ◌+◌, ◌*◌}
use lib.ListN.{drop}
use Rattle.meaning.specs.Lists.{total}
use Rattle.meaning.specs.Graph.{region}
use Rattle.record.specs.Stands.{OfRecord}
use Rattle.figure.specs.laws.Nodes.{block_cost}
use Rattle.figure.proofs.blocks_figure.Given as goal

abbrev pub invariant-loop-b : goal.invariant-loop-b
invariant-loop-b l =
    (l.sum ≤ 4294836225 * l.b)
    × OfRecord l.w (λ g. l.sum + total block_cost (drop l.b (region g l.r).blocks) ≡ total block_cost (region g l.r).blocks)
