-- `block_figure` meets its contract. The loop's invariant: what is summed and what is left are the whole.
use mathlib.Core.Path.{◌≡◌}
use Prim.Native.Nat.{◌≤◌, ◌+◌, ◌*◌}
use lib.ListN.{drop}
use Rattle.record.specs.Stands.{OfRecord}
use Rattle.fields.specs.ByNumber.{block_of}
use Rattle.figure.specs.laws.Nodes.{block_cost}
use Rattle.figure.proofs.block_figure.Given as goal

abbrev pub invariant-loop-i : goal.invariant-loop-i
invariant-loop-i l =
    (l.sum ≤ 65535 * l.i) × OfRecord l.w (λ g. l.sum + block_cost (drop l.i (block_of g l.r l.b)) ≡ block_cost (block_of g l.r l.b))
