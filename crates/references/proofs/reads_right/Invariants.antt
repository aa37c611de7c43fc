use mathlib.Core.Path.{◌≡◌}
use Prim.Native.Nat.{◌≤◌, ◌*◌}
use lib.ListN.{drop}
use Rattle.meaning.specs.Graph.{region}
use Rattle.format.specs.References as format
use Rattle.record.specs.Stands.{OfRecord}
use Rattle.references.proofs.reads_right.Given as goal

abbrev pub invariant-loop-b : goal.invariant-loop-b
invariant-loop-b l =
    (l.b ≤ l.n) × (l.before ≤ 65535 * l.b) × OfRecord l.w (λ g. format.reads_right g l.r l.before (format.instructions (drop l.b (region g l.r).blocks))
    ≡ format.reads_right g l.r 0
    (format.instructions (region g l.r).blocks))
