use mathlib.Core.Path.{◌≡◌}
use mathlib.Core.List.{◌++◌}
use Prim.Native.Nat.{◌≤◌, ◌+◌}
use lib.ListN.{length, drop}
use Rattle.meaning.specs.Graph.{region, edges_of, targets_of}
use Rattle.record.specs.Stands.{OfRecord}
use Rattle.fields.specs.ByNumber.{before}
use Rattle.cfg_incoming.proofs.push_targets.Given as goal

abbrev pub invariant-loop-j : goal.invariant-loop-j
invariant-loop-j l =
    (length l.todo ≡ 264) × (l.at + l.j ≡ l.depth + l.n) × OfRecord l.w (λ g. length (edges_of (region g l.r).terminator) ≤ 8
    → before l.todo l.at ≡ drop l.j (targets_of g l.r) ++ before l.initial.todo l.depth)
