use mathlib.Core.Path.{◌≡◌}
use Prim.Native.Nat.{suc, ◌≤◌, ◌+◌, ◌*◌}
use lib.ListN.{length, drop}
use Rattle.meaning.specs.Graph.{edges_of}
use Rattle.meaning.specs.Lists.{total}
use Rattle.record.specs.Stands.{OfRecord}
use Rattle.cfg_incoming.proofs.visit_count.Given as goal

abbrev pub invariant-loop-r : goal.invariant-loop-r
invariant-loop-r l =
    (l.sum ≤ 1 + 65535 * l.r) × OfRecord l.w (λ g. l.sum + total (λ x. length (edges_of x.terminator)) (drop l.r g.regions) ≡ suc
    (total (λ x. length (edges_of x.terminator)) g.regions))
